use Rattle.std.proofs.Common.{ℕ, true, ap, subst, sym}
use Rattle.std.specs.Prelude.{MatchOption}
use Rattle.span_registry_layers_store.specs.Registries.{RegistryValue}
use Rattle.span_registry_layers_store.specs.RegistryCalls.{IsNext, IsSettled}
use Rattle.span_registry_layers_layers.specs.declared.filtered.Filtered.{Filtered}
use Rattle.span_registry_layers.specs.Calls.{ClosesOne}
use Rattle.span_registry_layers.specs.Stacks.{StackValue, plain_stack}
use Rattle.span_registry_layers.proofs.ClosedSpans.{closed_one}
use Rattle.span_registry_layers.proofs.parts.spans.StackParts+Filtered+L+F.close_next.Goals as goal

pub returns : goal.returns
returns g c =
    let s = plain_stack c.args.self.now in
    let asked : StackValue (Filtered g.row.L.Denot g.row.F.Denot) = record s { registry = c.closing.new.self } in
    let told = c.tell_step.new.self in
    let t = plain_stack (record told { registry = c.forget-span.new.self }) in
    let id = c.in-Some.span in
    let next : IsNext asked.registry id = subst (λ (x : RegistryValue). IsNext x id) (sym c.closing.ensures.same)
    (subst (λ o. MatchOption o (IsSettled s.registry) (λ (n : ℕ). IsNext s.registry n)) c.in-Some.is c.closing.ensures.next) in
    subst (λ (x : RegistryValue). ClosesOne g.F.Filter g.L.Layer c.args.at (record s { registry = x }) true t) c.closing.ensures.same
    (closed_one g.F.Filter g.L.Layer c.args.at asked id told.registry c.forget-span.result t next c.tell_step.ensures.0
    c.forget-span.ensures
    (ap (λ (v : StackValue (Filtered g.row.L.Denot g.row.F.Denot)). record v { registry = c.forget-span.new.self }) c.tell_step.ensures.1))
