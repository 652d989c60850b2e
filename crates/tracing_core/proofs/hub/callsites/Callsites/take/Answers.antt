use Rattle.std.proofs.Common.{◌≡◌, ◌++◌, ◌∷◌, [], ℕ, List, length, None, true, arith, ap, refl, sym, subst, ◌∙◌}
use Rattle.tracing_core.specs.Commands.{callsite_with, new_callsite}
use Rattle.tracing_core.specs.TableRows.{KeptCallsite}
use Rattle.tracing_core.proofs.Callsites.{taken_apart, taken_place}
use Rattle.tracing_core.proofs.Tables.{asked_alike}
use Rattle.tracing_core.proofs.hub.callsites.Callsites.take.Goals as goal

pub invariant_of-self-2 : goal.invariant_of-self-2
invariant_of-self-2 g c =
    let callsites = c.self.inside.callsites.items in
    let number = c.identifier.ensures ∙ ap (λ (row : KeptCallsite g.row.C.Denot). row.identifier) c.new-row.ensures.row in
    let same = ap (λ (xs : List (KeptCallsite g.row.C.Denot)). length xs) c.reserve.ensures.items in
    let counted : c.len-index.result ≡ length callsites = omega (arith, same) in
    let none : callsite_with c.identifier.result callsites ≡ None =
    subst (λ (xs : List (KeptCallsite g.row.C.Denot)). callsite_with c.identifier.result xs ≡ None) (sym c.self.view_is)
    (subst (λ (m : ℕ). callsite_with m c.args.self.now ≡ None) (sym number) c.requires) in
    let later = c.push_reserved.ensures.items ∙ ap (λ (xs : List (KeptCallsite g.row.C.Denot)). xs ++ c.ask.new.self ∷ [])
    c.reserve.ensures.items in
    let stays = ap (λ (row : KeptCallsite g.row.C.Denot). row.identifier) c.ask.ensures.3 ∙ sym c.identifier.ensures in (
      λ n. c.in-Ok.ensures.updates.0 n
          ∙ taken_place callsites c.push_reserved.new.self.items c.ask.new.self c.identifier.result c.len-index.result n _ later stays counted
          none (c.self.invariant.0 n),
      taken_apart callsites c.push_reserved.new.self.items c.ask.new.self c.identifier.result later stays none c.self.invariant.1,
    )

pub returns : goal.returns
returns g c =
    let same = ap (λ (xs : List (KeptCallsite g.row.C.Denot)). length xs) c.reserve.ensures.items in
    let counted : c.len-index.result ≡ length c.self.inside.callsites.items = omega (arith, same) in (
      c.new-row.ensures.real,
      c.ask.new.self,
      asked_alike g.S.Subscriber g.C.Callsite true c.len-index.result _ c.reserve_answers.new.subscribers c.args.subscribers.now _ _
          c.new-row.result (new_callsite g.C.Callsite c.args.callsite) c.ask.new.self
          (counted ∙ ap (λ (xs : List (KeptCallsite g.row.C.Denot)). length xs) c.self.view_is) c.reserve_answers.ensures
          c.new-row.ensures.row refl c.ask.ensures,
      c.interest-interest.ensures,
      c.push_reserved.ensures.items ∙ ap (λ (callsites : List (KeptCallsite g.row.C.Denot)). callsites ++ c.ask.new.self ∷ [])
          (c.reserve.ensures.items ∙ c.self.view_is),
    )
