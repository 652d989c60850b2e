use Rattle.std.proofs.Common.{◌-◌, ◌||◌, Bool, List, drop, length, refl, subst, sym, take}
use Rattle.tracing_core_fields.specs.Metadata.{plain_metadata}
use Rattle.span_registry_layers_layers.specs.FilterViews.{View, view}
use Rattle.span_registry_layers_layers.specs.FilterNumbers.{AreNumbers, SameOf}
use Rattle.span_registry_layers_layers.specs.Several.{KeptByEach, numbers_of}
use Rattle.span_registry_layers_layers.proofs.FilterNumbers.{kept_by_both, opened}
use Rattle.span_registry_layers_layers.proofs.SharedLoans.{same_view}
use Rattle.span_registry_layers_layers.proofs.layer.several.+ask_each.Goals as goal

pub returns-in-len1-up-clause-kept : goal.returns-in-len1-up-clause-kept
returns-in-len1-up-clause-kept g n c =
    let rest = take (length c.args.layers.now - 1) (drop 1 c.args.layers.now) in
    let split = opened c.args.layers.now c.layer-item.result c.in-len1-up.len_at_least c.layer-item.is in
    let m = plain_metadata c.args.metadata.now in
    let v = view c.args.context.now in
    λ later numbers same.
    let both =
    kept_by_both (λ l. g.L.Layer.kept c.layer-item.result m v c.args.passes l c.ask_span-verdicts.result.1)
    (λ l. KeptByEach g.L.Layer rest m v c.args.passes l c.ask_each-verdicts.result.1)
    (length c.args.verdicts.passed) (length c.ask_span-verdicts.result.0.passed) (g.L.Layer.numbers c.layer-item.result)
    (numbers_of g.L.Layer rest) c.ask_span-verdicts.result.0.passed c.ask_each-verdicts.result.0.passed
    c.ask_span-verdicts.ensures.room c.ask_each-verdicts.ensures.others c.ask_span-verdicts.ensures.kept
    (subst (λ (w : View). (l : List Bool) → AreNumbers (length c.ask_span-verdicts.result.0.passed) (numbers_of g.L.Layer rest) →
    SameOf (numbers_of g.L.Layer rest) c.ask_each-verdicts.result.0.passed l →
    KeptByEach g.L.Layer rest m w c.args.passes l c.ask_each-verdicts.result.1)
    (same_view c.args.context.now c.ask_span-verdicts.new.context c.ask_span-verdicts.ensures.lent c.ask_span-verdicts.ensures.same)
    c.ask_each-verdicts.ensures.kept) later
    (subst (λ xs. AreNumbers (length c.args.verdicts.passed) (numbers_of g.L.Layer xs)) split numbers)
    (subst (λ xs. SameOf (numbers_of g.L.Layer xs) c.ask_each-verdicts.result.0.passed later) split same) in
    subst (λ xs. KeptByEach g.L.Layer xs m v c.args.passes later (c.ask_span-verdicts.result.1 || c.ask_each-verdicts.result.1)) (sym split)
    (c.ask_span-verdicts.result.1, c.ask_each-verdicts.result.1, both.0, both.1, refl)
