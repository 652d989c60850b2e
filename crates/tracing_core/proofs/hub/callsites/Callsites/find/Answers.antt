use Rattle.std.proofs.Common.{ap, sym, ◌∙◌}
use Rattle.std.specs.Prelude.{option_and_then, slice_get}
use Rattle.tracing_core.proofs.Callsites.{row_at_place}
use Rattle.tracing_core.proofs.hub.callsites.Callsites.find.Goals as goal

pub returns-in-None : goal.returns-in-None
returns-in-None g c =
    let callsites = c.args.self.now in
    sym (row_at_place c.args.identifier callsites ∙ ap (option_and_then (λ index. slice_get callsites index)) (sym c.index_of.ensures ∙
    c.in-None.is))

pub returns-in-Some : goal.returns-in-Some
returns-in-Some g c =
    let callsites = c.args.self.now in
    c.at.ensures ∙ sym (row_at_place c.args.identifier callsites ∙ ap (option_and_then (λ index. slice_get callsites index))
    (sym c.index_of.ensures ∙ c.in-Some.is))
