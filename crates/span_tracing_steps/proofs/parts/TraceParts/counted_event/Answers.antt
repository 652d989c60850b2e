use Rattle.std.proofs.Common.{◌≡◌, Bool, false, Option, Some, None, is_some, sym, ap, ◌∙◌}
use Rattle.std.specs.Prelude.{if◌then◌else◌, slice_get}
use Rattle.tracing_core_fields.specs.PlainMetadata.{PlainMetadata}
use Rattle.span_tracing_skeleton.specs.Looking.{if_kind, named}
use Rattle.span_tracing_steps.specs.States.{callsites_of}
use Rattle.span_tracing_steps.proofs.Callsites.{index_names, index_there}
use Rattle.span_tracing_steps.proofs.parts.TraceParts.counted_event.Goals as goal

pub returns-then-is_kind : goal.returns-then-is_kind
returns-then-is_kind g c =
    let rows = c.args.self.now.hub.callsites in
    let found = slice_get (callsites_of rows) c.in-Some.index.0 in
    let stands = sym c.in-Some.ensures in
    let names : found ≡ named (callsites_of rows) c.args.number = index_names rows c.args.number (Some c.in-Some.index) c.requires.hub.sites
    stands in
    let is : if_kind (named (callsites_of rows) c.args.number) false ≡ found =
    ap (λ (o : Option PlainMetadata). if_kind o false) (sym names) ∙ c.is_kind.ensures ∙
    ap (λ (b : Bool). if b then found else None) c.if-is_kind.true in
    (sym is, ap is_some is ∙ ap is_some names ∙ sym (index_there rows c.args.number (Some c.in-Some.index) c.requires.hub.sites stands))
