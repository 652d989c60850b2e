use Rattle.std.proofs.Common.{◌≡◌, Ok, Err, Option, Some, sym, ap, ◌∙◌}
use Rattle.std.specs.Prelude.{slice_get}
use Rattle.std.specs.Option.{option_copied}
use Rattle.tracing_core_fields.specs.requests.Refusals.{or_refused}
use Rattle.tracing_core.specs.declared.refusal.HandleError.{HandleError}
use Rattle.span_tracing_skeleton.specs.Looking.{inner}
use Rattle.span_tracing_steps.specs.States.{value_in}
use Rattle.span_tracing_steps.proofs.HoldChanges.{further_free}
use Rattle.span_tracing_steps.proofs.parts.TraceParts.clone_handle.Goals as goal

pub unreachable-requires-in_default-clone : goal.unreachable-requires-in_default-clone
unreachable-requires-in_default-clone g c =
    let d = c.in-Some-handle_at.dispatch.now in
    let led : Some d ≡ inner (slice_get c.args.self.now.handles.items c.args.handle) =
    ap option_copied (sym c.in-Some-handle_at.is) ∙ c.handle_at.ensures ∙
    ap (λ xs. inner (slice_get xs c.args.handle)) (c.deref.ensures.value ∙ c.reserve.ensures.items) in
    let free = further_free g.T.HasRegistry.registry_of (value_in c.args.self.now) c.args.handle d led
    (sym c.further_refusal.ensures ∙ c.in_default.is) in
    let ok : Err c.in_default-clone.field-0 ≡ Ok d = sym c.in_default-clone.is ∙ c.clone.ensures.answer ∙
    ap (λ (o : Option HandleError). or_refused o d) free in absurd (cc)
