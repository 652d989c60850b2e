use Rattle.std.proofs.Common.{sym, ap, ◌∙◌}
use Rattle.std.specs.Prelude.{slice_get}
use Rattle.std.specs.Option.{option_copied}
use Rattle.span_tracing_skeleton.specs.Looking.{inner}
use Rattle.span_tracing_steps.specs.States.{value_in}
use Rattle.span_tracing_steps.proofs.HoldChanges.{default_never, further_free, lane_runs}
use Rattle.span_tracing_steps.proofs.parts.TraceParts.choose_stack.Goals as goal

pub unreachable-requires-in_default-set_default : goal.unreachable-requires-in_default-set_default
unreachable-requires-in_default-set_default g c =
    default_never g.T.Subscriber g.T.HasRegistry.registry_of g.T.HasOutputs.set (value_in c.args.self.now) c.args.lane
    c.in-Some.dispatch.now
    c.in_default-set_default.field-0
    (lane_runs g.T.HasRegistry.registry_of (value_in c.args.self.now) c.args.lane c.requires.sound.running c.requires.free)
    (further_free g.T.HasRegistry.registry_of (value_in c.args.self.now) c.args.handle c.in-Some.dispatch.now
    (ap option_copied (sym c.in-Some.is) ∙ c.handle_at.ensures ∙
    ap (λ xs. inner (slice_get xs c.args.handle)) c.deref.ensures.value) c.requires.held)
    (sym c.in_default-set_default.is ∙ c.set_default.ensures.answer)
