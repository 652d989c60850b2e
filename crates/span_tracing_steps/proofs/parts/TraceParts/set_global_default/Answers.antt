use Rattle.std.proofs.Common.{sym, ap, ◌∙◌}
use Rattle.std.specs.Prelude.{slice_get}
use Rattle.std.specs.Option.{option_copied}
use Rattle.span_tracing_skeleton.specs.Looking.{inner}
use Rattle.span_tracing_steps.specs.States.{value_in}
use Rattle.span_tracing_steps.proofs.HoldChanges.{global_given}
use Rattle.span_tracing_steps.proofs.parts.TraceParts.set_global_default.Goals as goal

pub returns-clause-gives : goal.returns-clause-gives
returns-clause-gives g c =
    global_given g.T.Subscriber g.T.HasRegistry.registry_of g.T.HasOutputs.set (value_in c.args.self.now) c.args.handle
    c.in-Some-handle_at.dispatch.now
    c.set_global_default-set.new.self (ap option_copied (sym c.in-Some-handle_at.is) ∙ c.handle_at.ensures ∙
    ap (λ xs. inner (slice_get xs c.args.handle)) c.deref.ensures.value)
    (sym c.global_refusal.ensures ∙ c.in_default.is) c.set_global_default-set.ensures.state
