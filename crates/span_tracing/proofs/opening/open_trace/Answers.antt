use Rattle.std.proofs.Common.{None, Some, [], ◌∷◌, ap, subst, ◌∙◌}
use Rattle.span_tracing_laws.specs.runs.KeptStacks.{StackStays}
use Rattle.span_tracing_outputs.specs.OutputSettings.{outputs_in, stack_set}
use Rattle.span_tracing_outputs.specs.sinks.SinkCalls.{sinks_in}
use Rattle.span_tracing_laws.specs.runs.StepFollows.{registry_of}
use Rattle.span_tracing_skeleton.specs.PlainData.{GlobalStep}
use Rattle.span_tracing_steps.specs.States.{new_state}
use Rattle.span_tracing.proofs.DefaultStack.{opened, opened_count, opened_sinks, reaches_first, same_stack}
use Rattle.span_tracing.proofs.opening.open_trace.Goals as goal

pub unreachable-requires : goal.unreachable-requires
unreachable-requires g c =
    c.in_default-act.not-Done
    (opened _ outputs_in sinks_in registry_of stack_set
    (record { name = None; number = 1 }) c.in_ok-stack.stack c.in-Ok-add_stack.handle c.new-trace.result c.thread.new.self
    c.add_stack.new.self c.act.result c.act.new.self c.new-trace.ensures c.in-Ok.ensures.ok
    c.in-Ok-add_stack.ensures.gives c.act.ensures).done

pub returns-clause-ready : goal.returns-clause-ready
returns-clause-ready g c =
    λ honest. (c.plain_steps_follow.ensures.each _ (GlobalStep c.in-Ok-add_stack.handle) c.act.result _ (c.setup_follows.ensures.added sinks_in c.thread.new.self c.in_ok-stack.stack
    c.in-Ok-add_stack.handle c.add_stack.new.self
    (rw (c.in-Ok.ensures.ok, c.new-trace.ensures) (c.traces_start_ready.ensures.thread new_state _ c.traces_start_ready.ensures.new))
    (c.in_ok-stack.ensures.ready honest) c.in-Ok-add_stack.ensures.gives).0 c.act.ensures).1

pub returns-clause-opened : goal.returns-clause-opened
returns-clause-opened g c =
    λ honest. (
      c.in_ok-stack.stack,
      c.in_ok-stack.ensures.opened,
      subst (StackStays (Some c.in_ok-stack.stack))
          (same_stack _ outputs_in sinks_in registry_of stack_set
          (record { name = None; number = 1 }) c.in_ok-stack.stack c.add_stack.new.self c.in-Ok-add_stack.handle
          c.act.result
          c.act.new.self
          (opened _ outputs_in sinks_in registry_of stack_set
          (record { name = None; number = 1 }) c.in_ok-stack.stack c.in-Ok-add_stack.handle c.new-trace.result
          c.thread.new.self c.add_stack.new.self c.act.result c.act.new.self c.new-trace.ensures
          c.in-Ok.ensures.ok c.in-Ok-add_stack.ensures.gives c.act.ensures)
          c.thread.new.self.hub.next (ap (λ v. v.hub.next) c.in-Ok.ensures.ok ∙ ap (λ v. v.hub.next) c.new-trace.ensures))
          (c.setup_follows.ensures.added sinks_in c.thread.new.self c.in_ok-stack.stack c.in-Ok-add_stack.handle c.add_stack.new.self
          (rw (c.in-Ok.ensures.ok, c.new-trace.ensures) (c.traces_start_ready.ensures.thread new_state _ c.traces_start_ready.ensures.new))
          (c.in_ok-stack.ensures.ready honest) c.in-Ok-add_stack.ensures.gives).1.stays,
    )

pub returns-clause-bare : goal.returns-clause-bare
returns-clause-bare g c =
    ap (λ v. v.hub.callsites)
    (opened _ outputs_in sinks_in registry_of stack_set
    (record { name = None; number = 1 }) c.in_ok-stack.stack c.in-Ok-add_stack.handle c.new-trace.result c.thread.new.self
    c.add_stack.new.self c.act.result c.act.new.self c.new-trace.ensures c.in-Ok.ensures.ok
    c.in-Ok-add_stack.ensures.gives c.act.ensures).set

pub returns-clause-reached : goal.returns-clause-reached
returns-clause-reached g c =
    let o = opened _ outputs_in sinks_in registry_of stack_set
    (record { name = None; number = 1 }) c.in_ok-stack.stack c.in-Ok-add_stack.handle c.new-trace.result
    c.thread.new.self c.add_stack.new.self c.act.result c.act.new.self c.new-trace.ensures
    c.in-Ok.ensures.ok c.in-Ok-add_stack.ensures.gives c.act.ensures in
    reaches_first (record { name = None; number = 1 }) o.count c.act.new.self o.stack o.hint o.greatest o.set

pub returns-clause-lane : goal.returns-clause-lane
returns-clause-lane g c =
    ap (λ v. v.threads)
    (opened _ outputs_in sinks_in registry_of stack_set
    (record { name = None; number = 1 }) c.in_ok-stack.stack c.in-Ok-add_stack.handle c.new-trace.result c.thread.new.self
    c.add_stack.new.self c.act.result c.act.new.self c.new-trace.ensures c.in-Ok.ensures.ok
    c.in-Ok-add_stack.ensures.gives c.act.ensures).set

pub returns-clause-outputs : goal.returns-clause-outputs
returns-clause-outputs g c =
    (opened _ outputs_in sinks_in registry_of stack_set
    (record { name = None; number = 1 }) c.in_ok-stack.stack c.in-Ok-add_stack.handle c.new-trace.result c.thread.new.self
    c.add_stack.new.self c.act.result c.act.new.self c.new-trace.ensures c.in-Ok.ensures.ok
    c.in-Ok-add_stack.ensures.gives c.act.ensures).outputs
    ∙ ap (λ k. k ∷ []) (opened_count _ _ _ _ _ _ c.args.outputs.items c.in_ok-stack.stack c.in_ok-stack.ensures.opened)

pub returns-clause-sinks : goal.returns-clause-sinks
returns-clause-sinks g c =
    (opened _ outputs_in sinks_in registry_of stack_set
    (record { name = None; number = 1 }) c.in_ok-stack.stack c.in-Ok-add_stack.handle c.new-trace.result c.thread.new.self
    c.add_stack.new.self c.act.result c.act.new.self c.new-trace.ensures c.in-Ok.ensures.ok
    c.in-Ok-add_stack.ensures.gives c.act.ensures).sinks
    ∙ ap (λ k. k ∷ []) (opened_sinks _ _ _ _ _ _ c.args.outputs.items c.in_ok-stack.stack c.in_ok-stack.ensures.opened)

pub returns-clause-counted : goal.returns-clause-counted
returns-clause-counted g c =
    λ honest. c.traces_stay_counted.ensures.acted c.add_stack.new.self (GlobalStep c.in-Ok-add_stack.handle) c.act.result
    c.act.new.self
    (c.setup_follows.ensures.added sinks_in c.thread.new.self c.in_ok-stack.stack c.in-Ok-add_stack.handle c.add_stack.new.self
    (rw (c.in-Ok.ensures.ok, c.new-trace.ensures) (c.traces_start_ready.ensures.thread new_state _ c.traces_start_ready.ensures.new))
    (c.in_ok-stack.ensures.ready honest) c.in-Ok-add_stack.ensures.gives).0
    c.act.ensures
    (c.traces_stay_counted.ensures.added sinks_in c.thread.new.self c.in_ok-stack.stack c.in-Ok-add_stack.handle c.add_stack.new.self
    (rw (c.in-Ok.ensures.ok, c.new-trace.ensures) (c.traces_start_ready.ensures.thread new_state _ c.traces_start_ready.ensures.new))
    (c.in_ok-stack.ensures.ready honest) c.in-Ok-add_stack.ensures.gives
    (rw (c.in-Ok.ensures.ok, c.new-trace.ensures)
    (c.traces_stay_counted.ensures.lane_added new_state (record { name = None; number = 1 }) c.traces_stay_counted.ensures.new)))
