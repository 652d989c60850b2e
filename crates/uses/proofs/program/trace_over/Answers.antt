use Rattle.std.proofs.Common.{None, ap, length}
use Rattle.span_tracing.specs.OutputSettings.{outputs_in, stack_set}
use Rattle.span_tracing.specs.SinkCalls.{sinks_in}
use Rattle.span_tracing.specs.StepFollows.{registry_of}
use Rattle.span_tracing.specs.States.{new_state}
use Rattle.span_tracing.proofs.DefaultStack.{opened, reaches_first}
use Rattle.uses.proofs.Steps.{gives_done}
use Rattle.uses.proofs.program.trace_over.Goals as goal

pub returns-in-Done-clause-ready : goal.returns-in-Done-clause-ready
returns-in-Done-clause-ready c =
    (c.set_global_default.ensures.follows (c.setup_follows.ensures.added sinks_in c.thread.new.self c.args.stack c.in-Ok-add_stack.handle
    c.add_stack.new.self
    (rw (c.in-Ok.ensures.ok, c.new-trace.ensures) (c.traces_start_ready.ensures.thread new_state _ c.traces_start_ready.ensures.new))
    c.requires c.in-Ok-add_stack.ensures.gives).0).1

pub returns-in-Done-clause-reached : goal.returns-in-Done-clause-reached
returns-in-Done-clause-reached c =
    let o = opened _ outputs_in sinks_in registry_of stack_set (record { name = None; number = 1 }) c.args.stack c.in-Ok-add_stack.handle
    c.new-trace.result c.thread.new.self
    c.add_stack.new.self c.set_global_default.result c.set_global_default.new.self c.new-trace.ensures c.in-Ok.ensures.ok
    c.in-Ok-add_stack.ensures.gives (gives_done _ _ _ _ _ _ _ _ _ _ _ c.in-Done.is c.set_global_default.ensures) in
    (reaches_first (record { name = None; number = 1 }) o.count c.set_global_default.new.self o.stack o.hint o.greatest o.set).reached

pub returns-in-Done-clause-lane : goal.returns-in-Done-clause-lane
returns-in-Done-clause-lane c =
    let o = opened _ outputs_in sinks_in registry_of stack_set (record { name = None; number = 1 }) c.args.stack c.in-Ok-add_stack.handle
    c.new-trace.result c.thread.new.self
    c.add_stack.new.self c.set_global_default.result c.set_global_default.new.self c.new-trace.ensures c.in-Ok.ensures.ok
    c.in-Ok-add_stack.ensures.gives (gives_done _ _ _ _ _ _ _ _ _ _ _ c.in-Done.is c.set_global_default.ensures) in
    ap (λ v. length v.threads) o.set
