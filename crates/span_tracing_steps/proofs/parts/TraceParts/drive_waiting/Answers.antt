use Rattle.std.proofs.Common.{◌<◌, arith, refl, vec_len}
use Rattle.span_tracing_steps.specs.States.{value_in}
use Rattle.span_tracing_steps.proofs.SinkCalls.{none_called}
use Rattle.span_tracing_steps.proofs.parts.TraceParts.drive_waiting.Goals as goal

pub returns-in-None-clause-called : goal.returns-in-None-clause-called
returns-in-None-clause-called g c =
    let inside : c.args.at.stack < vec_len c.args.self.now.retired = c.in-Some.ensures.variant.0 refl in
    none_called g.T.HasSinks.drives (value_in c.args.self.now) c.args.at c.args.call c.in-Some.waits.now (omega (arith, inside))
    c.in-Some.ensures.value c.in-None.is
