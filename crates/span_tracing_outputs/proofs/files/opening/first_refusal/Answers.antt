use Rattle.std.proofs.Common.{Some, None}
use Rattle.span_tracing_outputs.specs.files.OpenRefusals.{SinkTells}
use Rattle.span_tracing_outputs.proofs.files.FolderRefusals.{here_tells, none_left}
use Rattle.span_tracing_outputs.proofs.files.opening.first_refusal.Goals as goal

pub returns-in-Some : goal.returns-in-Some
returns-in-Some g c = c.loop-rest.invariant (Some c.in-Some.refusal)
    (here_tells SinkTells c.loop-rest.rest.now c.sink-item.result _ c.in-Some.refusal c.in-len1-up.len_at_least c.sink-item.is
    c.in-Some.ensures)

pub returns : goal.returns
returns g c = c.loop-rest.invariant None (none_left SinkTells c.loop-rest.rest.now c.in_default.len_below)
