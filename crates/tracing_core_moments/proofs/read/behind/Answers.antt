use Rattle.tracing_core_moments.proofs.Strips.{front_is, no_front}
use Rattle.tracing_core_moments.proofs.read.behind.Goals as goal

pub returns-in_default-clause-none : goal.returns-in_default-clause-none
returns-in_default-clause-none c = no_front c.args.first.now c.args.bytes.now c.in_default.ensures.cases

pub returns-clause-some : goal.returns-clause-some
returns-clause-some c = front_is c.args.first.now c.args.bytes.now c.in-Some.rest.now c.in-Some.ensures.cases.0 c.in-Some.ensures.cases.1
