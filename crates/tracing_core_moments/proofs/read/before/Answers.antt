use Rattle.tracing_core_moments.proofs.Strips.{back_is, no_back}
use Rattle.tracing_core_moments.proofs.read.before.Goals as goal

pub returns-in_default-clause-none : goal.returns-in_default-clause-none
returns-in_default-clause-none c = no_back c.args.last.now c.args.bytes.now c.in_default.ensures.cases

pub returns-clause-some : goal.returns-clause-some
returns-clause-some c = back_is c.args.last.now c.args.bytes.now c.in-Some.rest.now c.in-Some.ensures.cases.0 c.in-Some.ensures.cases.1
