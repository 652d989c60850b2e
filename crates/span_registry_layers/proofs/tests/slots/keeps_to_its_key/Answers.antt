use Rattle.std.proofs.Common.{arith}
use Rattle.std.proofs.lemmas.Bool.Decides.{nat_tests}
use Rattle.span_registry_layers.proofs.tests.slots.keeps_to_its_key.Goals as goal

pub returns : goal.returns
returns c key writes = grind (arith, nat_tests, writes)
