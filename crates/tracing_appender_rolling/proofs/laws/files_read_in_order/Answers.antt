use Rattle.tracing_appender_rolling.proofs.FilesInOrder.{in_order, own_in_order}
use Rattle.tracing_appender_rolling.proofs.laws.files_read_in_order.Goals as goal

pub returns-clause-all : goal.returns-clause-all
returns-clause-all c = in_order

pub returns-clause-own : goal.returns-clause-own
returns-clause-own c = own_in_order
