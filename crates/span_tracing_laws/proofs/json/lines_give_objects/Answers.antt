use Rattle.span_tracing_laws.proofs.json.Texts.{lines_give}
use Rattle.span_tracing_laws.proofs.json.lines_give_objects.Goals as goal

pub returns : goal.returns
returns c = lines_give c.json_lines_end_once.ensures.printed
