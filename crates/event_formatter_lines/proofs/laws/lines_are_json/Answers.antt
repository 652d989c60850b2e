use Rattle.event_formatter_lines.proofs.JsonLines.{lines_are}
use Rattle.event_formatter_lines.proofs.laws.lines_are_json.Goals as goal

pub returns : goal.returns
returns c = lines_are c.texts_are_strings.ensures.value c.objects_are_json.ensures.inside c.numbers_are_json.ensures
    c.values_are_json.ensures.members
