use Rattle.event_formatter_lines.proofs.HarmlessLines.{compact_lines_are, full_lines_are, pretty_lines_are}
use Rattle.event_formatter_lines.proofs.laws.lines_are_harmless.Goals as goal

pub returns-clause-full : goal.returns-clause-full
returns-clause-full c = full_lines_are

pub returns-clause-compact : goal.returns-clause-compact
returns-clause-compact c = compact_lines_are

pub returns-clause-pretty : goal.returns-clause-pretty
returns-clause-pretty c = pretty_lines_are
