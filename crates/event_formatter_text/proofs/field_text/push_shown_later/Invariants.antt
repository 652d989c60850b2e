use Rattle.std.proofs.Common.{◌≡◌, ◌++◌, map, string_bytes, take}
use Rattle.event_formatter_text.specs.FieldTexts.{shown_later}
use Rattle.event_formatter_text.proofs.field_text.push_shown_later.Given as goal

abbrev pub invariant-loop-text : goal.invariant-loop-text
invariant-loop-text g l = string_bytes l.out ≡ string_bytes l.fn.out ++
    shown_later l.settings (map g.S.AsStr.text (take l.text-index l.texts))
