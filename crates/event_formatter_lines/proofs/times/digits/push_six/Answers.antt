use Rattle.std.proofs.Common.{◌≡◌, length, slice_range, sym, ap, ◌∙◌, arith}
use Rattle.std.proofs.lemmas.Grind.{common_steps}
use Rattle.std.proofs.lemmas.Str.{IsCharBoundary-from_ascii}
use Rattle.event_formatter_lines.specs.times.Digits.{six_digits}
use Rattle.event_formatter_lines.proofs.times.SixDigits.{behind_one}
use Rattle.event_formatter_lines.proofs.times.digits.push_six.Goals as goal

pub range-requires-clause-start_boundary : goal.range-requires-clause-start_boundary
range-requires-clause-start_boundary c some =
    let all = c.format-behind_one.ensures.text ∙ behind_one c.args.number c.requires in
    let long : length c.format-behind_one.result.now ≡ 7 = ap length all in
    IsCharBoundary-from_ascii _ 1 c.format-behind_one.ensures.ascii (omega (arith, long))

pub range-requires-clause-end_boundary : goal.range-requires-clause-end_boundary
range-requires-clause-end_boundary c =
    let all = c.format-behind_one.ensures.text ∙ behind_one c.args.number c.requires in
    let long : length c.format-behind_one.result.now ≡ 7 = ap length all in
    IsCharBoundary-from_ascii _ 7 c.format-behind_one.ensures.ascii (omega (arith, long))

pub returns : goal.returns
returns c =
    let all = c.format-behind_one.ensures.text ∙ behind_one c.args.number c.requires in
    let six : c.range.result.now ≡ six_digits c.args.number = c.range.ensures.value ∙ ap (λ text. slice_range text 1 7) all in
    rw (sym six) (grind (arith, common_steps))
