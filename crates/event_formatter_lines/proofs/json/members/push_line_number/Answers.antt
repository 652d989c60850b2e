use Rattle.std.proofs.Common.{List, ℕ, ◌++◌, ap, ◌∙◌, codes, string_bytes}
use Rattle.std.specs.Fmt.{decimal}
use Rattle.event_formatter_lines.proofs.Members.{one}
use Rattle.event_formatter_lines.specs.Json.{key_text}
use Rattle.event_formatter_lines.proofs.json.members.push_line_number.Goals as goal

pub returns : goal.returns
returns c = rw c.in-Some.is (one (key_text (codes "line_number")) (decimal c.in-Some.line) c.args.is_first _ _ _ c.in_ok-push_key.ensures
    (c.in_ok-push_str.ensures.bytes ∙ ap (λ (t : List ℕ). string_bytes c.push_key.new.out ++ t) c.format.ensures.text))
