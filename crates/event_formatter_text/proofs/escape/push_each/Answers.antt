use Rattle.std.proofs.Common.{arith, sym, ◌∙◌, ◌≡◌}
use Rattle.std.specs.Str.{chars}
use Rattle.std.proofs.lemmas.Iterator.{YieldsList-from_chars}
use Rattle.std.proofs.lemmas.Iterator.Consumers.{YieldsList-end}
use Rattle.std.proofs.lemmas.List.{map-id}
use Rattle.std.proofs.lemmas.Grind.{common_steps}
use Rattle.event_formatter_text.specs.Escapes.{escaped}
use Rattle.event_formatter_text.proofs.escape.push_each.Goals as goal

pub returns : goal.returns
unfolding escaped
returns c =
    let t = YieldsList-end (YieldsList-from_chars c.args.text.now c.utf8.text cc) c.loop-c.yielded _ c.loop-c.yielded_by _ _ c.in-None.is
    c.next.ensures.steps in
    let e : c.loop-c.yielded ≡ chars c.args.text.now = sym (map-id c.loop-c.yielded) ∙ t.0 in
    grind (arith, common_steps)
