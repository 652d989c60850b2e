use Rattle.std.proofs.Common.{◌≡◌, ◌∷◌, ◌++◌, [], sym, ap, refl, arith, ◌∙◌}
use Rattle.std.proofs.lemmas.Grind.{common_steps}
use Rattle.std.specs.List.{flat_map}
use Rattle.std.specs.Str.{chars}
use Rattle.std.proofs.lemmas.Iterator.{YieldsList-from_chars}
use Rattle.std.proofs.lemmas.Iterator.Consumers.{YieldsList-end}
use Rattle.std.proofs.lemmas.List.{map-id}
use Rattle.tracing_core_fields.specs.Quoted.{quoted, quoted_char}
use Rattle.tracing_core_fields.proofs.StyledLemmas.{put_two_styled}
use Rattle.tracing_core_fields.proofs.quoted.write_quoted.Goals as goal

pub returns : goal.returns
unfolding quoted
returns g c = λ flush ok.
    let t = YieldsList-end (YieldsList-from_chars c.args.text.now c.utf8.text cc) c.loop-c.yielded _ c.loop-c.yielded_by _ _ c.in-None.is
    c.next.ensures.steps in
    let e : c.loop-c.yielded ≡ chars c.args.text.now = sym (map-id c.loop-c.yielded) ∙ t.0 in
    let before = c.loop-c.invariant flush in
    let last = c.write_str-2.ensures.styled before.flush ok in
    put_two_styled _ _ _ _ _ _ _ before last (ap (λ cs. 34 ∷ (flat_map quoted_char cs ++ (34 ∷ []))) e)

pub loop-c-preserved : goal.loop-c-preserved
loop-c-preserved g c = λ flush.
    let before = c.loop-c.invariant flush in
    let more = c.in_ok-write_quoted_char.ensures before.flush refl in
    put_two_styled _ _ _ _ _ _ _ before more (grind (arith, common_steps))
