use Rattle.std.proofs.Common.{arith, refl}
use Rattle.std.proofs.lemmas.Grind.{common_steps}
use Rattle.tracing_core_fields.proofs.StyledLemmas.{put_two_styled}
use Rattle.tracing_core_fields.proofs.debug_text.write_later_bytes.Goals as goal

pub loop-byte-preserved : goal.loop-byte-preserved
loop-byte-preserved g c = λ flush.
    let before = c.loop-byte.invariant flush in
    let more = c.in_ok-write_later_byte.ensures before.flush refl in
    put_two_styled _ _ _ _ _ _ _ before more (grind (arith, common_steps))
