use Rattle.std.proofs.Common.{refl}
use Rattle.tracing_core_fields.proofs.BytesLemmas.{bytes_text-split}
use Rattle.tracing_core_fields.proofs.StyledLemmas.{put_four_styled}
use Rattle.tracing_core_fields.proofs.debug_text.write_bytes.Goals as goal

pub returns : goal.returns
returns g c = λ flush ok.
    let opened = c.in_ok-write_str.ensures.styled flush refl in
    let first = c.in_ok-write_byte.ensures opened.flush refl in
    let later = c.in_ok-write_later_bytes.ensures first.flush refl in
    let closed = c.write_str-3.ensures.styled later.flush ok in
    put_four_styled _ _ _ _ _ _ _ _ _ _ _ opened first later closed (bytes_text-split c.args.bytes.now c.in-len1-up.len_at_least)
