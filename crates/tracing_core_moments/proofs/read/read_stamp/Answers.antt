use Rattle.std.proofs.Common.{arith, ◌≡◌, ◌+ℤ◌, ◌*ℤ◌, pos, w64, to_z, of_z}
use borrow.Author.Differences.{ints}
use Rattle.tracing_core_moments.proofs.Range.{date_range}
use Rattle.tracing_core_moments.proofs.Stamps.{stamp_read, stamp_unread}
use Rattle.tracing_core_moments.proofs.read.read_stamp.Goals as goal

pub returns-in_default-read_clock-clause-none : goal.returns-in_default-read_clock-clause-none
returns-in_default-read_clock-clause-none c =
    stamp_unread c.args.kind c.args.bytes.now c.in-Some.rest.now c.in-Some.day c.in-Some.ensures.some.0 c.in-Some.ensures.some.1
    c.in_default-read_clock.ensures.none

pub returns-clause-some : goal.returns-clause-some
returns-clause-some c =
    let range = date_range c.in-Some.day c.in-Some.ensures.some.0 in
    let same : to_z w64 (of_z w64 (to_z w64 (of_z w64 (to_z w64 (of_z w64 c.in-Some.day) *ℤ pos 86400)) +ℤ to_z w64
    c.in-Some-read_clock.clock)) ≡ (c.in-Some.day *ℤ pos 86400) +ℤ pos c.in-Some-read_clock.clock =
    omega (arith, ints, range.0, range.1, c.in-Some-read_clock.ensures.some.0) in
    stamp_read c.args.kind c.args.bytes.now c.in-Some.rest.now c.in-Some.day c.in-Some-read_clock.clock _ same c.in-Some.ensures.some.0
    c.in-Some.ensures.some.1 c.in-Some-read_clock.ensures.some.0 c.in-Some-read_clock.ensures.some.1 c.in-Some-read_clock.ensures.some.2
