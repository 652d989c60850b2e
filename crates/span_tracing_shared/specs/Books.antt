-- A book as a value, what is true of each, and which seats it gives.
use Rattle.std.specs.Prelude.{◌≡◌, ◌==◌, ℕ, nat_le, List, length, map, if◌then◌else◌, Option, Some, None}
use Rattle.span_tracing_skeleton.specs.Skeleton.{Skeleton}
use Rattle.span_tracing_skeleton.specs.declared.call.Reply.{Reply}
use Rattle.span_tracing_shared.specs.Journals.{PlainEntry, replies_of, skeleton_after}
use Rattle.span_tracing_shared.specs.declared.seat.SeatError.{SeatError}
use Rattle.span_tracing_shared.specs.declared.seat.SeatError.TheVariants.{UnknownLane, NoSeat}

-- the trace, its skeleton when the book was opened, the steps since then, and how many seats are left
pub record BookValue (T : Type 0) : Type 0 where
  pub trace : T
  pub start : Skeleton
  pub journal : List PlainEntry
  pub spare : ℕ

abbrev pub given_replies : List PlainEntry → List Reply
given_replies es = map (λ (e : PlainEntry). e.reply) es

-- The skeleton is that of the start after the journal's steps, those left out that found no memory or had to wait. And their replies are
-- the machine's, where it decides them.
pub record Replays (skeleton start : Skeleton) (journal : List PlainEntry) : Type 0 where
  pub skeleton_is : skeleton ≡ skeleton_after start journal
  pub replies_are : replies_of start journal ≡ given_replies journal

-- why a lane gets no seat: it was never given, or none is left
abbrev pub seat_refusal : Skeleton → ℕ → ℕ → Option SeatError
seat_refusal s spare lane =
    if nat_le (length s.lanes) lane then Some UnknownLane
    else if spare == 0 then Some NoSeat
    else None
