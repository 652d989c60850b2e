-- Which seats have a whole journal.
use Rattle.std.specs.Prelude.{◌≡◌, ℕ, ◌+◌, List, [], ◌∷◌, length}
use Rattle.span_tracing_shared.specs.Entries.{calls_of}
use Rattle.span_tracing_shared.specs.Journals.{PlainEntry}
use Rattle.span_tracing_shared.specs.Seats.{own_calls}
use Rattle.span_tracing_shared.specs.declared.seat.Seat.{Seat}

module _ {L : Type 0} where
  -- each seat's calls are those of its lane in the journal
  abbrev pub AllOwn : List (Seat L) → List PlainEntry → Type 0
  AllOwn [] journal = Unit {0}
  AllOwn (s ∷ ss) journal = (own_calls s ≡ calls_of s.lane journal) × AllOwn ss journal

  -- what the shares add up to
  abbrev pub shared_by : List (Seat L) → ℕ
  shared_by [] = 0
  shared_by (s ∷ ss) = s.share.amount + shared_by ss

  -- a seat of the same lane is used by neither
  abbrev pub Alone : Seat L → List (Seat L) → Type 0
  Alone s [] = Unit {0}
  Alone s (t ∷ ts) = (t.lane ≡ s.lane → (own_calls s ≡ []) × (own_calls t ≡ [])) × Alone s ts

  -- no lane that was used has two seats
  abbrev pub AllAlone : List (Seat L) → Type 0
  AllAlone [] = Unit {0}
  AllAlone (s ∷ ss) = Alone s ss × AllAlone ss

  -- each seat's list is the journal's entries of its lane, in order; no used lane has two seats; and the journal is as long as what the
  -- shares add up to
  abbrev pub Closes : List (Seat L) → List PlainEntry → Type 0
  Closes seats journal = AllOwn seats journal × AllAlone seats × (shared_by seats ≡ length journal)
