-- Which files retention may remove, and which of them go.
use Rattle.std.specs.Prelude.{◌≡◌, ℕ, zero, suc, ◌+◌, ◌-◌, ℤ, pos, negsuc, ◌+ℤ◌, Bool, true, not, ◌&&◌, ◌||◌, nat_lt, if◌then◌else◌, List}
use Rattle.std.specs.Prelude.{[], ◌∷◌, length, take, drop, is_some, Option, Some, None}
use Rattle.std.specs.Str.{bytes_eq}
use Rattle.std.specs.Cmp.Lexicographic.{slice_cmp}
use Rattle.std.specs.Ordering.{nat_cmp, is_lt}
use Rattle.tracing_core_moments.specs.Stamps.{stamp}
use Rattle.tracing_core_moments.specs.Names.{around}
use Rattle.tracing_core_moments.specs.declared.moment.Moment.{Moment}
use Rattle.tracing_appender_rolling.specs.declared.retention.Candidate.{Candidate}
use Rattle.tracing_core_moments.specs.Moments.{is_earlier}
use Rattle.tracing_appender_rolling.specs.Names.{FileNames}
use Rattle.tracing_appender_rolling.specs.folders.Contents.{Listed}

abbrev pub text_or_empty : Option (List ℕ) → List ℕ
text_or_empty None = []
text_or_empty (Some text) = text

abbrev pub begins : Option (List ℕ) → List ℕ → Bool
begins None name = true
begins (Some prefix) name = bytes_eq prefix (take (length prefix) name)

abbrev pub ends : Option (List ℕ) → List ℕ → Bool
ends None name = true
ends (Some suffix) name = bytes_eq suffix (drop (length name - length suffix) name)

-- the prefix of the names that retention asks the folder for; without one it asks for all
abbrev pub asked_prefix : FileNames → List ℕ
asked_prefix names = text_or_empty names.prefix

-- the least second, from one on and among so many, whose stamp stands in the name between prefix and suffix, with a point between two
abbrev pub dated_from : FileNames → List ℕ → ℕ → ℤ → Option ℤ
dated_from names name zero s = None
dated_from names name (suc n) s = if bytes_eq name (around names.prefix (stamp names.kind s) names.suffix) then Some s else dated_from names
    name n (s +ℤ pos 1)

-- the second that the date in a name tells, where it has one: the least of the years 0 to 9999 with that stamp
unfoldable pub date_in : FileNames → List ℕ → Option ℤ
date_in names name = dated_from names name 315569520000 (negsuc 62167219199)

-- the moment from which a file counts: that of its making, else its date
abbrev pub counted_from : Option Moment → Option ℤ → Option Moment
counted_from (Some made) date = Some made
counted_from None (Some s) = Some (record { seconds = s; nanoseconds = 0 })
counted_from None None = None

-- a plain file whose name begins with the prefix and ends with the suffix, and is a date where there are neither, counts from a moment;
-- else there is none
abbrev pub made_of : FileNames → Listed → Option ℤ → Option Moment
made_of names l date =
    if l.plain && begins names.prefix l.name && ends names.suffix l.name && (is_some names.prefix || is_some names.suffix || is_some date)
    then counted_from l.created date
    else None

-- a file that may go, with the moment from which it counts
pub record PlainCandidate : Type 0 where
  pub name : List ℕ
  pub made : Moment

abbrev pub candidate_of : Candidate → PlainCandidate
candidate_of c = record { name = c.name.now; made = c.made }

abbrev pub with_candidate : List ℕ → Option Moment → List PlainCandidate → List PlainCandidate
with_candidate name None cs = cs
with_candidate name (Some made) cs = record { name = name; made = made } ∷ cs

-- an entry of a listing before others, as a candidate or not at all
abbrev pub candidate_first : FileNames → Listed → List PlainCandidate → List PlainCandidate
candidate_first names l cs = with_candidate l.name (made_of names l (date_in names l.name)) cs

-- the candidates of a listing, in its order
abbrev pub candidates_in : FileNames → List Listed → List PlainCandidate
candidates_in names [] = []
candidates_in names (l ∷ ls) = candidate_first names l (candidates_in names ls)

-- one counts from an earlier moment than the other, or from an equal one and has the smaller name in byte order
abbrev pub is_before : PlainCandidate → PlainCandidate → Bool
is_before a b = is_earlier a.made b.made || not (is_earlier b.made a.made) && is_lt (slice_cmp nat_cmp a.name b.name)

-- how many stand before one
abbrev pub before_count : PlainCandidate → List PlainCandidate → ℕ
before_count c [] = 0
before_count c (d ∷ ds) = if is_before d c then suc (before_count c ds) else before_count c ds

-- fewer stand before it than the candidates and the new file are more than the limit
abbrev pub goes : ℕ → List PlainCandidate → PlainCandidate → Bool
goes limit cs c = nat_lt (before_count c cs) (length cs + 1 - limit)

-- those that stand up to the last one, or all where there is none
abbrev pub goes_by : Option PlainCandidate → PlainCandidate → Bool
goes_by None c = true
goes_by (Some last) c = not (is_before last c)

abbrev pub GoesBy : ℕ → List PlainCandidate → Option PlainCandidate → Type 0
GoesBy limit cs last = (c : PlainCandidate) → goes limit cs c ≡ goes_by last c
