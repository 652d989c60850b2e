-- How dropped lines are counted.
use Rattle.std.proofs.Common.{◌≡◌, ◌≤◌, ◌<◌, ◌+◌, ℕ, min, count_by, Bool, true, false, cond, List, [], ◌∷◌, length, refl, ap, sym, ◌∙◌}
use Rattle.std.proofs.Common.{arith}
use Rattle.std.proofs.lemmas.List.Sums.{sum_by-cons}
use Rattle.span_tracing_outputs.specs.sinks.Fates.{AllKept, CountsAreExact, WriteOutcome, dropped_by, is_dropped}
use Rattle.span_tracing_outputs.specs.sinks.Takes.{dropped_after}

-- one line's count
rises_to : (count most : ℕ) → count ≤ most → count ≤ min (count + 1) most
rises_to count most le = omega (arith, le)

after_rises : (b : Bool) (count : ℕ) → count ≤ 18446744073709551615 → count ≤ dropped_after b count
after_rises true count le = rises_to count 18446744073709551615 le
after_rises false count le = omega arith

stops_at : (count most : ℕ) → min (count + 1) most ≤ most
stops_at count most = omega arith

after_stops : (b : Bool) (count : ℕ) → count ≤ 18446744073709551615 → dropped_after b count ≤ 18446744073709551615
after_stops true count le = stops_at count 18446744073709551615
after_stops false count le = le

more_by : (count most : ℕ) → min (count + 1) most ≤ count + 1
more_by count most = omega arith

after_few : (b : Bool) (count : ℕ) → dropped_after b count ≤ count + 1
after_few true count = more_by count 18446744073709551615
after_few false count = omega arith

pub counts_rise : (fates : List WriteOutcome) (count : ℕ) → count ≤ 18446744073709551615 → count ≤ dropped_by fates count
counts_rise [] count le = omega arith
counts_rise (f ∷ fs) count le =
    let one = after_rises (is_dropped f) count le in
    let more = counts_rise fs (dropped_after (is_dropped f) count) (after_stops (is_dropped f) count le) in omega (arith, one, more)

pub counts_stop : (fates : List WriteOutcome) (count : ℕ) → count ≤ 18446744073709551615 → dropped_by fates count ≤ 18446744073709551615
counts_stop [] count le = le
counts_stop (f ∷ fs) count le = counts_stop fs (dropped_after (is_dropped f) count) (after_stops (is_dropped f) count le)

pub counts_few : (fates : List WriteOutcome) (count : ℕ) → dropped_by fates count ≤ count + length fates
counts_few [] count = omega arith
counts_few (f ∷ fs) count =
    let one = after_few (is_dropped f) count in
    let more = counts_few fs (dropped_after (is_dropped f) count) in omega (arith, one, more)

-- with so many more dropped lines behind it
one_exact : (b : Bool) (count more : ℕ) → min (dropped_after b count + more) 18446744073709551615 ≡ min (count + (cond b 1 0 + more))
    18446744073709551615
one_exact true count more = both count more 18446744073709551615
  where
    both : (count more most : ℕ) → min (min (count + 1) most + more) most ≡ min (count + (1 + more)) most
    both count more most = omega arith
one_exact false count more = ap (λ n. min n 18446744073709551615) (none count more)
  where
    none : (count more : ℕ) → count + more ≡ count + (0 + more)
    none count more = omega arith

exact : (fates : List WriteOutcome) (count : ℕ) → count ≤ 18446744073709551615 →
    dropped_by fates count ≡ min (count + count_by is_dropped fates) 18446744073709551615
exact [] count le = at_most count 18446744073709551615 le
  where
    at_most : (count most : ℕ) → count ≤ most → count ≡ min (count + 0) most
    at_most count most le = omega (arith, le)
exact (f ∷ fs) count le =
    exact fs (dropped_after (is_dropped f) count) (after_stops (is_dropped f) count le)
    ∙ one_exact (is_dropped f) count (count_by is_dropped fs)
    ∙ ap (λ n. min (count + n) 18446744073709551615) (sym (sum_by-cons (λ (x : WriteOutcome). cond (is_dropped x) 1 0) f fs))

stays : (fates : List WriteOutcome) (count : ℕ) → AllKept fates → dropped_by fates count ≡ count
stays [] count kept = refl
stays (f ∷ fs) count (first, rest) = ap (λ (b : Bool). dropped_by fs (dropped_after b count)) first ∙ stays fs count rest

-- a dropped line would have raised the count
kept_first : (b : Bool) (count : ℕ) (fates : List WriteOutcome) → count < 18446744073709551615 →
    dropped_by fates (dropped_after b count) ≡ count → b ≡ false
kept_first false count fates less same = refl
kept_first true count fates less same =
    absurd (too_many count 18446744073709551615 (dropped_by fates (dropped_after true count)) less
    (counts_rise fates (dropped_after true count) (stops_at count 18446744073709551615)) same)
  where
    too_many : (count most last : ℕ) → count < most → min (count + 1) most ≤ last → last ≡ count → ⊥
    too_many count most last less more same = omega (arith, less, more, same)

pub all_kept : (fates : List WriteOutcome) (count : ℕ) → count < 18446744073709551615 → dropped_by fates count ≡ count → AllKept fates
all_kept [] count less same = tt
all_kept (f ∷ fs) count less same =
    let first = kept_first (is_dropped f) count fs less same in
    (first, all_kept fs count less (ap (λ (b : Bool). dropped_by fs (dropped_after b count)) (sym first) ∙ same))

pub counts_are_exact : CountsAreExact
counts_are_exact fates count = record { exact = exact fates count; stays = stays fates count; kept = all_kept fates count }
