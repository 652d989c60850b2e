-- How many entries of lanes have ids with the same remainder.
use Rattle.std.proofs.Common.{◌≡◌, ℕ, zero, suc, ◌+◌, ◌<◌, ◌==◌, nat_lt, List, [], ◌∷◌, ◌++◌, length, set, take, drop, get_or, Vec}
use Rattle.std.proofs.Common.{Bool, true, false, refl, sym, ap, ◌∙◌, arith}
use Rattle.std.proofs.lemmas.Bool.{eqb-true}
use Rattle.std.proofs.lemmas.Bool.Decides.{nat_tests}
use Rattle.std.specs.Global.{Global}
use Rattle.span_registry_layers_store.specs.Lanes.{AreAll, AreCounted, CountsMore, SameCounts, entries_in, entries_on, remainder_of}
use Rattle.span_registry_layers_store.specs.Lanes.{plain_lanes, pushed}
use Rattle.span_registry_layers_store.specs.Spans.{is_entered, is_member, one_if}
use Rattle.span_registry_layers_store.proofs.IndexOrder.{same_test}

-- with one more entry
entries_more : (remainder id : ℕ) (ids : List ℕ) → entries_in remainder (ids ++ id ∷ []) ≡
    entries_in remainder ids + one_if (remainder_of id == remainder)
entries_more remainder id [] = omega arith
entries_more remainder id (x ∷ xs) = let later = entries_more remainder id xs in omega (arith, later)

pub pushed_count : (remainder lane id : ℕ) (lanes : List (List ℕ)) → entries_on remainder (pushed lane id lanes) ≡
    entries_on remainder lanes + one_if (remainder_of id == remainder)
pushed_count remainder zero id [] = omega arith
pushed_count remainder zero id (l ∷ ls) = let more = entries_more remainder id l in omega (arith, more)
pushed_count remainder (suc n) id [] = let later = pushed_count remainder n id [] in omega (arith, later)
pushed_count remainder (suc n) id (l ∷ ls) = let later = pushed_count remainder n id ls in omega (arith, later)

-- without the entry of a place
entries_less : (remainder k : ℕ) (ids : List ℕ) → k < length ids → entries_in remainder ids ≡
    entries_in remainder (take k ids ++ drop (suc k) ids) + one_if (remainder_of (get_or ids k 0) == remainder)
entries_less remainder k [] within = absurd (omega (arith, within))
entries_less remainder zero (x ∷ xs) within = omega arith
entries_less remainder (suc k) (x ∷ xs) within = let later = entries_less remainder k xs (omega (arith, within)) in omega (arith, later)

pub entry_removed : (remainder k id : ℕ) (ids left : List ℕ) → k < length ids → get_or ids k 0 ≡ id → left ≡ take k ids ++ drop (suc k) ids →
    entries_in remainder ids ≡ entries_in remainder left + one_if (remainder_of id == remainder)
entry_removed remainder k id ids left within here is =
    let now = ap (entries_in remainder) is in
    let same = ap (λ (j : ℕ). one_if (remainder_of j == remainder)) here in
    let less = entries_less remainder k ids within in
    omega (arith, now, same, less)

-- with another lane in place of one
pub count_set : (remainder n : ℕ) (lanes : List (Vec ℕ Global)) (e v : Vec ℕ Global) (less : ℕ) → n < length lanes → e ≡ get_or lanes n e →
    entries_in remainder e.items ≡ entries_in remainder v.items + less →
    entries_on remainder (plain_lanes lanes) ≡ entries_on remainder (plain_lanes (set lanes n v)) + less
count_set remainder n [] e v less within read counts = absurd (omega (arith, within))
count_set remainder zero (l ∷ ls) e v less within read counts =
    let same = ap (λ (x : Vec ℕ Global). entries_in remainder x.items) read in omega (arith, same, counts)
count_set remainder (suc n) (l ∷ ls) e v less within read counts =
    let later = count_set remainder n ls e v less (omega (arith, within)) read counts in omega (arith, later)

-- no entry is counted where there is none
none_in_if : (b : Bool) (remainder id x : ℕ) (xs : List ℕ) → (x == id) ≡ b → remainder ≡ remainder_of id →
    one_if (remainder_of x == remainder) + entries_in remainder xs ≡ 0 → b ≡ false
none_in_if true remainder id x xs test same none =
    let equal : x ≡ id = eqb-true x id test in
    let counted : one_if (remainder_of x == remainder) ≡ 1 = ap one_if (same_test (remainder_of x) remainder (ap remainder_of equal ∙ sym same)) in
    absurd (omega (arith, counted, none))
none_in_if false remainder id x xs test same none = refl

none_in : (remainder id : ℕ) (ids : List ℕ) → remainder ≡ remainder_of id → entries_in remainder ids ≡ 0 → is_member ids id ≡ false
none_in remainder id [] same none = refl
none_in remainder id (x ∷ xs) same none =
    rw (none_in_if (x == id) remainder id x xs refl same none) (none_in remainder id xs same (omega (arith, none)))

none_on : (remainder id : ℕ) (lanes : List (List ℕ)) → remainder ≡ remainder_of id → entries_on remainder lanes ≡ 0 → is_entered lanes id ≡ false
none_on remainder id [] same none = refl
none_on remainder id (l ∷ ls) same none =
    rw (none_in remainder id l same (omega (arith, none))) (none_on remainder id ls same (omega (arith, none)))

pub none_counted : (lanes : List (List ℕ)) (counts : List ℕ) (id : ℕ) → AreCounted lanes counts → get_or counts (remainder_of id) 0 ≡ 0 →
    is_entered lanes id ≡ false
none_counted lanes counts id counted none = none_on (remainder_of id) id lanes refl (counted.right (remainder_of id) (omega (arith, none)) ∙ none)

pub not_counted : (slice counts : List ℕ) (k : ℕ) (b : Bool) → slice ≡ counts → b ≡ nat_lt 0 (get_or slice k 0) → b ≡ false →
    get_or counts k 0 ≡ 0
not_counted slice counts k b same test none =
    let zero : nat_lt 0 (get_or counts k 0) ≡ false = sym (ap (λ xs. nat_lt 0 (get_or xs k 0)) same) ∙ sym test ∙ none in
    grind (arith, nat_tests, zero)

-- counts after an entry
pub pushed_counted : (lanes later : List (List ℕ)) (counts room more : List ℕ) (lane id : ℕ) → later ≡ pushed lane id lanes →
    AreCounted lanes counts → SameCounts counts room → AreAll room → CountsMore id room more → length more ≡ length room →
    AreCounted later more
pushed_counted lanes later counts room more lane id is counted same all one_more size = record {
  right = λ remainder below.
      let now = ap (entries_on remainder) is in
      let entry = pushed_count remainder lane id lanes in
      let kept = same remainder in
      let one = one_more remainder below in
      let was = counted.right remainder (omega (arith, kept, one, below)) in
      omega (arith, now, entry, was, kept, one);
  all = λ some. let whole = all (omega (arith, size, some)) in omega (arith, size, whole);
}
