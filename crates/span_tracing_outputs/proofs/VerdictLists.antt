-- Lists of what filters answered, where these have the first numbers.
use Rattle.std.proofs.Common.{◌≡◌, ◌+◌, ◌++◌, ◌<◌, ◌≤◌, ℕ, zero, suc, Bool, true, List, [], ◌∷◌, length, map, Some, slice_get, slice_set}
use Rattle.std.proofs.Common.{take, drop, replicate, refl, sym, ap, ◌∙◌, arith, add-one}
use Rattle.std.specs.Option.{option_map, unwrap_or}
use Rattle.std.proofs.lemmas.List.{append-nil, append_assoc, length-append}
use Rattle.std.proofs.Math.Seq.{set_at}
use Rattle.span_registry_layers_store.specs.Verdicts.{all_pass, or_passes, passes_at}
use Rattle.span_registry_layers_layers.specs.FilterNumbers.{numbers_from}
use Rattle.span_tracing_outputs.specs.TraceFollows.{verdicts_from}

drop_here : (p : List Bool) (k : ℕ) (a : Bool) (tail : List Bool) → drop k p ≡ a ∷ tail →
    (slice_get p k ≡ Some a) × (drop (suc k) p ≡ tail)
drop_here [] zero a tail e = absurd (cc)
drop_here [] (suc k) a tail e = absurd (cc)
drop_here (x ∷ xs) zero a tail e = (cc, cc)
drop_here (x ∷ xs) (suc k) a tail e = drop_here xs k a tail e

-- read by numbers from one on, what stands there in a list
pub answers_at : (p : List Bool) (k : ℕ) (answers later : List Bool) → drop k p ≡ answers ++ later →
    map (passes_at p) (numbers_from k (length answers)) ≡ answers
answers_at p k [] later e = refl
answers_at p k (a ∷ answers) later e =
    let here = drop_here p k a (answers ++ later) e in
    ap (λ o. or_passes o ∷ map (passes_at p) (numbers_from (k + 1) (length answers))) here.0
    ∙ ap (λ bs. a ∷ bs) (answers_at p (k + 1) answers later (ap (λ n. drop n p) (add-one k) ∙ here.1))

written_at : (before p : List Bool) (k : ℕ) (answers : List Bool) → length before ≡ k → length answers ≤ length p →
    verdicts_from (before ++ p) (numbers_from k (length answers)) answers ≡ before ++ (answers ++ drop (length answers) p)
written_at before p k [] e few = refl
written_at before [] k (a ∷ answers) e few = absurd (omega (arith, few))
written_at before (y ∷ ys) k (a ∷ answers) e few =
    let longer : length (before ++ a ∷ []) ≡ k + 1 = length-append before (a ∷ []) ∙ ap (λ n. n + 1) e in
    ap (λ q. verdicts_from q (numbers_from (k + 1) (length answers)) answers)
    (set_at before y ys a k e ∙ sym (append_assoc before (a ∷ []) ys))
    ∙ (written_at (before ++ a ∷ []) ys (k + 1) answers longer (omega (arith, few))
    ∙ append_assoc before (a ∷ []) (answers ++ drop (length answers) ys))

-- written under the first numbers, they stand first, and numbers without a filter pass
pub padded_verdicts : (answers : List Bool) → length answers ≤ 64 →
    verdicts_from all_pass (numbers_from 0 (length answers)) answers ≡ answers ++ drop (length answers) all_pass
padded_verdicts answers few = written_at [] all_pass 0 answers refl few

put_next : (full p : List Bool) (k : ℕ) (b : Bool) → slice_get full k ≡ Some b → k < length p →
    slice_set (take k full ++ drop k p) k b ≡ take (suc k) full ++ drop (suc k) p
put_next [] p k b there within = absurd (cc)
put_next (x ∷ xs) [] k b there within = absurd (omega (arith, within))
put_next (x ∷ xs) (y ∷ ys) zero b there within = let same : b ≡ x = cc in ap (λ z. z ∷ ys) same
put_next (x ∷ xs) (y ∷ ys) (suc k) b there within = ap (λ bs. x ∷ bs) (put_next xs ys k b there (omega (arith, within)))

true_at : (n k : ℕ) → k < n → slice_get (replicate n true) k ≡ Some true
true_at zero k within = absurd (omega (arith, within))
true_at (suc n) zero within = refl
true_at (suc n) (suc k) within = true_at n k (omega (arith, within))

passes_here : (answers : List Bool) (k : ℕ) → k < 64 → slice_get (answers ++ all_pass) k ≡ Some (or_passes (slice_get answers k))
passes_here [] k within = true_at 64 k within
passes_here (a ∷ answers) zero within = refl
passes_here (a ∷ answers) (suc k) within = passes_here answers k (omega (arith, within))

-- the first ones of many are the answers
pub first_ones : (most : ℕ) (answers later : List Bool) → length answers ≤ most →
    take (length answers) (take most (answers ++ later)) ≡ answers
first_ones most [] later few = refl
first_ones zero (a ∷ answers) later few = absurd (omega (arith, few))
first_ones (suc most) (a ∷ answers) later few = ap (λ bs. a ∷ bs) (first_ones most answers later (omega (arith, few)))

-- what is answered of a place, and that numbers without an output pass
pub answer_there : {A : Type 0} (f : A → Bool) (rows : List A) (k : ℕ) →
    unwrap_or (option_map f (slice_get rows k)) true ≡ or_passes (slice_get (map f rows) k)
answer_there f [] k = refl
answer_there f (row ∷ rows) zero = refl
answer_there f (row ∷ rows) (suc k) = answer_there f rows k

-- the answers of so many places, where all passed before
abbrev pub so_far : List Bool → ℕ → List Bool
so_far answers k = take k (answers ++ all_pass) ++ drop k all_pass

pub next_so_far : (answers seen : List Bool) (k : ℕ) (b : Bool) → k < 64 → b ≡ or_passes (slice_get answers k) →
    seen ≡ so_far answers k → slice_set seen k b ≡ so_far answers (k + 1)
next_so_far answers seen k b within is so =
    ap (λ bs. slice_set bs k b) so
    ∙ (put_next (answers ++ all_pass) all_pass k b (passes_here answers k within ∙ ap Some (sym is)) within
    ∙ ap (so_far answers) (sym (add-one k)))

pub all_so_far : (answers seen : List Bool) (k : ℕ) → k ≤ 64 → 64 ≤ k → seen ≡ so_far answers k → seen ≡ take 64 (answers ++ all_pass)
all_so_far answers seen k most least so =
    let is : k ≡ 64 = omega (arith, most, least) in
    so ∙ (ap (so_far answers) is ∙ append-nil (take 64 (answers ++ all_pass)))
