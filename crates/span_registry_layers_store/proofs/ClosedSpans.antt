-- Spans that close, the latest first.
use Rattle.std.proofs.Common.{◌≡◌, ℕ, zero, suc, ◌<◌, ◌≤◌, List, [], ◌∷◌, ◌++◌, length, take, drop, get_or, true, false, Some, refl, sym}
use Rattle.std.proofs.Common.{ap, ◌∙◌, ◌+◌, subst, arith, slice_get}
use Rattle.std.proofs.Math.ListN.{drop_of_length-le}
use Rattle.std.proofs.lemmas.List.{append-nil}
use Rattle.std.proofs.lemmas.Option.{none-some, same_Some}
use Rattle.span_registry_layers_store.proofs.Lists.{get_at}
use Rattle.span_registry_layers_store.specs.Spans.{AllStay, ClosesNext, closed_of, keep_if, open_of, stays, unless}
use Rattle.span_registry_layers_store.specs.declared.record.SpanRecord.{SpanRecord}

module _ {A : Type 0} (kin : A → SpanRecord) (lanes : List (List ℕ)) where
  pub settled_none : AllStay kin lanes []
  unfolding open_of closed_of
  settled_none = record { left = refl; closed = refl }

  -- one more that stays
  pub settled_more : (x : A) (xs : List A) → AllStay kin lanes xs → stays kin lanes x xs ≡ true → AllStay kin lanes (x ∷ xs)
  unfolding open_of closed_of
  settled_more x xs s k =
      let t : stays kin lanes x (open_of kin lanes xs) ≡ true = ap (stays kin lanes x) s.left ∙ k in
      record {
        left = rw t (ap (λ ys. x ∷ ys) s.left);
        closed = rw t (append-nil (closed_of kin lanes xs) ∙ s.closed);
      }

  -- the one at a place goes
  pub open_without : (xs : List A) (n : ℕ) (x : A) → slice_get xs n ≡ Some x → AllStay kin lanes (drop (suc n) xs) →
      stays kin lanes x (drop (suc n) xs) ≡ false → open_of kin lanes (take n xs ++ drop (suc n) xs) ≡ open_of kin lanes xs
  unfolding open_of closed_of
  open_without [] n x e s k = absurd (none-some x e)
  open_without (y ∷ ys) zero x e s k =
      let t : stays kin lanes y (open_of kin lanes ys) ≡ false = ap (stays kin lanes y) s.left ∙
      ap (λ z. stays kin lanes z ys) (same_Some y x e) ∙ k in
      rw t refl
  open_without (y ∷ ys) (suc n) x e s k = ap (λ o. keep_if (stays kin lanes y o) y o) (open_without ys n x e s k)

  pub closed_without : (xs : List A) (n : ℕ) (x : A) → slice_get xs n ≡ Some x → AllStay kin lanes (drop (suc n) xs) →
      stays kin lanes x (drop (suc n) xs) ≡ false → closed_of kin lanes xs ≡ x ∷ closed_of kin lanes (take n xs ++ drop (suc n) xs)
  unfolding open_of closed_of
  closed_without [] n x e s k = absurd (none-some x e)
  closed_without (y ∷ ys) zero x e s k =
      let t : stays kin lanes y (open_of kin lanes ys) ≡ false = ap (stays kin lanes y) s.left ∙
      ap (λ z. stays kin lanes z ys) (same_Some y x e) ∙ k in
      rw (t, s.closed) (ap (λ z. z ∷ []) (same_Some y x e))
  closed_without (y ∷ ys) (suc n) x e s k =
      ap (λ c. c ++ unless (stays kin lanes y (open_of kin lanes ys)) y) (closed_without ys n x e s k)
      ∙ ap (λ o. x ∷ (closed_of kin lanes (take n ys ++ drop (suc n) ys) ++ unless (stays kin lanes y o) y))
      (sym (open_without ys n x e s k))

  -- what is left from a place on begins with the item there
  drop_at : (xs : List A) (n : ℕ) (x : A) → n < length xs → x ≡ get_or xs n x → drop n xs ≡ x ∷ drop (suc n) xs
  drop_at [] n x h e = absurd (omega arith)
  drop_at (y ∷ ys) zero x h e = ap (λ z. z ∷ ys) (sym e)
  drop_at (y ∷ ys) (suc n) x h e = drop_at ys n x (omega arith) e

  pub settled_end : (xs : List A) → AllStay kin lanes (drop (length xs) xs)
  settled_end xs = subst (λ ys. AllStay kin lanes ys) (sym (drop_of_length-le xs (omega arith))) settled_none

  -- a turn of the loop from the end
  pub settled_turn : (xs : List A) (n r : ℕ) (x : A) → r ≡ suc n → r ≤ length xs → x ≡ get_or xs n x → AllStay kin lanes (drop r xs) →
      stays kin lanes x (drop (n + 1) xs) ≡ true → AllStay kin lanes (drop n xs)
  settled_turn xs n r x er h e s k =
      let within : n < length xs = omega arith in
      let more : n + 1 ≡ suc n = omega arith in
      subst (λ ys. AllStay kin lanes ys) (sym (drop_at xs n x within e))
      (settled_more x (drop (suc n) xs) (subst (λ j. AllStay kin lanes (drop j xs)) er s)
      (ap (λ j. stays kin lanes x (drop j xs)) (sym more) ∙ k))

  -- the end of the loop, at one that doesn't stay
  pub closes_at : (xs : List A) (n r : ℕ) (x : A) → r ≡ suc n → r ≤ length xs → x ≡ get_or xs n x → AllStay kin lanes (drop r xs) →
      stays kin lanes x (drop (n + 1) xs) ≡ false → ClosesNext kin lanes xs n
  closes_at xs n r x er h e s k =
      let within : n < length xs = omega arith in
      let more : n + 1 ≡ suc n = omega arith in
      let later : AllStay kin lanes (drop (suc n) xs) = subst (λ j. AllStay kin lanes (drop j xs)) er s in
      let goes : stays kin lanes x (drop (suc n) xs) ≡ false = ap (λ j. stays kin lanes x (drop j xs)) (sym more) ∙ k in
      let got : slice_get xs n ≡ Some x = get_at xs n x within e in
      record {
        within = within;
        left = open_without xs n x got later goes;
        closed = λ y f.
            let same : x ≡ y = same_Some x y (sym got ∙ f) in
            closed_without xs n x got later goes ∙ ap (λ z. z ∷ closed_of kin lanes (take n xs ++ drop (suc n) xs)) same;
      }
