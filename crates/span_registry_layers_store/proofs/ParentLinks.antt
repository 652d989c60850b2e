-- The same words of items and of what a function makes of them: they speak of kinship alone.
use Rattle.std.proofs.Common.{◌≡◌, ℕ, List, [], ◌∷◌, ◌++◌, map, Bool, true, false, ◌||◌, ◌==◌, if◌then◌else◌, Option, Some, None}
use Rattle.std.proofs.Common.{option_and_then, refl, ap, sym, ◌∙◌}
use Rattle.std.specs.Option.{option_map}
use Rattle.std.proofs.lemmas.List.{map-append}
use Rattle.span_registry_layers_store.specs.Spans.{changed, closed_of, found, handles_in, handles_of, has_child, is_open, is_parent}
use Rattle.span_registry_layers_store.specs.Spans.{keep_if, open_of, parent_of, stays, unless}
use Rattle.span_registry_layers_store.specs.declared.record.SpanRecord.{SpanRecord}

module _ {A B : Type 0} (kin : B → SpanRecord) (f : A → B) where
  -- the kinship of what the function makes
  abbrev made_kin : A → SpanRecord
  made_kin x = kin (f x)

  pub open_carried : (xs : List A) (id : ℕ) → is_open kin (map f xs) id ≡ is_open made_kin xs id
  open_carried [] id = refl
  open_carried (x ∷ xs) id = ap (λ b. ((kin (f x)).id == id) || b) (open_carried xs id)

  found_if : (b : Bool) (x : A) (o : Option A) (p : Option B) → p ≡ option_map f o →
      (if b then Some (f x) else p) ≡ option_map f (if b then Some x else o)
  found_if true x o p e = refl
  found_if false x o p e = e

  pub found_carried : (xs : List A) (id : ℕ) → found kin (map f xs) id ≡ option_map f (found made_kin xs id)
  found_carried [] id = refl
  found_carried (x ∷ xs) id = found_if ((kin (f x)).id == id) x (found made_kin xs id) (found kin (map f xs) id) (found_carried xs id)

  handles_some : (o : Option A) → handles_in kin (option_map f o) ≡ handles_in made_kin o
  handles_some None = refl
  handles_some (Some x) = refl

  pub handles_carried : (xs : List A) (id : ℕ) → handles_of kin (map f xs) id ≡ handles_of made_kin xs id
  handles_carried xs id = ap (handles_in kin) (found_carried xs id) ∙ handles_some (found made_kin xs id)

  parent_some : (o : Option A) → option_and_then (λ (y : B). (kin y).parent) (option_map f o) ≡ option_and_then
      (λ (x : A). (made_kin x).parent) o
  parent_some None = refl
  parent_some (Some x) = refl

  pub parent_carried : (xs : List A) (id : ℕ) → parent_of kin (map f xs) id ≡ parent_of made_kin xs id
  parent_carried xs id = ap (option_and_then (λ (y : B). (kin y).parent)) (found_carried xs id) ∙ parent_some (found made_kin xs id)

  child_carried : (xs : List A) (id : ℕ) → has_child kin (map f xs) id ≡ has_child made_kin xs id
  child_carried [] id = refl
  child_carried (x ∷ xs) id = ap (λ b. is_parent id (kin (f x)).parent || b) (child_carried xs id)

  pub stays_carried : (lanes : List (List ℕ)) (x : A) (xs : List A) → stays kin lanes (f x) (map f xs) ≡ stays made_kin lanes x xs
  stays_carried lanes x xs = rw (child_carried xs (kin (f x)).id) refl

  keep_carried : (b : Bool) (x : A) (xs : List A) → keep_if b (f x) (map f xs) ≡ map f (keep_if b x xs)
  keep_carried true x xs = refl
  keep_carried false x xs = refl

  pub left_carried : (lanes : List (List ℕ)) (xs : List A) → open_of kin lanes (map f xs) ≡ map f (open_of made_kin lanes xs)
  unfolding open_of
  left_carried lanes [] = refl
  left_carried lanes (x ∷ xs) =
      ap (λ o. keep_if (stays kin lanes (f x) o) (f x) o) (left_carried lanes xs)
      ∙ ap (λ b. keep_if b (f x) (map f (open_of made_kin lanes xs))) (stays_carried lanes x (open_of made_kin lanes xs))
      ∙ keep_carried (stays made_kin lanes x (open_of made_kin lanes xs)) x (open_of made_kin lanes xs)

  unless_carried : (b : Bool) (x : A) → unless b (f x) ≡ map f (unless b x)
  unless_carried true x = refl
  unless_carried false x = refl

  pub closed_carried : (lanes : List (List ℕ)) (xs : List A) → closed_of kin lanes (map f xs) ≡ map f (closed_of made_kin lanes xs)
  unfolding closed_of
  closed_carried lanes [] = refl
  closed_carried lanes (x ∷ xs) =
      ap (λ c. c ++ unless (stays kin lanes (f x) (open_of kin lanes (map f xs))) (f x)) (closed_carried lanes xs)
      ∙ ap (λ o. map f (closed_of made_kin lanes xs) ++ unless (stays kin lanes (f x) o) (f x)) (left_carried lanes xs)
      ∙ ap (λ b. map f (closed_of made_kin lanes xs) ++ unless b (f x)) (stays_carried lanes x (open_of made_kin lanes xs))
      ∙ ap (λ u. map f (closed_of made_kin lanes xs) ++ u) (unless_carried (stays made_kin lanes x (open_of made_kin lanes xs)) x)
      ∙ sym (map-append f (closed_of made_kin lanes xs) (unless (stays made_kin lanes x (open_of made_kin lanes xs)) x))

  changed_if : (b : Bool) (g : A → A) (h : B → B) (x : A) (xs ys : List A) (zs : List B) → f (g x) ≡ h (f x) → zs ≡ map f ys →
      (if b then h (f x) ∷ map f xs else f x ∷ zs) ≡ map f (if b then g x ∷ xs else x ∷ ys)
  changed_if true g h x xs ys zs e later = ap (λ y. y ∷ map f xs) (sym e)
  changed_if false g h x xs ys zs e later = ap (λ l. f x ∷ l) later

  pub changed_carried : (g : A → A) (h : B → B) → ((x : A) → f (g x) ≡ h (f x)) → (xs : List A) (id : ℕ) →
      changed kin h (map f xs) id ≡ map f (changed made_kin g xs id)
  changed_carried g h e [] id = refl
  changed_carried g h e (x ∷ xs) id = changed_if ((kin (f x)).id == id) g h x xs (changed made_kin g xs id) (changed kin h (map f xs) id)
      (e x) (changed_carried g h e xs id)
