-- Keys rise, and each has the value of its last entry.
use Rattle.std.proofs.Common.{◌≡◌, ℕ, Bool, true, false, List, [], ◌∷◌, if◌then◌else◌, Option, Some, None, IfSome}
use Rattle.std.proofs.Common.{option_and_then, slice_index_or}
use Rattle.std.proofs.Common.{refl, sym, ap, subst, ◌∙◌}
use Rattle.std.specs.Cmp.{IsTotalOrder}
use Rattle.std.specs.Cmp.Lexicographic.{slice_cmp, nat_list_cmp_total}
use Rattle.std.specs.Ordering.{is_eq, is_lt, nat_cmp, ordering_reverse}
use Rattle.std.specs.Str.{bytes_eq}
use Rattle.std.specs.declared.cmp.Ordering.{Ordering}
use Rattle.std.specs.declared.cmp.Ordering.TheVariants.{Less, Equal, Greater}
use Rattle.std.proofs.lemmas.Map.Text.{is_eq-slice_cmp}
use Rattle.std.proofs.lemmas.Slice.Eq.{bytes_eq-Decides}
use Rattle.tracing_core_fields.specs.PlainValue.{PlainValue, debug_of}
use Rattle.event_formatter_text.specs.FieldTexts.{plain_name}
use Rattle.event_formatter_text.specs.JsonObjects.{Pair, put, put_all}
use Rattle.event_formatter_text.specs.JsonTexts.{json_value}
use Rattle.event_formatter_text.specs.ObjectLaws.{IsBelowFirst, KeysRise, ObjectKeysRise, ObjectsHaveLastValues, last_value, value_under}

abbrev cmp : List ℕ → List ℕ → Ordering
cmp a b = slice_cmp nat_cmp a b

abbrev is_below : List ℕ → List ℕ → Bool
is_below a b = is_lt (cmp a b)

-- what is neither below nor equal is above
above : (a b : List ℕ) → is_below a b ≡ false → bytes_eq a b ≡ false → is_below b a ≡ true
above a b low same = by_order (cmp a b) (cmp b a) (nat_list_cmp_total.antisymm b a) low (is_eq-slice_cmp a b ∙ same)
  where
    by_order : (there back : Ordering) → back ≡ ordering_reverse there → is_lt there ≡ false → is_eq there ≡ false → is_lt back ≡ true
    by_order Less back is low same = absurd (cc)
    by_order Equal back is low same = absurd (cc)
    by_order Greater back is low same = ap is_lt is

equal : (a b : List ℕ) → bytes_eq a b ≡ true → a ≡ b
equal a b same = (bytes_eq-Decides a b).0 same

reflexive : (a : List ℕ) → bytes_eq a a ≡ true
reflexive a = (bytes_eq-Decides a a).1 refl

-- a lesser key is another one
lower : (a b : List ℕ) → is_below a b ≡ true → bytes_eq a b ≡ false
lower a b low = sym (is_eq-slice_cmp a b) ∙ by_order (cmp a b) low
  where
    by_order : (there : Ordering) → is_lt there ≡ true → is_eq there ≡ false
    by_order Less is = refl
    by_order Equal is = absurd (cc)
    by_order Greater is = absurd (cc)

-- a key that is the same as another one is told apart from a third one as that is
told_alike : (a b c : List ℕ) → a ≡ b → bytes_eq b c ≡ false → bytes_eq a c ≡ false
told_alike a b c is other = ap (λ (k : List ℕ). bytes_eq k c) is ∙ other

first_stays : (x key value : List ℕ) (ps : List Pair) → IsBelowFirst x ps → is_below x key ≡ true → IsBelowFirst x (put key value ps)
first_stays x key value [] first below = below
first_stays x key value (p ∷ ps) first below = by (is_below p.0 key) (bytes_eq p.0 key)
  where
    by : (before same : Bool) → IsBelowFirst x
        (if before then p ∷ put key value ps else (if same then (key, value) ∷ ps else (key, value) ∷ p ∷ ps))
    by true same = first
    by false true = below
    by false false = below

put_rises : (key value : List ℕ) (ps : List Pair) → KeysRise ps → KeysRise (put key value ps)
put_rises key value [] rise = (tt, tt)
put_rises key value (p ∷ ps) rise = by (put_rises key value ps rise.1) (is_below p.0 key) refl (bytes_eq p.0 key) refl
  where
    by : KeysRise (put key value ps) → (before : Bool) → is_below p.0 key ≡ before → (same : Bool) → bytes_eq p.0 key ≡ same → KeysRise
        (if before then p ∷ put key value ps else (if same then (key, value) ∷ ps else (key, value) ∷ p ∷ ps))
    by later true low same is = (first_stays p.0 key value ps rise.0 low, later)
    by later false low true is = (subst (λ k. IsBelowFirst k ps) (equal p.0 key is) rise.0, rise.1)
    by later false low false is = (above p.0 key low is, rise)

same_value : (key value : List ℕ) (ps : List Pair) → value_under key (put key value ps) ≡ Some value
same_value key value [] = rw (reflexive key) refl
same_value key value (p ∷ ps) = by (same_value key value ps) (is_below p.0 key) refl (bytes_eq p.0 key)
  where
    here : (rest : List Pair) → value_under key ((key, value) ∷ rest) ≡ Some value
    here rest = rw (reflexive key) refl

    by : value_under key (put key value ps) ≡ Some value → (before : Bool) → is_below p.0 key ≡ before → (same : Bool) → value_under key
        (if before then p ∷ put key value ps else (if same then (key, value) ∷ ps else (key, value) ∷ p ∷ ps)) ≡ Some value
    by later true low same = rw (lower p.0 key low) later
    by later false low true = here ps
    by later false low false = here (p ∷ ps)

-- the value under a key in a list that begins with this member
begins : (key : List ℕ) (k v : List ℕ) (rest others : List Pair) → bytes_eq k key ≡ false → value_under key rest ≡ value_under key others →
    value_under key ((k, v) ∷ rest) ≡ value_under key others
begins key k v rest others other is = rw other is

other_value : (key k value : List ℕ) (ps : List Pair) → bytes_eq k key ≡ false → value_under key (put k value ps) ≡ value_under key ps
other_value key k value [] other = rw other refl
other_value key k value (p ∷ ps) other = by (other_value key k value ps other) (is_below p.0 k) (bytes_eq p.0 k) refl
  where
    by : value_under key (put k value ps) ≡ value_under key ps → (before same : Bool) → bytes_eq p.0 k ≡ same → value_under key
        (if before then p ∷ put k value ps else (if same then (k, value) ∷ ps else (k, value) ∷ p ∷ ps)) ≡ value_under key (p ∷ ps)
    by later true same is = ap (λ (rest : Option (List ℕ)). if bytes_eq p.0 key then Some p.1 else rest) later
    by later false true is = begins key k value ps (p ∷ ps) other (sym (rw (told_alike p.0 k key (equal p.0 k is) other) refl))
    by later false false is = begins key k value (p ∷ ps) (p ∷ ps) other refl

put_value : (key k value : List ℕ) (ps : List Pair) →
    value_under key (put k value ps) ≡ (if bytes_eq k key then Some value else value_under key ps)
put_value key k value ps = by (bytes_eq k key) refl
  where
    by : (same : Bool) → bytes_eq k key ≡ same → value_under key (put k value ps) ≡ (if same then Some value else value_under key ps)
    by true is = subst (λ (x : List ℕ). value_under x (put k value ps) ≡ Some value) (equal k key is) (same_value k value ps)
    by false is = other_value key k value ps is

pub keys_rise : ObjectKeysRise
keys_rise names [] pairs rise = rise
keys_rise names (e ∷ es) pairs rise =
    let name = plain_name (slice_index_or names e.0 []) in
    with_value name (put_all names es) pairs (json_value (debug_of e.1))
    (λ v. keys_rise names es (put name v pairs) (put_rises name v pairs rise))
  where
    with_value : (name : List ℕ) (rest : List Pair → Option (List Pair)) (pairs : List Pair) (value : Option (List ℕ)) →
        ((v : List ℕ) → IfSome (rest (put name v pairs)) KeysRise) →
        IfSome (option_and_then (λ v. rest (put name v pairs)) value) KeysRise
    with_value name rest pairs None later = tt
    with_value name rest pairs (Some v) later = later v

pub have_last_values : ObjectsHaveLastValues
have_last_values names [] pairs key = refl
have_last_values names (e ∷ es) pairs key =
    let name = plain_name (slice_index_or names e.0 []) in
    with_value name key names es (put_all names es) pairs (json_value (debug_of e.1))
    (λ v. have_last_values names es (put name v pairs) key)
  where
    with_value : (name key : List ℕ) (names : List (List ℕ)) (es : List (ℕ × PlainValue)) (rest : List Pair → Option (List Pair))
        (pairs : List Pair) (value : Option (List ℕ)) →
        ((v : List ℕ) → IfSome (rest (put name v pairs))
        (λ all. value_under key all ≡ last_value names key es (value_under key (put name v pairs)))) →
        IfSome (option_and_then (λ v. rest (put name v pairs)) value)
        (λ all. value_under key all ≡ last_value names key es (if bytes_eq name key then value else value_under key pairs))
    with_value name key names es rest pairs None later = tt
    with_value name key names es rest pairs (Some v) later =
        subst (λ (before : Option (List ℕ)). IfSome (rest (put name v pairs))
        (λ all. value_under key all ≡ last_value names key es before))
        (put_value key name v pairs) (later v)
