-- Several layers as one: each is told, and where one refuses, nobody is.
use Rattle.std.specs.Prelude.{◌≡◌, ◌||◌, ◌+◌, ◌++◌, ◌<◌, ◌≤◌, ℕ, Bool, true, false, List, [], ◌∷◌, Option, Some, None, refl}
use Rattle.std.proofs.Common.{sym, ap, subst, ◌∙◌, arith, true≢false}
use Rattle.tracing_core_fields.specs.declared.requests.interest.InterestInner.TheVariants.{Never, Sometimes, Always}
use Rattle.tracing_core_fields.specs.requests.Interests.{PlainInterest}
use Rattle.tracing_core_fields.specs.PlainMetadata.{PlainMetadata}
use Rattle.tracing_core_fields.specs.requests.PlainRequests.{PlainEvent}
use Rattle.tracing_core_fields.specs.requests.Steady.{HintFits, InterestFits, SameWord}
use Rattle.span_registry_layers_store.specs.SlotIndependence.{SameButKeys, keys_equal, keys_then}
use Rattle.span_registry_layers_store.specs.Registries.{RegistryValue}
use Rattle.span_registry_layers_layers.specs.Combined.{Both, either_hint, either_interest, then_passed}
use Rattle.span_registry_layers_layers.specs.Honesty.{Fair, OneAnswer}
use Rattle.span_registry_layers_layers.specs.FilterViews.{View, seeing}
use Rattle.span_registry_layers_layers.specs.Notices.{AddsFilters, Attached, Called, Dispatched, Notice, WritesUnder}
use Rattle.span_registry_layers_layers.specs.Layereds.{KeptByBoth}
use Rattle.span_registry_layers_layers.specs.FilterNumbers.{NumbersStay}
use Rattle.span_registry_layers_layers.specs.Singles.{both_once}
use Rattle.span_registry_layers_layers.specs.declared.layer.Layer.{Ghosts}

-- an interest of a request that passes: where it is wanted by one, it isn't never
fits_more : (i j : PlainInterest) → InterestFits i true → InterestFits (either_interest i j) true
fits_more Never j a = absurd (true≢false a)
fits_more Sometimes Never a = tt
fits_more Sometimes Sometimes a = tt
fits_more Sometimes Always a = refl
fits_more Always j a = refl

-- a hint that the level isn't above
abbrev Covers : Option ℕ → ℕ → Type 0
Covers None level = Unit {0}
Covers (Some top) level = level ≤ top

covers_more : (h i : Option ℕ) (level : ℕ) → Covers h level → Covers (either_hint h i) level
covers_more None i level a = tt
covers_more (Some x) None level a = tt
covers_more (Some x) (Some y) level a = omega (arith, a)

covers_first : (h : Option ℕ) (level : ℕ) (b : Bool) → b ≡ true → HintFits h level b → Covers (either_hint (Some 0) h) level
covers_first None level b e a = tt
covers_first (Some x) level b e a = let not_above : x < level → ⊥ = λ lt. true≢false (sym e ∙ a lt) in omega (arith, not_above)

covers_fits : (h : Option ℕ) (level : ℕ) (b : Bool) → Covers h level → HintFits h level b
covers_fits None level b a = tt
covers_fits (Some x) level b a = λ lt. absurd (omega (arith, lt, a))

-- each becomes one that is so related to it, in turn, where each leaves what the next one is given
abbrev pub EachInTurn : {S A B : Type 0} → (S → A → S → B → Type 0) → S → List A → S → List B → Type 0
EachInTurn R x [] y [] = y ≡ x
EachInTurn R x [] y (m ∷ ms) = ⊥
EachInTurn R x (l ∷ ls) y [] = ⊥
EachInTurn {S = S} R x (l ∷ ls) y (m ∷ ms) = (z : S) × R x l z m × EachInTurn R z ls y ms

module _ {L : Type 0} (g : Ghosts L) where
  -- asked in turn, until one refuses
  abbrev pub AllAnswer : List L → PlainMetadata → View → Bool → Type 0
  AllAnswer [] m v b = b ≡ true
  AllAnswer (x ∷ xs) m v b = Both (g.answers x m v) (AllAnswer xs m v) b

  abbrev pub AllAnswerEvents : List L → PlainEvent → View → Bool → Type 0
  AllAnswerEvents [] e v b = b ≡ true
  AllAnswerEvents (x ∷ xs) e v b = Both (g.event_answers x e v) (AllAnswerEvents xs e v) b

  -- always where one says so, never where all do, over what was said before
  abbrev pub SaysFrom : PlainInterest → List L → PlainMetadata → PlainInterest → Type 0
  SaysFrom i [] m k = k ≡ i
  SaysFrom i (x ∷ xs) m k = (j : PlainInterest) × g.says x m j × SaysFrom (either_interest i j) xs m k

  -- known where all are, the highest, over what was known before
  abbrev pub hint_from : Option ℕ → List L → Option ℕ
  hint_from h [] = h
  hint_from h (x ∷ xs) = hint_from (either_hint h (g.hint x)) xs

  -- each is told the same
  abbrev pub EachTold : Notice → List L → List L → Type 0
  EachTold n xs ys = EachInTurn {S = Unit {0}} (λ _ l _ m. g.told l n m) tt xs tt ys

  -- a layer is attached, and may have the registry number some filters
  abbrev pub AttachesOne : RegistryValue → L → RegistryValue → L → Type 0
  AttachesOne x l y m = AddsFilters x y × g.told l (Attached x) m

  -- a layer is told of a notice, by what it sees and what it leaves
  abbrev pub TellsOne : (View → RegistryValue → Notice) → View → RegistryValue → L → RegistryValue → L → Type 0
  TellsOne n v x l y m = g.told l (n (seeing x v) y) m

  -- each is told in turn, and sees the slots that those before it wrote
  abbrev pub TellsInTurn : (View → RegistryValue → Notice) → View → List L → RegistryValue → List L → Type 0
  TellsInTurn n v xs y ys = EachInTurn (TellsOne n v) v.registry xs y ys

  -- each is told the same in turn, and they are attached to the registry in turn
  abbrev pub NotifiedEach : List L → Notice → List L → Type 0
  NotifiedEach xs (Called said v y) ys = TellsInTurn (Called said) v xs y ys
  NotifiedEach xs (Dispatched handle) ys = EachTold (Dispatched handle) xs ys
  NotifiedEach xs (Attached x) ys = (z : RegistryValue) × EachInTurn AttachesOne x xs z ys

  -- each is consistent, and always wants all
  abbrev pub EachWants : List L → Type 0
  EachWants [] = Unit {0}
  EachWants (x ∷ xs) = g.honest x × ((m : PlainMetadata) → g.says x m Always) × EachWants xs

  -- there is one, and each wants all: an empty list says that nothing passes, and lets all pass
  abbrev pub IsHonest : List L → Type 0
  IsHonest [] = ⊥
  IsHonest (x ∷ xs) = EachWants (x ∷ xs)

  one_passes : (x : L) (m : PlainMetadata) (v : View) (b : Bool) → g.honest x → ((m : PlainMetadata) → g.says x m Always) →
      g.answers x m v b → b ≡ true
  one_passes x m v b honest wants a = (g.fair x honest).interest m v b Always a (wants m)

  all_pass : (xs : List L) (m : PlainMetadata) (v : View) (b : Bool) → EachWants xs → AllAnswer xs m v b → b ≡ true
  all_pass [] m v b each a = a
  all_pass (x ∷ xs) m v b each a =
      all_pass xs m v b each.2 (then_passed (AllAnswer xs m v) a.0 b a.2 (one_passes x m v a.0 each.0 each.1 a.1))

  fits_from : (i : PlainInterest) (xs : List L) (m : PlainMetadata) (k : PlainInterest) → InterestFits i true → SaysFrom i xs m k →
      InterestFits k true
  fits_from i [] m k a s = subst (λ z. InterestFits z true) (sym s) a
  fits_from i (x ∷ xs) m k a s = fits_from (either_interest i s.0) xs m k (fits_more i s.0 a) s.2

  covers_from : (h : Option ℕ) (xs : List L) (level : ℕ) → Covers h level → Covers (hint_from h xs) level
  covers_from h [] level a = a
  covers_from h (x ∷ xs) level a = covers_from (either_hint h (g.hint x)) xs level (covers_more h (g.hint x) level a)

  pub several_fair : (xs : List L) → IsHonest xs → Fair (AllAnswer xs) (SaysFrom Never xs) (hint_from (Some 0) xs)
  several_fair [] k = absurd k
  several_fair (x ∷ xs) k = record {
    interest = λ m v b i a s.
        let first : a.0 ≡ true = one_passes x m v a.0 k.0 k.1 a.1 in
        let said : InterestFits s.0 true = subst (λ z. InterestFits s.0 z) first ((g.fair x k.0).interest m v a.0 s.0 a.1 s.1) in
        subst (λ z. InterestFits i z) (sym (all_pass (x ∷ xs) m v b k a)) (fits_from s.0 xs m i said s.2);
    below = λ m v b a.
        let first : a.0 ≡ true = one_passes x m v a.0 k.0 k.1 a.1 in
        covers_fits (hint_from (Some 0) (x ∷ xs)) m.level b
        (covers_from (either_hint (Some 0) (g.hint x)) xs m.level
        (covers_first (g.hint x) m.level a.0 first ((g.fair x k.0).below m v a.0 a.1)));
  }

  -- two lists say the same, whatever was said before
  abbrev SameFrom : List L → List L → Type 0
  SameFrom xs ys = (i : PlainInterest) (h : Option ℕ) → SameWord (SaysFrom i xs) (SaysFrom i ys) (hint_from h xs) (hint_from h ys)

  same_none : SameFrom [] []
  same_none i h = record { onward = λ m k s. s; back = λ m k s. s; same_hint = refl }

  same_more : (x y : L) (xs ys : List L) → SameWord (g.says x) (g.says y) (g.hint x) (g.hint y) → SameFrom xs ys →
      SameFrom (x ∷ xs) (y ∷ ys)
  same_more x y xs ys w later i h = record {
    onward = λ m k s. (s.0, w.onward m s.0 s.1, (later (either_interest i s.0) h).onward m k s.2);
    back = λ m k s. (s.0, w.back m s.0 s.1, (later (either_interest i s.0) h).back m k s.2);
    same_hint = (later i (either_hint h (g.hint y))).same_hint ∙ ap (λ j. hint_from (either_hint h j) xs) w.same_hint;
  }

  wants_still : (x y : L) → SameWord (g.says x) (g.says y) (g.hint x) (g.hint y) → ((m : PlainMetadata) → g.says x m Always) →
      (m : PlainMetadata) → g.says y m Always
  wants_still x y w wants m = w.onward m Always (wants m)

  -- each is told of something
  abbrev EachHears : List L → List L → Type 0
  EachHears xs ys = EachInTurn {S = Unit {0}} (λ _ l _ m. (n : Notice) × g.told l n m) tt xs tt ys

  hears : {S : Type 0} (R : S → L → S → L → Type 0) → ((x y : S) (l m : L) → R x l y m → (n : Notice) × g.told l n m) →
      (x : S) (xs : List L) (y : S) (ys : List L) → EachInTurn R x xs y ys → EachHears xs ys
  hears R f x [] y [] t = refl
  hears R f x [] y (m ∷ ms) t = absurd t
  hears R f x (l ∷ ls) y [] t = absurd t
  hears R f x (l ∷ ls) y (m ∷ ms) t = (tt, f x t.0 l m t.1, hears R f t.0 ls y ms t.2)

  each_hears : (xs : List L) (n : Notice) (ys : List L) → NotifiedEach xs n ys → EachHears xs ys
  each_hears xs (Called said v y) ys t = hears (TellsOne (Called said) v) (λ x z l m told. (Called said (seeing x v) z, told)) v.registry xs
      y ys t
  each_hears xs (Dispatched handle) ys t = hears {S = Unit {0}} (λ _ l _ m. g.told l (Dispatched handle) m)
      (λ x z l m told. (Dispatched handle, told)) tt xs tt ys t
  each_hears xs (Attached x) ys t = hears AttachesOne (λ y z l m told. (Attached y, told.1)) x xs t.0 ys t.1

  hears_stays : (xs ys : List L) → EachHears xs ys → EachWants xs → EachWants ys × SameFrom xs ys
  hears_stays [] [] t k = (tt, same_none)
  hears_stays [] (m ∷ ms) t k = absurd t
  hears_stays (l ∷ ls) [] t k = absurd t
  hears_stays (l ∷ ls) (m ∷ ms) t k =
      let first = g.stays l t.1.0 m t.1.1 k.0 in
      let later = hears_stays ls ms t.2 k.2 in
      ((first.0, wants_still l m first.1 k.1, later.0), same_more l m ls ms first.1 later.1)

  honest_stays : (xs ys : List L) → EachHears xs ys → IsHonest xs → IsHonest ys ×
      SameWord (SaysFrom Never xs) (SaysFrom Never ys) (hint_from (Some 0) xs) (hint_from (Some 0) ys)
  honest_stays [] ys t k = absurd k
  honest_stays (l ∷ ls) [] t k = absurd t
  honest_stays (l ∷ ls) (m ∷ ms) t k = let all = hears_stays (l ∷ ls) (m ∷ ms) t k in (all.0, all.1 Never (Some 0))

  pub several_stay : (xs : List L) (n : Notice) (ys : List L) → NotifiedEach xs n ys → IsHonest xs → IsHonest ys ×
      SameWord (SaysFrom Never xs) (SaysFrom Never ys) (hint_from (Some 0) xs) (hint_from (Some 0) ys)
  several_stay xs n ys t = honest_stays xs ys (each_hears xs n ys t)

  abbrev pub filters_of : List L → ℕ
  filters_of [] = 0
  filters_of (x ∷ xs) = g.filters x + filters_of xs

  abbrev pub numbers_of : List L → List ℕ
  numbers_of [] = []
  numbers_of (x ∷ xs) = g.numbers x ++ numbers_of xs

  -- what the filters of each say of a new span, and whether some layer is told
  abbrev pub KeptByEach : List L → PlainMetadata → View → Bool → List Bool → Bool → Type 0
  KeptByEach [] m v passes verdicts some = some ≡ false
  KeptByEach (x ∷ xs) m v passes verdicts some = KeptByBoth (g.kept x) (KeptByEach xs) m v passes verdicts some

  joined_numbers : (x y : L) (xs ys : List L) → g.numbers y ≡ g.numbers x → numbers_of ys ≡ numbers_of xs →
      numbers_of (y ∷ ys) ≡ numbers_of (x ∷ xs)
  joined_numbers x y xs ys a b = ap (λ (ns : List ℕ). ns ++ numbers_of ys) a ∙ ap (λ (ns : List ℕ). g.numbers x ++ ns) b

  turn_numbers : {S : Type 0} (R : S → L → S → L → Type 0) → ((x y : S) (l m : L) → R x l y m → g.numbers m ≡ g.numbers l) →
      (x : S) (xs : List L) (y : S) (ys : List L) → EachInTurn R x xs y ys → numbers_of ys ≡ numbers_of xs
  turn_numbers R f x [] y [] t = refl
  turn_numbers R f x [] y (m ∷ ms) t = absurd t
  turn_numbers R f x (l ∷ ls) y [] t = absurd t
  turn_numbers R f x (l ∷ ls) y (m ∷ ms) t = joined_numbers l m ls ms (f x t.0 l m t.1) (turn_numbers R f t.0 ls y ms t.2)

  pub each_numbered : (n : Notice) (xs ys : List L) → NotifiedEach xs n ys → NumbersStay n (numbers_of xs) (numbers_of ys)
  each_numbered (Called said v y) xs ys t = turn_numbers (TellsOne (Called said) v)
      (λ x z l m told. g.numbered l (Called said (seeing x v) z) m told) v.registry xs y ys t
  each_numbered (Dispatched handle) xs ys t = turn_numbers {S = Unit {0}} (λ _ l _ m. g.told l (Dispatched handle) m)
      (λ x z l m told. g.numbered l (Dispatched handle) m told) tt xs tt ys t
  each_numbered (Attached r) xs ys t = tt

  each_once : (xs : List L) → EachWants xs → OneAnswer (KeptByEach xs)
  each_once [] each = λ m v passes verdicts others a b x y. x ∙ sym y
  each_once (x ∷ xs) each = both_once (g.kept x) (KeptByEach xs) (g.once x each.0) (each_once xs each.2)

  pub several_once : (xs : List L) → IsHonest xs → OneAnswer (KeptByEach xs)
  several_once [] k = absurd k
  several_once (x ∷ xs) k = each_once (x ∷ xs) k

  abbrev pub keys_of : List L → ℕ → Bool
  keys_of [] key = false
  keys_of (x ∷ xs) key = keys_of xs key || g.keys x key

  turn_aside : (n : View → RegistryValue → Notice) (v : View) →
      ((x y : RegistryValue) (l m : L) → TellsOne n v x l y m → SameButKeys (g.keys l) x y) →
      (x : RegistryValue) (xs : List L) (y : RegistryValue) (ys : List L) → EachInTurn (TellsOne n v) x xs y ys →
      SameButKeys (keys_of xs) x y
  turn_aside n v f x [] y [] t = keys_equal (keys_of []) x y t
  turn_aside n v f x [] y (m ∷ ms) t = absurd t
  turn_aside n v f x (l ∷ ls) y [] t = absurd t
  turn_aside n v f x (l ∷ ls) y (m ∷ ms) t = keys_then (g.keys l) (keys_of ls) x t.0 y (f x t.0 l m t.1) (turn_aside n v f t.0 ls y ms t.2)

  -- they write under the keys of all of them
  pub each_aside : (n : Notice) (xs ys : List L) → NotifiedEach xs n ys → WritesUnder (keys_of xs) n
  each_aside (Called said v y) xs ys t = turn_aside (Called said) v (λ x z l m told. g.aside l (Called said (seeing x v) z) m told)
      v.registry xs y ys t
  each_aside (Dispatched handle) xs ys t = tt
  each_aside (Attached x) xs ys t = tt

  joined_keys : (l m : L) (ls ms : List L) (key : ℕ) → g.keys m key ≡ g.keys l key → keys_of ms key ≡ keys_of ls key →
      keys_of (m ∷ ms) key ≡ keys_of (l ∷ ls) key
  joined_keys l m ls ms key a b = ap (λ p. p || g.keys m key) b ∙ ap (λ q. keys_of ls key || q) a

  hears_keyed : (xs ys : List L) → EachHears xs ys → (key : ℕ) → keys_of ys key ≡ keys_of xs key
  hears_keyed [] [] t key = refl
  hears_keyed [] (m ∷ ms) t key = absurd t
  hears_keyed (l ∷ ls) [] t key = absurd t
  hears_keyed (l ∷ ls) (m ∷ ms) t key = joined_keys l m ls ms key (g.keyed l t.1.0 m t.1.1 key) (hears_keyed ls ms t.2 key)

  pub each_keyed : (n : Notice) (xs ys : List L) → NotifiedEach xs n ys → (key : ℕ) → keys_of ys key ≡ keys_of xs key
  each_keyed n xs ys t = hears_keyed xs ys (each_hears xs n ys t)
