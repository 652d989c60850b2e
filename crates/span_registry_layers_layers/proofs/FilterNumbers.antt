-- Numbers of filters, and what filters of two layers say.
use Rattle.std.proofs.Common.{◌≡◌, ◌≤◌, ◌<◌, ◌+◌, ◌-◌, ◌++◌, ◌||◌, ◌==◌, ℕ, zero, suc, Bool, true, false, nat_le, List, [], ◌∷◌, length}
use Rattle.std.proofs.Common.{take, drop, get_or, Option, Some, None, is_some, if◌then◌else◌, refl, sym, ap, ◌∙◌, subst, arith}
use Rattle.std.proofs.Math.Seq.{take-length}
use Rattle.std.proofs.lemmas.Bool.Decides.{nat_tests}
use Rattle.std.proofs.lemmas.List.Folds.{list_any-append}
use Rattle.span_registry_layers_store.specs.Registries.{RegistryValue}
use Rattle.span_registry_layers_store.specs.Spans.{is_member}
use Rattle.span_registry_layers_layers.specs.FilterNumbers.{AreNumbers, SameBut, SameOf, more_filters, numbers_from, room_after}

none_of_both : (a b : Bool) → (a || b) ≡ false → (a ≡ false) × (b ≡ false)
none_of_both true b e = absurd (cc)
none_of_both false b e = (refl, e)

member_parts : (xs ys : List ℕ) (n : ℕ) → is_member (xs ++ ys) n ≡ false → (is_member xs n ≡ false) × (is_member ys n ≡ false)
member_parts xs ys n e = none_of_both (is_member xs n) (is_member ys n) (sym (list_any-append (λ x. x == n) xs ys) ∙ e)

pub numbers_first : (limit : ℕ) (xs ys : List ℕ) → AreNumbers limit (xs ++ ys) → AreNumbers limit xs
numbers_first limit [] ys w = tt
numbers_first limit (x ∷ xs) ys w = (w.0, (member_parts xs ys x w.1).0, numbers_first limit xs ys w.2)

pub numbers_second : (limit : ℕ) (xs ys : List ℕ) → AreNumbers limit (xs ++ ys) → AreNumbers limit ys
numbers_second limit [] ys w = w
numbers_second limit (x ∷ xs) ys w = numbers_second limit xs ys w.2

pub same_self : (ns : List ℕ) (a : List Bool) → SameOf ns a a
same_self [] a = tt
same_self (n ∷ ns) a = (refl, same_self ns a)

-- what the first said stays said when the second was asked
pub same_first : (limit : ℕ) (xs ys : List ℕ) (a b later : List Bool) → AreNumbers limit (xs ++ ys) → SameBut ys a b →
    SameOf (xs ++ ys) b later → SameOf xs a later
same_first limit [] ys a b later w but same = tt
same_first limit (x ∷ xs) ys a b later w but same =
    (same.0 ∙ but x (member_parts xs ys x w.1).1, same_first limit xs ys a b later w.2 but same.1)

pub same_second : (xs ys : List ℕ) (b later : List Bool) → SameOf (xs ++ ys) b later → SameOf ys b later
same_second [] ys b later same = same
same_second (x ∷ xs) ys b later same = same_second xs ys b later same.1

pub numbers_joined : (first a b : ℕ) → numbers_from first a ++ numbers_from (first + a) b ≡ numbers_from first (a + b)
numbers_joined first zero b =
    let here : first + 0 ≡ first = omega arith in
    let all : b ≡ 0 + b = omega arith in
    ap (λ (n : ℕ). numbers_from n b) here ∙ ap (numbers_from first) all
numbers_joined first (suc a) b =
    let same : first + suc a ≡ first + 1 + a = omega arith in
    let all : suc (a + b) ≡ suc a + b = omega arith in
    ap (λ ns. first ∷ ns) (ap (λ (n : ℕ). numbers_from (first + 1) a ++ numbers_from n b) same ∙ numbers_joined (first + 1) a b) ∙
    ap (numbers_from first) all

other : (m n : ℕ) → n < m → (m == n) ≡ false
other m n h = grind (arith, nat_tests, h)

not_later : (first count n : ℕ) → n < first → is_member (numbers_from first count) n ≡ false
not_later first zero n h = refl
not_later first (suc count) n h = rw (other first n h) (not_later (first + 1) count n (omega (arith, h)))

pub numbers_apart : (limit first count : ℕ) → first + count ≤ limit → AreNumbers limit (numbers_from first count)
numbers_apart limit first zero h = tt
numbers_apart limit first (suc count) h =
    (omega (arith, h), not_later (first + 1) count first (omega arith), numbers_apart limit (first + 1) count (omega (arith, h)))

pub numbers_within : (a b : ℕ) (ns : List ℕ) → a ≤ b → AreNumbers a ns → AreNumbers b ns
numbers_within a b [] h w = tt
numbers_within a b (n ∷ ns) h w = (let below = w.0 in omega (arith, h, below), w.1, numbers_within a b ns h w.2)

later_apart : (first count n : ℕ) (ns : List ℕ) → AreNumbers first ns → n < first → is_member ns n ≡ false →
    is_member (numbers_from first count ++ ns) n ≡ false
later_apart first zero n ns w h e = e
later_apart first (suc count) n ns w h e =
    rw (other first n h) (later_apart (first + 1) count n ns (numbers_within first (first + 1) ns (omega arith) w) (omega (arith, h)) e)

not_member : (first n : ℕ) (ns : List ℕ) → AreNumbers first ns → first ≤ n → is_member ns n ≡ false
not_member first n [] w h = refl
not_member first n (m ∷ ns) w h = rw (let below = w.0 in unequal m n (omega (arith, h, below))) (not_member first n ns w.2 h)
  where
    unequal : (m n : ℕ) → m < n → (m == n) ≡ false
    unequal m n h = grind (arith, nat_tests, h)

-- later numbers before earlier ones
pub numbers_before : (first count : ℕ) (ns : List ℕ) → AreNumbers first ns → AreNumbers (first + count) (numbers_from first count ++ ns)
numbers_before first zero ns w = numbers_within first (first + 0) ns (omega arith) w
numbers_before first (suc count) ns w =
    let within : AreNumbers (first + 1) ns = numbers_within first (first + 1) ns (omega arith) w in
    let same : first + 1 + count ≡ first + suc count = omega arith in (
      omega arith,
      later_apart (first + 1) count first ns within (omega arith) (not_member first first ns w (omega arith)),
      subst (λ (n : ℕ). AreNumbers n (numbers_from (first + 1) count ++ ns)) same (numbers_before (first + 1) count ns within),
    )

pub more_twice : (a b : ℕ) (x : RegistryValue) → more_filters b (more_filters a x) ≡ more_filters (a + b) x
more_twice a b x = let same : x.filters + a + b ≡ x.filters + (a + b) = omega arith in ap (λ (n : ℕ). record x { filters = n }) same

found_if : (b : Bool) (n : ℕ) (r : Option ℕ) → r ≡ (if b then Some n else None) → is_some r ≡ b
found_if true n r e = ap is_some e
found_if false n r e = ap is_some e

same_test : (x count : ℕ) → x ≤ 64 → nat_le count (64 - x) ≡ nat_le (x + count) 64
same_test x count h = grind (arith, nat_tests, h)

pub room_tells : (x count : ℕ) (r : Option ℕ) → x ≤ 64 → r ≡ room_after (64 - x) count → is_some r ≡ nat_le (x + count) 64
room_tells x count r h e = found_if (nat_le count (64 - x)) (64 - x - count) r e ∙ same_test x count h

pub fits_within : (x count : ℕ) → nat_le (x + count) 64 ≡ true → x + count ≤ 64
fits_within x count e = grind (arith, nat_tests, e)

-- what two layers say, asked in turn
pub kept_by_both : (K J : List Bool → Type 0) (limit room : ℕ) (xs ys : List ℕ) (a b : List Bool) → room ≡ limit → SameBut ys a b →
    ((l : List Bool) → AreNumbers limit xs → SameOf xs a l → K l) →
    ((l : List Bool) → AreNumbers room ys → SameOf ys b l → J l) → (l : List Bool) → AreNumbers limit (xs ++ ys) → SameOf (xs ++ ys) b l →
    K l × J l
kept_by_both K J limit room xs ys a b e others first second l numbers same = (
  first l (numbers_first limit xs ys numbers) (same_first limit xs ys a b l numbers others same),
  second l (subst (λ (n : ℕ). AreNumbers n ys) (sym e) (numbers_second limit xs ys numbers)) (same_second xs ys b l same),
)

-- a list that isn't empty is its first element and the others
pub opened : {A : Type 0} (xs : List A) (x : A) → 1 ≤ length xs → x ≡ get_or xs 0 x → xs ≡ x ∷ take (length xs - 1) (drop 1 xs)
opened [] x h e = absurd (omega (arith, h))
opened (y ∷ ys) x h e =
    let same : length (y ∷ ys) - 1 ≡ length ys = omega arith in
    ap (λ z. z ∷ ys) (sym e) ∙ ap (λ zs. x ∷ zs) (sym (take-length ys) ∙ ap (λ (n : ℕ). take n ys) (sym same))
