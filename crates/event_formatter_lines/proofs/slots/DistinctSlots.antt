-- No slot stands twice.
use Rattle.std.proofs.Common.{◌≡◌, ◌<◌, ◌⊎◌, inl, inr, ℕ, ◌==◌, nat_lt, List, [], ◌∷◌, Bool, true, false, ◌&&◌, ◌||◌, None, refl, ap, sym}
use Rattle.std.proofs.Common.{◌∙◌, arith}
use Rattle.std.proofs.lemmas.Bool.Decides.{nat_tests}
use Rattle.span_registry_layers_store.specs.Slots.{AreInOrder, PlainPlace, StandsFirst, is_at, is_before, rank, slot_at}
use Rattle.span_registry_layers_store.specs.declared.slot.Tag.{Tag}
use Rattle.span_registry_layers_store.specs.declared.slot.Tag.TheVariants as tag

-- the test of order, on numbers
abbrev before : ℕ → ℕ → ℕ → ℕ → Bool
before a x b y = nat_lt a b || ((a == b) && nat_lt x y)

abbrev Before : ℕ → ℕ → ℕ → ℕ → Type 0
Before a x b y = (a < b) ⊎ ((a ≡ b) × (x < y))

said : (a x b y : ℕ) → Before a x b y → before a x b y ≡ true
said a x b y (inl lt) = let first : nat_lt a b ≡ true = grind (arith, nat_tests, lt) in rw first refl
said a x b y (inr same) =
    let equal : (a == b) ≡ true = (let e = same.0 in grind (arith, nat_tests, e)) in
    let second : nat_lt x y ≡ true = (let lt = same.1 in grind (arith, nat_tests, lt)) in
    let first : nat_lt a b ≡ false = (let e = same.0 in grind (arith, nat_tests, e)) in
    rw first (rw equal second)

meant_by : (p q r : Bool) (a x b y : ℕ) → nat_lt a b ≡ p → (a == b) ≡ q → nat_lt x y ≡ r → (p || (q && r)) ≡ true → Before a x b y
meant_by true q r a x b y lt e m h = inl (grind (arith, nat_tests, lt))
meant_by false true true a x b y lt e m h = inr (grind (arith, nat_tests, e), grind (arith, nat_tests, m))
meant_by false true false a x b y lt e m h = absurd (cc)
meant_by false false r a x b y lt e m h = absurd (cc)

meant : (a x b y : ℕ) → before a x b y ≡ true → Before a x b y
meant a x b y h = meant_by (nat_lt a b) (a == b) (nat_lt x y) a x b y refl refl refl h

then_before : (a x b y c z : ℕ) → Before a x b y → Before b y c z → Before a x c z
then_before a x b y c z (inl p) (inl q) = inl (omega (arith, p, q))
then_before a x b y c z (inl p) (inr q) = let e = q.0 in inl (omega (arith, p, e))
then_before a x b y c z (inr p) (inl q) = let e = p.0 in inl (omega (arith, q, e))
then_before a x b y c z (inr p) (inr q) =
    let d = p.0 in let e = q.0 in let l = p.1 in let m = q.1 in inr (omega (arith, d, e), omega (arith, l, m))

-- what stands behind isn't there
apart : (a x b y : ℕ) → Before a x b y → ((b == a) && (y == x)) ≡ false
apart a x b y (inl lt) = let other : (b == a) ≡ false = grind (arith, nat_tests, lt) in rw other refl
apart a x b y (inr same) =
    let equal : (b == a) ≡ true = (let e = same.0 in grind (arith, nat_tests, e)) in
    let other : (y == x) ≡ false = (let lt = same.1 in grind (arith, nat_tests, lt)) in
    rw equal other

first_past : (n q : PlainPlace) (qs : List PlainPlace) → is_before n.key n.tag q ≡ true → StandsFirst q qs → StandsFirst n qs
first_past n q [] e w = tt
first_past n q (r ∷ rs) e w =
    said n.key (rank n.tag) r.key (rank r.tag)
    (then_before n.key (rank n.tag) q.key (rank q.tag) r.key (rank r.tag)
    (meant n.key (rank n.tag) q.key (rank q.tag) e) (meant q.key (rank q.tag) r.key (rank r.tag) w))

none_later : (n : PlainPlace) (ps : List PlainPlace) → StandsFirst n ps → AreInOrder ps → slot_at ps n.key n.tag ≡ None
none_later n [] w order = refl
none_later n (q ∷ qs) w order =
    let away : is_at n.key n.tag q ≡ false =
    apart n.key (rank n.tag) q.key (rank q.tag) (meant n.key (rank n.tag) q.key (rank q.tag) w) in
    rw away (none_later n qs (first_past n q qs w order.0) order.1)

left_true : (a b : Bool) → (a && b) ≡ true → a ≡ true
left_true true b e = refl
left_true false b e = absurd (cc)

right_true : (a b : Bool) → (a && b) ≡ true → b ≡ true
right_true true b e = e
right_true false b e = absurd (cc)

same_rank : (t u : Tag) → rank t ≡ rank u → t ≡ u
same_rank tag.Text tag.Text e = refl
same_rank tag.Timings tag.Timings e = refl
same_rank tag.Number tag.Number e = refl
same_rank tag.Words tag.Words e = refl
same_rank _ _ e = absurd (cc)

-- behind the slot of a key and a tag there is none
pub none_behind : (key : ℕ) (t : Tag) (p : PlainPlace) (ps : List PlainPlace) → is_at key t p ≡ true → AreInOrder (p ∷ ps) →
    slot_at ps key t ≡ None
none_behind key t p ps e order =
    let key_same : p.key ≡ key = (let a = left_true (p.key == key) (rank p.tag == rank t) e in grind (arith, nat_tests, a)) in
    let tag_same : rank p.tag ≡ rank t = (let a = right_true (p.key == key) (rank p.tag == rank t) e in grind (arith, nat_tests, a)) in
    ap (λ (k : ℕ). slot_at ps k t) (sym key_same) ∙ ap (slot_at ps p.key) (sym (same_rank p.tag t tag_same)) ∙
    none_later p ps order.0 order.1
