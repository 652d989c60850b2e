-- Children, counted among the spans made later.
use Rattle.std.proofs.Common.{◌≡◌, ℕ, ◌+◌, ◌<◌, ◌≤◌, ◌==◌, ◌||◌, nat_lt, List, [], ◌∷◌, ◌++◌, length, Bool, true, false, if◌then◌else◌}
use Rattle.std.proofs.Common.{Option, Some, None, refl, sym, ap, ◌∙◌, arith}
use Rattle.std.proofs.lemmas.Bool.{eqb-true}
use Rattle.std.proofs.lemmas.Bool.Decides.{nat_tests}
use Rattle.span_registry_layers_store.specs.SpanSlots.{CountChildren, before_only, children_of, gone, less_children, more_children}
use Rattle.span_registry_layers_store.specs.SpanSlots.{one_child_less, one_child_more, slot_kin, stays_by}
use Rattle.span_registry_layers_store.specs.Spans.{Rises, changed, found, has_child, is_entered, is_parent, one_if, keeps, stays}
use Rattle.span_registry_layers_store.specs.declared.span_slot.SpanSlot.{SpanSlot}
use Rattle.span_registry_layers_store.proofs.IndexOrder.{same_test}
use Rattle.span_registry_layers_store.proofs.SpanPlaces.{differs}

some_if : (b : Bool) (n : ℕ) → nat_lt 0 (one_if b + n) ≡ (b || nat_lt 0 n)
some_if true n = grind (arith, nat_tests)
some_if false n = grind (arith, nat_tests)

-- there is a child where some are counted
pub any_child : (id : ℕ) (xs : List SpanSlot) → nat_lt 0 (children_of id xs) ≡ has_child slot_kin xs id
any_child id [] = refl
any_child id (x ∷ xs) = some_if (is_parent id x.span.kin.parent) (children_of id xs) ∙
    ap (λ b. is_parent id x.span.kin.parent || b) (any_child id xs)

-- whether a span stays, by its count of children
pub stays_counted : (lanes : List (List ℕ)) (s : SpanSlot) (later : List SpanSlot) → s.children ≡ children_of s.span.kin.id later →
    stays_by lanes s ≡ stays slot_kin lanes s later
stays_counted lanes s later is =
    ap (λ b. nat_lt 0 s.span.kin.handles || (is_entered lanes s.span.kin.id || b)) (ap (λ n. nat_lt 0 n) is ∙ any_child s.span.kin.id later)

some_slot : (x s : SpanSlot) → ◌≡◌ {A = Option SpanSlot} (Some x) (Some s) → x ≡ s
some_slot x s same = cc

keeps_if : (b : Bool) (lanes : List (List ℕ)) (x s : SpanSlot) (xs : List SpanSlot) (id : ℕ) → x.children ≡ children_of x.span.kin.id xs →
    (if b then Some x else found slot_kin xs id) ≡ Some s →
    (found slot_kin xs id ≡ Some s → keeps slot_kin lanes xs id ≡ stays_by lanes s) →
    (if b then stays slot_kin lanes x xs else keeps slot_kin lanes xs id) ≡ stays_by lanes s
keeps_if true lanes x s xs id count here later = sym (stays_counted lanes x xs count) ∙ ap (stays_by lanes) (some_slot x s here)
keeps_if false lanes x s xs id count here later = later here

pub keeps_counted : (lanes : List (List ℕ)) (xs : List SpanSlot) (id : ℕ) (s : SpanSlot) → CountChildren xs → found slot_kin xs id ≡
    Some s → keeps slot_kin lanes xs id ≡ stays_by lanes s
keeps_counted lanes [] id s counts here = cc
keeps_counted lanes (x ∷ xs) id s counts here =
    keeps_if (x.span.kin.id == id) lanes x s xs id counts.0 here (keeps_counted lanes xs id s counts.1)

keeps_none_if : (b : Bool) (lanes : List (List ℕ)) (x : SpanSlot) (xs : List SpanSlot) (id : ℕ) →
    (if b then Some x else found slot_kin xs id) ≡ None → (found slot_kin xs id ≡ None → keeps slot_kin lanes xs id ≡ true) →
    (if b then stays slot_kin lanes x xs else keeps slot_kin lanes xs id) ≡ true
keeps_none_if true lanes x xs id here later = cc
keeps_none_if false lanes x xs id here later = later here

pub keeps_none : (lanes : List (List ℕ)) (xs : List SpanSlot) (id : ℕ) → found slot_kin xs id ≡ None → keeps slot_kin lanes xs id ≡ true
keeps_none lanes [] id here = refl
keeps_none lanes (x ∷ xs) id here = keeps_none_if (x.span.kin.id == id) lanes x xs id here (keeps_none lanes xs id)

at_most_one : (b : Bool) → one_if b ≤ 1
at_most_one true = omega arith
at_most_one false = omega arith

slots_low : (low least : ℕ) (xs : List SpanSlot) → low ≤ least → Rises slot_kin least xs → Rises slot_kin low xs
slots_low low least [] le rise = tt
slots_low low least (x ∷ xs) le rise = (omega (arith, le, rise.0), rise.1)

-- above an id, it isn't there
pub found_above : (least id : ℕ) (xs : List SpanSlot) → id < least → Rises slot_kin least xs → found slot_kin xs id ≡ None
found_above least id [] above rise = refl
found_above least id (x ∷ xs) above rise =
    rw (differs x.span.kin.id id (λ same. omega (arith, above, same, rise.0)))
    (found_above (x.span.kin.id + 1) id xs (omega (arith, above, rise.0)) rise.1)

pub changed_none : (f : SpanSlot → SpanSlot) (least id : ℕ) (xs : List SpanSlot) → id < least → Rises slot_kin least xs →
    changed slot_kin f xs id ≡ xs
changed_none f least id [] above rise = refl
changed_none f least id (x ∷ xs) above rise =
    rw (differs x.span.kin.id id (λ same. omega (arith, above, same, rise.0)))
    (ap (λ ys. x ∷ ys) (changed_none f (x.span.kin.id + 1) id xs (omega (arith, above, rise.0)) rise.1))

-- a change of counts changes no child
children_if : (b : Bool) (f : SpanSlot → SpanSlot) → ((s : SpanSlot) → (f s).span ≡ s.span) →
    (j id : ℕ) (x : SpanSlot) (xs : List SpanSlot) → children_of j (changed slot_kin f xs id) ≡ children_of j xs →
    children_of j (if b then f x ∷ xs else x ∷ changed slot_kin f xs id) ≡ children_of j (x ∷ xs)
children_if true f keeps_span j id x xs later = rw (keeps_span x) refl
children_if false f keeps_span j id x xs later = ap (λ n. one_if (is_parent j x.span.kin.parent) + n) later

pub children_changed : (f : SpanSlot → SpanSlot) → ((s : SpanSlot) → (f s).span ≡ s.span) → (j id : ℕ) (xs : List SpanSlot) →
    children_of j (changed slot_kin f xs id) ≡ children_of j xs
children_changed f keeps_span j id [] = refl
children_changed f keeps_span j id (x ∷ xs) =
    children_if (x.span.kin.id == id) f keeps_span j id x xs (children_changed f keeps_span j id xs)

-- one more at the end
pub children_more : (id : ℕ) (xs : List SpanSlot) (x : SpanSlot) → children_of id (xs ++ x ∷ []) ≡
    children_of id xs + one_if (is_parent id x.span.kin.parent)
children_more id [] x = omega arith
children_more id (s ∷ ss) x = let later = children_more id ss x in omega (arith, later)

not_parent_of : (id p : ℕ) → (id ≡ p → ⊥) → is_parent id (Some p) ≡ false
not_parent_of id p other = differs p id (λ same. other (sym same))

-- whose parent is below all of these, or who has none, counts for none of them
count_beside : (least : ℕ) (xs : List SpanSlot) (x : SpanSlot) → x.children ≡ 0 →
    ((n : ℕ) → least ≤ n → is_parent n x.span.kin.parent ≡ false) → Rises slot_kin least xs → CountChildren xs →
    CountChildren (xs ++ x ∷ [])
count_beside least [] x starts beside rise counts = (starts, tt)
count_beside least (s ∷ ss) x starts beside rise counts = (
  let more = children_more s.span.kin.id ss x in rw (more, beside s.span.kin.id rise.0) (let is = counts.0 in omega (arith, is)),
  count_beside (s.span.kin.id + 1) ss x starts (λ n above. beside n (omega (arith, above, rise.0))) rise.1 counts.1,
)

abbrev has_parent : SpanSlot → ℕ → Type 0
has_parent x p = x.span.kin.parent ≡ Some p

count_if : (b : Bool) (p : ℕ) (s : SpanSlot) (ss : List SpanSlot) (x : SpanSlot) → (s.span.kin.id == p) ≡ b → x.children ≡ 0 →
    has_parent x p → Rises slot_kin (s.span.kin.id + 1) ss → CountChildren (s ∷ ss) →
    CountChildren (changed slot_kin one_child_more ss p ++ x ∷ []) →
    CountChildren ((if b then one_child_more s ∷ ss else s ∷ changed slot_kin one_child_more ss p) ++ x ∷ [])
count_if true p s ss x test starts child rise counts later =
    let same : s.span.kin.id ≡ p = eqb-true s.span.kin.id p test in
    let more = children_more s.span.kin.id ss x in
    let one : is_parent s.span.kin.id x.span.kin.parent ≡ true = rw child (same_test p s.span.kin.id (sym same)) in (
      rw (more, one) (let is = counts.0 in omega (arith, is)),
      count_beside (s.span.kin.id + 1) ss x starts (λ n above. rw child (not_parent_of n p (λ equal. omega (arith, above, equal, same))))
          rise counts.1,
    )
count_if false p s ss x test starts child rise counts later =
    let more = children_more s.span.kin.id (changed slot_kin one_child_more ss p) x in
    let same = children_changed one_child_more (λ t. refl) s.span.kin.id p ss in
    let other : is_parent s.span.kin.id x.span.kin.parent ≡ false =
    rw child (not_parent_of s.span.kin.id p (λ equal. let t : (s.span.kin.id == p) ≡ true = same_test s.span.kin.id p equal in cc)) in
    (rw (more, same, other) (let is = counts.0 in omega (arith, is)), later)

count_some : (p least : ℕ) (xs : List SpanSlot) (x : SpanSlot) → x.children ≡ 0 → has_parent x p → Rises slot_kin least xs →
    CountChildren xs → CountChildren (changed slot_kin one_child_more xs p ++ x ∷ [])
count_some p least [] x starts child rise counts = (starts, tt)
count_some p least (s ∷ ss) x starts child rise counts =
    count_if (s.span.kin.id == p) p s ss x refl starts child rise.1 counts
    (count_some p (s.span.kin.id + 1) ss x starts child rise.1 counts.1)

-- a new span counts for its parent
pub count_new : (parent : Option ℕ) (least : ℕ) (xs : List SpanSlot) (x : SpanSlot) → x.children ≡ 0 → x.span.kin.parent ≡ parent →
    Rises slot_kin least xs → CountChildren xs → CountChildren (more_children xs parent ++ x ∷ [])
count_new None least xs x starts is rise counts = count_beside least xs x starts (λ n above. rw is refl) rise counts
count_new (Some p) least xs x starts is rise counts = count_some p least xs x starts is rise counts

-- it is among the later ones
children_gone_if : (b : Bool) (j id : ℕ) (x s : SpanSlot) (xs : List SpanSlot) → (if b then Some x else found slot_kin xs id) ≡ Some s →
    (found slot_kin xs id ≡ Some s → children_of j xs ≡ one_if (is_parent j s.span.kin.parent) + children_of j (gone xs id)) →
    children_of j (x ∷ xs) ≡ one_if (is_parent j s.span.kin.parent) + children_of j (if b then xs else x ∷ gone xs id)
children_gone_if true j id x s xs here later =
    ap (λ (t : SpanSlot). one_if (is_parent j t.span.kin.parent) + children_of j xs) (some_slot x s here)
children_gone_if false j id x s xs here later = let is = later here in omega (arith, is)

children_gone : (j id : ℕ) (xs : List SpanSlot) (s : SpanSlot) → found slot_kin xs id ≡ Some s → children_of j xs ≡
    one_if (is_parent j s.span.kin.parent) + children_of j (gone xs id)
children_gone j id [] s here = cc
children_gone j id (x ∷ xs) s here = children_gone_if (x.span.kin.id == id) j id x s xs here (children_gone j id xs s)

below_if : (b : Bool) (least id : ℕ) (x s : SpanSlot) (xs : List SpanSlot) → (x.span.kin.id == id) ≡ b → least ≤ x.span.kin.id →
    (if b then Some x else found slot_kin xs id) ≡ Some s → (found slot_kin xs id ≡ Some s → x.span.kin.id + 1 ≤ id) → least ≤ id
below_if true least id x s xs test low here later = let same : x.span.kin.id ≡ id = eqb-true x.span.kin.id id test in
    omega (arith, same, low)
below_if false least id x s xs test low here later = let above = later here in omega (arith, above, low)

-- what is found is no lower
pub below_found : (least id : ℕ) (xs : List SpanSlot) (s : SpanSlot) → Rises slot_kin least xs → found slot_kin xs id ≡ Some s → least ≤ id
below_found least id [] s rise here = cc
below_found least id (x ∷ xs) s rise here =
    below_if (x.span.kin.id == id) least id x s xs refl rise.0 here (below_found (x.span.kin.id + 1) id xs s rise.1)

-- who goes counts for none of these
beside_if : (b : Bool) (least id : ℕ) (x s : SpanSlot) (xs : List SpanSlot) → (x.span.kin.id == id) ≡ b → least ≤ x.span.kin.id →
    Rises slot_kin (x.span.kin.id + 1) xs → ((n : ℕ) → least ≤ n → n < id → is_parent n s.span.kin.parent ≡ false) →
    CountChildren (x ∷ xs) → (if b then Some x else found slot_kin xs id) ≡ Some s →
    (found slot_kin xs id ≡ Some s → CountChildren (gone xs id)) → CountChildren (if b then xs else x ∷ gone xs id)
beside_if true least id x s xs test low rise beside counts here later = counts.1
beside_if false least id x s xs test low rise beside counts here later =
    let low_later = below_found (x.span.kin.id + 1) id xs s rise here in
    let below : x.span.kin.id < id = omega (arith, low_later) in
    let is = children_gone x.span.kin.id id xs s here in
    let zero_of : one_if (is_parent x.span.kin.id s.span.kin.parent) ≡ 0 = ap one_if (beside x.span.kin.id low below) in
    (let count = counts.0 in omega (arith, is, zero_of, count), later here)

count_beside_gone : (least id : ℕ) (xs : List SpanSlot) (s : SpanSlot) → Rises slot_kin least xs →
    ((n : ℕ) → least ≤ n → n < id → is_parent n s.span.kin.parent ≡ false) → CountChildren xs → found slot_kin xs id ≡ Some s →
    CountChildren (gone xs id)
count_beside_gone least id [] s rise beside counts here = cc
count_beside_gone least id (x ∷ xs) s rise beside counts here =
    beside_if (x.span.kin.id == id) least id x s xs refl rise.0 rise.1 beside counts here
    (λ there. count_beside_gone (x.span.kin.id + 1) id xs s rise.1 (λ n above. beside n (omega (arith, above, rise.0))) counts.1 there)

gone_from_if : (b : Bool) (least id : ℕ) (x : SpanSlot) (xs : List SpanSlot) → least ≤ x.span.kin.id →
    Rises slot_kin (x.span.kin.id + 1) xs → Rises slot_kin (x.span.kin.id + 1) (gone xs id) →
    Rises slot_kin least (if b then xs else x ∷ gone xs id)
gone_from_if true least id x xs low rise later = slots_low least (x.span.kin.id + 1) xs (omega (arith, low)) rise
gone_from_if false least id x xs low rise later = (low, later)

-- ids rise without one
pub gone_rise : (least id : ℕ) (xs : List SpanSlot) → Rises slot_kin least xs → Rises slot_kin least (gone xs id)
gone_rise least id [] rise = tt
gone_rise least id (x ∷ xs) rise =
    gone_from_if (x.span.kin.id == id) least id x xs rise.0 rise.1 (gone_rise (x.span.kin.id + 1) id xs rise.1)

one_less_if : (b c : Bool) (p id least : ℕ) (x s : SpanSlot) (xs : List SpanSlot) → (x.span.kin.id == id) ≡ b → (x.span.kin.id == p) ≡ c →
    p < id → has_parent s p → Rises slot_kin (x.span.kin.id + 1) xs → CountChildren (x ∷ xs) →
    (if b then Some x else found slot_kin xs id) ≡ Some s →
    (found slot_kin xs id ≡ Some s → CountChildren (changed slot_kin one_child_less (gone xs id) p)) →
    CountChildren (changed slot_kin one_child_less (if b then xs else x ∷ gone xs id) p)
one_less_if true c p id least x s xs test parent below child rise counts here later =
    let same : x.span.kin.id ≡ id = eqb-true x.span.kin.id id test in
    rw (changed_none one_child_less (x.span.kin.id + 1) p xs (omega (arith, same, below)) rise) counts.1
one_less_if false true p id least x s xs test parent below child rise counts here later =
    let same : x.span.kin.id ≡ p = eqb-true x.span.kin.id p parent in
    let is = children_gone x.span.kin.id id xs s here in
    let one : one_if (is_parent x.span.kin.id s.span.kin.parent) ≡ 1 = rw child (ap one_if (same_test p x.span.kin.id (sym same))) in
    let rest = count_beside_gone (x.span.kin.id + 1) id xs s rise
    (λ n above under. rw child (not_parent_of n p (λ equal. omega (arith, above, equal, same)))) counts.1 here in
    rw parent (let count = counts.0 in omega (arith, is, one, count), rest)
one_less_if false false p id least x s xs test parent below child rise counts here later =
    let is = children_gone x.span.kin.id id xs s here in
    let zero_of : one_if (is_parent x.span.kin.id s.span.kin.parent) ≡ 0 =
    rw child (ap one_if (not_parent_of x.span.kin.id p
    (λ equal. let t : (x.span.kin.id == p) ≡ true = same_test x.span.kin.id p equal in cc))) in
    let same = children_changed one_child_less (λ t. refl) x.span.kin.id p (gone xs id) in
    rw parent (rw same (let count = counts.0 in omega (arith, is, zero_of, count)), later here)

count_less : (p least id : ℕ) (xs : List SpanSlot) (s : SpanSlot) → p < id → has_parent s p → Rises slot_kin least xs → CountChildren xs →
    found slot_kin xs id ≡ Some s → CountChildren (changed slot_kin one_child_less (gone xs id) p)
count_less p least id [] s below child rise counts here = cc
count_less p least id (x ∷ xs) s below child rise counts here =
    one_less_if (x.span.kin.id == id) (x.span.kin.id == p) p id least x s xs refl refl below child rise.1 counts here
    (λ there. count_less p (x.span.kin.id + 1) id xs s below child rise.1 counts.1 there)

late_parent : (n p id : ℕ) → nat_lt p id ≡ false → n < id → is_parent n (Some p) ≡ false
late_parent n p id late below = not_parent_of n p (λ same. let t : nat_lt p id ≡ true = grind (arith, nat_tests, same, below) in cc)

count_left_if : (b : Bool) (p id : ℕ) (xs : List SpanSlot) (s : SpanSlot) → nat_lt p id ≡ b → has_parent s p → Rises slot_kin 0 xs →
    CountChildren xs → found slot_kin xs id ≡ Some s → CountChildren (less_children (gone xs id) (if b then Some p else None))
count_left_if true p id xs s test child rise counts here =
    count_less p 0 id xs s (let below : p < id = grind (arith, nat_tests, test) in below) child rise counts here
count_left_if false p id xs s test child rise counts here =
    count_beside_gone 0 id xs s rise (λ n above below. rw child (late_parent n p id test below)) counts here

-- a span that goes no longer counts for its parent
pub count_left : (parent : Option ℕ) (id : ℕ) (xs : List SpanSlot) (s : SpanSlot) → s.span.kin.parent ≡ parent → Rises slot_kin 0 xs →
    CountChildren xs → found slot_kin xs id ≡ Some s → CountChildren (less_children (gone xs id) (before_only id parent))
count_left None id xs s is rise counts here = count_beside_gone 0 id xs s rise (λ n above below. rw is refl) counts here
count_left (Some p) id xs s is rise counts here = count_left_if (nat_lt p id) p id xs s refl is rise counts here

count_some_below : (id : ℕ) (xs : List SpanSlot) → children_of id xs ≤ length xs
count_some_below id [] = omega arith
count_some_below id (x ∷ xs) = let later = count_some_below id xs in let most = at_most_one (is_parent id x.span.kin.parent) in
    omega (arith, later, most)

children_below_if : (b : Bool) (x s : SpanSlot) (xs : List SpanSlot) (id : ℕ) → x.children ≡ children_of x.span.kin.id xs →
    (if b then Some x else found slot_kin xs id) ≡ Some s → (found slot_kin xs id ≡ Some s → s.children < length xs) →
    s.children < length (x ∷ xs)
children_below_if true x s xs id count here later = let same = ap (λ (t : SpanSlot). t.children) (some_slot x s here) in let below =
    count_some_below x.span.kin.id xs in omega (arith, same, below, count)
children_below_if false x s xs id count here later = let below = later here in omega (arith, below)

-- a span has fewer children than there are spans
pub children_below : (xs : List SpanSlot) (id : ℕ) (s : SpanSlot) → CountChildren xs → found slot_kin xs id ≡ Some s →
    s.children < length xs
children_below [] id s counts here = cc
children_below (x ∷ xs) id s counts here = children_below_if (x.span.kin.id == id) x s xs id counts.0 here (children_below xs id s counts.1)

-- a change that leaves kinship and counts
kept_if : (b : Bool) (f : SpanSlot → SpanSlot) (x : SpanSlot) (xs : List SpanSlot) (id : ℕ) →
    ((s : SpanSlot) → (f s).span.kin.id ≡ s.span.kin.id) → ((s : SpanSlot) → (f s).span.kin.parent ≡ s.span.kin.parent) →
    ((s : SpanSlot) → (f s).children ≡ s.children) → ((j : ℕ) → children_of j (changed slot_kin f xs id) ≡ children_of j xs) →
    CountChildren (x ∷ xs) → CountChildren (changed slot_kin f xs id) → CountChildren (if b then f x ∷ xs else x ∷ changed slot_kin f xs id)
kept_if true f x xs id ids parents same children counts later = rw (ids x, same x) counts
kept_if false f x xs id ids parents same children counts later = (counts.0 ∙ sym (children x.span.kin.id), later)

module _ (f : SpanSlot → SpanSlot) (ids : (s : SpanSlot) → (f s).span.kin.id ≡ s.span.kin.id)
    (parents : (s : SpanSlot) → (f s).span.kin.parent ≡ s.span.kin.parent) (same : (s : SpanSlot) → (f s).children ≡ s.children) where
  same_children_if : (b : Bool) (j : ℕ) (x : SpanSlot) (xs ys : List SpanSlot) → children_of j ys ≡ children_of j xs →
      children_of j (if b then f x ∷ xs else x ∷ ys) ≡ children_of j (x ∷ xs)
  same_children_if true j x xs ys later = rw (parents x) refl
  same_children_if false j x xs ys later = ap (λ n. one_if (is_parent j x.span.kin.parent) + n) later

  same_children : (j : ℕ) (xs : List SpanSlot) (id : ℕ) → children_of j (changed slot_kin f xs id) ≡ children_of j xs
  same_children j [] id = refl
  same_children j (x ∷ xs) id = same_children_if (x.span.kin.id == id) j x xs (changed slot_kin f xs id) (same_children j xs id)

  pub count_kept : (xs : List SpanSlot) (id : ℕ) → CountChildren xs → CountChildren (changed slot_kin f xs id)
  count_kept [] id counts = tt
  count_kept (x ∷ xs) id counts =
      kept_if (x.span.kin.id == id) f x xs id ids parents same (λ j. same_children j xs id) counts (count_kept xs id counts.1)
