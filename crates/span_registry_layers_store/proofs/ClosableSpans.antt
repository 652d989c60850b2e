-- Which spans may not stay, and what each call makes of that.
use Rattle.std.proofs.Common.{◌≡◌, ◌≢◌, ◌⊎◌, inl, inr, ℕ, zero, suc, ◌+◌, ◌-◌, ◌<◌, ◌≤◌, ◌==◌, ◌||◌, nat_lt, if◌then◌else◌, List, [], ◌∷◌}
use Rattle.std.proofs.Common.{◌++◌, length, take, drop, get_or, Bool, true, false, Option, Some, None, refl, sym, ap, subst, ◌∙◌, arith}
use Rattle.std.specs.Prelude.{option_and_then}
use Rattle.std.proofs.lemmas.Bool.{false≢true, true≢false, eq-eqb, eqb-true, or_cases}
use Rattle.std.proofs.lemmas.Bool.Decides.{nat_tests}
use Rattle.span_registry_layers_store.specs.RegistryCalls.{ClosesTo, dropped}
use Rattle.span_registry_layers_store.specs.Lanes.{pushed, removed}
use Rattle.span_registry_layers_store.specs.Registries.{PlainSpan, kin_in}
use Rattle.span_registry_layers_store.specs.Spans.{AllStay, Rises, StayBut, changed, closed_of, found, has_child, is_entered, is_member}
use Rattle.span_registry_layers_store.specs.Spans.{is_parent, keep_if, keeps, open_of, parent_of, stays, unless, without_last}
use Rattle.span_registry_layers_store.proofs.ChangedSpan.{PreservesKinship, changed_child}
use Rattle.span_registry_layers_store.proofs.ClosedSpans.{settled_more, settled_none}
use Rattle.span_registry_layers_store.proofs.Entries.{without_last_is}
use Rattle.span_registry_layers_store.proofs.OpenSpans.{or_left, or_map, or_right}
use Rattle.span_registry_layers_store.proofs.SpanPlaces.{differs}
use Rattle.span_registry_layers_store.proofs.LanePushes.{pushed_more}
use Rattle.span_registry_layers_store.proofs.Sweeps.{all_stay_split, stays_more}

-- where the first part of a test fails, its second part passes
other_part : (a b : Bool) → a ≡ false → (a || b) ≡ true → b ≡ true
other_part true b fails either = absurd (true≢false fails)
other_part false b fails either = either

turned : (a b : ℕ) → (a == b) ≡ false → (b == a) ≡ false
turned a b apart = grind (arith, nat_tests, apart)

later_differs : (id least k : ℕ) → id < least → least ≤ k → (id == k) ≡ false
later_differs id least k low high = differs id k (λ same. omega (arith, low, high, same))

module _ (lanes : List (List ℕ)) where
  -- where each span stays, each does but any one
  pub stay_any : (out : Option ℕ) (ss : List PlainSpan) → StayBut kin_in None lanes ss → StayBut kin_in out lanes ss
  stay_any out [] stay = tt
  stay_any out (x ∷ xs) stay = (or_right (is_parent x.kin.id out) (stays kin_in lanes x xs) stay.0, stay_any out xs stay.1)

  -- a span of a lower id isn't among these
  above_stay : (id least : ℕ) (ss : List PlainSpan) → id < least → Rises kin_in least ss → StayBut kin_in (Some id) lanes ss →
      StayBut kin_in None lanes ss
  above_stay id least [] low rise stay = tt
  above_stay id least (x ∷ xs) low rise stay = (
    other_part (id == x.kin.id) (stays kin_in lanes x xs) (later_differs id least x.kin.id low rise.0) stay.0,
    above_stay id (x.kin.id + 1) xs (omega (arith, low, rise.0)) rise.1 stay.1,
  )

  kept_if : (is_here : Bool) (id : ℕ) (x : PlainSpan) (xs : List PlainSpan) → (x.kin.id == id) ≡ is_here →
      (if is_here then stays kin_in lanes x xs else keeps kin_in lanes xs id) ≡ true →
      Rises kin_in (x.kin.id + 1) xs → StayBut kin_in (Some id) lanes (x ∷ xs) →
      (keeps kin_in lanes xs id ≡ true → StayBut kin_in None lanes xs) → StayBut kin_in None lanes (x ∷ xs)
  kept_if true id x xs test kept rise stay later = let same : x.kin.id ≡ id = eqb-true x.kin.id id test in
      (kept, above_stay id (x.kin.id + 1) xs (omega (arith, same)) rise stay.1)
  kept_if false id x xs test kept rise stay later = (
    other_part (id == x.kin.id) (stays kin_in lanes x xs) (turned x.kin.id id test) stay.0,
    later kept,
  )

  -- where the one that might go stays, each does
  pub all_kept : (least id : ℕ) (ss : List PlainSpan) → Rises kin_in least ss → StayBut kin_in (Some id) lanes ss →
      keeps kin_in lanes ss id ≡ true → StayBut kin_in None lanes ss
  all_kept least id [] rise stay kept = tt
  all_kept least id (x ∷ xs) rise stay kept = kept_if (x.kin.id == id) id x xs refl kept rise.1 stay
      (all_kept (x.kin.id + 1) id xs rise.1 stay.1)

  -- where each stays, nothing closes
  pub none_closes : (ss : List PlainSpan) → StayBut kin_in None lanes ss → AllStay kin_in lanes ss
  none_closes [] stay = settled_none kin_in lanes
  none_closes (x ∷ xs) stay = settled_more kin_in lanes x xs (none_closes xs stay.1) stay.0

  -- and the other way round
  pub all_stay : (ss : List PlainSpan) → open_of kin_in lanes ss ≡ ss → StayBut kin_in None lanes ss
  all_stay [] all = tt
  all_stay (x ∷ xs) all = let parts = all_stay_split lanes x xs all in (parts.0, all_stay xs parts.1)

  goes_here : (x : PlainSpan) (xs : List PlainSpan) → stays kin_in lanes x xs ≡ false → AllStay kin_in lanes xs →
      ClosesTo lanes (x ∷ xs) xs x.kin.id
  unfolding open_of closed_of
  goes_here x xs goes all =
      let gone : stays kin_in lanes x (open_of kin_in lanes xs) ≡ false = ap (stays kin_in lanes x) all.left ∙ goes in
      record {
        span = x;
        same = refl;
        closed = rw (gone, all.closed) refl;
        left = rw gone refl;
        fewer = omega arith;
      }

  goes_later : (id : ℕ) (x : PlainSpan) (xs left : List PlainSpan) → ClosesTo lanes xs left id → ClosesTo lanes (x ∷ xs) (x ∷ left) id
  unfolding open_of closed_of
  goes_later id x xs left c = record {
    span = c.span;
    same = c.same;
    closed = ap (λ (ss : List PlainSpan). ss ++ unless (stays kin_in lanes x (open_of kin_in lanes xs)) x) c.closed
        ∙ ap (λ (o : List PlainSpan). c.span ∷ (closed_of kin_in lanes left ++ unless (stays kin_in lanes x o) x)) (sym c.left);
    left = ap (λ (o : List PlainSpan). keep_if (stays kin_in lanes x o) x o) c.left;
    fewer = let less = c.fewer in omega (arith, less);
  }

  goes_if : (is_here : Bool) (id : ℕ) (x : PlainSpan) (xs left : List PlainSpan) → (x.kin.id == id) ≡ is_here →
      (if is_here then stays kin_in lanes x xs else keeps kin_in lanes xs id) ≡ false →
      (id < x.kin.id + 1 → AllStay kin_in lanes xs) → (keeps kin_in lanes xs id ≡ false → ClosesTo lanes xs left id) →
      ClosesTo lanes (x ∷ xs) (if is_here then xs else x ∷ left) id
  goes_if true id x xs left test goes all later =
      let same : x.kin.id ≡ id = eqb-true x.kin.id id test in
      subst (λ (k : ℕ). ClosesTo lanes (x ∷ xs) xs k) same (goes_here x xs goes (all (omega (arith, same))))
  goes_if false id x xs left test goes all later = goes_later id x xs left (later goes)

  -- where the one that might go doesn't stay, it closes first
  pub goes_first : (least id : ℕ) (ss : List PlainSpan) → Rises kin_in least ss → StayBut kin_in (Some id) lanes ss →
      keeps kin_in lanes ss id ≡ false → ClosesTo lanes ss (dropped ss id) id
  goes_first least id [] rise stay goes = absurd (true≢false goes)
  goes_first least id (x ∷ xs) rise stay goes =
      goes_if (x.kin.id == id) id x xs (dropped xs id) refl goes
      (λ low. none_closes xs (above_stay id (x.kin.id + 1) xs low rise.1 stay.1))
      (goes_first (x.kin.id + 1) id xs rise.1 stay.1)

  -- the parent of the one that is taken out
  abbrev parent_in : Option PlainSpan → Option ℕ
  parent_in o = option_and_then (λ (s : PlainSpan). s.kin.parent) o

  child_if : (is_here : Bool) (k : ℕ) (x : PlainSpan) (xs left : List PlainSpan) (o : Option PlainSpan) →
      (is_parent k x.kin.parent || has_child kin_in xs k) ≡ true →
      (has_child kin_in xs k ≡ true → (is_parent k (parent_in o) || has_child kin_in left k) ≡ true) →
      (is_parent k (parent_in (if is_here then Some x else o)) || has_child kin_in (if is_here then xs else x ∷ left) k) ≡ true
  child_if true k x xs left o child later = child
  child_if false k x xs left o child later = elim (or_cases (is_parent k x.kin.parent) (has_child kin_in xs k) child) [
    | inl here ↦ or_right (is_parent k (parent_in o)) (is_parent k x.kin.parent || has_child kin_in left k)
        (or_left (is_parent k x.kin.parent) (has_child kin_in left k) here)
    | inr there ↦
        or_map (is_parent k (parent_in o)) (has_child kin_in left k) (is_parent k (parent_in o)) (is_parent k x.kin.parent ||
        has_child kin_in left k) (λ is. is)
        (or_right (is_parent k x.kin.parent) (has_child kin_in left k)) (later there)
  ]

  -- who had a child has one yet, or is the parent of the one that is taken out
  child_left : (id k : ℕ) (ss : List PlainSpan) → has_child kin_in ss k ≡ true →
      (is_parent k (parent_of kin_in ss id) || has_child kin_in (dropped ss id) k) ≡ true
  child_left id k [] child = absurd (false≢true child)
  child_left id k (x ∷ xs) child = child_if (x.kin.id == id) k x xs (dropped xs id) (found kin_in xs id) child (child_left id k xs)

  -- a span stays where one is taken out that isn't its child
  stays_left : (id : ℕ) (x : PlainSpan) (xs : List PlainSpan) → stays kin_in lanes x xs ≡ true →
      (is_parent x.kin.id (parent_of kin_in xs id) || stays kin_in lanes x (dropped xs id)) ≡ true
  stays_left id x xs stay = elim (or_cases (nat_lt 0 x.kin.handles) (is_entered lanes x.kin.id || has_child kin_in xs x.kin.id) stay) [
    | inl handle ↦ or_right (is_parent x.kin.id (parent_of kin_in xs id)) (stays kin_in lanes x (dropped xs id))
        (or_left (nat_lt 0 x.kin.handles) (is_entered lanes x.kin.id || has_child kin_in (dropped xs id) x.kin.id) handle)
    | inr held ↦ elim (or_cases (is_entered lanes x.kin.id) (has_child kin_in xs x.kin.id) held) [
      | inl entry ↦
          or_right (is_parent x.kin.id (parent_of kin_in xs id)) (stays kin_in lanes x (dropped xs id))
          (or_right (nat_lt 0 x.kin.handles) (is_entered lanes x.kin.id || has_child kin_in (dropped xs id) x.kin.id)
          (or_left (is_entered lanes x.kin.id) (has_child kin_in (dropped xs id) x.kin.id) entry))
      | inr child ↦
          or_map (is_parent x.kin.id (parent_of kin_in xs id)) (has_child kin_in (dropped xs id) x.kin.id)
          (is_parent x.kin.id (parent_of kin_in xs id)) (stays kin_in lanes x (dropped xs id)) (λ is. is)
          (λ there. or_right (nat_lt 0 x.kin.handles) (is_entered lanes x.kin.id || has_child kin_in (dropped xs id) x.kin.id)
          (or_right (is_entered lanes x.kin.id) (has_child kin_in (dropped xs id) x.kin.id) there))
          (child_left id x.kin.id xs child)
    ]
  ]

  after_if : (is_here : Bool) (id : ℕ) (x : PlainSpan) (xs left : List PlainSpan) (o : Option PlainSpan) → (x.kin.id == id) ≡ is_here →
      Rises kin_in (x.kin.id + 1) xs → StayBut kin_in (Some id) lanes (x ∷ xs) →
      (stays kin_in lanes x xs ≡ true → (is_parent x.kin.id (parent_in o) || stays kin_in lanes x left) ≡ true) →
      StayBut kin_in (parent_in o) lanes left →
      StayBut kin_in (parent_in (if is_here then Some x else o)) lanes (if is_here then xs else x ∷ left)
  after_if true id x xs left o test rise stay first later = let same : x.kin.id ≡ id = eqb-true x.kin.id id test in
      stay_any x.kin.parent xs (above_stay id (x.kin.id + 1) xs (omega (arith, same)) rise stay.1)
  after_if false id x xs left o test rise stay first later =
      (first (other_part (id == x.kin.id) (stays kin_in lanes x xs) (turned x.kin.id id test) stay.0), later)

  -- after a close each span stays but the parent of the one that closed
  pub stay_after : (least id : ℕ) (ss : List PlainSpan) → Rises kin_in least ss → StayBut kin_in (Some id) lanes ss →
      StayBut kin_in (parent_of kin_in ss id) lanes (dropped ss id)
  stay_after least id [] rise stay = tt
  stay_after least id (x ∷ xs) rise stay =
      after_if (x.kin.id == id) id x xs (dropped xs id) (found kin_in xs id) refl rise.1 stay (stays_left id x xs)
      (stay_after (x.kin.id + 1) id xs rise.1 stay.1)

  -- with one more that has a handle
  pub stay_more : (out : Option ℕ) (ss : List PlainSpan) (s : PlainSpan) → nat_lt 0 s.kin.handles ≡ true → StayBut kin_in out lanes ss →
      StayBut kin_in out lanes (ss ++ s ∷ [])
  stay_more out [] s handle stay = (
    or_right (is_parent s.kin.id out) (stays kin_in lanes s [])
        (or_left (nat_lt 0 s.kin.handles) (is_entered lanes s.kin.id || false) handle),
    tt,
  )
  stay_more out (x ∷ xs) s handle stay = (
    or_map (is_parent x.kin.id out) (stays kin_in lanes x xs) (is_parent x.kin.id out) (stays kin_in lanes x (xs ++ s ∷ [])) (λ is. is)
        (stays_more lanes x s xs) stay.0,
    stay_more out xs s handle stay.1,
  )

  module _ (f : PlainSpan → PlainSpan) (k : PreservesKinship f) (out : Option ℕ) (id : ℕ)
      (here : (s : PlainSpan) (later : List PlainSpan) → s.kin.id ≡ id → (is_parent s.kin.id out || stays kin_in lanes s later) ≡ true →
      (is_parent (f s).kin.id out || stays kin_in lanes (f s) later) ≡ true) where
    changed_if : (is_here : Bool) (x : PlainSpan) (xs : List PlainSpan) → (x.kin.id == id) ≡ is_here → StayBut kin_in out lanes (x ∷ xs) →
        StayBut kin_in out lanes (changed kin_in f xs id) →
        StayBut kin_in out lanes (if is_here then f x ∷ xs else x ∷ changed kin_in f xs id)
    changed_if true x xs test stay later = (here x xs (eqb-true x.kin.id id test) stay.0, stay.1)
    changed_if false x xs test stay later = (
      ap (λ (b : Bool). is_parent x.kin.id out || (nat_lt 0 x.kin.handles || (is_entered lanes x.kin.id || b)))
          (changed_child f k xs id x.kin.id) ∙ stay.0,
      later,
    )

    -- with a span changed
    pub stay_changed : (ss : List PlainSpan) → StayBut kin_in out lanes ss → StayBut kin_in out lanes (changed kin_in f ss id)
    stay_changed [] stay = tt
    stay_changed (x ∷ xs) stay = changed_if (x.kin.id == id) x xs refl stay (stay_changed xs stay.1)

  -- a change that leaves a handle where there is one
  pub stay_held : (f : PlainSpan → PlainSpan) (k : PreservesKinship f) →
      ((s : PlainSpan) → nat_lt 0 s.kin.handles ≡ true → nat_lt 0 (f s).kin.handles ≡ true) →
      (out : Option ℕ) (id : ℕ) (ss : List PlainSpan) → StayBut kin_in out lanes ss → StayBut kin_in out lanes (changed kin_in f ss id)
  stay_held f k held out id = stay_changed f k out id (λ s later same stay.
      or_map (is_parent s.kin.id out) (stays kin_in lanes s later) (is_parent (f s).kin.id out) (stays kin_in lanes (f s) later)
      (λ is. ap (λ (n : ℕ). is_parent n out) (k.same_id s) ∙ is)
      (or_map (nat_lt 0 s.kin.handles) (is_entered lanes s.kin.id || has_child kin_in later s.kin.id) (nat_lt 0 (f s).kin.handles)
      (is_entered lanes (f s).kin.id || has_child kin_in later (f s).kin.id)
      (held s) (λ other. ap (λ (n : ℕ). is_entered lanes n || has_child kin_in later n) (k.same_id s) ∙ other)) stay)

  -- any change of the one that may go
  pub stay_given : (f : PlainSpan → PlainSpan) (k : PreservesKinship f) (id : ℕ) (ss : List PlainSpan) → StayBut kin_in (Some id) lanes ss →
      StayBut kin_in (Some id) lanes (changed kin_in f ss id)
  stay_given f k id = stay_changed f k (Some id) id (λ s later same stay. or_left (id == (f s).kin.id) (stays kin_in lanes (f s) later)
      (eq-eqb id (f s).kin.id (sym (k.same_id s ∙ same))))

-- on other lanes, where all that were entered are, but the one that may go
stay_lanes : (lanes others : List (List ℕ)) (out : Option ℕ) →
    ((id : ℕ) → is_parent id out ≡ false → is_entered lanes id ≡ true → is_entered others id ≡ true) → (ss : List PlainSpan) →
    StayBut kin_in out lanes ss → StayBut kin_in out others ss
stay_lanes lanes others out entries [] stay = tt
stay_lanes lanes others out entries (x ∷ xs) stay = (
  stay_one (is_parent x.kin.id out) (nat_lt 0 x.kin.handles) (is_entered lanes x.kin.id) (is_entered others x.kin.id)
      (has_child kin_in xs x.kin.id) (entries x.kin.id) stay.0,
  stay_lanes lanes others out entries xs stay.1,
)
  where
    stay_one : (is_out handle before after child : Bool) → (is_out ≡ false → before ≡ true → after ≡ true) →
        (is_out || (handle || (before || child))) ≡ true → (is_out || (handle || (after || child))) ≡ true
    stay_one true handle before after child entry stay = refl
    stay_one false true before after child entry stay = refl
    stay_one false false true after child entry stay = or_left after child (entry refl refl)
    stay_one false false false after child entry stay = or_right after child stay

-- with one more entry
pub stay_entered : (lanes : List (List ℕ)) (lane id : ℕ) (out : Option ℕ) (ss : List PlainSpan) → StayBut kin_in out lanes ss →
    StayBut kin_in out (pushed lane id lanes) ss
stay_entered lanes lane id out = stay_lanes lanes (pushed lane id lanes) out (λ other apart entry. pushed_more lanes lane id other entry)

-- without an entry of an id the others are members
member_cut : (lane : List ℕ) (place id other : ℕ) → place < length lane → get_or lane place 0 ≡ id → (id == other) ≡ false →
    is_member lane other ≡ true → is_member (take place lane ++ drop (suc place) lane) other ≡ true
member_cut [] place id other within here apart member = absurd (omega (arith, within))
member_cut (x ∷ xs) zero id other within here apart member = other_part (x == other) (is_member xs other) (ap (λ (n : ℕ). n == other) here ∙
    apart) member
member_cut (x ∷ xs) (suc place) id other within here apart member =
    or_map (x == other) (is_member xs other) (x == other) (is_member (take place xs ++ drop (suc place) xs) other) (λ is. is)
    (member_cut xs place id other (omega (arith, within)) here apart) member

abbrev LastAt : ℕ → List ℕ → ℕ → Type 0
LastAt id lane place = (place < length lane) × (get_or lane place 0 ≡ id) ×
    ((k : ℕ) → suc place ≤ k → k < length lane → get_or lane k 0 ≢ id)

abbrev Nowhere : ℕ → List ℕ → Type 0
Nowhere id lane = (k : ℕ) → k < length lane → get_or lane k 0 ≢ id

at_front : (id x : ℕ) (xs : List ℕ) → Nowhere id xs → (k : ℕ) → suc zero ≤ k → k < length (x ∷ xs) → get_or (x ∷ xs) k 0 ≢ id
at_front id x xs none zero low within = absurd (omega (arith, low))
at_front id x xs none (suc k) low within = none k (omega (arith, within))

behind : (id x : ℕ) (xs : List ℕ) (place : ℕ) → LastAt id xs place → (k : ℕ) → suc (suc place) ≤ k → k < length (x ∷ xs) →
    get_or (x ∷ xs) k 0 ≢ id
behind id x xs place last zero low within = absurd (omega (arith, low))
behind id x xs place last (suc k) low within = last.2 k (omega (arith, low)) (omega (arith, within))

nowhere_more : (id x : ℕ) (xs : List ℕ) → (x == id) ≡ false → Nowhere id xs → (k : ℕ) → k < length (x ∷ xs) → get_or (x ∷ xs) k 0 ≢ id
nowhere_more id x xs apart none zero within = λ same. absurd (true≢false (sym (eq-eqb x id same) ∙ apart))
nowhere_more id x xs apart none (suc k) within = none k (omega (arith, within))

last_if : (is_here : Bool) (id x : ℕ) (xs : List ℕ) → (x == id) ≡ is_here → Nowhere id xs → Nowhere id (x ∷ xs) ⊎
    ((place : ℕ) × LastAt id (x ∷ xs) place)
last_if true id x xs test none = inr (zero, (omega arith, eqb-true x id test, at_front id x xs none))
last_if false id x xs test none = inl (nowhere_more id x xs test none)

-- the last entry of an id, where there is one
last_entry : (id : ℕ) (lane : List ℕ) → Nowhere id lane ⊎ ((place : ℕ) × LastAt id lane place)
last_entry id [] = inl (λ k within. absurd (omega (arith, within)))
last_entry id (x ∷ xs) = elim (last_entry id xs) [
  | inl none ↦ last_if (x == id) id x xs refl none
  | inr last ↦ inr (suc last.0, (let within = last.1.0 in omega (arith, within), last.1.1, behind id x xs last.0 last.1))
]

-- without the last entry of an id the others are members
member_stays : (id other : ℕ) (lane : List ℕ) → (id == other) ≡ false → is_member lane other ≡ true →
    is_member (without_last id lane) other ≡ true
member_stays id other lane apart member = elim (last_entry id lane) [
  | inl none ↦
      let whole : without_last id lane ≡ take (0 - 1) lane ++ drop 0 lane = without_last_is id lane 0 (omega arith)
      (λ k low within. none k within) (λ some. absurd (omega (arith, some))) in
      let zero_less : 0 - 1 ≡ 0 = omega arith in
      ap (λ (l : List ℕ). is_member l other) (whole ∙ ap (λ (n : ℕ). take n lane ++ lane) zero_less) ∙ member
  | inr last ↦
      let back : suc last.0 - 1 ≡ last.0 = omega arith in
      let cut : without_last id lane ≡ take (suc last.0 - 1) lane ++ drop (suc last.0) lane =
      without_last_is id lane (suc last.0) (let within = last.1.0 in omega (arith, within)) last.1.2
      (λ some. ap (λ (n : ℕ). get_or lane n 0) back ∙ last.1.1) in
      ap (λ (l : List ℕ). is_member l other) (cut ∙ ap (λ (n : ℕ). take n lane ++ drop (suc last.0) lane) back) ∙
      member_cut lane last.0 id other last.1.0 last.1.1 apart member
]

entered_stays : (lanes : List (List ℕ)) (lane id other : ℕ) → (id == other) ≡ false → is_entered lanes other ≡ true →
    is_entered (removed lane id lanes) other ≡ true
entered_stays [] lane id other apart entry = absurd (false≢true entry)
entered_stays (l ∷ ls) zero id other apart entry =
    or_map (is_member l other) (is_entered ls other) (is_member (without_last id l) other) (is_entered ls other)
    (member_stays id other l apart) (λ later. later) entry
entered_stays (l ∷ ls) (suc n) id other apart entry =
    or_map (is_member l other) (is_entered ls other) (is_member l other) (is_entered (removed n id ls) other) (λ here. here)
    (entered_stays ls n id other apart) entry

-- without an entry of the one that may go
pub stay_exited : (lanes : List (List ℕ)) (lane id : ℕ) (ss : List PlainSpan) → StayBut kin_in (Some id) lanes ss →
    StayBut kin_in (Some id) (removed lane id lanes) ss
stay_exited lanes lane id = stay_lanes lanes (removed lane id lanes) (Some id)
    (λ other apart entry. entered_stays lanes lane id other apart entry)
