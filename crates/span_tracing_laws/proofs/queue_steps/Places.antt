-- Places where a value stands, and calls on what stands there.
use Rattle.std.proofs.Common.{◌≡◌, ◌∙◌, ◌==◌, ℕ, zero, suc, List, [], ◌∷◌, false, Option, Some, None, arith, refl, sym, ap, subst}
use Rattle.std.proofs.Common.{slice_get, slice_set}
use Rattle.span_tracing_outputs.proofs.ListPlaces.{set_other, set_own, stands_within}

-- a place where a value may stand, and get another one
pub record Place (V A : Type 0) : Type 0 where
  pub get : V → Option A
  pub put : V → A → V
  pub own : (v : V) (x y : A) → get v ≡ Some x → get (put v y) ≡ Some y
  pub again : (v : V) (x y z : A) → get v ≡ Some x → put (put v y) z ≡ put v z

-- two of them, neither of which changes with the other
pub record Apart {V A B : Type 0} (p : Place V A) (q : Place V B) : Type 0 where
  pub second_stays : (v : V) (x y : A) → p.get v ≡ Some x → q.get (p.put v y) ≡ q.get v
  pub first_stays : (v : V) (x y : B) → q.get v ≡ Some x → p.get (q.put v y) ≡ p.get v
  pub turn : (v : V) (x y : A) (z t : B) → p.get v ≡ Some x → q.get v ≡ Some z → q.put (p.put v y) t ≡ p.put (q.put v t) y

-- places of a list
pub set_again : {A : Type 0} (xs : List A) (i : ℕ) (y z : A) → slice_set (slice_set xs i y) i z ≡ slice_set xs i z
set_again [] i y z = refl
set_again (x ∷ xs) zero y z = refl
set_again (x ∷ xs) (suc i) y z = ap (λ ys. x ∷ ys) (set_again xs i y z)

pub set_turn : {A : Type 0} (xs : List A) (i j : ℕ) (y z : A) → (j == i) ≡ false →
    slice_set (slice_set xs i y) j z ≡ slice_set (slice_set xs j z) i y
set_turn [] i j y z apart = refl
set_turn (x ∷ xs) zero zero y z apart = absurd (cc)
set_turn (x ∷ xs) zero (suc j) y z apart = refl
set_turn (x ∷ xs) (suc i) zero y z apart = refl
set_turn (x ∷ xs) (suc i) (suc j) y z apart = ap (λ ys. x ∷ ys) (set_turn xs i j y z (grind arith))

pub turned : (i j : ℕ) → (j == i) ≡ false → (i == j) ≡ false
turned i j apart = grind arith

abbrev pub slot : {A : Type 0} → ℕ → Place (List A) A
slot i = record {
  get = λ xs. slice_get xs i;
  put = λ xs y. slice_set xs i y;
  own = λ xs x y is. set_own xs i y (stands_within xs i x is);
  again = λ xs x y z is. set_again xs i y z;
}

module _ {V A R : Type 0} (missing : R) (p : Place V A) where
  -- what stands at a place is called; where nothing stands there, that is told
  abbrev pub CalledIf : (A → R → A → Type 0) → Option A → V → R → V → Type 0
  CalledIf becomes None v r w = (r ≡ missing) × (w ≡ v)
  CalledIf becomes (Some x) v r w = (y : A) × becomes x r y × (w ≡ p.put v y)

  abbrev pub Called : (A → R → A → Type 0) → V → R → V → Type 0
  Called becomes v r w = CalledIf becomes (p.get v) v r w

  none_called : (becomes : A → R → A → Type 0) (v : V) → p.get v ≡ None → Called becomes v missing v
  none_called becomes v none = subst (λ (o : Option A). CalledIf becomes o v missing v) (sym none) (refl, refl)

  some_called : (becomes : A → R → A → Type 0) (v : V) (x y : A) (r : R) → p.get v ≡ Some x → becomes x r y →
      Called becomes v r (p.put v y)
  some_called becomes v x y r there goes =
      subst (λ (o : Option A). CalledIf becomes o v r (p.put v y)) (sym there) (y, goes, refl)

  -- it is called where it stands
  pub called_there : (becomes : A → R → A → Type 0) (v : V) (x : A) (r : R) (w : V) → p.get v ≡ Some x → Called becomes v r w →
      (y : A) × becomes x r y × (w ≡ p.put v y)
  called_there becomes v x r w there goes = subst (λ (o : Option A). CalledIf becomes o v r w) there goes

  -- two calls on one place
  module _ (first second : A → R → A → Type 0)
      (turns : (x y z : A) (r s : R) → first x r y → second y s z → (t : A) × second x s t × first t r z) where
    turned_if : (o : Option A) (u v w : V) (r s : R) → p.get u ≡ o → CalledIf first o u r v → Called second v s w →
        (t : V) × Called second u s t × Called first t r w
    turned_if None u v w r s none one goes =
        let still : Called second u s w = subst (λ (x : V). Called second x s w) one.1 goes in
        let two : (s ≡ missing) × (w ≡ u) = subst (λ (o : Option A). CalledIf second o u s w) none still in (
          u,
          subst (λ (x : R). Called second u x u) (sym two.0) (none_called second u none),
          subst (λ (x : V). Called first u r x) (sym two.1)
              (subst (λ (x : R). Called first u x u) (sym one.0) (none_called first u none)),
        )
    turned_if (Some x) u v w r s there one goes =
        let y = one.0 in
        let put : p.get v ≡ Some y = ap p.get one.2 ∙ p.own u x y there in
        let two = called_there second v y s w put goes in
        let z = two.0 in
        let turn = turns x y z r s one.1 two.1 in
        let t = turn.0 in
        let end : w ≡ p.put (p.put u t) z =
        two.2 ∙ ap (λ (k : V). p.put k z) one.2 ∙ p.again u x y z there ∙ sym (p.again u x t z there) in (
          p.put u t,
          some_called second u x t s there turn.1,
          subst (λ (k : V). Called first (p.put u t) r k) (sym end) (some_called first (p.put u t) t z r (p.own u x t there) turn.2),
        )

    pub turned_here : (u v w : V) (r s : R) → Called first u r v → Called second v s w → (t : V) × Called second u s t × Called first t r w
    turned_here u v w r s one two = turned_if (p.get u) u v w r s refl one two

-- calls on two places
module _ {V A B R : Type 0} (missing : R) (p : Place V A) (q : Place V B) (apart : Apart p q) (first : A → R → A → Type 0)
    (second : B → R → B → Type 0) where
  both_if : (o : Option A) (e : Option B) (u v w : V) (r s : R) → p.get u ≡ o → q.get u ≡ e → CalledIf missing p first o u r v →
      Called missing q second v s w → (t : V) × Called missing q second u s t × Called missing p first t r w
  both_if None None u v w r s none empty one goes =
      let still : Called missing q second u s w = subst (λ (x : V). Called missing q second x s w) one.1 goes in
      let two : (s ≡ missing) × (w ≡ u) = subst (λ (e : Option B). CalledIf missing q second e u s w) empty still in (
        w,
        still,
        subst (λ (x : V). Called missing p first x r x) (sym two.1)
            (subst (λ (x : R). Called missing p first u x u) (sym one.0) (none_called missing p first u none)),
      )
  both_if None (Some z) u v w r s none there one goes =
      let still : Called missing q second u s w = subst (λ (x : V). Called missing q second x s w) one.1 goes in
      let two = called_there missing q second u z s w there still in
      let gone : p.get w ≡ None = ap p.get two.2 ∙ apart.first_stays u z two.0 there ∙ none in (
        w,
        still,
        subst (λ (x : R). Called missing p first w x w) (sym one.0) (none_called missing p first w gone),
      )
  both_if (Some x) None u v w r s there empty one goes =
      let y = one.0 in
      let gone : q.get v ≡ None = ap q.get one.2 ∙ apart.second_stays u x y there ∙ empty in
      let two : (s ≡ missing) × (w ≡ v) = subst (λ (e : Option B). CalledIf missing q second e v s w) gone goes in (
        u,
        subst (λ (k : R). Called missing q second u k u) (sym two.0) (none_called missing q second u empty),
        subst (λ (k : V). Called missing p first u r k) (sym (two.1 ∙ one.2)) (some_called missing p first u x y r there one.1),
      )
  both_if (Some x) (Some z) u v w r s there too one goes =
      let y = one.0 in
      let still : q.get v ≡ Some z = ap q.get one.2 ∙ apart.second_stays u x y there ∙ too in
      let two = called_there missing q second v z s w still goes in
      let t = two.0 in
      let stays : p.get (q.put u t) ≡ Some x = apart.first_stays u z t too ∙ there in
      let end : w ≡ p.put (q.put u t) y = two.2 ∙ ap (λ (k : V). q.put k t) one.2 ∙ apart.turn u x y z t there too in (
        q.put u t,
        some_called missing q second u z t s too two.1,
        subst (λ (k : V). Called missing p first (q.put u t) r k) (sym end) (some_called missing p first (q.put u t) x y r stays one.1),
      )

  pub turned_apart : (u v w : V) (r s : R) → Called missing p first u r v → Called missing q second v s w →
      (t : V) × Called missing q second u s t × Called missing p first t r w
  turned_apart u v w r s one two = both_if (p.get u) (q.get u) u v w r s refl refl one two

pub slots_apart : {A : Type 0} (i j : ℕ) → (j == i) ≡ false → Apart (slot {A = A} i) (slot {A = A} j)
slots_apart {A} i j apart = record {
  second_stays = λ xs x y is. set_other xs i j y apart;
  first_stays = λ xs x y is. set_other xs j i y (turned i j apart);
  turn = λ xs x y z t is too. set_turn xs i j y t apart;
}
