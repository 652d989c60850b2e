-- What lists of stacks hold after one of them was changed, added or taken away.
use Rattle.std.proofs.Common.{◌≡◌, inl, inr, ℕ, ◌+◌, ◌<◌, ◌==◌, List, [], ◌∷◌, ◌++◌, true, Option, Some, None, refl}
use Rattle.std.proofs.Common.{sym, ap, ◌∙◌, arith, is_some, nat_le}
use Rattle.std.proofs.lemmas.Bool.{cases_Bool, cases_eq, eq-eqb, false≢true, leb-false, leb-true, ne_eqb}
use Rattle.std.proofs.lemmas.Option.{none-some, same_Some}
use Rattle.span_tracing_skeleton.specs.Acting.{changed, held, let_go, let_go_at, one_less, one_more, without}
use Rattle.span_tracing_skeleton.specs.Counting.{AreNumbered, holds_at, holds_of, one_if}
use Rattle.span_tracing_skeleton.specs.Looking.{leads_to, stack_with}
use Rattle.span_tracing_skeleton.specs.Skeleton.{HeldStack}

pub some_of : {P : Type 0} (o : Option HeldStack) → is_some o ≡ true → ((k : HeldStack) → o ≡ Some k → P) → P
some_of None some then = absurd (false≢true some)
some_of (Some k) some then = then k refl

-- a change that leaves numbers
abbrev pub LeavesNumbers : (HeldStack → HeldStack) → Type 0
LeavesNumbers f = (k : HeldStack) → (f k).number ≡ k.number

first_with : (stack : ℕ) (k : HeldStack) (ks : List HeldStack) → k.number ≡ stack → stack_with stack (k ∷ ks) ≡ Some k
first_with stack k ks same = rw (eq-eqb k.number stack same) refl

later_with : (stack : ℕ) (k : HeldStack) (ks : List HeldStack) → (k.number ≡ stack → ⊥) → stack_with stack (k ∷ ks) ≡ stack_with stack ks
later_with stack k ks other = rw (ne_eqb k.number stack other) refl

first_changed : (stack : ℕ) (f : HeldStack → HeldStack) (k : HeldStack) (ks : List HeldStack) → k.number ≡ stack →
    changed stack f (k ∷ ks) ≡ f k ∷ ks
first_changed stack f k ks same = rw (eq-eqb k.number stack same) refl

later_changed : (stack : ℕ) (f : HeldStack → HeldStack) (k : HeldStack) (ks : List HeldStack) → (k.number ≡ stack → ⊥) →
    changed stack f (k ∷ ks) ≡ k ∷ changed stack f ks
later_changed stack f k ks other = rw (ne_eqb k.number stack other) refl

pub changed_same : (stack : ℕ) (f : HeldStack → HeldStack) → LeavesNumbers f → (ks : List HeldStack) (k : HeldStack) →
    stack_with stack ks ≡ Some k → stack_with stack (changed stack f ks) ≡ Some (f k)
changed_same stack f leaves [] k here = absurd (none-some k here)
changed_same stack f leaves (j ∷ js) k here = elim (cases_eq j.number stack) [
  | inl same ↦
      rw (first_changed stack f j js same, first_with stack (f j) js (leaves j ∙ same))
      (ap (λ (k : HeldStack). Some (f k)) (same_Some j k (sym (first_with stack j js same) ∙ here)))
  | inr other ↦
      rw (later_changed stack f j js other, later_with stack j (changed stack f js) other)
      (changed_same stack f leaves js k (sym (later_with stack j js other) ∙ here))
]

pub changed_other : (stack n : ℕ) (f : HeldStack → HeldStack) → LeavesNumbers f → (n ≡ stack → ⊥) → (ks : List HeldStack) →
    stack_with n (changed stack f ks) ≡ stack_with n ks
changed_other stack n f leaves apart [] = refl
changed_other stack n f leaves apart (j ∷ js) = elim (cases_eq j.number stack) [
  | inl same ↦
      rw (
        first_changed stack f j js same,
        later_with n (f j) js (λ e. apart (sym e ∙ leaves j ∙ same)),
        later_with n j js (λ e. apart (sym e ∙ same)),
      ) refl
  | inr other ↦ rw (later_changed stack f j js other) (elim (cases_eq j.number n) [
    | inl here ↦ rw (first_with n j (changed stack f js) here, first_with n j js here) refl
    | inr there ↦ rw (later_with n j (changed stack f js) there, later_with n j js there) (changed_other stack n f leaves apart js)
  ])
]

pub changed_none : (stack : ℕ) (f : HeldStack → HeldStack) (ks : List HeldStack) → stack_with stack ks ≡ None → changed stack f ks ≡ ks
changed_none stack f [] none = refl
changed_none stack f (j ∷ js) none = elim (cases_eq j.number stack) [
  | inl same ↦ absurd (none-some j (sym none ∙ first_with stack j js same))
  | inr other ↦
      rw (later_changed stack f j js other)
      (ap (λ (ks : List HeldStack). j ∷ ks) (changed_none stack f js (sym (later_with stack j js other) ∙ none)))
]

absent_changed : (stack n : ℕ) (f : HeldStack → HeldStack) → LeavesNumbers f → (ks : List HeldStack) → stack_with n ks ≡ None →
    stack_with n (changed stack f ks) ≡ None
absent_changed stack n f leaves ks none = elim (cases_eq n stack) [
  | inl same ↦ rw (changed_none stack f ks (ap (λ (n : ℕ). stack_with n ks) (sym same) ∙ none)) none
  | inr other ↦ changed_other stack n f leaves other ks ∙ none
]

pub numbered_changed : (given stack : ℕ) (f : HeldStack → HeldStack) → LeavesNumbers f → (ks : List HeldStack) →
    ((k : HeldStack) → stack_with stack ks ≡ Some k → 0 < (f k).holds) → AreNumbered given ks → AreNumbered given (changed stack f ks)
numbered_changed given stack f leaves [] positive numbers = tt
numbered_changed given stack f leaves (j ∷ js) positive numbers = elim (cases_eq j.number stack) [
  | inl same ↦ rw (first_changed stack f j js same) (
    rw (leaves j) numbers.0,
    positive j (first_with stack j js same),
    rw (leaves j) numbers.2,
    numbers.3,
  )
  | inr other ↦ rw (later_changed stack f j js other) (
    numbers.0,
    numbers.1,
    absent_changed stack j.number f leaves js numbers.2,
    numbered_changed given stack f leaves js (λ k here. positive k (later_with stack j js other ∙ here)) numbers.3,
  )
]

first_gone : (stack : ℕ) (k : HeldStack) (ks : List HeldStack) → k.number ≡ stack → without stack (k ∷ ks) ≡ ks
first_gone stack k ks same = rw (eq-eqb k.number stack same) refl

later_gone : (stack : ℕ) (k : HeldStack) (ks : List HeldStack) → (k.number ≡ stack → ⊥) → without stack (k ∷ ks) ≡ k ∷ without stack ks
later_gone stack k ks other = rw (ne_eqb k.number stack other) refl

pub without_same : (given stack : ℕ) (ks : List HeldStack) → AreNumbered given ks → stack_with stack (without stack ks) ≡ None
without_same given stack [] numbers = refl
without_same given stack (j ∷ js) numbers = elim (cases_eq j.number stack) [
  | inl same ↦ rw (first_gone stack j js same) (ap (λ (n : ℕ). stack_with n js) (sym same) ∙ numbers.2)
  | inr other ↦
      rw (later_gone stack j js other, later_with stack j (without stack js) other) (without_same given stack js numbers.3)
]

pub without_other : (stack n : ℕ) → (n ≡ stack → ⊥) → (ks : List HeldStack) → stack_with n (without stack ks) ≡ stack_with n ks
without_other stack n apart [] = refl
without_other stack n apart (j ∷ js) = elim (cases_eq j.number stack) [
  | inl same ↦ rw (first_gone stack j js same, later_with n j js (λ e. apart (sym e ∙ same))) refl
  | inr other ↦ rw (later_gone stack j js other) (elim (cases_eq j.number n) [
    | inl here ↦ rw (first_with n j (without stack js) here, first_with n j js here) refl
    | inr there ↦ rw (later_with n j (without stack js) there, later_with n j js there) (without_other stack n apart js)
  ])
]

absent_without : (given stack n : ℕ) (ks : List HeldStack) → AreNumbered given ks → stack_with n ks ≡ None →
    stack_with n (without stack ks) ≡ None
absent_without given stack n ks numbers none = elim (cases_eq n stack) [
  | inl same ↦ rw same (without_same given stack ks numbers)
  | inr other ↦ without_other stack n other ks ∙ none
]

pub numbered_without : (given stack : ℕ) (ks : List HeldStack) → AreNumbered given ks → AreNumbered given (without stack ks)
numbered_without given stack [] numbers = tt
numbered_without given stack (j ∷ js) numbers = elim (cases_eq j.number stack) [
  | inl same ↦ rw (first_gone stack j js same) numbers.3
  | inr other ↦ rw (later_gone stack j js other) (
    numbers.0,
    numbers.1,
    absent_without given stack j.number js numbers.3 numbers.2,
    numbered_without given stack js numbers.3,
  )
]

pub number_below : (given stack : ℕ) (ks : List HeldStack) (k : HeldStack) → AreNumbered given ks → stack_with stack ks ≡ Some k →
    stack < given
number_below given stack [] k numbers here = absurd (none-some k here)
number_below given stack (j ∷ js) k numbers here = elim (cases_eq j.number stack) [
  | inl same ↦ rw (← same) numbers.0
  | inr other ↦ number_below given stack js k numbers.3 (sym (later_with stack j js other) ∙ here)
]

pub held_by_some : (given stack : ℕ) (ks : List HeldStack) (k : HeldStack) → AreNumbered given ks → stack_with stack ks ≡ Some k →
    0 < k.holds
held_by_some given stack [] k numbers here = absurd (none-some k here)
held_by_some given stack (j ∷ js) k numbers here = elim (cases_eq j.number stack) [
  | inl same ↦ rw (← same_Some j k (sym (first_with stack j js same) ∙ here)) numbers.1
  | inr other ↦ held_by_some given stack js k numbers.3 (sym (later_with stack j js other) ∙ here)
]

-- with a stack of a number that wasn't given before
more_absent : (n : ℕ) (ks : List HeldStack) (k : HeldStack) → (k.number ≡ n → ⊥) → stack_with n (ks ++ k ∷ []) ≡ stack_with n ks
more_absent n [] k other = later_with n k [] other
more_absent n (j ∷ js) k other = elim (cases_eq j.number n) [
  | inl here ↦ rw (first_with n j (js ++ k ∷ []) here, first_with n j js here) refl
  | inr there ↦ rw (later_with n j (js ++ k ∷ []) there, later_with n j js there) (more_absent n js k other)
]

more_here : (n : ℕ) (ks : List HeldStack) (k : HeldStack) → k.number ≡ n → stack_with n ks ≡ None → stack_with n (ks ++ k ∷ []) ≡ Some k
more_here n [] k same none = first_with n k [] same
more_here n (j ∷ js) k same none = elim (cases_eq j.number n) [
  | inl here ↦ absurd (none-some j (sym none ∙ first_with n j js here))
  | inr there ↦
      rw (later_with n j (js ++ k ∷ []) there) (more_here n js k same (sym (later_with n j js there) ∙ none))
]

pub numbered_more : (given : ℕ) (ks : List HeldStack) (k : HeldStack) → k.number ≡ given → 0 < k.holds → AreNumbered given ks →
    AreNumbered (given + 1) (ks ++ k ∷ [])
numbered_more given [] k same positive numbers = (omega (arith, same), positive, refl, tt)
numbered_more given (j ∷ js) k same positive numbers = (
  omega (arith, numbers.0),
  numbers.1,
  more_absent j.number js k (λ e. absurd (omega (arith, e, same, numbers.0))) ∙ numbers.2,
  numbered_more given js k same positive numbers.3,
)

none_from : (o : Option HeldStack) → ((k : HeldStack) → o ≡ Some k → ⊥) → o ≡ None
none_from None no_stack = refl
none_from (Some k) no_stack = absurd (no_stack k refl)

-- the next number is no stack's yet
pub next_absent : (given : ℕ) (ks : List HeldStack) → AreNumbered given ks → stack_with given ks ≡ None
next_absent given ks numbers = none_from (stack_with given ks) (λ k here. let below = number_below given given ks k numbers here in
    absurd (omega (arith, below)))

-- one hold more or less is counted at the stack's number alone
same_number : (n stack : ℕ) → n ≡ stack → one_if (n == stack) ≡ 1
same_number n stack same = rw (eq-eqb n stack same) refl

other_number : (n stack : ℕ) → (n ≡ stack → ⊥) → one_if (n == stack) ≡ 0
other_number n stack other = rw (ne_eqb n stack other) refl

held_more_at : (n stack : ℕ) (ks : List HeldStack) (k : HeldStack) → stack_with stack ks ≡ Some k →
    holds_at n (changed stack one_more ks) ≡ holds_at n ks + one_if (n == stack)
held_more_at n stack ks k here = elim (cases_eq n stack) [
  | inl same ↦ rw (same_number n stack same, same, changed_same stack one_more (λ k. refl) ks k here, here) refl
  | inr other ↦
      let more = ap holds_of (changed_other stack n one_more (λ k. refl) other ks) in
      let none = other_number n stack other in
      omega (arith, more, none)
]

pub held_more : (n : ℕ) (o : Option ℕ) (ks : List HeldStack) → ((stack : ℕ) → o ≡ Some stack → is_some (stack_with stack ks) ≡ true) →
    holds_at n (held o ks) ≡ holds_at n ks + one_if (leads_to o n)
held_more n None ks there = omega arith
held_more n (Some stack) ks there = some_of (stack_with stack ks) (there stack refl) (held_more_at n stack ks)

pub numbered_held : (given : ℕ) (o : Option ℕ) (ks : List HeldStack) → AreNumbered given ks → AreNumbered given (held o ks)
numbered_held given None ks numbers = numbers
numbered_held given (Some stack) ks numbers = numbered_changed given stack one_more (λ k. refl) ks (λ k here. omega arith) numbers

let_go_less_at : (given n stack : ℕ) (ks : List HeldStack) (k : HeldStack) → AreNumbered given ks → stack_with stack ks ≡ Some k →
    holds_at n (let_go_at stack ks (Some k)) + one_if (n == stack) ≡ holds_at n ks
let_go_less_at given n stack ks k numbers here =
    let positive = held_by_some given stack ks k numbers here in
    elim (cases_Bool (nat_le k.holds 1)) [
      | inl last ↦
          let one = leb-true k.holds 1 last in
          rw last (elim (cases_eq n stack) [
            | inl same ↦ rw (same_number n stack same, same, without_same given stack ks numbers, here) (omega (arith, positive, one))
            | inr other ↦
                let less = ap holds_of (without_other stack n other ks) in
                let none = other_number n stack other in
                omega (arith, less, none)
          ])
      | inr further ↦
          rw further (elim (cases_eq n stack) [
            | inl same ↦
                rw (same_number n stack same, same, changed_same stack one_less (λ k. refl) ks k here, here) (omega (arith, positive))
            | inr other ↦
                let less = ap holds_of (changed_other stack n one_less (λ k. refl) other ks) in
                let none = other_number n stack other in
                omega (arith, less, none)
          ])
    ]

let_go_less_in : (given n stack : ℕ) (ks : List HeldStack) → AreNumbered given ks → (o : Option HeldStack) → stack_with stack ks ≡ o →
    is_some o ≡ true → holds_at n (let_go_at stack ks o) + one_if (n == stack) ≡ holds_at n ks
let_go_less_in given n stack ks numbers None here some = absurd (false≢true some)
let_go_less_in given n stack ks numbers (Some k) here some = let_go_less_at given n stack ks k numbers here

pub let_go_less : (given n : ℕ) (o : Option ℕ) (ks : List HeldStack) → AreNumbered given ks →
    ((stack : ℕ) → o ≡ Some stack → is_some (stack_with stack ks) ≡ true) →
    holds_at n (let_go o ks) + one_if (leads_to o n) ≡ holds_at n ks
let_go_less given n None ks numbers there = omega arith
let_go_less given n (Some stack) ks numbers there = let_go_less_in given n stack ks numbers (stack_with stack ks) refl (there stack refl)

numbered_less_at : (given stack : ℕ) (ks : List HeldStack) → AreNumbered given ks → (o : Option HeldStack) → stack_with stack ks ≡ o →
    AreNumbered given (let_go_at stack ks o)
numbered_less_at given stack ks numbers None here = numbers
numbered_less_at given stack ks numbers (Some k) here = elim (cases_Bool (nat_le k.holds 1)) [
  | inl last ↦ rw last (numbered_without given stack ks numbers)
  | inr further ↦
      let more = leb-false k.holds 1 further in
      rw further (numbered_changed given stack one_less (λ k. refl) ks
      (λ j found. let same = ap (λ (k : HeldStack). k.holds) (same_Some j k (sym found ∙ here)) in omega (arith, same, more)) numbers)
]

pub numbered_let_go : (given : ℕ) (o : Option ℕ) (ks : List HeldStack) → AreNumbered given ks → AreNumbered given (let_go o ks)
numbered_let_go given None ks numbers = numbers
numbered_let_go given (Some stack) ks numbers = numbered_less_at given stack ks numbers (stack_with stack ks) refl

-- a change that leaves numbers and holds leaves what is counted
pub same_holds : (n stack : ℕ) (f : HeldStack → HeldStack) → LeavesNumbers f → ((k : HeldStack) → (f k).holds ≡ k.holds) →
    (ks : List HeldStack) → holds_at n (changed stack f ks) ≡ holds_at n ks
same_holds n stack f leaves same [] = refl
same_holds n stack f leaves same (j ∷ js) = elim (cases_eq j.number stack) [
  | inl changes ↦ rw (first_changed stack f j js changes) (elim (cases_eq j.number n) [
    | inl here ↦ rw (first_with n (f j) js (leaves j ∙ here), first_with n j js here) (same j)
    | inr there ↦ rw (later_with n (f j) js (λ e. there (sym (leaves j) ∙ e)), later_with n j js there) refl
  ])
  | inr stays ↦ rw (later_changed stack f j js stays) (elim (cases_eq j.number n) [
    | inl here ↦ rw (first_with n j (changed stack f js) here, first_with n j js here) refl
    | inr there ↦ rw (later_with n j (changed stack f js) there, later_with n j js there) (same_holds n stack f leaves same js)
  ])
]

-- a new stack is counted at its number
pub more_holds : (n : ℕ) (ks : List HeldStack) (k : HeldStack) → stack_with k.number ks ≡ None → k.holds ≡ 1 →
    holds_at n (ks ++ k ∷ []) ≡ holds_at n ks + one_if (n == k.number)
more_holds n ks k none one = elim (cases_eq n k.number) [
  | inl same ↦ rw (same_number n k.number same, same, more_here k.number ks k refl none, none) (omega (arith, one))
  | inr other ↦
      let more = ap holds_of (more_absent n ks k (λ e. other (sym e))) in
      let zero_more = other_number n k.number other in
      omega (arith, more, zero_more)
]
