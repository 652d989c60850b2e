-- Where the sinks with two numbers stand.
use Rattle.std.proofs.Common.{◌≡◌, ◌∙◌, ◌≤◌, ◌-◌, Bool, true, false, ℕ, suc, List, [], ◌∷◌, Some, arith, sym, ap}
use Rattle.std.specs.Prelude.{if◌then◌else◌, nat_lt}
use Rattle.span_tracing_outputs.proofs.ListPlaces.{by_bool}
use Rattle.span_tracing_skeleton.specs.Looking.{output_in}
use Rattle.span_tracing_skeleton.specs.declared.setting.OutputPlace.{OutputPlace}

-- a number's place, where counts are summed up one after another
module _ (count : ℕ) (counts : List ℕ) (first number : ℕ) where
  pub place_here : nat_lt number count ≡ true → output_in (count ∷ counts) first number ≡ Some (record { stack = first; place = number })
  place_here is =
      ap (λ (b : Bool). if b then Some (record { stack = first; place = number }) else output_in counts (suc first) (number - count)) is

  pub place_later : nat_lt number count ≡ false → output_in (count ∷ counts) first number ≡ output_in counts (suc first) (number - count)
  place_later is =
      ap (λ (b : Bool). if b then Some (record { stack = first; place = number }) else output_in counts (suc first) (number - count)) is

one_place : {a b : OutputPlace} → Some a ≡ Some b → a ≡ b
one_place e = cc

place_from : (counts : List ℕ) (first number : ℕ) (at : OutputPlace) → output_in counts first number ≡ Some at → first ≤ at.stack
place_from [] first number at is = absurd (cc)
place_from (count ∷ counts) first number at is =
    by_bool (nat_lt number count)
    (λ here.
    let same : first ≡ at.stack = ap (λ (p : OutputPlace). p.stack) (one_place (sym (place_here count counts first number here) ∙ is)) in
    omega (arith, same))
    (λ later.
    let above = place_from counts (suc first) (number - count) at (sym (place_later count counts first number later) ∙ is) in
    omega (arith, above))

number_back : (count one other : ℕ) → nat_lt one count ≡ false → nat_lt other count ≡ false → one - count ≡ other - count → one ≡ other
number_back count one other past too same = grind arith

-- two numbers of one place are one
pub one_number : (counts : List ℕ) (first one other : ℕ) (at to : OutputPlace) → output_in counts first one ≡ Some at →
    output_in counts first other ≡ Some to → at.stack ≡ to.stack → at.place ≡ to.place → one ≡ other
one_number [] first one other at to is too stacks places = absurd (cc)
one_number (count ∷ counts) first one other at to is too stacks places =
    by_bool (nat_lt one count)
    (λ here.
    let its = one_place (sym (place_here count counts first one here) ∙ is) in
    by_bool (nat_lt other count)
    (λ also.
    let theirs = one_place (sym (place_here count counts first other also) ∙ too) in
    ap (λ (p : OutputPlace). p.place) its ∙ places ∙ sym (ap (λ (p : OutputPlace). p.place) theirs))
    (λ past.
    let above = place_from counts (suc first) (other - count) to (sym (place_later count counts first other past) ∙ too) in
    let same : first ≡ at.stack = ap (λ (p : OutputPlace). p.stack) its in
    absurd (omega (arith, above, same, stacks))))
    (λ past. by_bool (nat_lt other count)
    (λ also.
    let theirs = one_place (sym (place_here count counts first other also) ∙ too) in
    let above = place_from counts (suc first) (one - count) at (sym (place_later count counts first one past) ∙ is) in
    let same : first ≡ to.stack = ap (λ (p : OutputPlace). p.stack) theirs in
    absurd (omega (arith, above, same, stacks)))
    (λ beyond.
    number_back count one other past beyond
    (one_number counts (suc first) (one - count) (other - count) at to (sym (place_later count counts first one past) ∙ is)
    (sym (place_later count counts first other beyond) ∙ too) stacks places)))
