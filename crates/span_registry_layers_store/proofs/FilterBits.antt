-- Verdicts as the bits of a number.
use Rattle.std.proofs.Common.{◌≡◌, ℕ, zero, suc, ◌*◌, ◌/◌, ◌%◌, ◌^◌, ◌<◌, ◌≤◌, ◌==◌, ◌∷◌, Bool, true, false, Some, None}
use Rattle.std.proofs.Common.{replicate, slice_get, slice_set, bit_and, bit_or, w64, refl, sym, ap, ◌∙◌, arith}
use Rattle.std.specs.Int.{bit_at, bit_not}
use Rattle.std.proofs.lemmas.Nat.Bits.{bit_at-suc, bit_at_ones, bit_at_set_same, bit_at_set_other}
use Rattle.std.proofs.lemmas.Nat.Bits.{bit_at_clear_same, bit_at_clear_other, shr_and_one}
use Rattle.span_registry_layers_store.specs.Verdicts.{all_pass, lowest_bits, or_passes, passes_at}

-- a filter's verdict is the bit of its number
bit_there : (count bits k : ℕ) → k < count → slice_get (lowest_bits count bits) k ≡ Some (bit_at bits k == 1)
unfolding lowest_bits
bit_there zero bits k within = absurd (omega arith)
bit_there (suc count) bits zero within = refl
bit_there (suc count) bits (suc k) within =
    bit_there count (bits / 2) k (omega arith) ∙ ap (λ bit. Some (bit == 1)) (sym (bit_at-suc bits k))

no_bit : (count bits k : ℕ) → count ≤ k → slice_get (lowest_bits count bits) k ≡ None
unfolding lowest_bits
no_bit zero bits k past = refl
no_bit (suc count) bits zero past = absurd (omega arith)
no_bit (suc count) bits (suc k) past = no_bit count (bits / 2) k (omega arith)

pub bit_passes : (bits k : ℕ) → k < 64 → (bit_and (bits / 2 ^ k) 1 == 1) ≡ passes_at (lowest_bits 64 bits) k
bit_passes bits k within = ap (λ bit. bit == 1) (shr_and_one bits k) ∙ sym (ap or_passes (bit_there 64 bits k within))

pub unnamed_passes : (bits k : ℕ) → 64 ≤ k → true ≡ passes_at (lowest_bits 64 bits) k
unnamed_passes bits k past = sym (ap or_passes (no_bit 64 bits k past))

-- numbers whose lowest bits are the same
same_bits : (count old new : ℕ) → ((i : ℕ) → i < count → bit_at new i ≡ bit_at old i) → lowest_bits count new ≡ lowest_bits count old
unfolding lowest_bits
same_bits zero old new same = refl
same_bits (suc count) old new same =
    ap (λ bit. (bit == 1) ∷ lowest_bits count (new / 2)) (same 0 (omega arith)) ∙
    ap (λ later. (bit_at old 0 == 1) ∷ later) (same_bits count (old / 2) (new / 2) (λ i within.
    sym (bit_at-suc new i) ∙ same (suc i) (omega arith) ∙ bit_at-suc old i))

-- all of which are set
ones : (count bits : ℕ) → ((i : ℕ) → i < count → bit_at bits i ≡ 1) → lowest_bits count bits ≡ replicate count true
unfolding lowest_bits
ones zero bits set = refl
ones (suc count) bits set =
    ap (λ bit. (bit == 1) ∷ lowest_bits count (bits / 2)) (set 0 (omega arith)) ∙
    ap (λ later. true ∷ later) (ones count (bits / 2) (λ i within. sym (bit_at-suc bits i) ∙ set (suc i) (omega arith)))

pub all_set : lowest_bits 64 18446744073709551615 ≡ all_pass
all_set = ones 64 18446744073709551615 (bit_at_ones 64)

-- numbers that differ in one bit at most
set_there : (count old new k : ℕ) (passes : Bool) → (bit_at new k == 1) ≡ passes →
    ((i : ℕ) → i < count → (i ≡ k → ⊥) → bit_at new i ≡ bit_at old i) →
    lowest_bits count new ≡ slice_set (lowest_bits count old) k passes
unfolding lowest_bits
set_there zero old new k passes here others = refl
set_there (suc count) old new zero passes here others =
    ap (λ first. first ∷ lowest_bits count (new / 2)) here ∙
    ap (λ later. passes ∷ later) (same_bits count (old / 2) (new / 2) (λ i within.
    sym (bit_at-suc new i) ∙ others (suc i) (omega arith) (λ same. omega (arith, same)) ∙ bit_at-suc old i))
set_there (suc count) old new (suc k) passes here others =
    ap (λ bit. (bit == 1) ∷ lowest_bits count (new / 2)) (others 0 (omega arith) (λ same. omega (arith, same))) ∙
    ap (λ later. (bit_at old 0 == 1) ∷ later) (set_there count (old / 2) (new / 2) k passes
    (ap (λ bit. bit == 1) (sym (bit_at-suc new k)) ∙ here) (λ i within other.
    sym (bit_at-suc new i) ∙ others (suc i) (omega arith) (λ same. other (omega (arith, same))) ∙ bit_at-suc old i))

pub bit_set : (bits k : ℕ) → k < 64 →
    lowest_bits 64 (bit_or bits (1 * 2 ^ k % 18446744073709551616)) ≡ slice_set (lowest_bits 64 bits) k true
bit_set bits k within = set_there 64 bits (bit_or bits (1 * 2 ^ k % 18446744073709551616)) k true
    (ap (λ bit. bit == 1) (bit_at_set_same w64 bits k within)) (λ i below other. bit_at_set_other w64 bits k within i other)

pub bit_cleared : (bits k : ℕ) → k < 64 →
    lowest_bits 64 (bit_and bits (bit_not w64 (1 * 2 ^ k % 18446744073709551616))) ≡ slice_set (lowest_bits 64 bits) k false
bit_cleared bits k within = set_there 64 bits (bit_and bits (bit_not w64 (1 * 2 ^ k % 18446744073709551616))) k false
    (ap (λ bit. bit == 1) (bit_at_clear_same w64 bits k within))
    (λ i below other. bit_at_clear_other w64 bits k within i below other)

set_past : (count bits k : ℕ) (passes : Bool) → count ≤ k → lowest_bits count bits ≡ slice_set (lowest_bits count bits) k passes
unfolding lowest_bits
set_past zero bits k passes past = refl
set_past (suc count) bits zero passes past = absurd (omega arith)
set_past (suc count) bits (suc k) passes past =
    ap (λ later. (bit_at bits 0 == 1) ∷ later) (set_past count (bits / 2) k passes (omega arith))

pub unnamed_set : (bits k : ℕ) (passes : Bool) → 64 ≤ k → lowest_bits 64 bits ≡ slice_set (lowest_bits 64 bits) k passes
unnamed_set = set_past 64
