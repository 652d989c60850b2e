-- Blocks of bytes that are looked at at once.
use Rattle.std.proofs.Common.{◌≡◌, ℕ, zero, suc, ◌+◌, ◌-◌, ◌%◌, ◌^◌, ◌<◌, ◌≤◌, ltb, Bool, true, false, not, ◌&&◌, ◌||◌, cond, eqb, List, []}
use Rattle.std.proofs.Common.{◌∷◌, map, length, get_or, replicate, bit_or, inl, inr, refl, sym, ap, ap₂, ◌∙◌, arith, w8, Fits}
use Rattle.std.proofs.lemmas.Bool.{not-true, eqb-true, cases_eq}
use Rattle.std.proofs.lemmas.Simd.{zip2_splat, mask_l-mod, length-chunk, get_or-chunk, leading_from_mask_l}
use Rattle.std.proofs.lemmas.List.{get_or-map, length-map}
use Rattle.std.proofs.lemmas.List.Sums.{prefix_len_passes}
use Rattle.std.specs.Bool.{beq}
use Rattle.std.specs.List.{list_any}
use lib.Lanes.{chunk, zip2, mask_l, top}
use Rattle.event_formatter_text.specs.Blocks.{IsPlainBetween}
use Rattle.event_formatter_text.specs.Escapes.{is_special}
use Rattle.event_formatter_text.specs.declared.escape.Escape.{Escape}
use Rattle.event_formatter_text.specs.declared.escape.Escape.TheVariants.{Sanitized, Json, Quoted}

-- a lane is set where its byte is this one, is below this one
abbrev hit : ℕ → ℕ → ℕ
hit a b = cond (eqb a b) 255 0

abbrev below : ℕ → ℕ → ℕ
below a b = cond (ltb a b) 255 0

zip2-map : (f g : ℕ → ℕ) (xs : List ℕ) → zip2 bit_or (map f xs) (map g xs) ≡ map (λ x. bit_or (f x) (g x)) xs
zip2-map f g [] = refl
zip2-map f g (x ∷ xs) = ap (λ r. bit_or (f x) (g x) ∷ r) (zip2-map f g xs)

either : (f g : ℕ → ℕ) (v : List ℕ) {a b : List ℕ} → a ≡ map f v → b ≡ map g v → zip2 bit_or a b ≡ map (λ x. bit_or (f x) (g x)) v
either f g v p q = ap₂ (zip2 bit_or) p q ∙ zip2-map f g v

-- two tests agree below n
agree_below : (ℕ → Bool) → (ℕ → Bool) → ℕ → Bool
agree_below f g zero = true
agree_below f g (suc n) = beq (f n) (g n) && agree_below f g n

both_of : (x y rest : Bool) → (beq x y && rest) ≡ true → (x ≡ y) × (rest ≡ true)
both_of true true rest h = (refl, h)
both_of true false rest h = cc
both_of false true rest h = cc
both_of false false rest h = (refl, h)

agree_at : (f g : ℕ → Bool) (n : ℕ) → agree_below f g n ≡ true → (b : ℕ) → b < n → f b ≡ g b
unfolding agree_below
agree_at f g zero h b lt = absurd (omega arith)
agree_at f g (suc n) h b lt =
    let both = both_of (f n) (g n) (agree_below f g n) h in
    elim (cases_eq b n) [ inl same ↦ rw same both.0 | inr other ↦ agree_at f g n both.1 b (omega arith) ]

-- a block none of whose lanes is set
clear_block : (f : ℕ → ℕ) (escape : Escape) (d : List ℕ) (i : ℕ) (z : List ℕ) → i + 16 ≤ length d → ((k : ℕ) → Fits w8 (get_or d k 0)) →
    z ≡ map f (chunk i 16 d)
    → agree_below (is_special escape) (λ x. top 7 (f x)) 256 ≡ true → eqb (mask_l (map (top 7) z) % 2 ^ 64) 0 ≡ true →
    IsPlainBetween escape d i (i + 16)
clear_block f escape d i z room fits e agree none k from to =
    let v = chunk i 16 d in
    let long = length-chunk i 16 d room in
    let lanes = map f v in
    let wide = length-map v f in
    let mask = ap (λ l. mask_l (map (top 7) l) % 2 ^ 64) e ∙ mask_l-mod (map (top 7) lanes) 64 (omega (arith, length-map lanes (top 7))) in
    let whole = leading_from_mask_l (top 7) lanes (sym mask ∙ eqb-true _ 0 none) in
    let j = k - i in
    let clear : top 7 (get_or lanes j 0) ≡ false = not-true _ (prefix_len_passes (λ x. not (top 7 x)) lanes j 0 (omega arith)) in
    let back : i + j ≡ k = omega arith in
    let byte = get_or-map f v j 0 0 (omega arith) ∙ ap f (get_or-chunk i 16 d j 0 (omega arith) ∙ ap (λ n. get_or d n 0) back) in
    agree_at (is_special escape) (λ x. top 7 (f x)) 256 agree (get_or d k 0) (fits k).fits ∙ ap (top 7) (sym byte) ∙ clear

module _ (d : List ℕ) (i : ℕ) (room : i + 16 ≤ length d) (fits : (k : ℕ) → Fits w8 (get_or d k 0)) where
  pub clear_sanitized : eqb (mask_l
      (map (top 7) (zip2 bit_or (zip2 bit_or (zip2 below (chunk i 16 d) (replicate 16 32)) (zip2 hit (chunk i 16 d) (replicate 16 194)))
      (zip2 hit (chunk i 16 d) (replicate 16 127)))) % 2 ^ 64) 0 ≡ true → IsPlainBetween Sanitized d i (i + 16)
  unfolding agree_below
  clear_sanitized none =
      let v = chunk i 16 d in
      let long = length-chunk i 16 d room in
      clear_block _ Sanitized d i _ room fits (either _ _ v (either _ _ v (zip2_splat below v 16 32 long) (zip2_splat hit v 16 194 long))
      (zip2_splat hit v 16 127 long)) refl none

  pub clear_json : eqb (mask_l (map (top 7)
      (zip2 bit_or (zip2 bit_or (zip2 below (chunk i 16 d) (replicate 16 32)) (zip2 hit (chunk i 16 d) (replicate 16 34)))
      (zip2 hit (chunk i 16 d) (replicate 16 92)))) % 2 ^ 64) 0 ≡ true → IsPlainBetween Json d i (i + 16)
  unfolding agree_below
  clear_json none =
      let v = chunk i 16 d in
      let long = length-chunk i 16 d room in
      clear_block _ Json d i _ room fits (either _ _ v (either _ _ v (zip2_splat below v 16 32 long) (zip2_splat hit v 16 34 long))
      (zip2_splat hit v 16 92 long)) refl none

  pub clear_quoted : eqb (mask_l (map (top 7)
      (zip2 bit_or (zip2 bit_or (zip2 bit_or
      (zip2 bit_or (zip2 below (chunk i 16 d) (replicate 16 32)) (zip2 hit (chunk i 16 d) (replicate 16 34)))
      (zip2 hit (chunk i 16 d) (replicate 16 92))) (zip2 hit (chunk i 16 d) (replicate 16 127)))
      (zip2 hit (chunk i 16 d) (replicate 16 194)))) % 2 ^ 64) 0 ≡ true → IsPlainBetween Quoted d i (i + 16)
  unfolding agree_below
  clear_quoted none =
      let v = chunk i 16 d in
      let long = length-chunk i 16 d room in
      clear_block _ Quoted d i _ room fits
      (either _ _ v (either _ _ v (either _ _ v (either _ _ v (zip2_splat below v 16 32 long) (zip2_splat hit v 16 34 long))
      (zip2_splat hit v 16 92 long)) (zip2_splat hit v 16 127 long)) (zip2_splat hit v 16 194 long)) refl none

no_first : (escape : Escape) (x : ℕ) (xs : List ℕ) → is_special escape x ≡ false → list_any (is_special escape) xs ≡ false →
    list_any (is_special escape) (x ∷ xs) ≡ false
no_first escape x xs p q = ap₂ (λ a b. a || b) p q

-- a text all of whose bytes are plain has none that isn't
pub none_special : (escape : Escape) (bytes : List ℕ) → IsPlainBetween escape bytes 0 (length bytes) →
    list_any (is_special escape) bytes ≡ false
none_special escape [] plain = refl
none_special escape (x ∷ xs) plain =
    no_first escape x xs (plain 0 (omega arith) (omega arith)) (none_special escape xs (λ k p q. plain (suc k) (omega arith) (omega arith)))
