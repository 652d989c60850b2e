-- First and last bytes taken off.
use Rattle.std.proofs.Common.{arith, ◌≡◌, ◌≢◌, ◌∙◌, sym, ap, subst, refl, true, false, ◌-◌, ℕ, List, [], ◌∷◌, ◌++◌, length, take, drop}
use Rattle.std.proofs.Common.{append_assoc, Option, Some}
use Rattle.tracing_core_moments.specs.Names.{before_date, after_date}
use Rattle.std.specs.Str.{bytes_eq}
use Rattle.std.proofs.lemmas.Bool.{false≢true}
use Rattle.std.proofs.lemmas.List.{take-append-drop, length-append, append_cancel_left, append_cancel_right}
use Rattle.std.proofs.Math.Seq.{take-append_seam, drop-append_seam}
use Rattle.std.proofs.lemmas.Slice.Eq.{bytes_eq-Decides}

same_self : (p : List ℕ) → bytes_eq p p ≡ true
same_self p = (bytes_eq-Decides p p).1 refl

pub front_is : (p name rest : List ℕ) → bytes_eq (take (length p) name) p ≡ true → rest ≡ drop (length p) name → name ≡ p ++ rest
front_is p name rest same is =
    sym (take-append-drop (length p) name) ∙
    ap (λ (t : List ℕ). t ++ drop (length p) name) ((bytes_eq-Decides (take (length p) name) p).0 same) ∙
    ap (λ (t : List ℕ). p ++ t) (sym is)

pub no_front : (p name : List ℕ) → bytes_eq (take (length p) name) p ≡ false → (rest : List ℕ) → name ≢ p ++ rest
no_front p name other rest is =
    false≢true (sym other ∙ ap (λ (t : List ℕ). bytes_eq t p) (ap (take (length p)) is ∙ take-append_seam p rest) ∙ same_self p)

pub back_is : (p name rest : List ℕ) → bytes_eq (drop (length name - length p) name) p ≡ true → rest ≡ take (length name - length p) name →
    name ≡ rest ++ p
back_is p name rest same is =
    sym (take-append-drop (length name - length p) name) ∙ ap (λ (t : List ℕ). take (length name - length p) name ++ t)
    ((bytes_eq-Decides (drop (length name - length p) name) p).0 same) ∙ ap (λ (t : List ℕ). t ++ p) (sym is)

pub no_back : (p name : List ℕ) → bytes_eq (drop (length name - length p) name) p ≡ false → (rest : List ℕ) → name ≢ rest ++ p
no_back p name other rest is =
    let count : length name - length p ≡ length rest = omega (arith, ap length is, length-append rest p) in
    false≢true (sym other ∙ ap (λ (n : ℕ). bytes_eq (drop n name) p) count ∙
    ap (λ (t : List ℕ). bytes_eq t p) (ap (drop (length rest)) is ∙ drop-append_seam rest p) ∙ same_self p)

pub no_point : (p name rest : List ℕ) → name ≡ p ++ rest → ((date : List ℕ) → rest ≢ 46 ∷ [] ++ date) → (date : List ℕ) →
    name ≢ (p ++ 46 ∷ []) ++ date
no_point p name rest is none date e = none date (append_cancel_left p rest (46 ∷ date) (sym is ∙ e ∙ append_assoc p (46 ∷ []) date))

pub no_point_at : (o : Option (List ℕ)) (p name rest : List ℕ) → o ≡ Some p → name ≡ p ++ rest →
    ((date : List ℕ) → rest ≢ 46 ∷ [] ++ date) → (date : List ℕ) → name ≢ before_date o ++ date
no_point_at o p name rest is at none = subst (λ (x : Option (List ℕ)). (date : List ℕ) → name ≢ before_date x ++ date) (sym is)
    (no_point p name rest at none)

pub no_point_behind : (p name rest : List ℕ) → name ≡ rest ++ p → ((date : List ℕ) → rest ≢ date ++ 46 ∷ []) → (date : List ℕ) →
    name ≢ date ++ 46 ∷ p
no_point_behind p name rest is none date e =
    none date (append_cancel_right rest (date ++ 46 ∷ []) p (sym is ∙ e ∙ sym (append_assoc date (46 ∷ []) p)))

pub no_part_behind : (p name : List ℕ) → ((rest : List ℕ) → name ≢ rest ++ p) → (date : List ℕ) → name ≢ date ++ 46 ∷ p
no_part_behind p name none date e = none (date ++ 46 ∷ []) (e ∙ sym (append_assoc date (46 ∷ []) p))

pub no_part_at : (o : Option (List ℕ)) (p name : List ℕ) → o ≡ Some p → ((rest : List ℕ) → name ≢ rest ++ p) → (date : List ℕ) →
    name ≢ date ++ after_date o
no_part_at o p name is none = subst (λ (x : Option (List ℕ)). (date : List ℕ) → name ≢ date ++ after_date x) (sym is)
    (no_part_behind p name none)

pub no_point_behind_at : (o : Option (List ℕ)) (p name rest : List ℕ) → o ≡ Some p → name ≡ rest ++ p →
    ((date : List ℕ) → rest ≢ date ++ 46 ∷ []) → (date : List ℕ) → name ≢ date ++ after_date o
no_point_behind_at o p name rest is at none = subst (λ (x : Option (List ℕ)). (date : List ℕ) → name ≢ date ++ after_date x) (sym is)
    (no_point_behind p name rest at none)
