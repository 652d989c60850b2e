-- Two lists behind one another name no sink twice where neither does, and they share none.
use Rattle.std.proofs.Common.{◌≡◌, ℕ, Bool, true, false, ◌&&◌, ◌||◌, ◌==◌, not, List, [], ◌∷◌, ◌++◌, refl, ap, ◌∙◌}
use Rattle.std.proofs.lemmas.List.Folds.{list_any-append}
use Rattle.event_formatter_text.specs.makers.Routes.{are_apart, has_sink, is_distinct}

shuffled : (a b c d e : Bool) → (not (a || b) && (c && (d && e))) ≡ ((not a && c) && (d && (not b && e)))
shuffled true b c d e = refl
shuffled false true false d e = refl
shuffled false true true false e = refl
shuffled false true true true e = refl
shuffled false false false d e = refl
shuffled false false true d e = refl

with_all : (d : Bool) → d ≡ (true && (d && true))
with_all true = refl
with_all false = refl

pub distinct_append : (xs ys : List ℕ) → is_distinct (xs ++ ys) ≡ (is_distinct xs && (is_distinct ys && are_apart xs ys))
distinct_append [] ys = with_all (is_distinct ys)
distinct_append (x ∷ xs) ys =
    ap (λ (b : Bool). not b && is_distinct (xs ++ ys)) (list_any-append (λ other. other == x) xs ys)
    ∙ ap (λ (b : Bool). not (has_sink x xs || has_sink x ys) && b) (distinct_append xs ys)
    ∙ shuffled (has_sink x xs) (has_sink x ys) (is_distinct xs) (is_distinct ys) (are_apart xs ys)
