-- Members that were appended one after the other.
use Rattle.std.proofs.Common.{◌≡◌, ℕ, Bool, true, false, List, [], ◌∷◌, ◌++◌, codes, refl, sym, ap, ◌∙◌, append_assoc}
use Rattle.std.proofs.lemmas.List.{append-nil}
use Rattle.std.proofs.lemmas.Grind.{flat_map-append}
use Rattle.std.specs.List.{flat_map}
use Rattle.event_formatter_text.specs.MemberChains.{Extends, is_still_first}
use Rattle.event_formatter_text.specs.Escapes.{escaped, json_char, json_string}
use Rattle.event_formatter_text.specs.Lists.{further, joined}
use Rattle.event_formatter_lines.specs.Json.{object_of}

joined_nothing : (is_first : Bool) (old : List ℕ) → old ≡ old ++ joined (codes ",") is_first []
joined_nothing true old = sym (append-nil old)
joined_nothing false old = sym (append-nil old)

pub nothing : (is_first : Bool) (old : List ℕ) → Extends [] is_first old is_first old
nothing is_first old = record { text = joined_nothing is_first old; first = refl }

further_joined : (is_first : Bool) (key value : List ℕ) → further (codes ",") is_first key ++
    value ≡ joined (codes ",") is_first ((key ++ value) ∷ [])
further_joined true key value = sym (append-nil (key ++ value))
further_joined false key value = append_assoc (codes ",") key value ∙ sym (append-nil (codes "," ++ (key ++ value)))

-- a key, and then its value
pub one : (key value : List ℕ) (is_first : Bool) (old mid new : List ℕ) → mid ≡ old ++ further (codes ",") is_first key → new ≡ mid ++
    value → Extends ((key ++ value) ∷ []) is_first old false new
one key value is_first old mid new m n = record {
  text = n ∙ ap (λ (t : List ℕ). t ++ value) m ∙ append_assoc old (further (codes ",") is_first key) value ∙
      ap (λ (t : List ℕ). old ++ t) (further_joined is_first key value);
  first = refl;
}

-- a key with the bracket that begins its array, and then what stands behind the bracket
pub one_array : (key rest : List ℕ) (is_first : Bool) (old begun new : List ℕ) → begun ≡ old ++ further (codes ",") is_first key ++
    codes "[" → new ≡ begun ++ rest →
    Extends ((key ++ (codes "[" ++ rest)) ∷ []) is_first old false new
one_array key rest is_first old begun new b n =
    let mid : List ℕ = old ++ further (codes ",") is_first key in
    one key (codes "[" ++ rest) is_first old mid new refl (n ∙ ap (λ (t : List ℕ). t ++ rest) b ∙ append_assoc mid (codes "[") rest)

-- a key with the quote that begins its text, and then the text
pub one_text : (key text : List ℕ) (is_first : Bool) (old begun new : List ℕ) → begun ≡ old ++
    further (codes ",") is_first (key ++ codes "\"") → new ≡ begun ++ (escaped json_char text ++ codes "\"") →
    Extends ((key ++ json_string text) ∷ []) is_first old false new
unfolding json_string
one_text key text is_first old begun new b n =
    let rest : List ℕ = escaped json_char text ++ codes "\"" in
    rw (sym (append_assoc key (codes "\"") rest)) (one (key ++ codes "\"") rest is_first old begun new b n)

-- the brace, the key and the quote that begin an object with a text, and then the text
pub begun_with_text : (key text : List ℕ) (old begun new : List ℕ) → begun ≡ old ++
    (codes "{" ++ (key ++ codes "\"")) → new ≡ begun ++ (escaped json_char text ++ codes "\"") →
    Extends ((key ++ json_string text) ∷ []) true (old ++ codes "{") false new
begun_with_text key text old begun new b n =
    one_text key text true (old ++ codes "{") begun new (b ∙ sym (append_assoc old (codes "{") (key ++ codes "\""))) n

still_chained : (xs ys : List (List ℕ)) (f : Bool) → is_still_first (is_still_first f xs) ys ≡ is_still_first f (xs ++ ys)
still_chained [] ys f = refl
still_chained (x ∷ xs) [] f = refl
still_chained (x ∷ xs) (y ∷ ys) f = refl

joined_chained : (xs ys : List (List ℕ)) (f : Bool) → joined (codes ",") f xs ++ joined (codes ",") (is_still_first f xs) ys ≡ joined
    (codes ",") f (xs ++ ys)
joined_chained [] ys true = refl
joined_chained [] ys false = refl
joined_chained (x ∷ xs) ys true = append_assoc x (flat_map (λ p. codes "," ++ p) xs) (flat_map (λ p. codes "," ++ p) ys) ∙
    ap (λ (t : List ℕ). x ++ t) (sym (flat_map-append (λ p. codes "," ++ p) xs ys))
joined_chained (x ∷ xs) ys false = sym (flat_map-append (λ p. codes "," ++ p) (x ∷ xs) ys)

-- members, and then more
pub chained : {xs ys : List (List ℕ)} {f g h : Bool} {old mid new : List ℕ} → Extends xs f old g mid → Extends ys g mid h new →
    Extends (xs ++ ys) f old h new
chained {xs} {ys} {f} {g} {h} {old} {mid} {new} x y = record {
  text = y.text ∙ ap (λ (t : List ℕ). t ++ joined (codes ",") g ys) x.text ∙
      append_assoc old (joined (codes ",") f xs) (joined (codes ",") g ys)
      ∙ ap (λ (t : List ℕ). old ++ t) (ap (λ (b : Bool). joined (codes ",") f xs ++ joined (codes ",") b ys) x.first ∙
      joined_chained xs ys f);
  first = y.first ∙ ap (λ (b : Bool). is_still_first b ys) x.first ∙ still_chained xs ys f;
}

-- the text of members, as it is
pub whole : (x : ℕ) (xs : List ℕ) (old new : List ℕ) → new ≡ old ++ (x ∷ xs) → Extends ((x ∷ xs) ∷ []) true old false new
whole x xs old new n = record { text = n ∙ ap (λ (t : List ℕ). old ++ t) (sym (append-nil (x ∷ xs))); first = refl }

-- two runs of members between braces
pub object : (xs ys : List (List ℕ)) (g h : Bool) (old begun mid end new : List ℕ) → begun ≡ old ++ codes "{" →
    Extends xs true begun g mid → Extends ys g mid h end → new ≡ end ++ codes "}" → new ≡ old ++ object_of (xs ++ ys)
object xs ys g h old begun mid end new b x y n =
    let inner : List ℕ = joined (codes ",") true (xs ++ ys) in
    n ∙ ap (λ (t : List ℕ). t ++ codes "}") ((chained x y).text ∙ ap (λ (t : List ℕ). t ++ inner) b ∙ append_assoc old (codes "{") inner) ∙
    append_assoc old (codes "{" ++ inner) (codes "}")
