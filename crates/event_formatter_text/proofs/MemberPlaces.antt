-- Where a member is put.
use Rattle.std.proofs.Common.{◌≡◌, ℕ, zero, suc, ◌+◌, ◌<◌, true, false, List, [], ◌∷◌, ◌++◌, length, take, drop, map, get_or, string_bytes}
use Rattle.std.proofs.Common.{refl, sym, ap, ◌∙◌, append_assoc, add-one}
use Rattle.std.proofs.Math.ListN.{set}
use Rattle.std.proofs.Math.Seq.{take-suc, drop-cons}
use Rattle.std.proofs.lemmas.List.{drop-map, map-set, take-map, map-append}
use Rattle.std.specs.List.{insert}
use Rattle.std.specs.Cmp.Lexicographic.{slice_cmp}
use Rattle.std.specs.Ordering.{is_lt, nat_cmp}
use Rattle.std.specs.Str.{bytes_eq}
use Rattle.event_formatter_text.specs.JsonObjects.{Pair, is_first_key, pair_of, put, put_first}
use Rattle.event_formatter_text.specs.declared.json_object.Member.{Member}

step_put : (key value : List ℕ) (x : Pair) (rest : List Pair) → is_lt (slice_cmp nat_cmp x.0 key) ≡ true →
    put key value (x ∷ rest) ≡ x ∷ put key value rest
step_put key value x rest e = rw e refl

here_put : (key value : List ℕ) (x : Pair) (rest : List Pair) → is_lt (slice_cmp nat_cmp x.0 key) ≡ false →
    put key value (x ∷ rest) ≡ put_first key value (x ∷ rest)
here_put key value x rest e = rw e refl

at : (ms : List Member) (i : ℕ) (m : Member) → i < length ms → m ≡ get_or ms i m →
    drop i (map pair_of ms) ≡ pair_of m ∷ drop (i + 1) (map pair_of ms)
at ms i m below is =
    drop-map pair_of i ms ∙ ap (map pair_of) (drop-cons ms i m below) ∙ ap (λ (x : Member). pair_of x ∷ map pair_of (drop (suc i) ms))
    (sym is)
    ∙ ap (λ (r : List Pair). pair_of m ∷ r) (sym (drop-map pair_of (suc i) ms)) ∙ ap (λ (n : ℕ). pair_of m ∷ drop n (map pair_of ms))
    (sym (add-one i))

one_more : (ms : List Member) (i : ℕ) (m : Member) → i < length ms → m ≡ get_or ms i m →
    take (i + 1) (map pair_of ms) ≡ take i (map pair_of ms) ++ (pair_of m ∷ [])
one_more ms i m below is =
    ap (λ (n : ℕ). take n (map pair_of ms)) (add-one i) ∙ take-map pair_of (suc i) ms ∙ ap (map pair_of) (take-suc ms i m below) ∙
    map-append pair_of (take i ms) (get_or ms i m ∷ [])
    ∙ ap (λ (x : Member). map pair_of (take i ms) ++ (pair_of x ∷ [])) (sym is) ∙
    ap (λ (t : List Pair). t ++ (pair_of m ∷ [])) (sym (take-map pair_of i ms))

pub put_later : (key value : List ℕ) (ms : List Member) (i : ℕ) (m : Member) → i < length ms → m ≡ get_or ms i m →
    is_lt (slice_cmp nat_cmp (string_bytes m.key) key) ≡ true →
    put key value (map pair_of ms) ≡ take i (map pair_of ms) ++ put key value (drop i (map pair_of ms)) →
    put key value (map pair_of ms) ≡ take (i + 1) (map pair_of ms) ++ put key value (drop (i + 1) (map pair_of ms))
put_later key value ms i m below is before h =
    let rest = drop (i + 1) (map pair_of ms) in
    h ∙ ap (λ (r : List Pair). take i (map pair_of ms) ++ r) (ap (put key value) (at ms i m below is) ∙
    step_put key value (pair_of m) rest before)
    ∙ sym (append_assoc (take i (map pair_of ms)) (pair_of m ∷ []) (put key value rest)) ∙
    ap (λ (t : List Pair). t ++ put key value rest) (sym (one_more ms i m below is))

pub put_here : (key value : List ℕ) (ms : List Member) (i : ℕ) (m : Member) → i < length ms → m ≡ get_or ms i m →
    is_lt (slice_cmp nat_cmp (string_bytes m.key) key) ≡ false →
    put key value (map pair_of ms) ≡ take i (map pair_of ms) ++ put key value (drop i (map pair_of ms)) →
    put key value (map pair_of ms) ≡ take i (map pair_of ms) ++ put_first key value (drop i (map pair_of ms))
put_here key value ms i m below is before h =
    h ∙ ap (λ (r : List Pair). take i (map pair_of ms) ++ r) (ap (put key value) (at ms i m below is) ∙
    here_put key value (pair_of m) (drop (i + 1) (map pair_of ms)) before ∙ ap (put_first key value) (sym (at ms i m below is)))

set_at : (xs : List Pair) (i : ℕ) (x y : Pair) (ys : List Pair) → drop i xs ≡ y ∷ ys → set xs i x ≡ take i xs ++ (x ∷ ys)
set_at [] zero x y ys e = absurd (cc)
set_at [] (suc i) x y ys e = absurd (cc)
set_at (z ∷ zs) zero x y ys e = let same : zs ≡ ys = cc in ap (λ (r : List Pair). x ∷ r) same
set_at (z ∷ zs) (suc i) x y ys e = ap (λ (r : List Pair). z ∷ r) (set_at zs i x y ys e)

same_key : (key value : List ℕ) (xs : List Pair) (i : ℕ) (rest : List Pair) → drop i xs ≡ rest → is_first_key key rest ≡ true →
    set xs i (key, value) ≡ take i xs ++ put_first key value rest
same_key key value xs i [] is same = absurd (cc)
same_key key value xs i (p ∷ ps) is same = set_at xs i (key, value) p ps is ∙ ap (λ (r : List Pair). take i xs ++ r) (chosen p ps same)
  where
    chosen : (p : Pair) (ps : List Pair) → is_first_key key (p ∷ ps) ≡ true → (key, value) ∷ ps ≡ put_first key value (p ∷ ps)
    chosen p ps same = rw same refl

other_key : (key value : List ℕ) (rest : List Pair) → is_first_key key rest ≡ false → put_first key value rest ≡ (key, value) ∷ rest
other_key key value [] other = refl
other_key key value (p ∷ ps) other = rw other refl

-- a member takes the place of the one with its key
pub put_same : (ms : List Member) (i : ℕ) (m : Member) → is_first_key (string_bytes m.key) (drop i (map pair_of ms)) ≡ true →
    map pair_of (set ms i m) ≡ take i (map pair_of ms) ++ put_first (string_bytes m.key) (string_bytes m.value) (drop i (map pair_of ms))
put_same ms i m same = map-set pair_of ms i m ∙ same_key (string_bytes m.key) (string_bytes m.value) (map pair_of ms) i
    (drop i (map pair_of ms)) refl same

-- a member comes before the others
pub put_new : (ms : List Member) (i : ℕ) (m : Member) → is_first_key (string_bytes m.key) (drop i (map pair_of ms)) ≡ false →
    map pair_of (insert ms i m) ≡ take i (map pair_of ms) ++ put_first (string_bytes m.key) (string_bytes m.value) (drop i (map pair_of ms))
put_new ms i m other =
    map-append pair_of (take i ms) (m ∷ drop i ms) ∙ ap (λ (t : List Pair). t ++ map pair_of (m ∷ drop i ms)) (sym (take-map pair_of i ms))
    ∙ ap (λ (r : List Pair). take i (map pair_of ms) ++ (pair_of m ∷ r)) (sym (drop-map pair_of i ms))
    ∙ ap (λ (r : List Pair). take i (map pair_of ms) ++ r)
    (sym (other_key (string_bytes m.key) (string_bytes m.value) (drop i (map pair_of ms)) other))

pub key_at : (key : List ℕ) (ms : List Member) (i : ℕ) (m : Member) → i < length ms → m ≡ get_or ms i m →
    is_first_key key (drop i (map pair_of ms)) ≡ bytes_eq (string_bytes m.key) key
key_at key ms i m below is = ap (is_first_key key) (at ms i m below is)
