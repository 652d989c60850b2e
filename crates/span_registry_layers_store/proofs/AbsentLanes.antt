-- Lanes that are missing.
use Rattle.std.proofs.Common.{◌≡◌, ℕ, zero, suc, ◌<◌, ◌≤◌, List, [], ◌∷◌, ◌++◌, length, set, get_or, Vec, refl, sym, ap, ◌∙◌, arith}
use Rattle.std.specs.Global.{Global}
use Rattle.span_registry_layers_store.specs.Spans.{without_last}
use Rattle.span_registry_layers_store.specs.Lanes.{plain_lanes, padded, pushed, removed}

-- one missing lane more
pub padded_more : (ls : List (List ℕ)) (n : ℕ) → length ls ≤ n → padded n ls ++ [] ∷ [] ≡ padded (suc n) ls
padded_more [] zero h = refl
padded_more (l ∷ ls) zero h = absurd (omega arith)
padded_more [] (suc n) h = ap (λ xs. [] ∷ xs) (padded_more [] n (omega arith))
padded_more (l ∷ ls) (suc n) h = ap (λ xs. l ∷ xs) (padded_more ls n (omega arith))

-- and then the one that is entered
pub pushed_past : (ls : List (List ℕ)) (n id : ℕ) → length ls ≤ n → padded n ls ++ (id ∷ []) ∷ [] ≡ pushed n id ls
pushed_past [] zero id h = refl
pushed_past (l ∷ ls) zero id h = absurd (omega arith)
pushed_past [] (suc n) id h = ap (λ xs. [] ∷ xs) (pushed_past [] n id (omega arith))
pushed_past (l ∷ ls) (suc n) id h = ap (λ xs. l ∷ xs) (pushed_past ls n id (omega arith))

padded_all : (ls : List (List ℕ)) (n : ℕ) → n ≡ length ls → padded n ls ≡ ls
padded_all [] zero e = refl
padded_all [] (suc n) e = absurd (omega (arith, e))
padded_all (l ∷ ls) zero e = refl
padded_all (l ∷ ls) (suc n) e = ap (λ xs. l ∷ xs) (padded_all ls n (omega (arith, e)))

pub plain_length : (lanes : List (Vec ℕ Global)) → length (plain_lanes lanes) ≡ length lanes
plain_length [] = refl
plain_length (l ∷ ls) = ap suc (plain_length ls)

pub padded_none : (lanes : List (Vec ℕ Global)) → padded (length lanes) (plain_lanes lanes) ≡ plain_lanes lanes
padded_none lanes = padded_all (plain_lanes lanes) (length lanes) (sym (plain_length lanes))

length_more : (lanes : List (Vec ℕ Global)) (v : Vec ℕ Global) → length (lanes ++ v ∷ []) ≡ suc (length lanes)
length_more [] v = refl
length_more (l ∷ ls) v = ap suc (length_more ls v)

plain_more : (lanes : List (Vec ℕ Global)) (v : Vec ℕ Global) → plain_lanes (lanes ++ v ∷ []) ≡ plain_lanes lanes ++ v.items ∷ []
plain_more [] v = refl
plain_more (l ∷ ls) v = ap (λ xs. l.items ∷ xs) (plain_more ls v)

-- a turn that adds a missing lane
pub padded_turn : (old now later : List (Vec ℕ Global)) (v : Vec ℕ Global) → length old ≤ length now →
    plain_lanes now ≡ padded (length now) (plain_lanes old) → later ≡ now ++ v ∷ [] → v.items ≡ [] →
    plain_lanes later ≡ padded (length later) (plain_lanes old)
padded_turn old now later v h left is none =
    ap plain_lanes is ∙ plain_more now v ∙ ap (λ xs. plain_lanes now ++ xs ∷ []) none ∙ ap (λ xs. xs ++ [] ∷ []) left
    ∙ padded_more (plain_lanes old) (length now) (let e = plain_length old in omega arith)
    ∙ ap (λ n. padded n (plain_lanes old)) (sym (ap length is ∙ length_more now v))

-- and the end, which adds the one that is entered
pub pushed_turn : (old now later : List (Vec ℕ Global)) (v : Vec ℕ Global) (lane id : ℕ) → length old ≤ length now → length now ≡ lane →
    plain_lanes now ≡ padded (length now) (plain_lanes old) → later ≡ now ++ v ∷ [] → v.items ≡ id ∷ [] →
    plain_lanes later ≡ pushed lane id (plain_lanes old)
pushed_turn old now later v lane id h at left is entered =
    ap plain_lanes is ∙ plain_more now v ∙ ap (λ xs. plain_lanes now ++ xs ∷ []) entered ∙ ap (λ xs. xs ++ (id ∷ []) ∷ []) left
    ∙ pushed_past (plain_lanes old) (length now) id (let e = plain_length old in omega arith)
    ∙ ap (λ n. pushed n id (plain_lanes old)) at

-- an entry on a lane that is there
pub pushed_there : (lanes : List (Vec ℕ Global)) (n id : ℕ) (e v : Vec ℕ Global) → n < length lanes → e ≡ get_or lanes n e →
    v.items ≡ e.items ++ id ∷ [] → plain_lanes (set lanes n v) ≡ pushed n id (plain_lanes lanes)
pushed_there [] n id e v h r k = absurd (omega arith)
pushed_there (l ∷ ls) zero id e v h r k = ap (λ (xs : List ℕ). xs ∷ plain_lanes ls) (k ∙ ap (λ (x : Vec ℕ Global). x.items ++ id ∷ []) r)
pushed_there (l ∷ ls) (suc n) id e v h r k = ap (λ xs. l.items ∷ xs) (pushed_there ls n id e v (omega arith) r k)

-- a lane with other memory
pub same_there : (lanes : List (Vec ℕ Global)) (n : ℕ) (e v : Vec ℕ Global) → n < length lanes → e ≡ get_or lanes n e → v.items ≡ e.items →
    plain_lanes (set lanes n v) ≡ plain_lanes lanes
same_there [] n e v h r k = absurd (omega arith)
same_there (l ∷ ls) zero e v h r k = ap (λ (xs : List ℕ). xs ∷ plain_lanes ls) (k ∙ ap (λ (x : Vec ℕ Global). x.items) r)
same_there (l ∷ ls) (suc n) e v h r k = ap (λ xs. l.items ∷ xs) (same_there ls n e v (omega arith) r k)

-- a lane without the last entry
pub removed_there : (lanes : List (Vec ℕ Global)) (n id : ℕ) (e v : Vec ℕ Global) → n < length lanes → e ≡ get_or lanes n e →
    v.items ≡ without_last id e.items → plain_lanes (set lanes n v) ≡ removed n id (plain_lanes lanes)
removed_there [] n id e v h r k = absurd (omega arith)
removed_there (l ∷ ls) zero id e v h r k = ap (λ (xs : List ℕ). xs ∷ plain_lanes ls)
    (k ∙ ap (λ (x : Vec ℕ Global). without_last id x.items) r)
removed_there (l ∷ ls) (suc n) id e v h r k = ap (λ xs. l.items ∷ xs) (removed_there ls n id e v (omega arith) r k)

removed_set : (ls : List (List ℕ)) (n : ℕ) (v : List ℕ) → length ls ≤ n → set ls n v ≡ ls
removed_set [] n v h = refl
removed_set (l ∷ ls) zero v h = absurd (omega arith)
removed_set (l ∷ ls) (suc n) v h = ap (λ xs. l ∷ xs) (removed_set ls n v (omega arith))

-- a missing lane has no entry
pub removed_past : (lanes : List (Vec ℕ Global)) (n id : ℕ) → length lanes ≤ n → plain_lanes lanes ≡ removed n id (plain_lanes lanes)
removed_past lanes n id h = sym (removed_set (plain_lanes lanes) n _ (let e = plain_length lanes in omega arith))
