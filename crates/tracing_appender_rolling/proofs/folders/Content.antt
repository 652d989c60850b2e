-- What the files hold after lines.
use Rattle.std.proofs.Common.{◌≡◌, ◌≢◌, ℕ, ◌+◌, zero, suc, Bool, true, false, ◌&&◌, List, [], ◌∷◌, ◌++◌, length, refl, ap, subst, ◌∙◌, sym}
use Rattle.std.proofs.Common.{arith, cond, Some, None, Option, unwrap_or, if◌then◌else◌}
use Rattle.std.specs.List.{position_from}
use Rattle.std.specs.Str.{bytes_eq}
use Rattle.std.proofs.lemmas.List.{append-nil}
use Rattle.std.proofs.lemmas.Slice.Eq.{bytes_eq-Decides}
use Rattle.std.proofs.lemmas.Bool.{false_from_ne_true, false≢true}
use Rattle.tracing_appender_rolling.specs.folders.Contents.{StoredFile, has_name, file_named, bytes_at, appended, fresh}

-- a name stands for the file at a place, and for none before it
abbrev pub StandsAt : List ℕ → List StoredFile → ℕ → Type 0
StandsAt name [] i = ⊥
StandsAt name (f ∷ fs) zero = has_name name f ≡ true
StandsAt name (f ∷ fs) (suc i) = (has_name name f ≡ false) × StandsAt name fs i

found_step : (name : List ℕ) (f : StoredFile) (fs : List StoredFile) (k j : ℕ) →
    ((m : ℕ) → position_from (has_name name) (k + 1) fs ≡ Some m → (i : ℕ) × (m ≡ (k + 1) + i) × StandsAt name fs i) → (b : Bool) →
    has_name name f ≡ b → cond b (Some k) (position_from (has_name name) (k + 1) fs) ≡ Some j → (i : ℕ) × (j ≡ k + i) ×
    StandsAt name (f ∷ fs) i
found_step name f fs k j rest true is e = let same : k ≡ j = cc in (0, omega (arith, same), is)
found_step name f fs k j rest false is e = let r = rest j e in (suc r.0, omega (arith, r.1), (is, r.2))

found : (name : List ℕ) (fs : List StoredFile) (k j : ℕ) → position_from (has_name name) k fs ≡ Some j → (i : ℕ) × (j ≡ k + i) ×
    StandsAt name fs i
found name [] k j e = cc
found name (f ∷ fs) k j e = found_step name f fs k j (λ m h. found name fs (k + 1) m h) (has_name name f) refl e

pub stands_from : (name : List ℕ) (fs : List StoredFile) (j : ℕ) → file_named name fs ≡ Some j → StandsAt name fs j
stands_from name fs j e = let r = found name fs 0 j e in let same : r.0 ≡ j = omega (arith, r.1) in subst (StandsAt name fs) same r.2

pub stands_to : (name : List ℕ) (fs : List StoredFile) (k i : ℕ) → StandsAt name fs i → position_from (has_name name) k fs ≡ Some (k + i)
stands_to name [] k i h = absurd h
stands_to name (f ∷ fs) k zero h = ap (λ b. cond b (Some k) (position_from (has_name name) (k + 1) fs)) h ∙ ap Some (omega arith)
stands_to name (f ∷ fs) k (suc i) h = ap (λ b. cond b (Some k) (position_from (has_name name) (k + 1) fs)) h.0 ∙
    stands_to name fs (k + 1) i h.1 ∙ ap Some (omega arith)

-- a file that has one name has no other
pub one_name : (name other : List ℕ) (f : StoredFile) → has_name name f ≡ true → name ≢ other → has_name other f ≡ false
one_name name other f has apart = false_from_ne_true (has_name other f)
    (λ too. apart (sym ((bytes_eq-Decides f.name name).0 (second f.stands (bytes_eq f.name name) has)) ∙
    (bytes_eq-Decides f.name other).0 (second f.stands (bytes_eq f.name other) too)))
  where
    second : (a b : Bool) → (a && b) ≡ true → b ≡ true
    second true b h = h
    second false b h = cc

pub appended-nil : (fs : List StoredFile) (i : ℕ) → appended fs i [] ≡ fs
appended-nil [] i = refl
appended-nil (f ∷ fs) zero = ap (λ b. record { name = f.name; stands = f.stands; created = f.created; bytes = b } ∷ fs) (append-nil f.bytes)
appended-nil (f ∷ fs) (suc i) = ap (λ r. f ∷ r) (appended-nil fs i)

-- the text after a line that lies in the file or not
abbrev pub after_line : Bool → Option (List ℕ) → List ℕ → Option (List ℕ)
after_line b text line = if b then Some (unwrap_or text [] ++ line) else text

-- more bytes at the file of a name
grows : (name bytes : List ℕ) (fs : List StoredFile) (i : ℕ) → StandsAt name fs i →
    bytes_at (appended fs i bytes) name ≡ Some (unwrap_or (bytes_at fs name) [] ++ bytes)
grows name bytes [] i h = absurd h
grows name bytes (f ∷ fs) zero h = ap (λ b. cond b (Some (f.bytes ++ bytes)) (bytes_at fs name)) h ∙
    sym (ap (λ b. Some (unwrap_or (cond b (Some f.bytes) (bytes_at fs name)) [] ++ bytes)) h)
grows name bytes (f ∷ fs) (suc i) h = ap (λ b. cond b (Some f.bytes) (bytes_at (appended fs i bytes) name)) h.0 ∙
    grows name bytes fs i h.1 ∙ sym (ap (λ b. Some (unwrap_or (cond b (Some f.bytes) (bytes_at fs name)) [] ++ bytes)) h.0)

-- and another name's bytes stay
stays : (name other bytes : List ℕ) (fs : List StoredFile) (i : ℕ) → StandsAt name fs i → name ≢ other →
    bytes_at (appended fs i bytes) other ≡ bytes_at fs other
stays name other bytes [] i h apart = absurd h
stays name other bytes (f ∷ fs) zero h apart = let no = one_name name other f h apart in
    ap (λ b. cond b (Some (f.bytes ++ bytes)) (bytes_at fs other)) no ∙ sym (ap (λ b. cond b (Some f.bytes) (bytes_at fs other)) no)
stays name other bytes (f ∷ fs) (suc i) h apart = ap (cond (has_name other f) (Some f.bytes)) (stays name other bytes fs i h.1 apart)

pub apart_from : (mine other : List ℕ) → bytes_eq mine other ≡ false → mine ≢ other
apart_from mine other miss e = false≢true (sym miss ∙ (bytes_eq-Decides mine other).1 e)

-- a file with more bytes
pub more_bytes : (mine other bytes : List ℕ) (fs : List StoredFile) (i : ℕ) → StandsAt mine fs i →
    bytes_at (appended fs i bytes) other ≡ after_line (bytes_eq mine other) (bytes_at fs other) bytes
more_bytes mine other bytes fs i h = by_case (bytes_eq mine other) refl
  where
    by_case : (b : Bool) → bytes_eq mine other ≡ b → bytes_at (appended fs i bytes) other ≡ after_line b (bytes_at fs other) bytes
    by_case true e = subst (λ (n : List ℕ). bytes_at (appended fs i bytes) n ≡ Some (unwrap_or (bytes_at fs n) [] ++ bytes))
        ((bytes_eq-Decides mine other).0 e) (grows mine bytes fs i h)
    by_case false e = stays mine other bytes fs i h (apart_from mine other e)

-- a file that stood
pub no_bytes : (mine other : List ℕ) (fs : List StoredFile) (i : ℕ) → StandsAt mine fs i →
    bytes_at fs other ≡ after_line (bytes_eq mine other) (bytes_at fs other) []
no_bytes mine other fs i h = ap (λ (gs : List StoredFile). bytes_at gs other) (sym (appended-nil fs i)) ∙ more_bytes mine other [] fs i h

-- names stand as before
pub stands_still : (name bytes : List ℕ) (fs : List StoredFile) (i j : ℕ) → StandsAt name fs j → StandsAt name (appended fs i bytes) j
stands_still name bytes [] i j h = absurd h
stands_still name bytes (f ∷ fs) zero zero h = h
stands_still name bytes (f ∷ fs) zero (suc j) h = h
stands_still name bytes (f ∷ fs) (suc i) zero h = h
stands_still name bytes (f ∷ fs) (suc i) (suc j) h = (h.0, stands_still name bytes fs i j h.1)

pub none_step : (name : List ℕ) (f : StoredFile) (fs : List StoredFile) (k : ℕ) (b : Bool) → has_name name f ≡ b →
    cond b (Some k) (position_from (has_name name) (k + 1) fs) ≡ None → (has_name name f ≡ false) ×
    (position_from (has_name name) (k + 1) fs ≡ None)
none_step name f fs k true is e = cc
none_step name f fs k false is e = (is, e)

pub fresh_stands : (name : List ℕ) (fs : List StoredFile) (k : ℕ) → position_from (has_name name) k fs ≡ None →
    StandsAt name (fs ++ fresh name ∷ []) (length fs)
fresh_stands name [] k e = (bytes_eq-Decides name name).1 refl
fresh_stands name (f ∷ fs) k e = let s = none_step name f fs k (has_name name f) refl e in (s.0, fresh_stands name fs (k + 1) s.1)

none_here : (name : List ℕ) (fs : List StoredFile) (k : ℕ) → position_from (has_name name) k fs ≡ None → bytes_at fs name ≡ None
none_here name [] k e = refl
none_here name (f ∷ fs) k e = let s = none_step name f fs k (has_name name f) refl e in
    ap (λ b. cond b (Some f.bytes) (bytes_at fs name)) s.0 ∙ none_here name fs (k + 1) s.1

-- one more file, of a name that stood for none
pub added_here : (k : StoredFile) (fs : List StoredFile) (i : ℕ) → has_name k.name k ≡ true → position_from (has_name k.name) i fs ≡ None →
    bytes_at (fs ++ k ∷ []) k.name ≡ Some k.bytes
added_here k [] i own e = ap (λ b. cond b (Some k.bytes) None) own
added_here k (f ∷ fs) i own e = let s = none_step k.name f fs i (has_name k.name f) refl e in
    ap (λ b. cond b (Some f.bytes) (bytes_at (fs ++ k ∷ []) k.name)) s.0 ∙ added_here k fs (i + 1) own s.1

pub added_other : (k : StoredFile) (other : List ℕ) (fs : List StoredFile) → has_name other k ≡ false →
    bytes_at (fs ++ k ∷ []) other ≡ bytes_at fs other
added_other k other [] miss = ap (λ b. cond b (Some k.bytes) None) miss
added_other k other (f ∷ fs) miss = ap (cond (has_name other f) (Some f.bytes)) (added_other k other fs miss)

-- a new file
pub fresh_bytes : (mine other : List ℕ) (fs : List StoredFile) → file_named mine fs ≡ None →
    bytes_at (fs ++ fresh mine ∷ []) other ≡ after_line (bytes_eq mine other) (bytes_at fs other) []
fresh_bytes mine other fs none = by_case (bytes_eq mine other) refl
  where
    here : bytes_at (fs ++ fresh mine ∷ []) mine ≡ Some (unwrap_or (bytes_at fs mine) [] ++ [])
    here = added_here (fresh mine) fs 0 ((bytes_eq-Decides mine mine).1 refl) none ∙
        sym (ap (λ (o : Option (List ℕ)). Some (unwrap_or o [] ++ [])) (none_here mine fs 0 none))

    by_case : (b : Bool) → bytes_eq mine other ≡ b → bytes_at (fs ++ fresh mine ∷ []) other ≡ after_line b (bytes_at fs other) []
    by_case true e = subst (λ (n : List ℕ). bytes_at (fs ++ fresh mine ∷ []) n ≡ Some (unwrap_or (bytes_at fs n) [] ++ []))
        ((bytes_eq-Decides mine other).0 e) here
    by_case false e = added_other (fresh mine) other fs e
