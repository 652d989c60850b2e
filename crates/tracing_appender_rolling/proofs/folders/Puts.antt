-- A file put under a name.
use Rattle.std.proofs.Common.{◌≡◌, ◌≢◌, ℕ, zero, suc, Bool, true, false, ◌&&◌, List, [], ◌∷◌, ◌++◌, map, set, refl, ap, subst, ◌∙◌, sym}
use Rattle.std.proofs.Common.{cond, Option, Some, None}
use Rattle.std.specs.Str.{bytes_eq}
use Rattle.std.proofs.lemmas.List.{map-set}
use Rattle.std.proofs.lemmas.Slice.Eq.{bytes_eq-Decides}
use Rattle.tracing_appender_rolling.specs.declared.folders.memory.MemoryFile.{MemoryFile}
use Rattle.tracing_appender_rolling.specs.folders.Contents.{StoredFile, has_name, file_named, bytes_at}
use Rattle.tracing_appender_rolling.specs.folders.Memory.{kept_of, put_at}
use Rattle.tracing_appender_rolling.proofs.folders.Content.{StandsAt, stands_from, one_name, apart_from, added_here, added_other}
use Rattle.tracing_appender_rolling.proofs.folders.SortedEntries.{map_push}

own_name : (k : StoredFile) (q : List ℕ) → k.stands ≡ true → has_name q k ≡ bytes_eq k.name q
own_name k q stands = ap (λ b. b && bytes_eq k.name q) stands

put_here : (k : StoredFile) (fs : List StoredFile) (i : ℕ) → has_name k.name k ≡ true → StandsAt k.name fs i →
    bytes_at (set fs i k) k.name ≡ Some k.bytes
put_here k [] i own h = absurd h
put_here k (f ∷ fs) zero own h = ap (λ b. cond b (Some k.bytes) (bytes_at fs k.name)) own
put_here k (f ∷ fs) (suc i) own h = ap (λ b. cond b (Some f.bytes) (bytes_at (set fs i k) k.name)) h.0 ∙ put_here k fs i own h.1

put_other : (k : StoredFile) (q : List ℕ) (fs : List StoredFile) (i : ℕ) → has_name q k ≡ false → k.name ≢ q → StandsAt k.name fs i →
    bytes_at (set fs i k) q ≡ bytes_at fs q
put_other k q [] i miss apart h = absurd h
put_other k q (f ∷ fs) zero miss apart h =
    ap (λ b. cond b (Some k.bytes) (bytes_at fs q)) miss ∙
    sym (ap (λ b. cond b (Some f.bytes) (bytes_at fs q)) (one_name k.name q f h apart))
put_other k q (f ∷ fs) (suc i) miss apart h = ap (cond (has_name q f) (Some f.bytes)) (put_other k q fs i miss apart h.1)

put_kept : (k : StoredFile) (fs : List StoredFile) (i : ℕ) → k.stands ≡ true → file_named k.name fs ≡ Some i → (q : List ℕ) →
    bytes_at (set fs i k) q ≡ cond (bytes_eq k.name q) (Some k.bytes) (bytes_at fs q)
put_kept k fs i stands is q = by_case (bytes_eq k.name q) refl
  where
    by_case : (b : Bool) → bytes_eq k.name q ≡ b → bytes_at (set fs i k) q ≡ cond b (Some k.bytes) (bytes_at fs q)
    by_case true e = subst (λ (n : List ℕ). bytes_at (set fs i k) n ≡ Some k.bytes) ((bytes_eq-Decides k.name q).0 e)
        (put_here k fs i (own_name k k.name stands ∙ (bytes_eq-Decides k.name k.name).1 refl) (stands_from k.name fs i is))
    by_case false e = put_other k q fs i (own_name k q stands ∙ e) (apart_from k.name q e) (stands_from k.name fs i is)

new_kept : (k : StoredFile) (fs : List StoredFile) → k.stands ≡ true → file_named k.name fs ≡ None → (q : List ℕ) →
    bytes_at (fs ++ k ∷ []) q ≡ cond (bytes_eq k.name q) (Some k.bytes) (bytes_at fs q)
new_kept k fs stands is q = by_case (bytes_eq k.name q) refl
  where
    by_case : (b : Bool) → bytes_eq k.name q ≡ b → bytes_at (fs ++ k ∷ []) q ≡ cond b (Some k.bytes) (bytes_at fs q)
    by_case true e = subst (λ (n : List ℕ). bytes_at (fs ++ k ∷ []) n ≡ Some k.bytes) ((bytes_eq-Decides k.name q).0 e)
        (added_here k fs 0 (own_name k k.name stands ∙ (bytes_eq-Decides k.name k.name).1 refl) is)
    by_case false e = added_other k q fs (own_name k q stands ∙ e)

-- a file as it was put
pub record IsPut (f : MemoryFile) (name bytes : List ℕ) : Type 0 where
  pub named : (kept_of f).name ≡ name
  pub stands : f.stands ≡ true
  pub filled : (kept_of f).bytes ≡ bytes

put_text : (f : MemoryFile) (name bytes : List ℕ) (rest : Option (List ℕ)) (q : List ℕ) → IsPut f name bytes →
    cond (bytes_eq (kept_of f).name q) (Some (kept_of f).bytes) rest ≡ cond (bytes_eq name q) (Some bytes) rest
put_text f name bytes rest q put = ap (λ (n : List ℕ). cond (bytes_eq n q) (Some (kept_of f).bytes) rest) put.named ∙
    ap (λ (bs : List ℕ). cond (bytes_eq name q) (Some bs) rest) put.filled

pub put_over : (files : List MemoryFile) (i : ℕ) (f : MemoryFile) (name bytes : List ℕ) → IsPut f name bytes →
    Some i ≡ file_named name (map kept_of files) → (q : List ℕ) → bytes_at (map kept_of (set files i f)) q ≡ cond (bytes_eq name q)
    (Some bytes) (bytes_at (map kept_of files) q)
put_over files i f name bytes put is q =
    ap (λ (fs : List StoredFile). bytes_at fs q) (map-set kept_of files i f)
    ∙ put_kept (kept_of f) (map kept_of files) i put.stands (ap (λ (n : List ℕ). file_named n (map kept_of files)) put.named ∙ sym is) q
    ∙ put_text f name bytes (bytes_at (map kept_of files) q) q put

pub put_new : (files : List MemoryFile) (f : MemoryFile) (name bytes : List ℕ) → IsPut f name bytes →
    None ≡ file_named name (map kept_of files) → (q : List ℕ) → bytes_at (map kept_of (files ++ f ∷ [])) q ≡ cond (bytes_eq name q)
    (Some bytes) (bytes_at (map kept_of files) q)
put_new files f name bytes put is q =
    ap (λ (fs : List StoredFile). bytes_at fs q) (map_push files f)
    ∙ new_kept (kept_of f) (map kept_of files) put.stands (ap (λ (n : List ℕ). file_named n (map kept_of files)) put.named ∙ sym is) q
    ∙ put_text f name bytes (bytes_at (map kept_of files) q) q put

pub placed_over : (files : List MemoryFile) (i : ℕ) (f : MemoryFile) (name bytes : List ℕ) → IsPut f name bytes →
    Some i ≡ file_named name (map kept_of files) →
    map kept_of (set files i f) ≡ put_at (map kept_of files) (file_named name (map kept_of files))
    (record { name = name; stands = true; created = f.created; bytes = bytes })
placed_over files i f name bytes put is =
    let new : StoredFile = record { name = name; stands = true; created = f.created; bytes = bytes } in
    let same : kept_of f ≡ new =
    ap (λ (n : List ℕ). record { name = n; stands = f.stands; created = f.created; bytes = (kept_of f).bytes }) put.named
    ∙ ap (λ b. record { name = name; stands = b; created = f.created; bytes = (kept_of f).bytes }) put.stands
    ∙ ap (λ (b : List ℕ). record { name = name; stands = true; created = f.created; bytes = b }) put.filled in
    map-set kept_of files i f ∙ ap (set (map kept_of files) i) same ∙ ap (λ (o : Option ℕ). put_at (map kept_of files) o new) is
