-- Files in memory by name.
use Rattle.std.proofs.Common.{◌≡◌, ℕ, zero, suc, ◌+◌, ◌<◌, ◌≤◌, Bool, true, false, List, [], ◌∷◌, ◌++◌, map, refl, sym, ap, ◌∙◌}
use Rattle.std.proofs.Common.{string_bytes, arith, length, Some, get_or, set, take, cond, append_assoc}
use Rattle.std.specs.List.{position_from}
use Rattle.tracing_appender_rolling.specs.declared.folders.memory.MemoryFile.{MemoryFile}
use Rattle.std.specs.List.{filter}
use Rattle.std.specs.Str.{bytes_eq}
use Rattle.std.proofs.lemmas.List.{take_more, map-append}
use Rattle.std.proofs.lemmas.List.Elements.{filter-append}
use Rattle.tracing_appender_rolling.specs.declared.folders.memory.MemoryLink.{MemoryLink}
use Rattle.tracing_appender_rolling.specs.declared.folders.memory.MemoryFolder.{MemoryFolder}
use Rattle.tracing_appender_rolling.specs.folders.Contents.{has_name, file_named, link_place, StoredFile, Listed, listing, listed_file}
use Rattle.tracing_appender_rolling.specs.folders.Contents.{listed_link, appended, unnamed}
use Rattle.tracing_appender_rolling.specs.folders.Memory.{kept_of, link_of, memory_contents, files_listed, links_listed}

position-map : {X Y : Type 0} (f : X → Y) (p : Y → Bool) (i : ℕ) (xs : List X) →
    position_from p i (map f xs) ≡ position_from (λ x. p (f x)) i xs
position-map f p i [] = refl
position-map f p i (x ∷ xs) = ap (cond (p (f x)) (Some i)) (position-map f p (i + 1) xs)

pub file_named-memory : (name : List ℕ) (files : List MemoryFile) →
    file_named name (map kept_of files) ≡ position_from (λ m. has_name name (kept_of m)) 0 files
file_named-memory name files = position-map kept_of (has_name name) 0 files

-- a file in memory with more bytes
pub appended-kept : (files : List MemoryFile) (i : ℕ) (old new : MemoryFile) (bytes : List ℕ) → i < length files →
    old ≡ get_or files i old → kept_of new ≡ record {
      name = string_bytes old.name;
      stands = old.stands;
      created = old.created;
      bytes =
          old.bytes.items ++ bytes;
    } → map kept_of (set files i new) ≡ appended (map kept_of files) i bytes
appended-kept [] i old new bytes lt is e = absurd (omega arith)
appended-kept (f ∷ files) zero old new bytes lt is e =
    ap (λ k. k ∷ map kept_of files)
    (e ∙ ap (λ (m : MemoryFile). record {
      name = string_bytes m.name;
      stands = m.stands;
      created = m.created;
      bytes = m.bytes.items ++
          bytes;
    }) is)
appended-kept (f ∷ files) (suc i) old new bytes lt is e = ap (λ ks. kept_of f ∷ ks) (appended-kept files i old new bytes (omega arith) is e)

pub appended_past : (files : List StoredFile) (i : ℕ) (bytes : List ℕ) → length files ≤ i → appended files i bytes ≡ files
appended_past [] i bytes le = refl
appended_past (f ∷ files) zero bytes le = absurd (omega arith)
appended_past (f ∷ files) (suc i) bytes le = ap (λ ks. f ∷ ks) (appended_past files i bytes (omega arith))

pub kept-set : (files : List MemoryFile) (i : ℕ) (old new : MemoryFile) → i < length files → old ≡ get_or files i old →
    kept_of new ≡ kept_of old → map kept_of (set files i new) ≡ map kept_of files
kept-set [] i old new lt is e = absurd (omega arith)
kept-set (f ∷ files) zero old new lt is e = ap (λ k. k ∷ map kept_of files) (e ∙ ap kept_of is)
kept-set (f ∷ files) (suc i) old new lt is e = ap (λ ks. kept_of f ∷ ks) (kept-set files i old new (omega arith) is e)

pub unnamed-kept : (files : List MemoryFile) (i : ℕ) (old new : MemoryFile) → i < length files → old ≡ get_or files i old →
    kept_of new ≡ record { name = string_bytes old.name; stands = false; created = old.created; bytes = old.bytes.items } →
    map kept_of (set files i new) ≡ unnamed (map kept_of files) i
unnamed-kept [] i old new lt is e = absurd (omega arith)
unnamed-kept (f ∷ files) zero old new lt is e =
    ap (λ k. k ∷ map kept_of files)
    (e ∙ ap (λ (m : MemoryFile). record { name = string_bytes m.name; stands = false; created = m.created; bytes = m.bytes.items }) is)
unnamed-kept (f ∷ files) (suc i) old new lt is e = ap (λ ks. kept_of f ∷ ks) (unnamed-kept files i old new (omega arith) is e)

filter_one : (x : StoredFile) (rest : List StoredFile) (more : List Listed) → map listed_file rest ≡ more → (b : Bool) →
    map listed_file (cond b (x ∷ rest) rest) ≡ cond b (listed_file x ∷ more) more
filter_one x rest more e true = ap (λ r. listed_file x ∷ r) e
filter_one x rest more e false = e

filter-files : (files : List MemoryFile) → map listed_file (filter (λ (f : StoredFile). f.stands) (map kept_of files)) ≡ files_listed files
filter-files [] = refl
filter-files (f ∷ fs) = filter_one (kept_of f) (filter (λ (k : StoredFile). k.stands) (map kept_of fs)) (files_listed fs) (filter-files fs)
    f.stands

map-links : (links : List MemoryLink) → map listed_link (map link_of links) ≡ links_listed links
map-links [] = refl
map-links (l ∷ ls) = ap (λ r. listed_link (link_of l) ∷ r) (map-links ls)

pub listing_is : (m : MemoryFolder) → listing (memory_contents m) ≡ files_listed m.files.items ++ links_listed m.links.items
listing_is m = ap (λ r. r ++ map listed_link (map link_of m.links.items)) (filter-files m.files.items) ∙
    ap (λ r. files_listed m.files.items ++ r) (map-links m.links.items)

joined : (b : Bool) (x : Listed) (xs rest : List Listed) → cond b (x ∷ (xs ++ rest)) (xs ++ rest) ≡ cond b (x ∷ xs) xs ++ rest
joined true x xs rest = refl
joined false x xs rest = refl

files_push : (fs : List MemoryFile) (m : MemoryFile) → files_listed (fs ++ m ∷ []) ≡ files_listed fs ++
    cond m.stands (listed_file (kept_of m) ∷ []) []
files_push [] m = refl
files_push (g ∷ fs) m = ap (λ r. cond g.stands (listed_file (kept_of g) ∷ r) r) (files_push fs m) ∙
    joined g.stands (listed_file (kept_of g)) (files_listed fs) (cond m.stands (listed_file (kept_of m) ∷ []) [])

files_more : (files : List MemoryFile) (i : ℕ) (f : MemoryFile) (b : Bool) → i < length files → f ≡ get_or files i f → f.stands ≡ b →
    files_listed (take (i + 1) files) ≡ files_listed (take i files) ++ cond b (listed_file (kept_of f) ∷ []) []
files_more files i f b lt is stands = ap files_listed (take_more files i f lt) ∙ files_push (take i files) (get_or files i f) ∙
    ap (λ (m : MemoryFile). files_listed (take i files) ++ cond m.stands (listed_file (kept_of m) ∷ []) []) (sym is) ∙
    ap (λ c. files_listed (take i files) ++ cond c (listed_file (kept_of f) ∷ []) []) stands

-- the same where only those that pass a test are listed
module _ (p : Listed → Bool) where
  pub some_files_more : (files : List MemoryFile) (i : ℕ) (f : MemoryFile) (b : Bool) → i < length files → f ≡ get_or files i f →
      f.stands ≡ b → filter p (files_listed (take (i + 1) files)) ≡ filter p (files_listed (take i files)) ++
      filter p (cond b (listed_file (kept_of f) ∷ []) [])
  some_files_more files i f b lt is stands = ap (filter p) (files_more files i f b lt is stands) ∙
      filter-append p (files_listed (take i files)) (cond b (listed_file (kept_of f) ∷ []) [])

  pub some_links_more : (before : List Listed) (links : List MemoryLink) (i : ℕ) (l : MemoryLink) → i < length links →
      l ≡ get_or links i l → filter p (before ++ links_listed (take (i + 1) links)) ≡ filter p (before ++ links_listed (take i links)) ++
      filter p (listed_link (link_of l) ∷ [])
  some_links_more before links i l lt is =
      ap (λ (ls : List MemoryLink). filter p (before ++ links_listed ls)) (take_more links i l lt ∙
      ap (λ (m : MemoryLink). take i links ++ m ∷ []) (sym is))
      ∙ ap (λ (xs : List Listed). filter p (before ++ xs))
      (map-append (λ (m : MemoryLink). listed_link (link_of m)) (take i links) (l ∷ []))
      ∙ ap (filter p) (sym (append_assoc before (links_listed (take i links)) (listed_link (link_of l) ∷ [])))
      ∙ filter-append p (before ++ links_listed (take i links)) (listed_link (link_of l) ∷ [])

-- a link's place
pub link_place-memory : (name : List ℕ) (links : List MemoryLink) →
    link_place name (map link_of links) ≡ position_from (λ (l : MemoryLink). bytes_eq (string_bytes l.name) name) 0 links
link_place-memory name links = position-map link_of (λ l. bytes_eq l.0 name) 0 links
