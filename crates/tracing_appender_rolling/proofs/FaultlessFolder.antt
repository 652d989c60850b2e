-- What a folder that refuses nothing does.
use Rattle.std.proofs.Common.{◌≡◌, ℕ, List, [], ◌∷◌, ◌++◌, suc, ◌+◌, refl, ap, ◌∙◌, sym, subst, arith, cond, Some, None, Option, Result, Ok}
use Rattle.std.proofs.Common.{Err, Bool, true, false, ◌||◌, ◌==◌, ◌≢◌, ◌≤◌, length, take}
use Rattle.std.proofs.lemmas.List.{take_all}
use Rattle.std.proofs.lemmas.Bool.{eq-eqb}
use Rattle.std.specs.Prelude.{IfErr, is_some}
use Rattle.std.specs.List.{position_from, list_any, remove}
use Rattle.std.specs.Set.{remove_key}
use Rattle.std.proofs.lemmas.List.Folds.{list_any-append}
use Rattle.tracing_appender_rolling.specs.folders.Contents.{Contents, Answer, Gives, IsSound, Outcome, Done, Refuses, Short, file_named}
use Rattle.tracing_appender_rolling.specs.folders.Contents.{link_named, open_at, open_plain, opened, refusal, if_refused, close_plain}
use Rattle.tracing_appender_rolling.specs.folders.Contents.{closed, flush_plain, flushed, is_open, on_file, unless_closed, with_file}
use Rattle.tracing_appender_rolling.specs.folders.Contents.{without_number, taken, write_plain, written}
use Rattle.tracing_appender_rolling.specs.declared.folders.fault.FolderFault.TheVariants.{Refused, NotFound}
use Rattle.tracing_appender_rolling.specs.declared.folders.fault.FolderError.{FolderError}
use Rattle.tracing_appender_rolling.specs.declared.folders.fault.FolderError.TheVariants.{Fault, OutOfMemory}
use Rattle.tracing_appender_rolling.specs.declared.folders.fault.FileNumber.{FileNumber}

-- a call that takes no memory was answered
pub fed_leaves : (call : Contents → Answer (Unit {0})) (c : Contents) (r : Result (Unit {0}) FolderError) (after : Option Contents) →
    IfErr r (λ e. e ≢ OutOfMemory) → Gives call (Some c) r after → after ≡ Some (call c).1
fed_leaves call c (Ok v) after fed (answer, left) = left
fed_leaves call c (Err (Fault f)) after fed (answer, left) = left
fed_leaves call c (Err OutOfMemory) after fed left = absurd (fed refl)

pub stays_unknown : (call : Contents → Answer (Unit {0})) (r : Result (Unit {0}) FolderError) (after : Option Contents) →
    Gives call None r after → after ≡ None
stays_unknown call (Ok v) after left = left
stays_unknown call (Err e) after left = left

-- a flush leaves files, links and open files
pub record Still (c d : Contents) : Type 0 where
  pub files : d.files ≡ c.files
  pub links : d.links ≡ c.links
  pub opens : d.open_files ≡ c.open_files
  pub dirs : d.has_dirs ≡ c.has_dirs
  pub next : (n : ℕ) → d.coming n ≡ c.coming (suc n)

flush_still_at : (c : Contents) (file : FileNumber) (o : Outcome) → Still c (if_refused o (λ f. refusal f c) (flush_plain file c)).1
flush_still_at c file Done = record { files = refl; links = refl; opens = refl; dirs = refl; next = λ n. refl }
flush_still_at c file (Refuses f) = record { files = refl; links = refl; opens = refl; dirs = refl; next = λ n. refl }
flush_still_at c file (Short k) = record { files = refl; links = refl; opens = refl; dirs = refl; next = λ n. refl }

pub flush_still : (c : Contents) (file : FileNumber) → Still c (flushed c file).1
flush_still c file = flush_still_at c file (on_file file c 0)

-- a close leaves files and links
closed_files_at : (c : Contents) (file : FileNumber) (o : Outcome) →
    ((if_refused o (λ f. refusal f c) (close_plain file c)).1.files ≡ c.files) ×
    ((if_refused o (λ f. refusal f c) (close_plain file c)).1.links ≡ c.links)
closed_files_at c file Done = (refl, refl)
closed_files_at c file (Refuses f) = (refl, refl)
closed_files_at c file (Short n) = (refl, refl)

pub closed_files : (c : Contents) (file : FileNumber) → ((closed c file).1.files ≡ c.files) × ((closed c file).1.links ≡ c.links)
closed_files c file = closed_files_at c file (on_file file c 0)

closed_coming_at : (c : Contents) (file : FileNumber) (o : Outcome) (n : ℕ) →
    (if_refused o (λ f. refusal f c) (close_plain file c)).1.coming n ≡ c.coming (suc n)
closed_coming_at c file Done n = refl
closed_coming_at c file (Refuses f) n = refl
closed_coming_at c file (Short k) n = refl

pub closed_sound : (c : Contents) (file : FileNumber) → IsSound c → IsSound (closed c file).1
closed_sound c file sound n = closed_coming_at c file (on_file file c 0) n ∙ sound (suc n)

pub opened_is : (c : Contents) (n : List ℕ) → IsSound c → link_named n c.links ≡ false → opened c n ≡ open_at c n (file_named n c.files)
opened_is c n sound free = ap (λ o. if_refused o (λ f. refusal f c) (open_plain n c)) (sound 0) ∙
    ap (λ b. cond b (refusal Refused c) (open_at c n (file_named n c.files))) free

-- over a folder that refuses nothing each call on an open file is done
pub sound_on : (c : Contents) (file : FileNumber) → IsSound c → is_open file c ≡ true → (n : ℕ) → on_file file c n ≡ Done
sound_on c file sound is n = ap (λ b. unless_closed b (c.coming n)) is ∙ sound n

pub closed_open : (c : Contents) (file : FileNumber) → IsSound c → is_open file c ≡ true →
    (closed c file).1.open_files ≡ without_number file.index c.open_files
closed_open c file sound is = ap (λ o. (if_refused o (λ f. refusal f c) (close_plain file c)).1.open_files) (sound_on c file sound is 0)

pub done_open : {T : Type 0} (c : Contents) (file : FileNumber) (answer : Answer T) → IsSound c → is_open file c ≡ true →
    with_file file c answer ≡ answer
done_open c file answer sound is = ap (λ o. if_refused o (λ f. refusal f c) answer) (sound_on c file sound is 0)

pub not_open : {T : Type 0} (c : Contents) (file : FileNumber) (answer : Answer T) → IsSound c → is_open file c ≡ false →
    with_file file c answer ≡ refusal NotFound c
not_open c file answer sound is = ap (λ o. if_refused o (λ f. refusal f c) answer) (ap (λ b. unless_closed b (c.coming 0)) is ∙
    ap (unless_closed false) (sound 0))

pub written_open : (c : Contents) (file : FileNumber) (bytes : List ℕ) → IsSound c → is_open file c ≡ true →
    written c file bytes ≡ write_plain file bytes c
written_open c file bytes sound is =
    let le : length bytes ≤ length bytes = omega arith in
    ap (λ o. if_refused o (λ f. refusal f c) (write_plain file (take (taken o (length bytes)) bytes) c)) (sound_on c file sound is 0) ∙
    ap (λ (b : List ℕ). write_plain file b c) (take_all (length bytes) bytes le)

pub or_true : (b : Bool) → (b || true) ≡ true
or_true true = refl
or_true false = refl

-- the first number that passes a test is the one that goes
placed_by : {X : Type 0} (t : X → Bool) (x : X) (xs : List X) (k j : ℕ) →
    ((m : ℕ) → position_from t (k + 1) xs ≡ Some m → (i : ℕ) × (m ≡ (k + 1) + i) × (remove xs i ≡ remove_key t xs)) → (b : Bool) → t x ≡ b →
    cond b (Some k) (position_from t (k + 1) xs) ≡ Some j → (i : ℕ) × (j ≡ k + i) ×
    (remove (x ∷ xs) i ≡ cond (t x) xs (x ∷ remove_key t xs))
placed_by t x xs k j rest true is e = let same : k ≡ j = cc in (0, omega (arith, same), sym (ap (λ b. cond b xs (x ∷ remove_key t xs)) is))
placed_by {X} t x xs k j rest false is e = let r = rest j e in
    (suc r.0, omega (arith, r.1), ap (λ (ys : List X). x ∷ ys) r.2 ∙ sym (ap (λ b. cond b xs (x ∷ remove_key t xs)) is))

placed : {X : Type 0} (t : X → Bool) (xs : List X) (k j : ℕ) → position_from t k xs ≡ Some j → (i : ℕ) × (j ≡ k + i) ×
    (remove xs i ≡ remove_key t xs)
placed t [] k j e = cc
placed t (x ∷ xs) k j e = placed_by t x xs k j (λ m h. placed t xs (k + 1) m h) (t x) refl e

pub removed_first : {X : Type 0} (t : X → Bool) (xs : List X) (i : ℕ) → position_from t 0 xs ≡ Some i → remove xs i ≡ remove_key t xs
removed_first t xs i e = let r = placed t xs 0 i e in let same : r.0 ≡ i = omega (arith, r.1) in
    subst (λ n. remove xs n ≡ remove_key t xs) same r.2

passes_by : (k : ℕ) (rest : Option ℕ) (any : Bool) → any ≡ is_some rest → (b : Bool) → (b || any) ≡ is_some (cond b (Some k) rest)
passes_by k rest any e true = refl
passes_by k rest any e false = e

pub passes : {X : Type 0} (t : X → Bool) (xs : List X) (k : ℕ) → list_any t xs ≡ is_some (position_from t k xs)
passes t [] k = refl
passes t (x ∷ xs) k = passes_by k (position_from t (k + 1) xs) (list_any t xs) (passes t xs (k + 1)) (t x)

-- the file that was opened last is open, also where one that was open is closed
abbrev numbered : ℕ → List ℕ → Bool
numbered n numbers = list_any (λ m. m == n) numbers

pub last_open : (n : ℕ) (numbers : List ℕ) → numbered n (numbers ++ n ∷ []) ≡ true
last_open n [] = ap (λ b. b || false) (eq-eqb n n refl)
last_open n (m ∷ ms) = ap (λ b. (m == n) || b) (last_open n ms) ∙ or_true (m == n)

still_by : (closing n m : ℕ) (ms : List ℕ) → (numbered closing ms ≡ true → numbered n (without_number closing (ms ++ n ∷ [])) ≡ true) →
    (b : Bool) → (b || numbered closing ms) ≡ true → numbered n (cond b (ms ++ n ∷ []) (m ∷ without_number closing (ms ++ n ∷ []))) ≡ true
still_by closing n m ms rest true is = last_open n ms
still_by closing n m ms rest false is = ap (λ b. (m == n) || b) (rest is) ∙ or_true (m == n)

pub still_open : (closing n : ℕ) (numbers : List ℕ) → numbered closing numbers ≡ true →
    numbered n (without_number closing (numbers ++ n ∷ [])) ≡ true
still_open closing n [] is = cc
still_open closing n (m ∷ ms) is = still_by closing n m ms (still_open closing n ms) (m == closing) is

pub open_more : (n : ℕ) (numbers more : List ℕ) → numbered n numbers ≡ true → numbered n (numbers ++ more) ≡ true
open_more n numbers more is = list_any-append (λ m. m == n) numbers more ∙ ap (λ b. b || numbered n more) is

pub opened_open : (c d : Contents) (file : FileNumber) → d.open_files ≡ c.open_files ++ file.index ∷ [] → is_open file d ≡ true
opened_open c d file opens = ap (numbered file.index) opens ∙ last_open file.index c.open_files

pub stays_open : (c d : Contents) (file : FileNumber) → d.open_files ≡ c.open_files → is_open file c ≡ true → is_open file d ≡ true
stays_open c d file same is = ap (numbered file.index) same ∙ is

-- a new file is open, and then the one before it is closed
pub closed_leaves : (c d : Contents) (current file : FileNumber) → IsSound d → d.open_files ≡ c.open_files ++ file.index ∷ [] →
    is_open current c ≡ true → is_open file (closed d current).1 ≡ true
closed_leaves c d current file sound opens is =
    let there : is_open current d ≡ true = ap (numbered current.index) opens ∙ open_more current.index c.open_files (file.index ∷ []) is in
    ap (numbered file.index) (closed_open d current sound there ∙ ap (without_number current.index) opens) ∙
    still_open current.index file.index c.open_files is
