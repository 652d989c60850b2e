-- What a look leaves of a folder, whatever is refused: each file has its bytes, and no file is lost. Where nothing is refused before,
-- nothing is after.
use Rattle.std.specs.Prelude.{is_some}
use Rattle.std.specs.List.{position_from}
use Rattle.std.proofs.Common.{◌≡◌, ◌≤◌, ◌<◌, ◌+◌, ℕ, ℤ, zero, suc, Bool, true, false, cond, List, [], ◌∷◌, ◌++◌, length, refl, ap, subst}
use Rattle.std.proofs.Common.{sym, ◌∙◌, arith, Option, Some, None, Ok, Err}
use Rattle.tracing_core_moments.specs.declared.moment.Moment.{Moment}
use Rattle.tracing_appender_rolling.specs.declared.folders.fault.FileNumber.{FileNumber}
use Rattle.tracing_appender_rolling.specs.declared.folders.fault.FolderFault.TheVariants.{Refused}
use Rattle.tracing_appender_rolling.specs.declared.folders.fault.FolderError.{FolderError}
use Rattle.tracing_appender_rolling.specs.declared.folders.fault.FolderError.TheVariants.{Fault, OutOfMemory}
use Rattle.tracing_core_moments.specs.Moments.{is_due}
use Rattle.tracing_appender_rolling.specs.folders.Contents.{Contents, StoredFile, Listed, Answer, Outcome, Done, Refuses, Short, IsSound}
use Rattle.tracing_appender_rolling.specs.folders.Contents.{called, fresh, has_name, unnamed, refusal, if_refused, on_file, file_named}
use Rattle.tracing_appender_rolling.specs.folders.Contents.{link_named, link_place, links_with, open_at, open_plain, opened, make_plain}
use Rattle.tracing_appender_rolling.specs.folders.Contents.{dirs_made, link_plain, linked, remove_at, remove_plain, removed, list_plain}
use Rattle.tracing_appender_rolling.specs.folders.Contents.{names_listed, close_plain, closed}
use Rattle.tracing_appender_rolling.specs.declared.faults.Faults.{Faults}
use Rattle.tracing_appender_rolling.specs.Names.{FileNames}
use Rattle.tracing_appender_rolling.specs.Retention.{asked_prefix, candidates_in}
use Rattle.tracing_appender_rolling.specs.RetentionRemovals.{doomed, after_removal, removed_all, pruned_after, pruned_by, pruned}
use Rattle.tracing_appender_rolling.specs.Tries.{Tried, last_opening, after_dirs, after_opening, opened_twice, after_link, after_file}
use Rattle.tracing_appender_rolling.specs.Tries.{opened_linked}
use Rattle.tracing_appender_rolling.specs.Looks.{Held, failed_by, tried, name_at, try_at, end_at, look_if}
use Rattle.tracing_appender_rolling.specs.LineHandover.{HandsTo}
use Rattle.tracing_appender_rolling.specs.FilesByTries.{bytes_of}
use Rattle.tracing_appender_rolling.proofs.WriteLoop.{still_sound}

pub record Onward (c d : Contents) : Type 0 where
  pub sound : IsSound c → IsSound d
  pub bytes : (n : ℕ) → bytes_of d.files n ≡ bytes_of c.files n
  pub grows : length c.files ≤ length d.files

onward_then : (c d e : Contents) → Onward c d → Onward d e → Onward c e
onward_then c d e a b = record {
  sound = λ s. b.sound (a.sound s);
  bytes = λ n. b.bytes n ∙ a.bytes n;
  grows =
      omega (arith, a.grows, b.grows);
}

-- a call that leaves the files
pub kept : (c d : Contents) → d.files ≡ c.files → ((n : ℕ) → d.coming n ≡ c.coming (suc n)) → Onward c d
kept c d same next = record {
  sound = λ s n. next n ∙ s (suc n);
  bytes = λ n. ap (λ (fs : List StoredFile). bytes_of fs n) same;
  grows =
      omega (arith, ap length same);
}

bytes_made : (fs : List StoredFile) (name : List ℕ) (n : ℕ) → bytes_of (fs ++ fresh name ∷ []) n ≡ bytes_of fs n
bytes_made [] name zero = refl
bytes_made [] name (suc n) = refl
bytes_made (f ∷ fs) name zero = refl
bytes_made (f ∷ fs) name (suc n) = bytes_made fs name n

one_longer : (fs : List StoredFile) (f : StoredFile) → length (fs ++ f ∷ []) ≡ suc (length fs)
one_longer [] f = refl
one_longer (g ∷ fs) f = ap suc (one_longer fs f)

bytes_unnamed : (fs : List StoredFile) (place n : ℕ) → bytes_of (unnamed fs place) n ≡ bytes_of fs n
bytes_unnamed [] place n = refl
bytes_unnamed (f ∷ fs) zero zero = refl
bytes_unnamed (f ∷ fs) zero (suc n) = refl
bytes_unnamed (f ∷ fs) (suc place) zero = refl
bytes_unnamed (f ∷ fs) (suc place) (suc n) = bytes_unnamed fs place n

length_unnamed : (fs : List StoredFile) (place : ℕ) → length (unnamed fs place) ≡ length fs
length_unnamed [] place = refl
length_unnamed (f ∷ fs) zero = refl
length_unnamed (f ∷ fs) (suc place) = ap suc (length_unnamed fs place)

-- a call that may be refused
by_outcome : {T : Type 0} (c : Contents) (answer : Answer T) → Onward c answer.1 → (o : Outcome) →
    Onward c (if_refused o (λ f. refusal f c) answer).1
by_outcome c answer on Done = on
by_outcome c answer on (Refuses f) = kept c (called c) refl (λ n. refl)
by_outcome c answer on (Short most) = on

open_found : (c : Contents) (name : List ℕ) (found : Option ℕ) → Onward c (open_at c name found).1
open_found c name None = record {
  sound = λ s n. s (suc n);
  bytes = bytes_made c.files name;
  grows =
      omega (arith, one_longer c.files (fresh name));
}
open_found c name (Some place) = kept c (open_at c name (Some place)).1 refl (λ n. refl)

open_free : (c : Contents) (name : List ℕ) (taken : Bool) →
    Onward c (cond taken (refusal Refused c) (open_at c name (file_named name c.files))).1
open_free c name true = kept c (called c) refl (λ n. refl)
open_free c name false = open_found c name (file_named name c.files)

opened_on : (c : Contents) (name : List ℕ) → Onward c (opened c name).1
opened_on c name = by_outcome c (open_plain name c) (open_free c name (link_named name c.links)) (c.coming 0)

made_on : (c : Contents) → Onward c (dirs_made c).1
made_on c = by_outcome c (make_plain c) (kept c (make_plain c).1 refl (λ n. refl)) (c.coming 0)

link_free : (c : Contents) (links : List (List ℕ × List ℕ)) (taken : Bool) →
    Onward c (cond taken (refusal {T = Unit {0}} Refused c) (Ok tt, record (called c) { links = links })).1
link_free c links true = kept c (called c) refl (λ n. refl)
link_free c links false = kept c (record (called c) { links = links }) refl (λ n. refl)

linked_on : (c : Contents) (name target : List ℕ) → Onward c (linked c name target).1
linked_on c name target =
    by_outcome c (link_plain name target c)
    (link_free c (links_with c.links (link_place name c.links) (name, target)) (is_some (file_named name c.files))) (c.coming 0)

remove_found : (c : Contents) (found : Option ℕ) → Onward c (remove_at c found).1
remove_found c None = kept c (called c) refl (λ n. refl)
remove_found c (Some place) = record {
  sound = λ s n. s (suc n);
  bytes = bytes_unnamed c.files place;
  grows =
      omega (arith, length_unnamed c.files place);
}

removed_on : (c : Contents) (name : List ℕ) → Onward c (removed c name).1
removed_on c name = by_outcome c (remove_plain name c) (remove_found c (file_named name c.files)) (c.coming 0)

listed_on : (c : Contents) (prefix : List ℕ) → Onward c (names_listed c prefix).1
listed_on c prefix = by_outcome c (list_plain prefix c) (kept c (called c) refl (λ n. refl)) (c.coming 0)

pub closed_on : (c : Contents) (file : FileNumber) → Onward c (closed c file).1
closed_on c file = by_outcome c (close_plain file c) (kept c (close_plain file c).1 refl (λ n. refl)) (on_file file c 0)

-- an answered file is there
abbrev InAnswer : Answer FileNumber → Type 0
InAnswer (Ok file, c) = file.index < length c.files
InAnswer (Err e, c) = Unit {0}

abbrev pub Within : Tried → Type 0
Within (Ok file, c) = file.index < length c.files
Within (Err f, c) = Unit {0}

place_first : {X : Type 0} (p : X → Bool) (x : X) (xs : List X) (k i : ℕ) →
    ((j : ℕ) → position_from p (k + 1) xs ≡ Some j → j < (k + 1) + length xs) → (b : Bool) →
    cond b (Some k) (position_from p (k + 1) xs) ≡ Some i → i < k + suc (length xs)
place_first p x xs k i rest true is = let same : k ≡ i = cc in omega (arith, same)
place_first p x xs k i rest false is = let within = rest i is in omega (arith, within)

place_within : {X : Type 0} (p : X → Bool) (xs : List X) (k i : ℕ) → position_from p k xs ≡ Some i → i < k + length xs
place_within p [] k i is = cc
place_within p (x ∷ xs) k i is = place_first p x xs k i (λ j e. place_within p xs (k + 1) j e) (p x) is

in_found : (c : Contents) (name : List ℕ) (found : Option ℕ) → file_named name c.files ≡ found → InAnswer (open_at c name found)
in_found c name None is = omega (arith, one_longer c.files (fresh name))
in_found c name (Some place) is = let within = place_within (has_name name) c.files 0 place is in omega (arith, within)

in_free : (c : Contents) (name : List ℕ) (taken : Bool) →
    InAnswer (cond taken (refusal Refused c) (open_at c name (file_named name c.files)))
in_free c name true = tt
in_free c name false = in_found c name (file_named name c.files) refl

in_outcome : (c : Contents) (answer : Answer FileNumber) → InAnswer answer → (o : Outcome) →
    InAnswer (if_refused o (λ f. refusal f c) answer)
in_outcome c answer is Done = is
in_outcome c answer is (Refuses f) = tt
in_outcome c answer is (Short most) = is

in_opened : (c : Contents) (name : List ℕ) → InAnswer (opened c name)
in_opened c name = in_outcome c (open_plain name c) (in_free c name (link_named name c.links)) (c.coming 0)

module _ (start : Contents) where
  -- retention
  removal_on : (f : Faults) (a : Answer (Unit {0})) → Onward start a.1 → Onward start (after_removal f a).1
  removal_on f (Ok done, c) on = on
  removal_on f (Err (Fault fault), c) on = on
  removal_on f (Err OutOfMemory, c) on = on

  removals_on : (names : List (List ℕ)) (at : Faults × Contents) → Onward start at.1 → Onward start (removed_all names at).1
  removals_on [] at on = on
  removals_on (name ∷ names) at on =
      removals_on names (after_removal at.0 (removed at.1 name))
      (removal_on at.0 (removed at.1 name) (onward_then start at.1 (removed at.1 name).1 on (removed_on at.1 name)))

  listing_on : (names : FileNames) (limit : ℕ) (f : Faults) (a : Answer (List Listed)) → Onward start a.1 →
      Onward start (pruned_after names limit f a).1
  listing_on names limit f (Ok listing, c) on = removals_on (doomed limit (candidates_in names listing)) (f, c) on
  listing_on names limit f (Err (Fault fault), c) on = on
  listing_on names limit f (Err OutOfMemory, c) on = on

  -- a try, whose file is there
  abbrev Tries : Tried → Type 0
  Tries t = Onward start t.1 × Within t

  last_on : (a : Answer FileNumber) → Onward start a.1 → InAnswer a → Tries (last_opening a)
  last_on (Ok file, c) on within = (on, within)
  last_on (Err e, c) on within = (on, tt)

  dirs_on : (name : List ℕ) (a : Answer (Unit {0})) → Onward start a.1 → Tries (after_dirs name a)
  dirs_on name (Ok done, c) on = last_on (opened c name) (onward_then start c (opened c name).1 on (opened_on c name)) (in_opened c name)
  dirs_on name (Err e, c) on = (on, tt)

  opening_on : (name : List ℕ) (a : Answer FileNumber) → Onward start a.1 → InAnswer a → Tries (after_opening name a)
  opening_on name (Ok file, c) on within = (on, within)
  opening_on name (Err e, c) on within = dirs_on name (dirs_made c) (onward_then start c (dirs_made c).1 on (made_on c))

  link_on : (file : FileNumber) (a : Answer (Unit {0})) → Onward start a.1 → file.index < length a.1.files → Tries (after_link file a)
  link_on file (Ok done, c) on within = (on, within)
  link_on file (Err e, c) on within = (onward_then start c (closed c file).1 on (closed_on c file), tt)

  file_on : (link name : List ℕ) (t : Tried) → Tries t → Tries (after_file link name t)
  file_on link name (Ok file, c) (on, within) =
      let linking = linked_on c link name in
      link_on file (linked c link name) (onward_then start c (linked c link name).1 on linking) (omega (arith, within, linking.grows))
  file_on link name (Err f, c) tries = tries

  failed_on : (h : Held) (c : Contents) (e : FolderError) → Onward start c → Onward start (failed_by h c e).contents
  failed_on h c (Fault fault) on = on
  failed_on h c OutOfMemory on = on

  tried_on : (h : Held) (t : Tried) → Onward start t.1 → Onward start (tried h t).contents
  tried_on h (Ok file, c) on = onward_then start c (closed c h.current).1 on (closed_on c h.current)
  tried_on h (Err f, c) on = failed_on h c f.error on

on_itself : (c : Contents) → Onward c c
on_itself c = record { sound = λ s. s; bytes = λ n. refl; grows = omega arith }

pruned_on : (limit : Option ℕ) (names : FileNames) (f : Faults) (c : Contents) → Onward c (pruned_by limit names f c).1
pruned_on None names f c = on_itself c
pruned_on (Some limit) names f c = listing_on c names limit f (names_listed c (asked_prefix names)) (listed_on c (asked_prefix names))

twice_on : (c : Contents) (name : List ℕ) → Tries c (opened_twice name c)
twice_on c name = opening_on c name (opened c name) (opened_on c name) (in_opened c name)

pub try_on : (latest : Option (List ℕ)) (name : List ℕ) (c : Contents) → Tries c (opened_linked latest name c)
try_on None name c = twice_on c name
try_on (Some link) name c = file_on c link name (opened_twice name c) (twice_on c name)

-- a look
pub look_on : (due : Bool) (names : FileNames) (m : Moment) (h : Held) → Onward h.contents (look_if due names m h).contents
look_on false names m h = on_itself h.contents
look_on true names m h =
    let at = pruned names h.faults h.contents in
    tried_on h.contents (record { boundary = end_at names m; current = h.current; faults = at.0; contents = at.1 }) (try_at names m at.1)
    (onward_then h.contents at.1 (try_at names m at.1).1 (pruned_on names.limit names h.faults h.contents)
    (try_on names.latest (name_at names m) at.1).0)

pub line_sound : (names : FileNames) (m : Moment) (h : Held) (bytes : List ℕ) (boundary : Option ℤ) (current : FileNumber) (f : Faults)
    (d : Contents) → IsSound h.contents → HandsTo names m h bytes (Ok tt) boundary current f (Some d) → IsSound d
line_sound names m h bytes boundary current f d sound over =
    let w = over.writes in
    let same : d ≡ w.left.contents = cc (w.left.is) in
    subst IsSound (sym same) (still_sound w.left ((look_on (is_due h.boundary m.seconds) names m h).sound sound))
