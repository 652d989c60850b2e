-- From one state a line has one answer and one end, where no memory is refused.
use Rattle.std.proofs.Common.{◌≡◌, ℕ, ℤ, suc, ◌+◌, ◌-◌, ◌<◌, ◌≤◌, Bool, false, List, length, take, inl, inr, refl, ap, subst, sym, ◌∙◌}
use Rattle.std.proofs.Common.{arith, Option, Some, Result, Ok, Err}
use Rattle.std.specs.Prelude.{◌⊎◌}
use Rattle.std.proofs.Math.Path.{fun_ext}
use Rattle.std.proofs.lemmas.Bool.{cases_lt}
use Rattle.tracing_core_moments.specs.declared.moment.Moment.{Moment}
use Rattle.tracing_appender_rolling.specs.declared.folders.fault.FileNumber.{FileNumber}
use Rattle.tracing_appender_rolling.specs.declared.folders.fault.FolderFault.{FolderFault}
use Rattle.tracing_appender_rolling.specs.declared.folders.fault.FolderError.{FolderError}
use Rattle.tracing_appender_rolling.specs.declared.folders.fault.FolderError.TheVariants.{Fault, OutOfMemory}
use Rattle.tracing_appender_rolling.specs.folders.Contents.{Contents, StoredFile, Outcome, Done, Refuses, Short, appended, on_file, taken}
use Rattle.tracing_appender_rolling.specs.declared.faults.Faults.{Faults}
use Rattle.tracing_appender_rolling.specs.Names.{FileNames}
use Rattle.tracing_appender_rolling.specs.Faults.{after_write}
use Rattle.tracing_appender_rolling.specs.Looks.{Held, look_at}
use Rattle.tracing_appender_rolling.specs.Writes.{Left, for_file, taken_by, Takes, FailsWith, WroteAll, WroteSome, Wrote}
use Rattle.tracing_appender_rolling.specs.LineHandover.{HandedOver, HandsTo, LinesHaveOneEnd, is_starved}

held_same : (a b : Held) → a.boundary ≡ b.boundary → a.current ≡ b.current → a.faults ≡ b.faults → a.contents ≡ b.contents → a ≡ b
held_same a b until file counts left =
    ap (λ (x : Option ℤ). record { boundary = x; current = a.current; faults = a.faults; contents = a.contents }) until
    ∙ ap (λ (x : FileNumber). record { boundary = b.boundary; current = x; faults = a.faults; contents = a.contents }) file
    ∙ ap (λ (x : Faults). record { boundary = b.boundary; current = b.current; faults = x; contents = a.contents }) counts
    ∙ ap (λ (x : Contents). record { boundary = b.boundary; current = b.current; faults = b.faults; contents = x }) left

takes_none : (o : Outcome) → taken o 0 ≡ 0
takes_none Done = refl
takes_none (Refuses fault) = refl
takes_none (Short most) = omega arith

fails_none : (o : Outcome) (fault : FolderFault) (len : ℕ) → FailsWith o (Fault fault) → taken o len ≡ 0
fails_none Done fault len fails = absurd fails
fails_none (Refuses told) fault len fails = refl
fails_none (Short most) fault len fails = omega (arith, fails.0)

fault_once : (o : Outcome) (f g : FolderFault) → FailsWith o (Fault f) → FailsWith o (Fault g) → f ≡ g
fault_once Done f g one two = absurd one
fault_once (Refuses told) f g one two = one ∙ sym two
fault_once (Short most) f g one two = one.1 ∙ sym two.1

module _ (c : Contents) (len : ℕ) where
  -- the write with this number would take none
  abbrev Stops : ℕ → Type 0
  Stops n = taken (c.coming n) (len - taken_by c n len) ≡ 0

  writes_within : (n k all : ℕ) → Takes c n len all → Stops k → n ≤ k
  writes_within n k all takes stops = by_case (cases_lt k n)
    where
      by_case : (k < n) ⊎ (n ≤ k) → n ≤ k
      by_case (inl less) = let some = takes.some k less in absurd (omega (arith, some, stops))
      by_case (inr le) = le

  all_stop : (n : ℕ) → Takes c n len len → Stops n
  all_stop n takes =
      ap (λ k. taken (c.coming n) (len - k)) takes.sum ∙ ap (taken (c.coming n)) (let none : len - len ≡ 0 = omega arith in none) ∙
      takes_none (c.coming n)

  writes_once : (n k all more : ℕ) → Takes c n len all → Takes c k len more → Stops n → Stops k → n ≡ k
  writes_once n k all more one two stops halts =
      let le = writes_within n k all one halts in
      let ge = writes_within k n more two stops in
      omega (arith, le, ge)

contents_same : (a b : Contents) → a.files ≡ b.files → a.links ≡ b.links → a.open_files ≡ b.open_files → a.has_dirs ≡ b.has_dirs →
    a.last_flushed ≡ b.last_flushed → ((n : ℕ) → a.coming n ≡ b.coming n) → a ≡ b
contents_same a b files links opens dirs flushes comes =
    ap (λ (x : List StoredFile). record a { files = x }) files
    ∙ ap (λ (x : List (List ℕ × List ℕ)). record b {
      links = x;
      open_files = a.open_files;
      has_dirs = a.has_dirs;
      last_flushed =
          a.last_flushed;
      coming = a.coming;
    }) links
    ∙ ap (λ (x : List ℕ). record b { open_files = x; has_dirs = a.has_dirs; last_flushed = a.last_flushed; coming = a.coming }) opens
    ∙ ap (λ (x : Bool). record b { has_dirs = x; last_flushed = a.last_flushed; coming = a.coming }) dirs
    ∙ ap (λ (x : Option ℕ). record b { last_flushed = x; coming = a.coming }) flushes
    ∙ ap (λ (x : ℕ → Outcome). record b { coming = x }) (fun_ext comes)

left_once : (c : Contents) (files others : List StoredFile) (dirs : Bool) (n k : ℕ) (p q : Option Contents) → files ≡ others → n ≡ k →
    Left c files dirs n p → Left c others dirs k q → p ≡ q
left_once c files others dirs n k p q same calls x y =
    x.is
    ∙ ap Some
    (contents_same x.contents y.contents (x.files_are ∙ same ∙ sym y.files_are) (x.links_stay ∙ sym y.links_stay)
    (x.open_stay ∙ sym y.open_stay) (x.dirs_are ∙ sym y.dirs_are) (x.flush_stays ∙ sym y.flush_stays)
    (λ i. x.comes i ∙ ap (λ j. c.coming (j + i)) calls ∙ sym (y.comes i)))
    ∙ sym y.is

some_stops : (c : Contents) (file : FileNumber) (bytes : List ℕ) (p : Option Contents) (fault : FolderFault)
    (w : WroteSome c file bytes (Fault fault) p) → Stops (for_file file c) (length bytes) w.writes
some_stops c file bytes p fault w = fails_none (on_file file c w.writes) fault
    (length bytes - taken_by (for_file file c) w.writes (length bytes)) w.fails

not_both : (c : Contents) (file : FileNumber) (bytes : List ℕ) (p q : Option Contents) (fault : FolderFault) → WroteAll c file bytes p →
    WroteSome c file bytes (Fault fault) q → ⊥
not_both c file bytes p q fault x y =
    let len = length bytes in
    let same = writes_once (for_file file c) len x.writes y.writes len y.count x.takes y.takes
    (all_stop (for_file file c) len x.writes x.takes) (some_stops c file bytes q fault y) in
    let count : y.count ≡ len = sym y.takes.sum ∙ ap (λ n. taken_by (for_file file c) n len) (sym same) ∙ x.takes.sum in
    let less = y.less in
    omega (arith, count, less)

wrote_once : (c : Contents) (file : FileNumber) (bytes : List ℕ) (r s : Result (Unit {0}) FolderError) (p q : Option Contents) →
    is_starved r ≡ false → is_starved s ≡ false → Wrote c file bytes r p → Wrote c file bytes s q → (r ≡ s) × (p ≡ q)
wrote_once c file bytes (Ok done) (Ok also) p q fed too x y =
    let len = length bytes in
    let same = writes_once (for_file file c) len x.writes y.writes len len x.takes y.takes (all_stop (for_file file c) len x.writes x.takes)
    (all_stop (for_file file c) len y.writes y.takes) in (
      refl,
      left_once c (appended c.files file.index bytes) (appended c.files file.index bytes) c.has_dirs x.writes y.writes p q refl same
          x.left y.left,
    )
wrote_once c file bytes (Ok done) (Err (Fault g)) p q fed too x y = absurd (not_both c file bytes p q g x y)
wrote_once c file bytes (Ok done) (Err OutOfMemory) p q fed too x y = cc
wrote_once c file bytes (Err (Fault f)) (Ok done) p q fed too x y = absurd (not_both c file bytes q p f y x)
wrote_once c file bytes (Err (Fault f)) (Err (Fault g)) p q fed too x y =
    let len = length bytes in
    let same = writes_once (for_file file c) len x.writes y.writes x.count y.count x.takes y.takes (some_stops c file bytes p f x)
    (some_stops c file bytes q g y) in
    let count : x.count ≡ y.count = sym x.takes.sum ∙ ap (λ n. taken_by (for_file file c) n len) same ∙ y.takes.sum in
    let fault = fault_once (on_file file c y.writes) f g (subst (λ n. FailsWith (on_file file c n) (Fault f)) same x.fails) y.fails in (
      ap (λ (e : FolderFault). Err (Fault e)) fault,
      left_once c (appended c.files file.index (take x.count bytes)) (appended c.files file.index (take y.count bytes)) c.has_dirs
          (suc x.writes) (suc y.writes) p q (ap (λ n. appended c.files file.index (take n bytes)) count) (ap suc same) x.left y.left,
    )
wrote_once c file bytes (Err (Fault f)) (Err OutOfMemory) p q fed too x y = cc
wrote_once c file bytes (Err OutOfMemory) s p q fed too x y = cc

-- a line
module _ (names : FileNames) (m : Moment) (h one two : Held) (bytes : List ℕ) (r s : Result (Unit {0}) FolderError)
    (fed : is_starved r ≡ false) (too : is_starved s ≡ false) where
  handed_once : HandedOver (look_at names m h) bytes r one.boundary one.current one.faults (Some one.contents) →
      HandedOver (look_at names m h) bytes s two.boundary two.current two.faults (Some two.contents) → (r ≡ s) × (one ≡ two)
  handed_once x y =
      let seen = look_at names m h in
      let wrote = wrote_once seen.contents seen.current bytes r s (Some one.contents) (Some two.contents) fed too x.writes y.writes in
      let left : one.contents ≡ two.contents = cc (wrote.1) in (
        wrote.0,
        held_same one two (x.boundary_same ∙ sym y.boundary_same) (x.current_same ∙ sym y.current_same)
            (x.counted ∙ ap (after_write seen.faults) wrote.0 ∙ sym y.counted) left,
      )

over_of : (names : FileNames) (m : Moment) (h : Held) (bytes : List ℕ) (r : Result (Unit {0}) FolderError) (b : Option ℤ) (f : FileNumber)
    (l : Faults) (after : Option Contents) → is_starved r ≡ false → HandsTo names m h bytes r b f l after →
    HandedOver (look_at names m h) bytes r b f l after
over_of names m h bytes (Ok done) b f l after fed over = over
over_of names m h bytes (Err (Fault fault)) b f l after fed over = over
over_of names m h bytes (Err OutOfMemory) b f l after fed over = cc

pub lines_once : LinesHaveOneEnd
lines_once names m h one two bytes r s fed too x y =
    handed_once names m h one two bytes r s fed too (over_of names m h bytes r one.boundary one.current one.faults (Some one.contents) fed
    x)
    (over_of names m h bytes s two.boundary two.current two.faults (Some two.contents) too y)
