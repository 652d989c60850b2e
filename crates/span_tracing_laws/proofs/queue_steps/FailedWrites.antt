-- Lines of a step that were written whole, by the count of writes that failed.
use Rattle.std.proofs.Common.{◌≡◌, ◌∙◌, ◌<◌, ◌≤◌, ◌+◌, ◌-◌, ◌^◌, Bool, true, false, ℕ, suc, min, List, [], ◌∷◌, Option, Some, None, arith}
use Rattle.std.proofs.Common.{refl, sym, ap, subst}
use Rattle.std.specs.Prelude.{Ok, Err}
use Rattle.tracing_core_moments.specs.Moments.{is_due}
use Rattle.tracing_core_moments.specs.declared.moment.Moment.{Moment}
use Rattle.tracing_appender_rolling.specs.Faults.{after_listing}
use Rattle.tracing_appender_rolling.specs.Looks.{Held, end_at, failed_by, look_at, look_if, tried, try_at}
use Rattle.tracing_appender_rolling.specs.Names.{FileNames}
use Rattle.tracing_appender_rolling.specs.RetentionRemovals.{after_removal, doomed, pruned, pruned_after, pruned_by, removed_all}
use Rattle.tracing_appender_rolling.specs.Tries.{Tried}
use Rattle.tracing_appender_rolling.specs.declared.faults.Faults.{Faults}
use Rattle.tracing_appender_rolling.specs.declared.folders.fault.FolderError.{FolderError}
use Rattle.tracing_appender_rolling.specs.declared.folders.fault.FolderError.TheVariants.{Fault, OutOfMemory}
use Rattle.tracing_appender_rolling.specs.declared.folders.fault.FolderFault.{FolderFault}
use Rattle.tracing_appender_rolling.specs.declared.folders.fault.FolderFault.TheVariants.{NotFound, Refused, Unsupported, WriteZero}
use Rattle.tracing_appender_rolling.specs.folders.Contents.{Answer, Contents, Listed, names_listed, removed}
use Rattle.tracing_appender_rolling.specs.Retention.{asked_prefix, candidates_in}
use Rattle.tracing_appender_queue.specs.declared.worker.step.Written.{Written}
use Rattle.tracing_appender_queue.specs.declared.worker.step.Written.TheVariants.{Failed, Missed, Whole}
use Rattle.tracing_appender_queue.specs.worker.Steps.{AllWhole, LineTo, LinesTo, flushed_if, missed_in}

-- retention and looks count no write
removal_writes : (f : Faults) (answer : Answer (Unit {0})) → (after_removal f answer).0.writes ≡ f.writes
removal_writes f (Ok done, c) = refl
removal_writes f (Err (Fault fault), c) = refl
removal_writes f (Err OutOfMemory, c) = refl

removed_writes : (names : List (List ℕ)) (at : Faults × Contents) → (removed_all names at).0.writes ≡ at.0.writes
removed_writes [] at = refl
removed_writes (name ∷ names) at =
    removed_writes names (after_removal at.0 (removed at.1 name)) ∙ removal_writes at.0 (removed at.1 name)

listing_writes : (f : Faults) (fault : FolderFault) → (after_listing f fault).writes ≡ f.writes
listing_writes f NotFound = refl
listing_writes f Refused = refl
listing_writes f Unsupported = refl
listing_writes f WriteZero = refl

listed_writes : (names : FileNames) (limit : ℕ) (f : Faults) (answer : Answer (List Listed)) →
    (pruned_after names limit f answer).0.writes ≡ f.writes
listed_writes names limit f (Ok listing, c) = removed_writes (doomed limit (candidates_in names listing)) (f, c)
listed_writes names limit f (Err (Fault fault), c) = listing_writes f fault
listed_writes names limit f (Err OutOfMemory, c) = refl

pruned_writes : (limit : Option ℕ) (names : FileNames) (f : Faults) (c : Contents) → (pruned_by limit names f c).0.writes ≡ f.writes
pruned_writes None names f c = refl
pruned_writes (Some limit) names f c = listed_writes names limit f (names_listed c (asked_prefix names))

failed_writes : (h : Held) (c : Contents) (e : FolderError) → (failed_by h c e).faults.writes ≡ h.faults.writes
failed_writes h c (Fault fault) = refl
failed_writes h c OutOfMemory = refl

tried_writes : (h : Held) (t : Tried) → (tried h t).faults.writes ≡ h.faults.writes
tried_writes h (Ok file, c) = refl
tried_writes h (Err f, c) = failed_writes h c f.error

look_writes : (due : Bool) (names : FileNames) (m : Moment) (h : Held) → (look_if due names m h).faults.writes ≡ h.faults.writes
look_writes true names m h =
    let at = pruned names h.faults h.contents in
    tried_writes (record { boundary = end_at names m; current = h.current; faults = at.0; contents = at.1 }) (try_at names m at.1) ∙
    pruned_writes names.limit names h.faults h.contents
look_writes false names m h = refl

pub flush_faults : (whole : Bool) (h : Held) → (flushed_if whole h).faults ≡ h.faults
flush_faults true h = refl
flush_faults false h = refl

one_fed : (n : ℕ) → suc n ≡ 0 → ⊥
one_fed n e = absurd (omega (arith, e))

-- a count that stops at the greatest number
more_least : (n : ℕ) → n ≤ 2 ^ 64 - 1 → n ≤ min (n + 1) (2 ^ 64 - 1)
more_least n few = omega (arith, few)

more_most : (n : ℕ) → min (n + 1) (2 ^ 64 - 1) ≤ 2 ^ 64 - 1
more_most n = omega arith

module _ (names : FileNames) (m : Moment) where
  look_keeps : (h : Held) → (look_at names m h).faults.writes ≡ h.faults.writes
  look_keeps h = look_writes (is_due h.boundary m.seconds) names m h

  whole_writes : (h next : Held) (line : List ℕ) → LineTo names m h line Whole next → next.faults.writes ≡ h.faults.writes
  whole_writes h next line goes = ap (λ (f : Faults). f.writes) goes.counted ∙ look_keeps h

  fault_writes : (h next : Held) (line : List ℕ) (fault : FolderFault) → LineTo names m h line (Failed fault) next →
      next.faults.writes ≡ min (h.faults.writes + 1) (2 ^ 64 - 1)
  fault_writes h next line fault goes =
      ap (λ (f : Faults). f.writes) goes.counted ∙ ap (λ (n : ℕ). min (n + 1) (2 ^ 64 - 1)) (look_keeps h)

  -- the count never falls
  pub record Grows (h last : Held) : Type 0 where
    pub few : last.faults.writes ≤ 2 ^ 64 - 1
    pub least : h.faults.writes ≤ last.faults.writes

  grown_by : (a b c : ℕ) → b ≡ a → b ≤ c → a ≤ c
  grown_by a b c same le = omega (arith, same, le)

  grown_more : (a b c : ℕ) → a ≤ 2 ^ 64 - 1 → b ≡ min (a + 1) (2 ^ 64 - 1) → b ≤ c → a ≤ c
  grown_more a b c few is le = omega (arith, few, is, le)

  few_more : (a b : ℕ) → b ≡ min (a + 1) (2 ^ 64 - 1) → b ≤ 2 ^ 64 - 1
  few_more a b is = omega (arith, is)

  pub writes_grow : (h last : Held) (lines : List (List ℕ)) (fates : List Written) → LinesTo names m h lines fates last →
      missed_in fates ≡ 0 → h.faults.writes ≤ 2 ^ 64 - 1 → Grows h last
  writes_grow h last [] [] goes none few =
      let same : last.faults.writes ≡ h.faults.writes = ap (λ (x : Held). x.faults.writes) goes in
      record { few = omega (arith, same, few); least = omega (arith, same) }
  writes_grow h last [] (f ∷ fs) goes none few = absurd goes
  writes_grow h last (l ∷ ls) [] goes none few = absurd goes
  writes_grow h last (l ∷ ls) (Whole ∷ fs) (next, first, rest) none few =
      let same : next.faults.writes ≡ h.faults.writes = whole_writes h next l first in
      let later = writes_grow next last ls fs rest none (omega (arith, same, few)) in
      record { few = later.few; least = grown_by h.faults.writes next.faults.writes last.faults.writes same later.least }
  writes_grow h last (l ∷ ls) (Failed fault ∷ fs) (next, first, rest) none few =
      let more : next.faults.writes ≡ min (h.faults.writes + 1) (2 ^ 64 - 1) = fault_writes h next l fault first in
      let later = writes_grow next last ls fs rest none (few_more h.faults.writes next.faults.writes more) in
      record { few = later.few; least = grown_more h.faults.writes next.faults.writes last.faults.writes few more later.least }
  writes_grow h last (l ∷ ls) (Missed ∷ fs) goes none few = absurd (one_fed (missed_in fs) none)

  not_more : (a b c : ℕ) → a < 2 ^ 64 - 1 → b ≡ min (a + 1) (2 ^ 64 - 1) → b ≤ c → c ≡ a → ⊥
  not_more a b c few is le same = omega (arith, few, is, le, same)

  -- where it stayed below the greatest number, each line was written whole
  pub all_whole : (h last : Held) (lines : List (List ℕ)) (fates : List Written) → LinesTo names m h lines fates last →
      missed_in fates ≡ 0 → h.faults.writes < 2 ^ 64 - 1 → last.faults.writes ≡ h.faults.writes → AllWhole fates
  all_whole h last [] [] goes none few stayed = tt
  all_whole h last [] (f ∷ fs) goes none few stayed = absurd goes
  all_whole h last (l ∷ ls) [] goes none few stayed = absurd goes
  all_whole h last (l ∷ ls) (Whole ∷ fs) (next, first, rest) none few stayed =
      let same : next.faults.writes ≡ h.faults.writes = whole_writes h next l first in
      (refl, all_whole next last ls fs rest none (subst (λ (n : ℕ). n < 2 ^ 64 - 1) (sym same) few) (stayed ∙ sym same))
  all_whole h last (l ∷ ls) (Failed fault ∷ fs) (next, first, rest) none few stayed =
      let more : next.faults.writes ≡ min (h.faults.writes + 1) (2 ^ 64 - 1) = fault_writes h next l fault first in
      let later = writes_grow next last ls fs rest none (few_more h.faults.writes next.faults.writes more) in
      absurd (not_more h.faults.writes next.faults.writes last.faults.writes few more later.least stayed)
  all_whole h last (l ∷ ls) (Missed ∷ fs) goes none few stayed = absurd (one_fed (missed_in fs) none)
