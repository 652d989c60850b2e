-- The building, from what its retention and its try left.
use Rattle.std.proofs.Common.{◌≡◌, ℕ, ℤ, List, true, refl, ap, subst, sym, ◌∙◌, inl, inr, Option, Some, None, Ok, Err}
use Rattle.tracing_core_moments.specs.declared.moment.Moment.{Moment}
use Rattle.tracing_core_moments.specs.Moments.{is_moment, period_at}
use Rattle.tracing_appender_rolling.specs.declared.folders.fault.FolderError.{FolderError}
use Rattle.tracing_appender_rolling.specs.declared.folders.fault.FolderError.TheVariants.{Fault, OutOfMemory}
use Rattle.tracing_appender_rolling.specs.folders.Contents.{Contents, StoredFile, link_named, bytes_at}
use Rattle.tracing_appender_rolling.specs.declared.init.InitContext.{InitContext}
use Rattle.tracing_appender_rolling.specs.declared.init.InitContext.TheVariants.{File}
use Rattle.tracing_appender_rolling.specs.declared.init.InitFailure.{InitFailure}
use Rattle.tracing_appender_rolling.specs.declared.appender.Opened.{Opened}
use Rattle.tracing_appender_rolling.specs.declared.faults.Faults.{Faults}
use Rattle.tracing_appender_rolling.specs.Names.{FileNames, file_name, HasGoodLink}
use Rattle.tracing_appender_rolling.specs.RetentionRemovals.{pruned, Prunes}
use Rattle.tracing_appender_rolling.specs.Faults.{no_faults}
use Rattle.tracing_appender_rolling.specs.Tries.{TriesFile, MissedFile, Gave, failure}
use Rattle.tracing_appender_rolling.specs.Looks.{Starved, name_at, end_at, try_at}
use Rattle.tracing_appender_rolling.specs.Appenders.{IsOpenedAt, FailedAt, Begins}
use Rattle.tracing_appender_rolling.specs.PrunedSinks.{KeepsEveryFile, OnceIf, LinkFree, MayOpen, HandsBack}
use Rattle.tracing_appender_rolling.proofs.FaultlessSwitch.{fails_never}
use Rattle.tracing_appender_rolling.proofs.WriteLoop.{still_sound}
use Rattle.tracing_appender_rolling.proofs.FaultlessTry.{starved_unchanged}

-- the folder comes back where there was no memory
pub hands_back : (c : Contents) (names : FileNames) (m : Moment) (l : Faults) (after : Option Contents) → MayOpen c names →
    KeepsEveryFile names → Starved names m no_faults c l after → HandsBack c names after
hands_back c names m l after may all starved =
    let left = (starved_unchanged names m no_faults l c after all.unlimited all.linkless starved).left in (
      left.contents,
      left.is,
      (
        (λ name. ap (λ (fs : List StoredFile). bytes_at fs name) left.files_are),
        record {
          sound = still_sound left may.sound;
          once = subst (λ (n : Option ℕ). OnceIf n left.contents.files) (sym all.unlimited) tt;
          unlinked = λ opened x is_o is_x. ap (link_named (file_name names opened.seconds (period_at names.kind x))) left.links_stay ∙
              may.unlinked opened x is_o is_x;
          link_free = subst (λ (o : Option (List ℕ)). LinkFree o left.contents) (sym all.linkless) tt;
        },
      ),
    )

pub begins_opened : (known after : Option Contents) (names : FileNames) (m : Moment) (o : Opened) (boundary : Option ℤ) (c : Contents) →
    known ≡ Some c → boundary ≡ end_at names m → Begins names m known (Ok o) after → IsOpenedAt names m c o.file boundary o.faults after
begins_opened known after names m o boundary c is ends begins =
    let b = subst (λ (x : Option Contents). Begins names m x (Ok o) after) is begins in
    subst (λ (e : Option ℤ). IsOpenedAt names m c o.file e o.faults after) (sym ends) b

pub begins_starved : (known after : Option Contents) (names : FileNames) (m : Moment) (f : InitFailure) (c : Contents) → known ≡ Some c →
    is_moment m ≡ true → HasGoodLink names → MayOpen c names → Begins names m known (Err f) after → f.error ≡ OutOfMemory
begins_starved known after names m f c is is_m good may begins = fails_never c names m is_m good may f.context f.error after
    (subst (λ (x : Option Contents). Begins names m x (Err f) after) is begins)

pub starved_first : (names : FileNames) (m : Moment) (known : Option Contents) → Begins names m known (Err (failure File OutOfMemory)) known
starved_first names m None = refl
starved_first names m (Some c) = (no_faults, inl (refl, refl))

fails_by : (names : FileNames) (m : Moment) (c : Contents) (l : Faults) (after : Option Contents) (context : InitContext)
    (e : FolderError) → l ≡ (pruned names no_faults c).0 → Gave (MissedFile names.latest (name_at names m) (pruned names no_faults c).1)
    (try_at names m (pruned names no_faults c).1) (Err (failure context e)) after → FailedAt names m c context e after
fails_by names m c l after context OutOfMemory counts missed = (l, inr (inr (counts, missed)))
fails_by names m c l after context (Fault fault) counts gave = gave

pub fails_first : (E : Type 0) (names : FileNames) (m : Moment) (name : List ℕ) (known middle after : Option Contents) (l : Faults)
    (f : InitFailure) → name ≡ name_at names m → Prunes {E = E} names no_faults known (Ok tt) l middle →
    TriesFile names.latest name middle (Err f) after → Begins names m known (Err f) after
fails_first E names m name None middle after l f is gone tries =
    subst (λ (o : Option Contents). TriesFile names.latest name o (Err f) after) gone tries
fails_first E names m name (Some c) middle after l f is (counts, there) tries =
    fails_by names m c l after f.context f.error counts
    (subst (λ (n : List ℕ). TriesFile names.latest n (Some (pruned names no_faults c).1) (Err f) after) is
    (subst (λ (o : Option Contents). TriesFile names.latest name o (Err f) after) there tries))
