-- Links, refused buildings, and lines whose write was answered.
use Rattle.std.proofs.Common.{◌≡◌, ℕ, ℤ, List, true, false, ap, sym, subst, ◌∙◌, ◌&&◌, Option, Some, None, Result, Ok, Err}
use Rattle.std.proofs.Common.{IfSome, inl, inr, refl}
use Rattle.std.specs.Prelude.{IfNone, is_some, nat_lt}
use Rattle.std.proofs.lemmas.Option.{same_Some}
use Rattle.tracing_core_moments.specs.Days.{is_second}
use Rattle.tracing_core_moments.specs.Names as dated
use Rattle.tracing_core_moments.specs.declared.moment.Moment.{Moment}
use Rattle.tracing_appender_rolling.specs.declared.folders.fault.FolderError.{FolderError}
use Rattle.tracing_appender_rolling.specs.declared.folders.fault.FolderError.TheVariants.{Fault, OutOfMemory}
use Rattle.tracing_appender_rolling.specs.declared.init.InitContext.{InitContext}
use Rattle.tracing_appender_rolling.specs.declared.folders.fault.FileNumber.{FileNumber}
use Rattle.tracing_appender_rolling.specs.declared.faults.Faults.{Faults}
use Rattle.tracing_appender_rolling.specs.declared.appender.RollingFileAppender.{RollingFileAppender}
use Rattle.tracing_core_moments.specs.Moments.{period_at}
use Rattle.tracing_appender_rolling.specs.Names.{FileNames, file_name, is_bad_name, HasBadLink, HasGoodLink}
use Rattle.tracing_appender_rolling.specs.folders.Contents.{Contents, Gives, written}
use Rattle.tracing_appender_rolling.specs.Appenders.{FailedAt, LooksAt}
use Rattle.tracing_appender_rolling.specs.Builds.{Explains, ReportsBuild, build_error}
use Rattle.tracing_appender_rolling.specs.Looks.{Held, IsHeld, look_at}
use Rattle.tracing_appender_rolling.specs.declared.build.BuildError.TheVariants as builds
use Rattle.tracing_appender_rolling.specs.Faults.{after_write, no_faults, unit_of}
use Rattle.tracing_appender_rolling.specs.FaultReports.{ReportsError}
use Rattle.tracing_appender_rolling.specs.Writes.{WritesAll}
use Rattle.tracing_appender_rolling.specs.LineHandover.{HandedOver, HandsLine, WrittenOnce, WriteMissed, WritesOnce}
use Rattle.tracing_appender_rolling.specs.PrunedSinks.{MayOpen}
use Rattle.tracing_appender_rolling.proofs.BuildOutcome.{hands_back}
use Rattle.tracing_appender_rolling.proofs.PeriodFacts.{moment_second, name_is}

module _ (names : FileNames) (link : List ℕ) (is : names.latest ≡ Some link) where
  pub link_bad : (r : Option ℤ) → IfSome r (λ s. (is_second s ≡ true) × (link ≡ dated.name_at names.kind names.prefix names.suffix s)) →
      is_some r ≡ true → HasBadLink names
  link_bad None h e = cc
  link_bad (Some s) h e = (
    record { seconds = s; nanoseconds = 0 },
    ap (λ b. b && nat_lt 0 1000000000) h.0,
    is ∙
        ap Some (h.1 ∙ name_is names s),
  )

  pub link_good : (r : Option ℤ) → IfNone r ((s : ℤ) → is_second s ≡ true → link ≡ dated.name_at names.kind names.prefix names.suffix s →
      ⊥) → is_some r ≡ false → HasGoodLink names
  link_good (Some s) h e = cc
  link_good None h e = λ m is_m same.
      h m.seconds (moment_second m is_m) (same_Some link (file_name names m.seconds (period_at names.kind m)) (sym is ∙ same) ∙
      sym (name_is names m.seconds))

pub explained : {D : Type 0} (contents : D → Option Contents) (names : FileNames) (folder : D) (m : Moment) (context : InitContext)
    (e : FolderError) (back : D) → is_bad_name names ≡ false → HasGoodLink names →
    ((c : Contents) → contents folder ≡ Some c → FailedAt names m c context e (contents back)) →
    ((c : Contents) → contents folder ≡ Some c → HasGoodLink names → MayOpen c names → e ≡ OutOfMemory) →
    Explains contents names folder m (build_error context e) back
explained contents names folder m context (Fault fault) back name link failed never =
    (name, link, record { failed = failed; refused = λ c is may. let e : Fault fault ≡ OutOfMemory = never c is link may in cc })
explained contents names folder m context OutOfMemory back name link failed never = (
  name,
  link,
  record {
    left = failed;
    handed_back = λ c is may all. hands_back c names m (failed c is).0 (contents back) may all
        (failed c is).1;
  },
)

-- there was no memory for a text, and the folder wasn't asked
pub text_missed : {D : Type 0} (contents : D → Option Contents) (names : FileNames) (folder : D) (m : Moment) →
    is_bad_name names ≡ false → HasGoodLink names → Explains contents names folder m builds.OutOfMemory folder
text_missed contents names folder m name link = (
  name,
  link,
  record {
    left = λ c is. (no_faults, inl (refl, is));
    handed_back = λ c is may all. hands_back c names m no_faults (contents folder) may all (inl (refl, is));
  },
)

pub told_build : (n m : ℕ) (context : InitContext) (e : FolderError) → ReportsError n e m → ReportsBuild n (build_error context e) m
told_build n m context (Fault fault) told = told
told_build n m context OutOfMemory told = told

hands_line : {D : Type 0} (contents : D → Option Contents) (names : FileNames) (m : Moment) (h : Held) (bytes : List ℕ)
    (r : Result (Unit {0}) FolderError) (a : RollingFileAppender D) → HandedOver (look_at names m h) bytes r a.boundary a.current a.faults
    (contents a.folder) → HandsLine contents names m h bytes r a
hands_line contents names m h bytes (Ok done) a handed = handed
hands_line contents names m h bytes (Err (Fault fault)) a handed = handed
hands_line contents names m h bytes (Err OutOfMemory) a handed = inr handed

-- what an appender stands for behind a look or writes
over_held : (seen : Held) (known : Option Contents) (b : Option ℤ) (f : FileNumber) (l : Faults) (P : Held → Type 0) →
    IsHeld known b f l seen → ((c : Contents) → known ≡ Some c → P (record { boundary = b; current = f; faults = l; contents = c })) →
    P seen
over_held seen known b f l P held all =
    subst (λ (x : Option ℤ). P (record { boundary = x; current = seen.current; faults = seen.faults; contents = seen.contents })) held.until
    (subst (λ (x : FileNumber). P (record { boundary = b; current = x; faults = seen.faults; contents = seen.contents })) held.open_file
    (subst (λ (x : Faults). P (record { boundary = b; current = f; faults = x; contents = seen.contents })) held.counts
    (all seen.contents held.folder)))

pub hands : {D : Type 0} (contents : D → Option Contents) (names : FileNames) (m : Moment) (h : Held) (bytes : List ℕ)
    (r : Result (Unit {0}) FolderError) (a b : RollingFileAppender D) → LooksAt contents names m h a →
    b ≡ record a { folder = b.folder; faults = b.faults } → b.faults ≡ after_write a.faults r →
    WritesAll (contents a.folder) a.current bytes r (contents b.folder) → HandsLine contents names m h bytes r b
hands contents names m h bytes r a b looks still counted writes =
    hands_line contents names m h bytes r b
    (over_held (look_at names m h) (contents a.folder) a.boundary a.current a.faults
    (λ (seen : Held). HandedOver seen bytes r b.boundary b.current b.faults (contents b.folder)) looks
    (λ c is.
    record {
      boundary_same = ap (λ (x : RollingFileAppender _). x.boundary) still;
      current_same = ap (λ (x : RollingFileAppender _). x.current) still;
      counted = counted;
      writes = subst (λ (o : Option Contents). WritesAll o a.current bytes r (contents b.folder)) is writes;
    }))

-- one write
abbrev OnceFrom : {D : Type 0} → (D → Option Contents) → List ℕ → Result ℕ FolderError → RollingFileAppender D → Held → Type 0
OnceFrom contents bytes (Err OutOfMemory) b seen = WriteMissed seen b.boundary b.current b.faults (contents b.folder)
OnceFrom contents bytes (Err (Fault fault)) b seen = WrittenOnce seen bytes (Err (Fault fault)) b.boundary b.current b.faults
    (contents b.folder)
OnceFrom contents bytes (Ok n) b seen = WrittenOnce seen bytes (Ok n) b.boundary b.current b.faults (contents b.folder)

module _ {D : Type 0} (contents : D → Option Contents) (names : FileNames) (m : Moment) (h : Held) (bytes : List ℕ)
    (a b : RollingFileAppender D) (still : b ≡ record a { folder = b.folder; faults = b.faults }) where
  write_from : (r : Result ℕ FolderError) (c : Contents) → b.faults ≡ after_write a.faults (unit_of r) →
      Gives (λ x. written x a.current bytes) (Some c) r (contents b.folder) →
      OnceFrom contents bytes r b (record { boundary = a.boundary; current = a.current; faults = a.faults; contents = c })
  write_from (Ok n) c counted gives = record {
    boundary_same = ap (λ (x : RollingFileAppender _). x.boundary) still;
    current_same =
        ap (λ (x : RollingFileAppender _). x.current) still;
    counted = counted;
    answered = gives.0;
    left = gives.1;
  }
  write_from (Err (Fault fault)) c counted gives = record {
    boundary_same = ap (λ (x : RollingFileAppender _). x.boundary) still;
    current_same = ap (λ (x : RollingFileAppender _). x.current) still;
    counted = counted;
    answered = gives.0;
    left = gives.1;
  }
  write_from (Err OutOfMemory) c counted gives = record {
    folder = gives;
    until = ap (λ (x : RollingFileAppender _). x.boundary) still;
    open_file = ap (λ (x : RollingFileAppender _). x.current) still;
    counts = counted;
  }

  write_behind : (r : Result ℕ FolderError) → OnceFrom contents bytes r b (look_at names m h) → WritesOnce contents names m h bytes r b
  write_behind (Ok n) wrote = wrote
  write_behind (Err (Fault fault)) wrote = wrote
  write_behind (Err OutOfMemory) missed = inr missed

  pub writes_once : (r : Result ℕ FolderError) → LooksAt contents names m h a → b.faults ≡ after_write a.faults (unit_of r) →
      Gives (λ c. written c a.current bytes) (contents a.folder) r (contents b.folder) → WritesOnce contents names m h bytes r b
  writes_once r looks counted gives =
      write_behind r
      (over_held (look_at names m h) (contents a.folder) a.boundary a.current a.faults (OnceFrom contents bytes r b) looks
      (λ c is. write_from r c counted (subst (λ (o : Option Contents). Gives (λ x. written x a.current bytes) o r (contents b.folder)) is
      gives)))
