-- Looks, writes and lines of an appender over a folder that refuses nothing.
use Rattle.std.proofs.Common.{◌≡◌, ℕ, suc, ℤ, Bool, true, false, List, [], ◌∷◌, ◌++◌, take, refl, ap, subst, ◌∙◌, sym, Option, Some, None}
use Rattle.std.proofs.Common.{Result, Ok, Err, inr}
use Rattle.std.specs.Prelude.{IfErr, ◌≢◌}
use Rattle.tracing_core_moments.specs.declared.moment.Moment.{Moment}
use Rattle.tracing_appender_rolling.specs.declared.folders.fault.FileNumber.{FileNumber}
use Rattle.tracing_appender_rolling.specs.declared.folders.fault.FolderError.{FolderError}
use Rattle.tracing_appender_rolling.specs.declared.folders.fault.FolderError.TheVariants.{Fault, OutOfMemory}
use Rattle.tracing_core_moments.specs.Moments.{is_moment, is_due}
use Rattle.tracing_appender_rolling.specs.folders.Contents.{Contents, Gives, called, flushed, without_number, on_file, written, appended}
use Rattle.tracing_appender_rolling.proofs.folders.Content.{appended-nil}
use Rattle.tracing_appender_rolling.proofs.FaultlessFolder.{fed_leaves, flush_still, stays_open}
use Rattle.tracing_appender_rolling.specs.declared.appender.RollingFileAppender.{RollingFileAppender}
use Rattle.tracing_appender_rolling.specs.Names.{FileNames}
use Rattle.tracing_appender_rolling.specs.Looks.{Switches, end_at}
use Rattle.tracing_appender_rolling.specs.Builders.{builder_names}
use Rattle.tracing_appender_rolling.specs.Sinks.{is_past}
use Rattle.tracing_appender_rolling.specs.Writes.{WritesAll}
use Rattle.tracing_appender_rolling.specs.PrunedSinks.{PrunedSink, IsOpenIn, OpensAfter, without, with_line, removed_from, removed_if}
use Rattle.tracing_appender_rolling.specs.PrunedSinks.{pruned_at, KeepsEveryFile, MatchesSink, KeptIn, AgreesSink, MissedAt, HandsSink}
use Rattle.tracing_appender_rolling.specs.PrunedSinks.{WritesSink, LeavesSink}
use Rattle.tracing_appender_rolling.proofs.WriteLoop.{still_sound, sound_fails, took, no_fault}
use Rattle.tracing_appender_rolling.proofs.CurrentFile.{look_left, push_left, same_left}
use Rattle.tracing_appender_rolling.proofs.FaultlessSwitch.{switches_sink}
use Rattle.tracing_appender_rolling.proofs.FaultlessTry.{starved_unchanged}

-- a sink is kept over known contents
pub known_in : (known : Option Contents) (names : FileNames) (boundary : Option ℤ) (current : FileNumber) (p : PrunedSink) →
    KeptIn known names boundary current p → (c : Contents) × (known ≡ Some c)
known_in None names boundary current p kept = absurd kept
known_in (Some c) names boundary current p kept = (c, refl)

-- a look over a folder whose contents are known
module _ {D : Type 0} (contents : D → Option Contents) (m : Moment) (c : Contents) (p : PrunedSink) (is_m : is_moment m ≡ true)
    (a : RollingFileAppender D) (is : contents a.folder ≡ Some c) (agrees : AgreesSink contents a p) where
  matches : MatchesSink c (builder_names a.builder) a.boundary a.current p
  matches = subst (λ (o : Option Contents). KeptIn o (builder_names a.builder) a.boundary a.current p) is agrees

  past_is : (due : Bool) → is_due a.boundary m.seconds ≡ due → is_past p.sink m ≡ due
  past_is due e = ap (λ b. is_due b m.seconds) (sym matches.boundary_same) ∙ e

  pub rolls_early : is_due a.boundary m.seconds ≡ false → HandsSink contents p [] m c a a
  rolls_early early =
      let before = past_is false early in
      record {
        agrees = subst (λ due. AgreesSink contents a (with_line (without (removed_if due p.sink.names c) p) [] m)) (sym before)
            (subst (λ (o : Option Contents). KeptIn o (builder_names a.builder) a.boundary a.current (with_line p [] m)) (sym is)
            (look_left c (builder_names a.builder) a.boundary a.current p m is_m early matches));
        counts = refl;
        opens = subst (λ due. OpensAfter due a.current a.current c.open_files (contents a.folder)) (sym before)
            (subst (λ (o : Option Contents). IsOpenIn o c.open_files) (sym is) refl, refl);
      }

  module _ (E : Type 0) (b : RollingFileAppender D) (same : builder_names b.builder ≡ builder_names a.builder) where
    pub rolls_due : (done : Unit {0}) → is_due a.boundary m.seconds ≡ true →
        Switches {E = E} (builder_names a.builder) m a.boundary a.current a.faults (contents a.folder) (Ok done) b.boundary b.current
        b.faults (contents b.folder) → HandsSink contents p [] m c a b
    rolls_due done due switched =
        let names = builder_names a.builder in
        let past = past_is true due in
        let at = subst (λ (o : Option Contents). Switches {E = E} names m a.boundary a.current a.faults o (Ok done) b.boundary b.current
        b.faults (contents b.folder)) is switched in
        let r = switches_sink c names a.boundary a.current a.faults p m is_m due matches contents a b same at in
        record {
          agrees = subst (λ d. AgreesSink contents b (with_line (without (removed_if d p.sink.names c) p) [] m)) (sym past)
              (subst (λ (n : FileNames). AgreesSink contents b (with_line (without (removed_from n c) p) [] m)) matches.names_same r.0);
          counts = r.1;
          opens = subst (λ d. OpensAfter d a.current b.current c.open_files (contents b.folder)) (sym past) r.2;
        }

    pub rolls_starved : (e : E) → b.boundary ≡ end_at (builder_names a.builder) m → b.current ≡ a.current →
        Switches {E = E} (builder_names a.builder) m a.boundary a.current a.faults (contents a.folder) (Err e) b.boundary b.current b.faults
        (contents b.folder) → KeepsEveryFile p.sink.names → MissedAt contents a.boundary p m b
    rolls_starved e until file switched all =
        let names = builder_names a.builder in
        let k = matches in
        let starved = subst (λ (o : Option Contents). Switches {E = E} names m a.boundary a.current a.faults o (Err e) b.boundary b.current
        b.faults (contents b.folder)) is switched in
        let left = (starved_unchanged names m a.faults b.faults c (contents b.folder) (ap (λ (n : FileNames). n.limit) k.names_same ∙
        all.unlimited) (ap (λ (n : FileNames). n.latest) k.names_same ∙ all.linkless) starved).left in
        let kept = same_left c left.contents names a.boundary a.current p k (still_sound left k.sound)
        (stays_open c left.contents a.current left.open_stay k.current_open) left.links_stay left.files_are in (
          until ∙ ap (λ (n : FileNames). end_at n m) (sym same),
          subst (λ (o : Option Contents). KeptIn o (builder_names b.builder) a.boundary b.current p) (sym left.is)
              (subst (λ (n : FileNames). MatchesSink left.contents n a.boundary b.current p) (sym same)
              (subst (λ (f : FileNumber). MatchesSink left.contents names a.boundary f p) (sym file) kept)),
        )

-- writes of a line's bytes
module _ (after : Option Contents) (names : FileNames) (boundary : Option ℤ) (current : FileNumber) (bytes : List ℕ) where
  -- what a call left stands in the folder
  stands : (d : Contents) (p : PrunedSink) → after ≡ Some d → MatchesSink d names boundary current p → KeptIn after names boundary current p
  stands d p left kept = subst (λ (o : Option Contents). KeptIn o names boundary current p) (sym left) kept

  open_on : (d : Contents) (files : List ℕ) → after ≡ Some d → d.open_files ≡ files → IsOpenIn after files
  open_on d files left opens = subst (λ (o : Option Contents). IsOpenIn o files) (sym left) opens

  pub writes_sink : (known : Option Contents) (r : Result (Unit {0}) FolderError) → WritesAll known current bytes r after →
      WritesSink names boundary current (λ done. bytes) r known after
  writes_sink None (Ok done) w = (λ p m kept. absurd kept, λ files opens. absurd opens)
  writes_sink None (Err (Fault fault)) w = λ p kept. kept
  writes_sink None (Err OutOfMemory) w = λ p kept. absurd kept
  writes_sink (Some c) (Ok done) w =
      let l = w.left in (
        λ p m k. stands l.contents (with_line p bytes m) l.is
            (push_left c l.contents names boundary current p m bytes k (still_sound l k.sound)
            (stays_open c l.contents current l.open_stay k.current_open) l.links_stay l.files_are),
        λ files opens. open_on l.contents files l.is (l.open_stay ∙ opens),
      )
  writes_sink (Some c) (Err (Fault fault)) w = λ p k. let e : Fault fault ≡ OutOfMemory =
      (sound_fails c current bytes (Fault fault) after k.sound k.current_open w).0 in cc
  writes_sink (Some c) (Err OutOfMemory) w = λ p k.
      let l = w.left in
      let none = sound_fails c current bytes OutOfMemory after k.sound k.current_open w in
      let same = l.files_are ∙ ap (λ n. appended c.files current.index (take n bytes)) none.1 ∙ appended-nil c.files current.index in
      stands l.contents p l.is (same_left c l.contents names boundary current p k (still_sound l k.sound)
      (stays_open c l.contents current l.open_stay k.current_open) l.links_stay same)

  -- one write
  pub once_sink : (known : Option Contents) (r : Result ℕ FolderError) → Gives (λ c. written c current bytes) known r after →
      WritesSink names boundary current (λ n. take n bytes) r known after
  once_sink None (Ok n) gives = (λ p m kept. absurd kept, λ files opens. absurd opens)
  once_sink None (Err (Fault fault)) gives = λ p kept. kept
  once_sink None (Err OutOfMemory) gives = λ p kept. absurd kept
  once_sink (Some c) (Ok n) gives =
      let d = (written c current bytes).1 in
      let t = took c current bytes n (on_file current c 0) refl gives.0 in (
        λ p m k. stands d (with_line p (take n bytes) m) gives.1
            (push_left c d names boundary current p m (take n bytes) k (λ j. t.next j ∙ k.sound (suc j))
            (stays_open c d current t.opens k.current_open) t.links t.files),
        λ files opens. open_on d files gives.1 (t.opens ∙ opens),
      )
  once_sink (Some c) (Err (Fault fault)) gives = λ p k. no_fault c current bytes fault k.sound k.current_open gives.0
  once_sink (Some c) (Err OutOfMemory) left =
      λ p k. stands (called c) p left (same_left c (called c) names boundary current p k (λ n. k.sound (suc n)) k.current_open refl refl)

-- a flush
pub flush_sink : (known after : Option Contents) (names : FileNames) (boundary : Option ℤ) (current : FileNumber) (p : PrunedSink)
    (r : Result (Unit {0}) FolderError) → IfErr r (λ e. e ≢ OutOfMemory) → Gives (λ x. flushed x current) known r after →
    KeptIn known names boundary current p → KeptIn after names boundary current p
flush_sink None after names boundary current p r fed gives kept = absurd kept
flush_sink (Some c) after names boundary current p r fed gives k =
    let d = (flushed c current).1 in
    let still = flush_still c current in
    subst (λ (o : Option Contents). KeptIn o names boundary current p) (sym (fed_leaves (λ x. flushed x current) c r after fed gives))
    (same_left c d names boundary current p k (λ n. still.next n ∙ k.sound (suc n)) (stays_open c d current still.opens k.current_open)
    still.links still.files)

-- the open files behind a look stay so behind writes
pub opens_stay : (due : Bool) (before seen new : FileNumber) (files : List ℕ) (middle after : Option Contents) → new ≡ seen →
    ((fs : List ℕ) → IsOpenIn middle fs → IsOpenIn after fs) → OpensAfter due before seen files middle →
    OpensAfter due before new files after
opens_stay true before seen new files middle after same stay opens = stay (without_number before.index (files ++ new.index ∷ []))
    (subst (λ (f : FileNumber). IsOpenIn middle (without_number before.index (files ++ f.index ∷ []))) (sym same) opens)
opens_stay false before seen new files middle after same stay (opens, kept) = (stay files opens, same ∙ kept)

-- a line: a look, then its bytes
module _ {D T : Type 0} (contents : D → Option Contents) (m : Moment) (line : T → List ℕ) (c : Contents) (p : PrunedSink)
    (old a b : RollingFileAppender D) (looked : HandsSink contents p [] m c old a)
    (still : b ≡ record a { folder = b.folder; faults = b.faults }) where
  moved : (q : PrunedSink) → KeptIn (contents b.folder) (builder_names a.builder) a.boundary a.current q → AgreesSink contents b q
  moved q kept = subst (λ (x : RollingFileAppender D). KeptIn (contents b.folder) (builder_names x.builder) x.boundary x.current q)
      (sym still) kept

  pub leaves_sink : (r : Result T FolderError) → ((v : T) → r ≡ Ok v → b.faults ≡ a.faults) →
      WritesSink (builder_names a.builder) a.boundary a.current line r (contents a.folder) (contents b.folder) →
      LeavesSink contents p line m c old r b
  leaves_sink (Ok v) counted wrote = record {
    agrees = moved (with_line (pruned_at p m c) (line v) m) (wrote.0 (pruned_at p m c) m looked.agrees);
    counts = counted v refl ∙ looked.counts;
    opens = opens_stay (is_past p.sink m) old.current a.current b.current c.open_files (contents a.folder) (contents b.folder)
        (ap (λ (x : RollingFileAppender D). x.current) still) wrote.1 looked.opens;
  }
  leaves_sink (Err (Fault fault)) counted wrote = wrote (with_line (pruned_at p m c) [] m) looked.agrees
  leaves_sink (Err OutOfMemory) counted wrote =
      λ all. inr (moved (with_line (pruned_at p m c) [] m) (wrote (with_line (pruned_at p m c) [] m) looked.agrees))
