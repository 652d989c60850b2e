-- A building and a switch over a folder that refuses nothing keep the sink.
use Rattle.std.proofs.Common.{◌≡◌, ◌==◌, ℕ, ℤ, Bool, true, false, ◌&&◌, ◌||◌, cond, List, [], ◌∷◌, ◌++◌, refl, ap, subst, ◌∙◌, sym, Option}
use Rattle.std.proofs.Common.{Some, None, Ok}
use Rattle.std.specs.List.{list_any}
use Rattle.std.specs.Str.{bytes_eq}
use Rattle.std.proofs.lemmas.Bool.{false≢true, false_from_ne_true}
use Rattle.std.proofs.lemmas.Slice.Eq.{bytes_eq-Decides}
use Rattle.tracing_core_moments.specs.declared.moment.Moment.{Moment}
use Rattle.tracing_appender_rolling.specs.declared.folders.fault.FileNumber.{FileNumber}
use Rattle.tracing_appender_rolling.specs.declared.folders.fault.FolderError.{FolderError}
use Rattle.tracing_appender_rolling.specs.declared.init.InitContext.{InitContext}
use Rattle.tracing_appender_rolling.specs.declared.folders.fault.FolderError.TheVariants.{Fault, OutOfMemory}
use Rattle.tracing_core_moments.specs.Moments.{is_moment, period_at, end_of, is_due, latest_of}
use Rattle.tracing_appender_rolling.specs.folders.Contents.{Contents, listing, without_number, closed, file_named, link_named, bytes_at}
use Rattle.tracing_appender_rolling.proofs.FaultlessFolder.{closed_files, closed_sound, closed_open, closed_leaves, opened_open}
use Rattle.tracing_appender_rolling.proofs.FaultlessFolder.{open_more, stays_open}
use Rattle.tracing_appender_rolling.proofs.folders.Content.{after_line}
use Rattle.tracing_appender_rolling.specs.declared.faults.Faults.{Faults}
use Rattle.tracing_appender_rolling.specs.Names.{FileNames, file_name, HasGoodLink}
use Rattle.tracing_appender_rolling.specs.Faults.{no_faults}
use Rattle.tracing_appender_rolling.specs.RetentionRemovals.{pruned}
use Rattle.tracing_appender_rolling.specs.Builders.{builder_names}
use Rattle.tracing_appender_rolling.specs.declared.appender.RollingFileAppender.{RollingFileAppender}
use Rattle.tracing_appender_rolling.specs.Sinks.{PlainSink, running_moment, running_period, is_past, period_in, period_name, was_opened}
use Rattle.tracing_appender_rolling.specs.Sinks.{file_text}
use Rattle.tracing_appender_rolling.specs.Tries.{Tried, failure, opened_linked}
use Rattle.tracing_appender_rolling.specs.Looks.{Held, IsHeld, tried, try_at, name_at, end_at, switch_at}
use Rattle.tracing_appender_rolling.specs.Appenders.{IsOpenedAt, FailedAt}
use Rattle.tracing_appender_rolling.specs.PrunedSinks.{PrunedSink, IsOpenIn, without, with_line, is_named, doomed_in, removed_from}
use Rattle.tracing_appender_rolling.specs.PrunedSinks.{removed_if, pruned_at, KeepsEveryFile, Leads, LinkFree, MatchesSink, KeptIn}
use Rattle.tracing_appender_rolling.specs.PrunedSinks.{AgreesSink, MayOpen, OpensSink, fresh_sink, FilesByPeriod}
use Rattle.tracing_appender_rolling.proofs.PeriodFacts.{later_period, opening_free}
use Rattle.tracing_appender_rolling.proofs.Files.{running_more, file_more, file_fresh}
use Rattle.tracing_appender_rolling.proofs.Files as placing
use Rattle.tracing_appender_rolling.proofs.FaultlessTry.{answer_file, no_failure}
use Rattle.tracing_appender_rolling.proofs.RetainedFiles.{Removal, retained, once_if}
use Rattle.tracing_appender_rolling.proofs.ByPeriod.{by_period}
use Rattle.tracing_appender_rolling.proofs.LatestLink.{LinkedTry, latest_try}
use Rattle.tracing_appender_rolling.proofs.CurrentFile.{text_without, line_text, all_more, opened_more, gone_opened_by, same_left}
use Rattle.tracing_appender_rolling.proofs.Newest.{not_opened, link_differs}

-- the link's file has no other name, before retention and after it
free_by : (latest : Option (List ℕ)) (name : List ℕ) (c : Contents) → Leads latest name c → LinkFree latest c
free_by None name c leads = tt
free_by (Some link) name c leads = leads.0

none_stays : (b : Bool) (o : Option (List ℕ)) → o ≡ None → cond b None o ≡ None
none_stays true o e = refl
none_stays false o e = e

free_after : (latest : Option (List ℕ)) (c d : Contents) (gone : List (List ℕ)) → Removal c d gone → LinkFree latest c → LinkFree latest d
free_after None c d gone r free = tt
free_after (Some link) c d gone r free = r.bytes link ∙ none_stays (is_named link gone) (bytes_at c.files link) free

-- the building
module _ (c : Contents) (names : FileNames) (m : Moment) (is_m : is_moment m ≡ true) (good : HasGoodLink names) (may : MayOpen c names)
  where
    abbrev first_name : List ℕ
    first_name = name_at names m

    abbrev first : PrunedSink
    first = fresh_sink names m c

    abbrev first_left : Contents
    first_left = (pruned names no_faults c).1

    first_kept : ((pruned names no_faults c).0 ≡ no_faults) × Removal c first_left (removed_from names c)
    first_kept = retained names.limit names no_faults c may.sound may.once

    pub first_try : LinkedTry names.latest first_left first_name (try_at names m first_left)
    first_try =
        let r = first_kept.1 in
        latest_try names.latest first_left first_name r.sound (ap (link_named first_name) r.links ∙ may.unlinked m m is_m is_m)
        (link_differs names m m is_m is_m good)
        (free_after names.latest c first_left (removed_from names c) r may.link_free)

    build_left : MatchesSink first_try.left names (end_at names m) first_try.file first
    build_left =
        let t = first_try in
        let r = first_kept.1 in
        record {
          names_same = refl;
          good_link = good;
          opened_moment = is_m;
          handed_moments = tt;
          boundary_same = refl;
          sound = t.sound;
          once = once_if names.limit c.files t.left.files (λ o. t.once (r.once o)) may.once;
          unlinked = λ x is_x.
              t.free (file_name names m.seconds (period_at names.kind x)) (link_differs names m x is_m is_x good)
              (ap (link_named (file_name names m.seconds (period_at names.kind x))) r.links ∙ may.unlinked m x is_m is_x);
          link = t.leads;
          current_same = t.stands;
          current_open = opened_open first_left t.left t.file t.open_files;
          gone_opened = λ name e. absurd (false≢true e);
          files = λ name. t.bytes name ∙ ap (λ o. after_line (bytes_eq first_name name) o []) (r.bytes name) ∙
              sym (file_fresh names m first.sink.found name);
        }

    -- the folder comes back where there was no memory, and no try fails with a fault
    pub opens_sink : {D : Type 0} (contents : D → Option Contents) (a : RollingFileAppender D) → builder_names a.builder ≡ names →
        IsOpenedAt names m c a.current a.boundary a.faults (contents a.folder) → OpensSink contents names m c a
    opens_sink contents a same_names is =
        let t = first_try in
        let same = answer_file (try_at names m first_left) a.current t.file t.left t.is is.answered in
        let left = is.left ∙ ap (λ (x : Tried). Some x.1) t.is in
        let opens = t.open_files ∙ ap (λ (fs : List ℕ). fs ++ t.file.index ∷ []) first_kept.1.open_stay ∙
        ap (λ (f : FileNumber). c.open_files ++ f.index ∷ []) same in
        let kept = subst (λ (n : FileNumber). MatchesSink t.left names (end_at names m) n first) same build_left in
        record {
          agrees =
              subst (λ (o : Option Contents). KeptIn o (builder_names a.builder) a.boundary a.current first) (sym left)
              (subst (λ (n : FileNames). MatchesSink t.left n a.boundary a.current first) (sym same_names)
              (subst (λ (b : Option ℤ). MatchesSink t.left names b a.current first) (sym is.until) kept));
          counts = is.counts ∙ first_kept.0;
          opens = subst (λ (o : Option Contents). IsOpenIn o (c.open_files ++ a.current.index ∷ [])) (sym left) opens;
        }

    pub fails_never : (context : InitContext) (e : FolderError) (after : Option Contents) → FailedAt names m c context e after →
        e ≡ OutOfMemory
    fails_never context OutOfMemory after fails = refl
    fails_never context (Fault fault) after fails =
        absurd (no_failure (try_at names m first_left) (failure context (Fault fault)) first_try.file first_try.left first_try.is fails.0)

-- a look from the boundary on
module _ (c : Contents) (names : FileNames) (boundary : Option ℤ) (current : FileNumber) (faults : Faults) (p : PrunedSink) (m : Moment)
    (is_m : is_moment m ≡ true) (due : is_due boundary m.seconds ≡ true) (k : MatchesSink c names boundary current p) where
  abbrev s : PlainSink
  s = p.sink

  abbrev gone : List (List ℕ)
  gone = removed_from names c

  abbrev d : Contents
  d = (pruned names faults c).1

  kept : ((pruned names faults c).0 ≡ faults) × Removal c d gone
  kept = retained names.limit names faults c k.sound k.once

  abbrev q : PrunedSink
  q = without gone p

  abbrev looked : PrunedSink
  looked = with_line q [] m

  past : is_past s m ≡ true
  past = ap (λ b. is_due b m.seconds) (sym k.boundary_same) ∙ due

  later : latest_of (running_moment s.opened s.handed) m ≡ m
  later = later_period s.names.kind (running_moment s.opened s.handed) m past

  period : running_period looked.sink ≡ period_in s m
  period = ap (period_in s) (running_more s.opened s.handed (record { line = []; moment = m }) ∙ later)

  abbrev new : List ℕ
  new = period_name s (period_in s m)

  new_is : name_at names m ≡ new
  new_is = ap (λ (n : FileNames). name_at n m) k.names_same ∙ opening_free s.names m.seconds s.opened.seconds (period_in s m)
      (running_period s) m.seconds past

  unopened : was_opened s new ≡ false
  unopened = not_opened s m is_m k.opened_moment k.handed_moments past

  new_left : q.gone new ≡ false
  new_left =
      ap (λ b. (is_named new gone && b) || p.gone new) unopened
      ∙ ap (λ b. (is_named new gone && false) || b)
      (false_from_ne_true (p.gone new) (λ lost. false≢true (sym unopened ∙ k.gone_opened new lost)))
      ∙ never (is_named new gone)
    where
      never : (b : Bool) → ((b && false) || false) ≡ false
      never true = refl
      never false = refl

  left_by : (name : List ℕ) → bytes_eq new name ≡ true → q.gone name ≡ false
  left_by name same = subst (λ (n : List ℕ). q.gone n ≡ false) ((bytes_eq-Decides new name).0 same) new_left

  try : LinkedTry s.names.latest d new (opened_linked s.names.latest new d)
  try =
      let r = kept.1 in
      latest_try s.names.latest d new r.sound (ap (link_named new) r.links ∙ k.unlinked m is_m)
      (link_differs s.names s.opened m k.opened_moment is_m k.good_link)
      (free_after s.names.latest c d gone r (free_by s.names.latest (period_name s (running_period s)) c k.link))

  try_is : try_at names m d ≡ (Ok try.file, try.left)
  try_is =
      ap (λ (o : Option (List ℕ)). opened_linked o (name_at names m) d) (ap (λ (n : FileNames). n.latest) k.names_same)
      ∙ ap (λ (n : List ℕ). opened_linked s.names.latest n d) new_is
      ∙ try.is

  same : placing.name_at q.sink m ≡ new
  same = ap (λ x. period_name s (period_in s x)) later

  switch_left : MatchesSink try.left names (end_at names m) try.file looked
  switch_left = record {
    names_same = k.names_same;
    good_link = k.good_link;
    opened_moment = k.opened_moment;
    handed_moments = all_more s.handed (record { line = []; moment = m }) is_m k.handed_moments;
    boundary_same = ap (λ (n : FileNames). end_at n m) k.names_same ∙ ap (end_of s.names.kind) (sym period);
    sound = try.sound;
    once = once_if names.limit c.files try.left.files (λ o. try.once (kept.1.once o)) k.once;
    unlinked = λ x is_x.
        try.free (period_name s (period_in s x)) (link_differs s.names s.opened x k.opened_moment is_x k.good_link)
        (ap (link_named (period_name s (period_in s x))) kept.1.links ∙ k.unlinked x is_x);
    link = subst (λ (e : ℤ). Leads s.names.latest (period_name s e) try.left) (sym period) try.leads;
    current_same = ap (λ e. file_named (period_name s e) try.left.files) period ∙ try.stands;
    current_open = opened_open d try.left try.file try.open_files;
    gone_opened = λ name lost. opened_more q.sink (record { line = []; moment = m }) name
        (gone_opened_by (is_named name gone) (was_opened s name) (p.gone name) (k.gone_opened name) lost);
    files = λ name.
        try.bytes name
        ∙ ap (λ o. after_line (bytes_eq new name) o []) (kept.1.bytes name ∙ ap (cond (is_named name gone) None) (k.files name) ∙
        sym (text_without p gone name))
        ∙ line_text (bytes_eq new name) (q.gone name) (file_text q.sink name) [] (left_by name)
        ∙ ap (cond (q.gone name) None) (ap (λ n. after_line (bytes_eq n name) (file_text q.sink name) []) (sym same) ∙
        sym (file_more q.sink (record { line = []; moment = m }) name));
  }

  -- the sink that the look leaves, over what it leaves
  pub switches_sink : {D : Type 0} (contents : D → Option Contents) (a b : RollingFileAppender D) → builder_names b.builder ≡ names →
      IsHeld (contents b.folder) b.boundary b.current b.faults
      (switch_at names m (record { boundary = boundary; current = current; faults = faults; contents = c })) →
      AgreesSink contents b looked × (b.faults ≡ faults) ×
      IsOpenIn (contents b.folder) (without_number current.index (c.open_files ++ b.current.index ∷ []))
  switches_sink contents a b same_names is =
      let end_left = (closed try.left current).1 in
      let shut = closed_files try.left current in
      let still = stays_open c d current kept.1.open_stay k.current_open in
      let left = same_left try.left end_left names (end_at names m) try.file looked switch_left (closed_sound try.left current try.sound)
      (closed_leaves d try.left current try.file try.sound try.open_files still) shut.1 shut.0 in
      let start : Held = record { boundary = end_at names m; current = current; faults = (pruned names faults c).0; contents = d } in
      let h = subst (λ (x : Held). IsHeld (contents b.folder) b.boundary b.current b.faults x) (ap (tried start) try_is) is in
      let opens =
      closed_open try.left current try.sound (ap (λ (ns : List ℕ). list_any (λ n. n == current.index) ns) try.open_files ∙
      open_more current.index d.open_files (try.file.index ∷ []) still)
      ∙ ap (without_number current.index) (try.open_files ∙ ap (λ (fs : List ℕ). fs ++ try.file.index ∷ []) kept.1.open_stay ∙
      ap (λ (f : FileNumber). c.open_files ++ f.index ∷ []) (sym h.open_file)) in
      let ends = subst (λ (e : Option ℤ). MatchesSink end_left names e b.current looked) (sym h.until)
      (subst (λ (n : FileNumber). MatchesSink end_left names (end_at names m) n looked) (sym h.open_file) left) in (
        subst (λ (o : Option Contents). KeptIn o (builder_names b.builder) b.boundary b.current looked) (sym h.folder)
            (subst (λ (n : FileNames). MatchesSink end_left n b.boundary b.current looked) (sym same_names) ends),
        h.counts ∙
            kept.0,
        subst (λ (o : Option Contents). IsOpenIn o (without_number current.index (c.open_files ++ b.current.index ∷ [])))
            (sym h.folder) opens,
      )

-- where no file goes retention removes nothing
pub pruned_none : (p : PrunedSink) (m : Moment) (c : Contents) → KeepsEveryFile p.sink.names → pruned_at p m c ≡ p
pruned_none p m c all = ap (λ (names : List (List ℕ)). without names p) (none_by (is_past p.sink m))
  where
    none_by : (due : Bool) → removed_if due p.sink.names c ≡ []
    none_by true = ap (λ (limit : Option ℕ). doomed_in limit p.sink.names (listing c)) all.unlimited
    none_by false = refl

-- files by period
pub files_by_period : FilesByPeriod
files_by_period p m is_m is_o all left = ap (λ b. cond b None (file_text p.sink (period_name p.sink (period_in p.sink m)))) left ∙
    by_period p.sink m is_m is_o all
