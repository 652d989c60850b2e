-- What files and queues hold after a run.
use Rattle.std.proofs.Common.{◌≡◌, ◌<◌, ℕ, zero, suc, List, [], ◌∷◌, length, Option, Some, None, arith, refl, sym, ◌∙◌, subst}
use Rattle.std.specs.Prelude.{slice_get}
use Rattle.tracing_core_fields.specs.requests.PlainRequests.{PlainEvent}
use Rattle.tracing_core_moments.specs.declared.at.At.{At}
use Rattle.tracing_appender_rolling.specs.folders.Contents.{Contents}
use Rattle.span_registry_layers_layers.specs.declared.filter.Filter.{Ghosts as FilterGhosts}
use Rattle.span_registry_layers_layers.specs.declared.layer.Layer.{Ghosts as LayerGhosts}
use Rattle.event_formatter_text.specs.declared.format_fields.FormatFields.{Ghosts}
use Rattle.event_formatter_text.specs.declared.settings.Settings.{Settings}
use Rattle.event_formatter.specs.formats.Contexts.{PlainContext}
use Rattle.span_tracing_outputs.specs.OutputFolds.{Numbered}
use Rattle.span_tracing_outputs.specs.OutputMachines.{PlainLine}
use Rattle.span_tracing_outputs.specs.TraceStacks.{TraceStackValue}
use Rattle.span_tracing_outputs.specs.Turns.{Lines}
use Rattle.span_tracing_outputs.specs.sinks.Routed.{Routed, TakesRouted, sent_to}
use Rattle.span_tracing_outputs.specs.sinks.AnySinks.{TakesAny, bytes_in}
use Rattle.span_tracing_outputs.specs.sinks.LinesInFiles.{LinesStandInFiles}
use Rattle.span_tracing_outputs.specs.sinks.Runs.{TakesRun}
use Rattle.span_tracing_outputs.specs.sinks.SinkCalls.{CallsIn, outputs_hold}
use Rattle.span_tracing_outputs.specs.sinks.QueueFiles.{QueuesStand}
use Rattle.span_tracing_outputs.specs.sinks.SinkTurns.{MetTheirs, QueueMeetsAll, SinkMeetsAll, SinksMeetTheirs, StackTurn, came_in}
use Rattle.span_tracing_outputs.specs.sinks.Takes.{TakesLine}
use Rattle.tracing_appender_queue.specs.declared.queued.fate.Fate.{Fate}
use Rattle.span_tracing_outputs.specs.sinks.LiveSinks.{TakesLives}
use Rattle.span_tracing_outputs.specs.declared.sinks.any_sink.AnySink.{AnySink}
use Rattle.span_tracing_outputs.specs.declared.sinks.any_sink.AnySink.TheVariants.{Direct, Queued, Live}
use Rattle.span_tracing_outputs.proofs.ListPlaces.{stands_within}
use Rattle.span_tracing_skeleton.specs.PlainData.{AnyStep}
use Rattle.span_tracing_skeleton.specs.declared.call.Reply.{Reply}
use Rattle.span_tracing_steps.specs.States.{stack_in}
use Rattle.span_tracing_laws.specs.runs.Files.{FileTrace, FilesFollow, FilesStand, LivesTake, QueueFilesStand, QueuesWork, SinksMetTheirs}
use Rattle.span_tracing_laws.specs.runs.Files.{routed_at}
use Rattle.span_tracing_laws.specs.runs.Files.{sink_turns, stack_sinks}
use Rattle.span_tracing_laws.specs.runs.KeptStacks.{OutsAgree}
use Rattle.span_tracing_laws.specs.runs.Runs.{AgreesPlain, Plain, Road, RunFollows, SinksMeet, StepWithMask, lines_of, turns_of}
use Rattle.span_tracing_laws.proofs.runs.SinkLines.{all_came, lines_count}

module _ {N E F D Q : Type 0} (contents : D → Option Contents) (failed : D → ℕ) (n : Ghosts N) (line_of : E → Settings → PlainContext →
    PlainEvent → Option (List ℕ)) (g : FilterGhosts F) (h : LayerGhosts (Lines N E)) (settles : Q → List ℕ → Fate → Q → Type 0)
    (meet : SinksMeetTheirs contents failed settles)
    (stand : LinesStandInFiles contents failed) (queues_stand : QueuesStand contents failed) where
  abbrev Sinks : Type 0
  Sinks = Routed (AnySink D Q)

  abbrev Stack : Type 0
  Stack = TraceStackValue N E F Sinks

  abbrev takes : Sinks → At → PlainLine → Sinks → Type 0
  takes = TakesRouted (TakesAny contents failed settles)

  abbrev Meets : Option Stack → Option Stack → List StackTurn → Type 0
  Meets o q ts = SinksMeet n line_of g takes (CallsIn contents failed) outputs_hold o q ts

  there_is : {A : Type 0} (xs : List A) (i : ℕ) → i < length xs → (x : A) × (slice_get xs i ≡ Some x)
  there_is [] i within = absurd (omega (arith, within))
  there_is (x ∷ xs) zero within = (x, refl)
  there_is (x ∷ xs) (suc i) within = there_is xs i (omega (arith, within))

  -- an output that has sinks stands within the machines of its stack
  counted : (o : Option Stack) (outs : List (Numbered N)) (place : ℕ) (olds : Sinks) → OutsAgree n line_of g o outs →
      routed_at o place ≡ Some olds → place < length outs
  counted None outs place olds agree at = absurd (cc)
  counted (Some x) outs place olds agree at =
      let within = stands_within x.sinks place olds at in
      let same : length x.sinks ≡ length outs = agree.1 in
      omega (arith, within, same)

  -- what came to the sinks of an output
  met_by : (o q : Option Stack) (ts : List StackTurn) (place : ℕ) (olds : Sinks) → Meets o q ts → routed_at o place ≡ Some olds →
      (number : ℕ) (old : AnySink D Q) → slice_get olds.sinks number ≡ Some old →
      MetTheirs contents failed settles ts (stack_sinks o) (stack_sinks q) place olds number old
  met_by None q ts place olds meets at number old its = absurd (cc)
  met_by (Some x) None ts place olds meets at number old its = absurd meets
  met_by (Some x) (Some y) ts place olds meets at number old its = meet.each ts x.sinks y.sinks meets place olds at number old its

  routed : (q : Option Stack) (place : ℕ) (news : Sinks) → slice_get (stack_sinks q) place ≡ Some news → routed_at q place ≡ Some news
  routed None place news is = absurd (cc)
  routed (Some y) place news is = is

  sinks_met : (road : Road) (v : FileTrace N E F D Q) (steps : List AnyStep) (replies : List Reply) (w : FileTrace N E F D Q)
      (run : RunFollows n line_of g takes (CallsIn contents failed) outputs_hold h road v steps replies w) →
      SinksMetTheirs contents failed n line_of g settles v run.turns w
  sinks_met road v steps replies w run p agrees stack place olds at =
      let meets = (run.agreed p agrees).2 stack in
      let within = counted (stack_in v stack) (p.outs stack) place olds (agrees.1 stack) at in
      let count = lines_count n p run.turns stack in
      let own = there_is (lines_of n p run.turns stack) place (omega (arith, within, count)) in (
        own.0,
        own.1,
        λ number old its.
            let met = met_by (stack_in v stack) (stack_in w stack) (turns_of n p run.turns stack) place olds meets at number old its in
            record {
              news = met.routed;
              new = met.after;
              stands = routed (stack_in w stack) place met.routed met.stands;
              route = met.route;
              its = met.its;
              lines = all_came n (stack_sinks (stack_in v stack)) place number olds.route p run.turns stack own.0 own.1;
              met = met.met;
            },
      )

  same_some : {A : Type 0} (x y : A) (o : Option A) → o ≡ Some x → o ≡ Some y → x ≡ y
  same_some x y o first second = let both : Some x ≡ Some y = sym first ∙ second in cc

  -- a sink with a number, and what came to it
  record Own (v : FileTrace N E F D Q) (p : Plain N) (turns : List StepWithMask) (stack place : ℕ) (olds : Sinks) (number : ℕ)
      (old new : AnySink D Q) : Type 0 where
    pub run : List (At × PlainLine)
    pub its : slice_get (lines_of n p turns stack) place ≡ Some run
    pub lines : came_in (sink_turns n v p turns stack place number olds.route) ≡ sent_to olds.route number run
    pub met : SinkMeetsAll contents failed settles (sink_turns n v p turns stack place number olds.route) old new

  own_of : (v : FileTrace N E F D Q) (turns : List StepWithMask) (w : FileTrace N E F D Q) →
      SinksMetTheirs contents failed n line_of g settles v turns w → (p : Plain N) → AgreesPlain n line_of g v p → (stack place number : ℕ)
      (olds news : Sinks) (old new : AnySink D Q) → routed_at (stack_in v stack) place ≡ Some olds →
      routed_at (stack_in w stack) place ≡ Some news → slice_get olds.sinks number ≡ Some old → slice_get news.sinks number ≡ Some new →
      Own v p turns stack place olds number old new
  own_of v turns w met p agrees stack place number olds news old new before after old_is new_is =
      let (run, its, each) = met p agrees stack place olds before in
      let one = each number old old_is in
      let same : one.news ≡ news = same_some one.news news (routed_at (stack_in w stack) place) one.stands after in
      let also : one.new ≡ new = same_some one.new new (slice_get news.sinks number)
      (subst (λ (r : Sinks). slice_get r.sinks number ≡ Some one.new) same one.its) new_is in
      record {
        run = run;
        its = its;
        lines = one.lines;
        met = subst (SinkMeetsAll contents failed settles (sink_turns n v p turns stack place number olds.route) old) also
            one.met;
      }

  files_stand : (v : FileTrace N E F D Q) (turns : List StepWithMask) (w : FileTrace N E F D Q) →
      SinksMetTheirs contents failed n line_of g settles v turns w → FilesStand contents failed n line_of g v turns w
  files_stand v turns w met p agrees stack place number olds news old new before after old_is new_is none s keeps c known =
      let one = own_of v turns w met p agrees stack place number olds news (Direct old) (Direct new) before after old_is new_is in
      let ts = sink_turns n v p turns stack place number olds.route in
      let run = sent_to olds.route number one.run in
      let (made, is, lines) = meet.direct ts old (Direct new) one.met in
      let same : made ≡ new = cc in
      let its = subst (λ (ls : List (At × PlainLine)). TakesRun (TakesLine contents failed) ls old made) one.lines lines in
      (one.run, one.its, stand run old new (subst (TakesRun (TakesLine contents failed) run old) same its) none s keeps c known)

  queues_work : (v : FileTrace N E F D Q) (turns : List StepWithMask) (w : FileTrace N E F D Q) →
      SinksMetTheirs contents failed n line_of g settles v turns w → QueuesWork contents failed n line_of g v turns w
  queues_work v turns w met p agrees stack place number olds news old new before after old_is new_is =
      let one = own_of v turns w met p agrees stack place number olds news (Queued old) (Queued new) before after old_is new_is in
      let ts = sink_turns n v p turns stack place number olds.route in
      let (made, is, goes) = meet.queued ts old (Queued new) one.met in
      let same : made ≡ new = cc in
      (one.run, one.its, one.lines, subst (QueueMeetsAll contents failed ts old) same goes)

  queue_files : (v : FileTrace N E F D Q) (turns : List StepWithMask) (w : FileTrace N E F D Q) →
      SinksMetTheirs contents failed n line_of g settles v turns w → QueueFilesStand contents failed n line_of g v turns w
  queue_files v turns w met p agrees stack place number olds news old new before after old_is new_is none s keeps =
      let work = queues_work v turns w met p agrees stack place number olds news old new before after old_is new_is in
      queues_stand (sink_turns n v p turns stack place number olds.route) old new work.3 none s keeps

  lives_take : (v : FileTrace N E F D Q) (turns : List StepWithMask) (w : FileTrace N E F D Q) →
      SinksMetTheirs contents failed n line_of g settles v turns w → LivesTake contents failed n line_of g settles v turns w
  lives_take v turns w met p agrees stack place number olds news old new before after old_is new_is =
      let one = own_of v turns w met p agrees stack place number olds news (Live old) (Live new) before after old_is new_is in
      let (made, is, lines) = meet.live (sink_turns n v p turns stack place number olds.route) old (Live new) one.met in
      let same : made ≡ new = cc in (
        one.run,
        one.its,
        subst (TakesLives settles (bytes_in (sent_to olds.route number one.run)) old) same
            (subst (λ (ls : List (At × PlainLine)). TakesLives settles (bytes_in ls) old made) one.lines lines),
      )

  pub files_follow : FilesFollow contents failed n line_of g settles h
  files_follow road v steps replies w run = record {
    run = run;
    sinks = sinks_met road v steps replies w run;
    files = files_stand v run.turns w (sinks_met road v steps replies w run);
    queues = queues_work v run.turns w (sinks_met road v steps replies w run);
    queue_files = queue_files v run.turns w (sinks_met road v steps replies w run);
    lives = lives_take v run.turns w (sinks_met road v steps replies w run);
  }
