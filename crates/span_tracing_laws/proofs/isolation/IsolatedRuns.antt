-- An output in two runs.
use Rattle.std.proofs.Common.{◌≡◌, ◌∙◌, ℕ, List, [], ◌∷◌, ◌++◌, map, Option, refl, sym, ap, subst}
use Rattle.std.specs.Option.{option_map}
use Rattle.std.proofs.lemmas.Option.{slice_get-map}
use Rattle.tracing_core_fields.specs.requests.PlainRequests.{PlainEvent}
use Rattle.tracing_core_moments.specs.declared.at.At.{At}
use Rattle.tracing_appender_queue.specs.declared.queued.fate.Fate.{Fate}
use Rattle.tracing_appender_rolling.specs.LineHandover.{LinesHaveOneEnd}
use Rattle.tracing_appender_rolling.specs.folders.Contents.{Contents}
use Rattle.tracing_appender_queue.specs.declared.queued.queued_sink.QueuedSink.{QueuedSink}
use Rattle.tracing_appender_queue.specs.queued.ExactCounts.{DropsAreExact}
use Rattle.tracing_appender_queue.specs.worker.Steps.{StepsHaveOneEnd}
use Rattle.span_registry_layers_store.specs.Registries.{RegistryValue}
use Rattle.span_registry_layers_layers.specs.declared.filter.Filter.{Ghosts as FilterGhosts}
use Rattle.span_registry_layers_layers.specs.declared.layer.Layer.{Ghosts as LayerGhosts}
use Rattle.event_formatter_text.specs.declared.format_fields.FormatFields.{Ghosts}
use Rattle.event_formatter_text.specs.declared.makers.route.Route.{Route}
use Rattle.event_formatter_text.specs.declared.settings.Settings.{Settings}
use Rattle.event_formatter.specs.formats.Contexts.{PlainContext}
use Rattle.span_tracing_outputs.specs.OutputFolds.{Numbered}
use Rattle.span_tracing_outputs.specs.OutputMachines.{PlainLine, PlainOut}
use Rattle.span_tracing_outputs.specs.Turns.{Lines}
use Rattle.span_tracing_outputs.specs.declared.sinks.any_sink.AnySink.{AnySink}
use Rattle.span_tracing_outputs.specs.declared.sinks.any_sink.AnySink.TheVariants.{Direct, Queued}
use Rattle.span_tracing_outputs.specs.declared.sinks.sink.RollingSink.{RollingSink}
use Rattle.span_tracing_outputs.specs.sinks.AnySinks.{TakesAny}
use Rattle.span_tracing_outputs.specs.sinks.Fates.{CountsAreExact, RunsAreTold}
use Rattle.span_tracing_outputs.specs.sinks.Routed.{Routed, TakesRouted}
use Rattle.span_tracing_outputs.specs.sinks.Runs.{TakesRun}
use Rattle.span_tracing_outputs.specs.sinks.SinkCalls.{CallsIn, outputs_hold}
use Rattle.span_tracing_outputs.specs.sinks.SinkTurns.{Asked, Came, QueueMeetsAll, SinkTurn, SinksMeetTheirs, came_in}
use Rattle.span_tracing_outputs.specs.sinks.Takes.{TakesLine}
use Rattle.span_tracing_skeleton.specs.Counting.{IsCounted, StaysCounted}
use Rattle.span_tracing_steps.specs.States.{stack_in}
use Rattle.span_tracing_laws.specs.isolation.IsolatedOutputs.{AskedAlike, BeginAlike, DirectOf, EndAlike, FollowsItsOwn}
use Rattle.span_tracing_laws.specs.isolation.IsolatedOutputs.{Isolated}
use Rattle.span_tracing_laws.specs.isolation.IsolatedOutputs.{OneRun, QueuedOf, asked, spans_of}
use Rattle.span_tracing_laws.specs.isolation.FaultyFolders.{AllComeAlike}
use Rattle.span_tracing_laws.specs.isolation.IsolatedOutputs.{brought, sent, turns_in}
use Rattle.span_tracing_laws.specs.isolation.OwnRequests.{own_brings, seen}
use Rattle.span_tracing_laws.specs.isolation.OutputTurns.{OutputTurn, comings, machine_lines, machine_run, machine_sends, unreplied}
use Rattle.span_tracing_laws.specs.runs.Files.{sink_turns, stack_sinks}
use Rattle.span_tracing_laws.specs.starved.StarvedCounts.{NothingIsStarved, run_fated}
use Rattle.span_tracing_laws.proofs.isolation.Appenders.{direct_alike}
use Rattle.span_tracing_laws.proofs.isolation.QueueAnswers.{queues_answer}
use Rattle.span_tracing_laws.proofs.isolation.Queues.{comings_met, queues_alike}
use Rattle.span_tracing_laws.proofs.isolation.Unreplied.{brings_seen, came_lines, came_unreplied, lines_unreplied, run_unreplied, sends_come}
use Rattle.span_tracing_laws.proofs.isolation.MetSinks.{met_its, some_same}
use Rattle.span_tracing_laws.proofs.isolation.OwnRuns.{asked_same, run_is}
use Rattle.span_tracing_laws.proofs.isolation.OwnSteps.{known_first}
use Rattle.span_tracing_laws.proofs.isolation.Folds.{RunFolds, run_folds}
use Rattle.span_tracing_laws.proofs.starved.WholeFates.{all_stay}

came_same : (ts : List SinkTurn) → came_in (comings ts) ≡ came_in ts
came_same [] = refl
came_same (Came lines ∷ ts) =
    came_lines lines (comings ts) ∙ ap (λ (later : List (At × PlainLine)). lines ++ later) (came_same ts)
came_same (Asked call reply ∷ ts) = came_same ts

module _ {N E F D Q : Type 0} (contents : D → Option Contents) (failed : D → ℕ) (n : Ghosts N) (line_of : E → Settings → PlainContext →
    PlainEvent → Option (List ℕ)) (g : FilterGhosts F) (h : LayerGhosts (Lines N E))
    (settles : Q → List ℕ → Fate → Q → Type 0)
    (starved : NothingIsStarved n line_of g (TakesRouted (TakesAny contents failed settles)) (CallsIn contents failed) outputs_hold h)
    (meet : SinksMeetTheirs contents failed settles) (one_end : LinesHaveOneEnd) (writes : RunsAreTold contents failed) (exact : CountsAreExact)
    (counted : StaysCounted) (steps_end : StepsHaveOneEnd) (drops : DropsAreExact) where
  abbrev Run : Type 0
  Run = OneRun contents failed n line_of g h settles

  abbrev sinks_of : Run → List (Routed (AnySink D Q))
  sinks_of r = stack_sinks (stack_in r.before r.stack)

  folds : (r : Run) → RunFolds n (sinks_of r) r.stack r.place r.plain (turns_in contents failed n line_of g h settles r) r.out
  folds r =
      let ts = turns_in contents failed n line_of g h settles r in
      let counts = starved r.road r.before ts r.replies r.after r.run.run.goes r.plain r.output.agrees r.stack r.place r.unstarved.before
      r.unstarved.was in
      let fated = run_fated n r.plain ts r.stack r.place in
      let same = some_same _ r.unstarved.before _ counts.counts r.unstarved.stayed in
      run_folds n (sinks_of r) r.stack r.place r.plain ts r.out r.output.machine r.output.rests
      (all_stay fated r.unstarved.before r.unstarved.not_full same)

  follows : (r : Run) → FollowsItsOwn contents failed n line_of g h settles r
  follows r =
      let all = folds r in
      record {
        agrees = (r.run.run.agreed r.plain r.output.agrees).1;
        machine = all.out;
        lines = all.lines;
        sends = λ number. all.sends r.sinks.route number;
      }

  taken_by : (r : Run) (number : ℕ) (old new : RollingSink D) → DirectOf contents failed n line_of g h settles r number old new →
      TakesRun (TakesLine contents failed)
      (came_in (machine_sends n r.sinks.route number r.out.out (brought contents failed n line_of g h settles r))) old new
  taken_by r number old new its =
      let ts = sink_turns n r.before r.plain (turns_in contents failed n line_of g h settles r) r.stack r.place number r.sinks.route in
      let (made, is, lines) = meet.direct ts old (Direct new)
      (met_its contents failed n line_of g h settles r number (Direct old) (Direct new) its.sink).met in
      let same : made ≡ new = cc in
      let which = sym (came_same ts) ∙ ap came_in ((follows r).sends number) in
      subst (λ (ls : List (At × PlainLine)). TakesRun (TakesLine contents failed) ls old new) which
      (subst (TakesRun (TakesLine contents failed) (came_in ts) old) same lines)

  queued_by : (r : Run) (number : ℕ) (old new : QueuedSink D) → QueuedOf contents failed n line_of g h settles r number old new →
      QueueMeetsAll contents failed (machine_sends n r.sinks.route number r.out.out (brought contents failed n line_of g h settles r)) old new
  queued_by r number old new its =
      let ts = sink_turns n r.before r.plain (turns_in contents failed n line_of g h settles r) r.stack r.place number r.sinks.route in
      let (made, is, goes) = meet.queued ts old (Queued new)
      (met_its contents failed n line_of g h settles r number (Queued old) (Queued new) its.sink).met in
      let same : made ≡ new = cc in
      subst (λ (us : List SinkTurn). QueueMeetsAll contents failed us old new) ((follows r).sends number)
      (comings_met contents failed drops steps_end ts old new (subst (QueueMeetsAll contents failed ts old) same goes))

  -- what comes to outputs that end alike
  record ComesAlike (one other : Run) : Type 0 where
    pub machine : machine_run n other.out.out (brought contents failed n line_of g h settles other) ≡
        machine_run n one.out.out (brought contents failed n line_of g h settles one)
    pub lines : machine_lines n other.out.out (brought contents failed n line_of g h settles other) ≡
        machine_lines n one.out.out (brought contents failed n line_of g h settles one)
    pub came : (number : ℕ) → came_in (sent contents failed n line_of g h settles other number) ≡
        came_in (sent contents failed n line_of g h settles one number)
    pub answers : (number : ℕ) (old new its same : QueuedSink D) → QueuedOf contents failed n line_of g h settles one number old new →
        QueuedOf contents failed n line_of g h settles other number its same → its.waiting ≡ old.waiting →
        sent contents failed n line_of g h settles other number ≡ sent contents failed n line_of g h settles one number

  end_alike : (one other : Run) → ComesAlike one other → EndAlike contents failed n line_of g h settles one other
  end_alike one other come = record {
    machine = come.machine;
    lines = come.lines;
    direct = λ number old new its same mine yours begun.
        direct_alike contents failed one_end writes exact
        (came_in (sent contents failed n line_of g h settles one number)) old new its same
        (taken_by one number old new mine)
        (subst (λ (ls : List (At × PlainLine)). TakesRun (TakesLine contents failed) ls its same) (come.came number)
        (taken_by other number its same yours))
        mine.none yours.none begun;
    queued = λ number old new its same mine yours begun.
        queues_alike contents failed drops steps_end
        (sent contents failed n line_of g h settles one number) old new its same
        (queued_by one number old new mine)
        (subst (λ (ts : List SinkTurn). QueueMeetsAll contents failed ts its same)
        (come.answers number old new its same mine yours begun.waiting) (queued_by other number its same yours))
        mine.none.stayed mine.none.not_full yours.none.stayed yours.none.not_full begun;
    answers = come.answers;
  }

  -- two outputs of one machine and one route
  sends_so : (one other : Run) → BeginAlike contents failed n line_of g h settles one other → (number : ℕ) →
      sent contents failed n line_of g h settles other number ≡
      machine_sends n one.sinks.route number one.out.out (brought contents failed n line_of g h settles other)
  sends_so one other begin number =
      let ys = brought contents failed n line_of g h settles other in
      ap (λ (r : Route). machine_sends n r number other.out.out ys) begin.route
      ∙ ap (λ (o : PlainOut N). machine_sends n one.sinks.route number o ys) begin.machine

  alike : (one other : Run) → BeginAlike contents failed n line_of g h settles one other → EndAlike contents failed n line_of g h settles one other
  alike one other begin =
      let o = one.out.out in
      let xs = brought contents failed n line_of g h settles one in
      let ys = brought contents failed n line_of g h settles other in
      let same = begin.brings in
      end_alike one other (record {
        machine = ap (λ (p : PlainOut N). machine_run n p ys) begin.machine ∙ sym (run_unreplied n o ys)
            ∙ ap (machine_run n o) same ∙ run_unreplied n o xs;
        lines = ap (λ (p : PlainOut N). machine_lines n p ys) begin.machine ∙ sym (lines_unreplied n o ys)
            ∙ ap (machine_lines n o) same ∙ lines_unreplied n o xs;
        came = λ number. ap came_in (sends_so one other begin number)
            ∙ sym (came_unreplied n one.sinks.route number o ys)
            ∙ ap (λ (ts : List OutputTurn). came_in (machine_sends n one.sinks.route number o ts)) same
            ∙ came_unreplied n one.sinks.route number o xs;
        answers = λ number old new its same_too mine yours waits.
            (queues_answer contents failed drops (sent contents failed n line_of g h settles one number)
            (sent contents failed n line_of g h settles other number) old new its same_too
            (subst (AllComeAlike (sent contents failed n line_of g h settles one number)) (sym (sends_so one other begin number))
            (sends_come n one.sinks.route number o xs ys same begin.one_finds begin.other_finds))
            (queued_by one number old new mine) (queued_by other number its same_too yours)
            mine.none.stayed mine.none.not_full yours.none.stayed yours.none.not_full waits).0;
      })

  told : (r : Run) → IsCounted r.plain.skeleton →
      brought contents failed n line_of g h settles r ≡
      own_brings (spans_of contents failed n line_of g h settles r) (asked contents failed n line_of g h settles r)
  told r count =
      run_is n (sinks_of r) r.stack r.place r.out.number counted r.plain (turns_in contents failed n line_of g h settles r)
      (spans_of contents failed n line_of g h settles r) count (known_first r.stack r.out.number r.plain.skeleton)
      (slice_get-map (λ (o : Numbered N). o.number) (r.plain.outs r.stack) r.place
      ∙ ap (option_map (λ (o : Numbered N). o.number)) r.output.machine)

  asked_alike : (one other : Run) → AskedAlike contents failed n line_of g h settles one other → BeginAlike contents failed n line_of g h settles one other
  asked_alike one other begin =
      let mine = asked contents failed n line_of g h settles one in
      let yours = asked contents failed n line_of g h settles other in
      let spans = spans_of contents failed n line_of g h settles one in
      let its_spans = spans_of contents failed n line_of g h settles other in
      record {
        machine = begin.machine;
        route = begin.route;
        brings = ap (map unreplied) (told other begin.also)
            ∙ brings_seen its_spans yours
            ∙ ap (λ (x : RegistryValue). own_brings x (map seen yours)) begin.spans
            ∙ ap (own_brings spans) (asked_same begin.says [] yours mine begin.requests begin.other_says begin.one_says)
            ∙ sym (brings_seen spans mine)
            ∙ sym (ap (map unreplied) (told one begin.counted));
        one_finds = begin.one_finds;
        other_finds = begin.other_finds;
      }

  pub isolated : Isolated contents failed n line_of g h settles
  isolated = record { follows = follows; told = told; alike = alike; asked_alike = asked_alike }
