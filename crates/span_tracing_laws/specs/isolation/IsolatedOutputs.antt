-- Two runs, and an output in each of them: where what comes to it is the same in both, so is what becomes of it.
use Rattle.std.specs.Prelude.{◌≡◌, ◌<◌, ℕ, Bool, List, [], map, Option, Some, slice_get}
use Rattle.std.specs.List.{AllByRecursion}
use Rattle.tracing_core_fields.specs.requests.PlainRequests.{PlainAttributes, PlainEvent}
use Rattle.tracing_core_moments.specs.declared.at.At.{At}
use Rattle.tracing_appender_queue.specs.declared.queued.fate.Fate.{Fate}
use Rattle.tracing_appender_rolling.specs.Appenders.{Holds}
use Rattle.tracing_appender_rolling.specs.Builders.{builder_names}
use Rattle.tracing_appender_rolling.specs.Looks.{Held}
use Rattle.tracing_appender_rolling.specs.declared.appender.RollingFileAppender.{RollingFileAppender}
use Rattle.tracing_appender_rolling.specs.folders.Contents.{Contents}
use Rattle.tracing_appender_queue.specs.declared.queued.queued_sink.QueuedSink.{QueuedSink}
use Rattle.span_registry_layers_store.specs.Registries.{RegistryValue}
use Rattle.span_registry_layers_layers.specs.declared.filter.Filter.{Ghosts as FilterGhosts}
use Rattle.span_registry_layers_layers.specs.declared.layer.Layer.{Ghosts as LayerGhosts}
use Rattle.event_formatter_text.specs.declared.format_fields.FormatFields.{Ghosts}
use Rattle.event_formatter_text.specs.declared.settings.Settings.{Settings}
use Rattle.event_formatter.specs.formats.Contexts.{PlainContext}
use Rattle.span_tracing_outputs.specs.OutputFolds.{Numbered}
use Rattle.span_tracing_outputs.specs.Turns.{Lines}
use Rattle.span_tracing_outputs.specs.sinks.Fates.{NoneDropped}
use Rattle.span_tracing_outputs.specs.sinks.QueueFiles.{NoneMissed}
use Rattle.span_tracing_outputs.specs.sinks.Routed.{Routed}
use Rattle.span_tracing_outputs.specs.sinks.SinkTurns.{SinkTurn}
use Rattle.span_tracing_outputs.specs.declared.sinks.any_sink.AnySink.{AnySink}
use Rattle.span_tracing_outputs.specs.declared.sinks.any_sink.AnySink.TheVariants.{Direct, Queued}
use Rattle.span_tracing_outputs.specs.declared.sinks.sink.RollingSink.{RollingSink}
use Rattle.span_tracing_skeleton.specs.Counting.{IsCounted}
use Rattle.span_tracing_skeleton.specs.Looking.{registry_at}
use Rattle.span_tracing_skeleton.specs.PlainData.{AnyStep}
use Rattle.span_tracing_skeleton.specs.declared.call.Reply.{Reply}
use Rattle.span_tracing_steps.specs.States.{stack_in}
use Rattle.span_tracing_laws.specs.isolation.OwnRequests.{OwnTurn, SaysBy, own_brings, own_registry, run_asks, unanswered}
use Rattle.span_tracing_laws.specs.isolation.OutputTurns.{FindsMemory, OutputTurn, comings, machine_lines, machine_run, machine_sends}
use Rattle.span_tracing_laws.specs.isolation.OutputTurns.{run_brings, unreplied}
use Rattle.span_tracing_laws.specs.runs.Files.{FileTrace, RunsToFiles, routed_at, sink_turns, stack_sinks}
use Rattle.span_tracing_laws.specs.runs.Runs.{AgreesPlain, Plain, Road, StepWithMask, lines_of, plain_run}
use Rattle.span_tracing_laws.specs.runs.StepFollows.{Traced}
use Rattle.span_tracing_laws.specs.starved.StarvedCounts.{starved_in}

module _ {N E F S : Type 0} (n : Ghosts N) (line_of : E → Settings → PlainContext → PlainEvent → Option (List ℕ)) (g : FilterGhosts F) where
  -- the output at a place of a stack: a trace agrees with a plain state, in which this machine stands there, with no line to hand on
  pub record IsOutput (v : Traced N E F S) (p : Plain N) (stack place : ℕ) (o : Numbered N) : Type 0 where
    pub agrees : AgreesPlain n line_of g v p
    pub machine : slice_get (p.outs stack) place ≡ Some o
    pub rests : o.out.lines ≡ []

-- no text and no line of an output found no memory: its layer's count stayed, and is not the greatest one
pub record NoneStarved {N E F S : Type 0} (v w : Traced N E F S) (stack place : ℕ) : Type 0 where
  pub before : ℕ
  pub was : slice_get (starved_in (stack_in v stack)) place ≡ Some before
  pub stayed : slice_get (starved_in (stack_in w stack)) place ≡ Some before
  pub not_full : before < 18446744073709551615

-- Two appenders with the same names, over folders of the same contents, with the same calls to come refused or cut short: the end of the
-- period is the same, and so are the current file, what was lost to faults, the bytes of each file, standing or removed, and the links.
pub record AppendersAlike {D : Type 0} (contents : D → Option Contents) (a b : RollingFileAppender D) : Type 0 where
  pub names : builder_names b.builder ≡ builder_names a.builder
  pub held : Held
  pub one : Holds contents a held
  pub other : Holds contents b held

-- two queues with the same lines and counts, whose appenders are alike
pub record QueuesAlike {D : Type 0} (contents : D → Option Contents) (a b : QueuedSink D) : Type 0 where
  pub waiting : b.waiting ≡ a.waiting
  pub files : AppendersAlike contents a.appender b.appender

module _ {N E F D Q : Type 0} (contents : D → Option Contents) (failed : D → ℕ) (n : Ghosts N) (line_of : E → Settings → PlainContext →
    PlainEvent → Option (List ℕ)) (g : FilterGhosts F) (h : LayerGhosts (Lines N E))
    (settles : Q → List ℕ → Fate → Q → Type 0) where
  -- a run of a trace, and an output in it, whose texts and lines all found memory
  pub record OneRun : Type 0 where
    pub road : Road
    pub before : FileTrace N E F D Q
    pub steps : List AnyStep
    pub replies : List Reply
    pub after : FileTrace N E F D Q
    pub run : RunsToFiles contents failed n line_of g settles h road before steps replies after
    pub plain : Plain N
    pub stack : ℕ
    pub place : ℕ
    pub out : Numbered N
    pub output : IsOutput n line_of g before plain stack place out
    pub unstarved : NoneStarved before after stack place
    pub sinks : Routed (AnySink D Q)
    pub stands : routed_at (stack_in before stack) place ≡ Some sinks

  -- its turns
  abbrev pub turns_in : OneRun → List StepWithMask
  turns_in r = r.run.run.turns

  -- what they bring to the output, in order
  abbrev pub brought : OneRun → List OutputTurn
  brought r = run_brings n (stack_sinks (stack_in r.before r.stack)) r.plain (turns_in r) r.stack r.place

  -- and to its sink with a number
  abbrev pub sent : OneRun → ℕ → List SinkTurn
  sent r number = machine_sends n r.sinks.route number r.out.out (brought r)

  -- What becomes of an output in a run is settled by how it began and by what comes to it: its machine, the lines that it offers, and what
  -- comes to each of its sinks.
  pub record FollowsItsOwn (r : OneRun) : Type 0 where
    pub agrees : AgreesPlain n line_of g r.after (plain_run n r.plain (turns_in r))
    pub machine : slice_get ((plain_run n r.plain (turns_in r)).outs r.stack) r.place ≡
        Some (record r.out { out = machine_run n r.out.out (brought r) })
    pub lines : slice_get (lines_of n r.plain (turns_in r) r.stack) r.place ≡ Some (machine_lines n r.out.out (brought r))
    pub sends : (number : ℕ) → comings (sink_turns n r.before r.plain (turns_in r) r.stack r.place number r.sinks.route) ≡ sent r number

  -- the sink with a number of the output, before the run and after it
  pub record SinkOf (r : OneRun) (number : ℕ) (old new : AnySink D Q) : Type 0 where
    pub was : slice_get r.sinks.sinks number ≡ Some old
    pub routed : Routed (AnySink D Q)
    pub stands : routed_at (stack_in r.after r.stack) r.place ≡ Some routed
    pub is : slice_get routed.sinks number ≡ Some new

  -- the direct sink with a number, which dropped no line
  pub record DirectOf (r : OneRun) (number : ℕ) (old new : RollingSink D) : Type 0 where
    pub sink : SinkOf r number (Direct old) (Direct new)
    pub none : NoneDropped old new

  -- the queued sink with a number, at which no line found no memory
  pub record QueuedOf (r : OneRun) (number : ℕ) (old new : QueuedSink D) : Type 0 where
    pub sink : SinkOf r number (Queued old) (Queued new)
    pub none : NoneMissed old new

  -- what is asked of its stack in the run, as the output knows it, and what else comes to it
  abbrev pub asked : OneRun → List OwnTurn
  asked r = run_asks n (stack_sinks (stack_in r.before r.stack)) r.plain (turns_in r) r.stack r.place r.out.number

  -- the spans of its stack before the run, as the output knows them
  abbrev pub spans_of : OneRun → RegistryValue
  spans_of r = own_registry r.out.number (registry_at r.plain.skeleton r.stack)

  -- The outputs of two runs begin alike: the machines and the routes are equal, and so is what comes to them, but for what queues answer. No
  -- call on a queue finds no memory.
  pub record BeginAlike (one other : OneRun) : Type 0 where
    pub machine : other.out.out ≡ one.out.out
    pub route : other.sinks.route ≡ one.sinks.route
    pub brings : map unreplied (brought other) ≡ map unreplied (brought one)
    pub one_finds : AllByRecursion FindsMemory (brought one)
    pub other_finds : AllByRecursion FindsMemory (brought other)

  -- The same, by what is asked of their stacks: the spans are equal as the outputs know them, and so is the one list of requests, of
  -- settings, and of calls on queues, but for what the outputs' filters say of new spans, and for what the queues answer. Of new spans both
  -- filters say the same of the same, by what came before. Each stack is held by as many as it counts, as in every trace.
  pub record AskedAlike (one other : OneRun) : Type 0 where
    pub machine : other.out.out ≡ one.out.out
    pub route : other.sinks.route ≡ one.sinks.route
    pub spans : spans_of other ≡ spans_of one
    pub requests : map unanswered (asked other) ≡ map unanswered (asked one)
    pub says : List OwnTurn → At → PlainAttributes → Bool
    pub one_says : SaysBy says [] (asked one)
    pub other_says : SaysBy says [] (asked other)
    pub one_finds : AllByRecursion FindsMemory (brought one)
    pub other_finds : AllByRecursion FindsMemory (brought other)
    pub counted : IsCounted one.plain.skeleton
    pub also : IsCounted other.plain.skeleton

  -- the machines are equal then, the same lines are offered, and sinks that were alike are alike
  pub record EndAlike (one other : OneRun) : Type 0 where
    pub machine : machine_run n other.out.out (brought other) ≡ machine_run n one.out.out (brought one)
    pub lines : machine_lines n other.out.out (brought other) ≡ machine_lines n one.out.out (brought one)
    pub direct : (number : ℕ) (old new its same : RollingSink D) → DirectOf one number old new → DirectOf other number its same →
        AppendersAlike contents old.appender its.appender → AppendersAlike contents new.appender same.appender
    pub queued : (number : ℕ) (old new its same : QueuedSink D) → QueuedOf one number old new → QueuedOf other number its same →
        QueuesAlike contents old its → QueuesAlike contents new same
    -- queues in which the same waits get the same lines and calls, and give the same answers
    pub answers : (number : ℕ) (old new its same : QueuedSink D) → QueuedOf one number old new → QueuedOf other number its same →
        its.waiting ≡ old.waiting → sent other number ≡ sent one number

  pub record Isolated : Type 0 where
    -- of one run
    pub follows : (r : OneRun) → FollowsItsOwn r
    pub told : (r : OneRun) → IsCounted r.plain.skeleton → brought r ≡ own_brings (spans_of r) (asked r)
    -- of two
    pub alike : (one other : OneRun) → BeginAlike one other → EndAlike one other
    pub asked_alike : (one other : OneRun) → AskedAlike one other → BeginAlike one other
