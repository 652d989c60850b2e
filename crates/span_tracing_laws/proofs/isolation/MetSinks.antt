-- What came to a sink of an output in a run.
use Rattle.std.proofs.Common.{◌≡◌, ◌∙◌, ℕ, List, Option, Some, slice_get, sym, subst}
use Rattle.tracing_core_fields.specs.requests.PlainRequests.{PlainEvent}
use Rattle.tracing_core_moments.specs.declared.at.At.{At}
use Rattle.tracing_appender_queue.specs.declared.queued.fate.Fate.{Fate}
use Rattle.tracing_appender_rolling.specs.folders.Contents.{Contents}
use Rattle.span_registry_layers_layers.specs.declared.filter.Filter.{Ghosts as FilterGhosts}
use Rattle.span_registry_layers_layers.specs.declared.layer.Layer.{Ghosts as LayerGhosts}
use Rattle.event_formatter_text.specs.declared.format_fields.FormatFields.{Ghosts}
use Rattle.event_formatter_text.specs.declared.settings.Settings.{Settings}
use Rattle.event_formatter.specs.formats.Contexts.{PlainContext}
use Rattle.span_tracing_outputs.specs.OutputMachines.{PlainLine}
use Rattle.span_tracing_outputs.specs.Turns.{Lines}
use Rattle.span_tracing_outputs.specs.declared.sinks.any_sink.AnySink.{AnySink}
use Rattle.span_tracing_outputs.specs.sinks.Routed.{Routed, sent_to}
use Rattle.span_tracing_outputs.specs.sinks.SinkTurns.{SinkMeetsAll, came_in}
use Rattle.span_tracing_laws.specs.isolation.IsolatedOutputs.{OneRun, SinkOf, turns_in}
use Rattle.span_tracing_laws.specs.runs.Files.{sink_turns}
use Rattle.span_tracing_laws.specs.runs.Runs.{lines_of}

pub some_same : {A : Type 0} (x y : A) (o : Option A) → o ≡ Some x → o ≡ Some y → x ≡ y
some_same x y o is also = let both : Some x ≡ Some y = sym is ∙ also in cc

module _ {N E F D Q : Type 0} (contents : D → Option Contents) (failed : D → ℕ) (n : Ghosts N) (line_of : E → Settings → PlainContext →
    PlainEvent → Option (List ℕ)) (g : FilterGhosts F) (h : LayerGhosts (Lines N E))
    (settles : Q → List ℕ → Fate → Q → Type 0) where
  abbrev pub Run : Type 0
  Run = OneRun contents failed n line_of g h settles

  -- what came to a sink of the output, and which of the output's lines did
  pub record Met (r : Run) (number : ℕ) (old new : AnySink D Q) : Type 0 where
    pub run : List (At × PlainLine)
    pub is : slice_get (lines_of n r.plain (turns_in contents failed n line_of g h settles r) r.stack) r.place ≡ Some run
    pub lines : came_in (sink_turns n r.before r.plain (turns_in contents failed n line_of g h settles r) r.stack r.place number r.sinks.route) ≡
        sent_to r.sinks.route number run
    pub met : SinkMeetsAll contents failed settles
        (sink_turns n r.before r.plain (turns_in contents failed n line_of g h settles r) r.stack r.place number r.sinks.route) old new

  pub met_its : (r : Run) (number : ℕ) (old new : AnySink D Q) → SinkOf contents failed n line_of g h settles r number old new → Met r number old new
  met_its r number old new its =
      let (run, is, each) = r.run.sinks r.plain r.output.agrees r.stack r.place r.sinks r.stands in
      let one = each number old its.was in
      let same : one.news ≡ its.routed = some_same one.news its.routed _ one.stands its.stands in
      let also : one.new ≡ new = some_same one.new new _
      (subst (λ (x : Routed (AnySink D Q)). slice_get x.sinks number ≡ Some one.new) same one.its) its.is in
      record {
        run = run;
        is = is;
        lines = one.lines;
        met = subst (SinkMeetsAll contents failed settles
            (sink_turns n r.before r.plain (turns_in contents failed n line_of g h settles r) r.stack r.place number r.sinks.route)
            old) also one.met;
      }
