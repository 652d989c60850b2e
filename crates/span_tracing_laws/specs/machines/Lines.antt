-- Lines that are such, on their way to files.
use Rattle.std.specs.Prelude.{◌≡◌, ◌⊎◌, ℕ, List, []}
use Rattle.std.specs.List.{AllByRecursion}
use Rattle.tracing_core_moments.specs.declared.at.At.{At}
use Rattle.tracing_appender_rolling.specs.Sinks.{Handed}
use Rattle.tracing_appender_queue.specs.queued.LineFates.{WaitingLines}
use Rattle.span_tracing_outputs.specs.OutputMachines.{PlainLine}

-- each of these lines
abbrev pub AreLines : (List ℕ → Type 0) → List PlainLine → Type 0
AreLines line_is lines = AllByRecursion (λ (line : PlainLine). line_is line.bytes) lines

-- each line of a run
abbrev pub AreRun : (List ℕ → Type 0) → List (At × PlainLine) → Type 0
AreRun line_is run = AllByRecursion (λ (x : At × PlainLine). line_is x.1.bytes) run

-- each line that waits in a queue, and each that is held beside it
abbrev pub AreWaiting : (List ℕ → Type 0) → WaitingLines → Type 0
AreWaiting line_is w = AllByRecursion line_is w.queue.queued × AllByRecursion line_is w.held

-- each line that was handed over, but for those that found no memory and have no bytes
abbrev pub AreHanded : (List ℕ → Type 0) → List Handed → Type 0
AreHanded line_is handed = AllByRecursion (λ (h : Handed). line_is h.line ⊎ (h.line ≡ [])) handed
