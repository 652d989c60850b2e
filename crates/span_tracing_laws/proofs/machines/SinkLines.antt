-- Lines on their way to files, and what the files hold then.
use Rattle.std.proofs.Common.{inl, ℕ, Bool, true, false, if◌then◌else◌, List, [], ◌∷◌, Option, Some, None, IfSome, sym, subst}
use Rattle.tracing_core_moments.specs.declared.at.At.{At}
use Rattle.tracing_appender_rolling.specs.folders.Contents.{Contents, bytes_at}
use Rattle.tracing_appender_rolling.specs.PrunedSinks.{PrunedSink, pruned_text}
use Rattle.event_formatter_text.specs.declared.makers.route.Route.{Route}
use Rattle.span_tracing_outputs.specs.OutputMachines.{PlainLine}
use Rattle.span_tracing_outputs.specs.sinks.LinesInFiles.{LinesStand}
use Rattle.span_tracing_outputs.specs.sinks.Routed.{goes_to, sent_if, sent_to}
use Rattle.span_tracing_outputs.specs.sinks.Runs.{handed_in}
use Rattle.span_tracing_laws.specs.machines.Files.{FilesKeep}
use Rattle.span_tracing_laws.specs.machines.Lines.{AreHanded, AreRun}

module _ (P : List ℕ → Type 0) where
  sent_one : (goes : Bool) (x : At × PlainLine) (later : List (At × PlainLine)) → P x.1.bytes → AreRun P later →
      AreRun P (sent_if goes x later)
  sent_one true x later is all = (is, all)
  sent_one false x later is all = all

  pub sent_are : (route : Route) (number : ℕ) (run : List (At × PlainLine)) → AreRun P run → AreRun P (sent_to route number run)
  sent_are route number [] all = tt
  sent_are route number (x ∷ xs) all = sent_one (goes_to route x.1.level number) x (sent_to route number xs) all.0
      (sent_are route number xs all.1)

  pub handed_are : (run : List (At × PlainLine)) → AreRun P run → AreHanded P (handed_in run)
  handed_are [] all = tt
  handed_are (x ∷ xs) all = (inl all.0, handed_are xs all.1)

-- what an opening finds is the same, or nothing
pub found_if : (T : List ℕ → Type 0) (is_gone : Bool) (found : Option (List ℕ)) → IfSome found T →
    IfSome (if is_gone then None else found) T
found_if T true found is = tt
found_if T false found is = is

-- a file in which the lines of a sink stand
module _ (P T R : List ℕ → Type 0) (files : FilesKeep P T) (give : (text : List ℕ) → T text → R text) where
  text_holds : (text : Option (List ℕ)) → IfSome text T → IfSome text R
  text_holds None is = tt
  text_holds (Some text) is = give text is

  pub left_holds : (last : PrunedSink) (c : Contents) → LinesStand last c → AreHanded P last.sink.handed → (name : List ℕ) →
      IfSome (last.sink.found name) T → IfSome (bytes_at c.files name) R
  left_holds last c stand handed name found =
      subst (λ (text : Option (List ℕ)). IfSome text R) (sym (stand.files name))
      (text_holds (pruned_text last name) (files.left last name handed found))
