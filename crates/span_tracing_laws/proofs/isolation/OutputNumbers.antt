-- The numbers of outputs stay.
use Rattle.std.proofs.Common.{◌≡◌, ◌∙◌, ◌==◌, ℕ, Bool, true, false, if◌then◌else◌, List, Option, Some, None, refl}
use Rattle.std.proofs.lemmas.Simd.{map-map}
use Rattle.event_formatter_text.specs.declared.format_fields.FormatFields.{Ghosts}
use Rattle.span_tracing_outputs.specs.OutputFolds.{Fates, Numbered, outs_told}
use Rattle.span_tracing_outputs.specs.OutputSettings.{out_set, outs_set}
use Rattle.span_tracing_outputs.specs.TraceFollows.{at_rest}
use Rattle.span_tracing_laws.specs.isolation.OutputTurns.{filter_numbers}
use Rattle.span_tracing_laws.specs.runs.Runs.{outs_left}
use Rattle.span_tracing_laws.specs.runs.StepNotices.{Told}
use Rattle.span_tracing_laws.specs.runs.StepSettings.{OutputSetting, outs_with}
use Rattle.span_tracing_laws.proofs.starved.WholeRuns.{changed_same, numbers_told}

module _ {N : Type 0} (n : Ghosts N) where
  abbrev Outs : Type 0
  Outs = List (Numbered N)

  abbrev number_of : Numbered N → ℕ
  number_of o = o.number

  pub numbers_with : (stack : ℕ) (c : Option OutputSetting) (outs : Outs) → filter_numbers (outs_with stack c outs) ≡ filter_numbers outs
  numbers_with stack None outs = refl
  numbers_with stack (Some c) outs = by_if (c.at.stack == stack)
    where
      by_if : (b : Bool) → filter_numbers (if b then outs_set c.at.place c.setting outs else outs) ≡ filter_numbers outs
      by_if true = changed_same number_of (out_set c.setting) (λ o. refl) c.at.place outs
      by_if false = refl

  pub numbers_left : (told : Option (Told N)) (fates : Fates) (outs : Outs) →
      filter_numbers (outs_left n told outs fates) ≡ filter_numbers outs
  numbers_left None fates outs = refl
  numbers_left (Some told) fates outs =
      map-map number_of at_rest (outs_told n (told.lists outs) outs fates) ∙ numbers_told n (told.lists outs) outs fates
