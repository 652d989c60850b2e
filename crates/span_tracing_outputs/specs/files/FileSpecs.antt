-- What an output is to be that writes to one file at a time.
use Rattle.std.specs.Prelude.{◌≡◌, ◌⊎◌, true, [], ◌∷◌, Result, Ok, Err}
use Rattle.event_formatter_text.specs.declared.makers.route.Route.TheVariants.{Sink}
use Rattle.tracing_appender.specs.declared.background.live.NoLive.{NoLive}
use Rattle.tracing_appender_rolling.specs.declared.builder.Builder.{Builder}
use Rattle.span_registry_layers_store.specs.declared.slot.OutputKey.{OutputKey}
use Rattle.span_tracing_skeleton.specs.declared.refusal.Refusal.TheVariants.{JsonFieldsNeeded, OutOfMemory}
use Rattle.span_tracing_outputs.specs.files.OpenRefusals.{at_output}
use Rattle.span_tracing_outputs.specs.files.OutputSpecs.{SpecGives}
use Rattle.span_tracing_outputs.specs.files.Settings.{needs_json}
use Rattle.span_tracing_outputs.specs.declared.files.line_settings.LineSettings.{LineSettings}
use Rattle.span_tracing_outputs.specs.declared.files.open_error.OpenStackError.{OpenStackError}
use Rattle.span_tracing_outputs.specs.declared.files.output_spec.OutputSpec.{OutputSpec}
use Rattle.span_tracing_outputs.specs.declared.files.output_spec.SinkSpec.TheVariants.{Direct}

module _ {F D : Type 0} where
  -- The same as `OutputSpec::new` gives for one sink and the route to it. What is told is told with the output's key: that lines of JSON
  -- lack their fields, where they do, or out of memory.
  abbrev pub FileGives : OutputKey → F → LineSettings → Builder → D → Result (OutputSpec F D NoLive) OpenStackError → Type 0
  FileGives key filter lines builder folder (Ok spec) = SpecGives key filter lines (Sink 0) (Direct builder folder ∷ []) (Ok spec)
  FileGives key filter lines builder folder (Err told) =
      ((told ≡ at_output key JsonFieldsNeeded) × (needs_json lines ≡ true)) ⊎ (told ≡ at_output key OutOfMemory)
