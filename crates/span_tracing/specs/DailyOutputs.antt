-- An output with a file for each day in a directory.
use Rattle.std.specs.Prelude.{◌≡◌, ℕ, true, List, Option, String, IfSome, Result, string_bytes}
use Rattle.tracing_core_moments.specs.declared.period.PeriodKind.TheVariants.{Day}
use Rattle.tracing_appender.specs.declared.background.live.NoLive.{NoLive}
use Rattle.tracing_appender_rolling.specs.Builders.{builder_names, is_whole, prefixed_names}
use Rattle.tracing_appender_rolling.specs.declared.builder.Builder.{Builder}
use Rattle.span_registry_layers_store.specs.declared.slot.OutputKey.{OutputKey}
use Rattle.span_tracing_outputs.specs.files.FileSpecs.{FileGives}
use Rattle.span_tracing_outputs.specs.declared.files.line_settings.LineSettings.{LineSettings}
use Rattle.span_tracing_outputs.specs.declared.files.open_error.OpenStackError.{OpenStackError}
use Rattle.span_tracing_outputs.specs.declared.files.output_spec.OutputSpec.{OutputSpec}

module _ {A D : Type 0} (path : D → Option (String A)) where
  -- Names with a day and the prefix, and a folder at the directory. A text that found no memory is missing: then the builder isn't whole, or
  -- the folder has no path.
  pub record AreDaily (directory prefix : List ℕ) (builder : Builder) (folder : D) : Type 0 where
    pub names : is_whole builder ≡ true → builder_names builder ≡ prefixed_names Day prefix
    pub place : IfSome (path folder) (λ kept. string_bytes kept ≡ directory)

  -- what an output gives that writes to such files in such a folder
  abbrev pub DailyGives : {F : Type 0} → OutputKey → F → LineSettings → List ℕ → List ℕ → Result (OutputSpec F D NoLive) OpenStackError → Type 0
  DailyGives key filter lines directory prefix result =
      (builder : Builder) × (folder : D) × AreDaily directory prefix builder folder × FileGives key filter lines builder folder result
