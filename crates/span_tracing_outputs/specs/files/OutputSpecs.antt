-- What an output is to be.
use Rattle.std.specs.Prelude.{◌≡◌, Bool, true, false, List, length, Result, Ok, Err}
use Rattle.event_formatter_text.specs.makers.Routes.{is_good_route}
use Rattle.event_formatter_text.specs.declared.makers.route.Route.{Route}
use Rattle.span_registry_layers_store.specs.declared.slot.OutputKey.{OutputKey}
use Rattle.span_tracing_skeleton.specs.declared.refusal.Refusal.TheVariants.{BadRoute, JsonFieldsNeeded}
use Rattle.span_tracing_outputs.specs.files.Settings.{needs_json}
use Rattle.span_tracing_outputs.specs.declared.files.line_settings.LineSettings.{LineSettings}
use Rattle.span_tracing_outputs.specs.declared.files.output_spec.OutputSpec.{OutputSpec}
use Rattle.span_tracing_outputs.specs.declared.files.output_spec.SinkSpec.{SinkSpec}
use Rattle.span_tracing_outputs.specs.declared.files.output_spec.SpecRefusal.{SpecRefusal}

module _ {F D Q : Type 0} where
  -- all comes back
  pub record ComesBack (f : F) (l : LineSettings) (r : Route) (xs : List (SinkSpec D Q)) (refused : SpecRefusal F D Q) : Type 0 where
    pub filter : refused.filter ≡ f
    pub lines : refused.lines ≡ l
    pub route : refused.route ≡ r
    pub sinks : refused.sinks.items ≡ xs

  -- it is as it is asked for
  pub record IsAsked (k : OutputKey) (f : F) (l : LineSettings) (r : Route) (xs : List (SinkSpec D Q)) (spec : OutputSpec F D Q) : Type 0 where
    pub key : spec.key ≡ k
    pub filter : spec.filter ≡ f
    pub lines : spec.lines ≡ l
    pub route : spec.route ≡ r
    pub sinks : spec.sinks.items ≡ xs

  -- whether the route is good for so many sinks decides first, and then whether JSON lacks its fields
  abbrev pub SpecIf : Bool → Bool → OutputKey → F → LineSettings → Route → List (SinkSpec D Q) → Result (OutputSpec F D Q) (SpecRefusal F D Q) →
      Type 0
  SpecIf false json key filter lines route sinks (Ok spec) = ⊥
  SpecIf false json key filter lines route sinks (Err refused) = (refused.error ≡ BadRoute) × ComesBack filter lines route sinks refused
  SpecIf true true key filter lines route sinks (Ok spec) = ⊥
  SpecIf true true key filter lines route sinks (Err refused) = (refused.error ≡ JsonFieldsNeeded) ×
      ComesBack filter lines route sinks refused
  SpecIf true false key filter lines route sinks (Ok spec) = IsAsked key filter lines route sinks spec
  SpecIf true false key filter lines route sinks (Err refused) = ⊥

  abbrev pub SpecGives : OutputKey → F → LineSettings → Route → List (SinkSpec D Q) → Result (OutputSpec F D Q) (SpecRefusal F D Q) → Type 0
  SpecGives key filter lines route sinks result = SpecIf (is_good_route (length sinks) route) (needs_json lines) key filter lines route
      sinks result
