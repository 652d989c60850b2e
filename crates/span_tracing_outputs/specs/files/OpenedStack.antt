-- A stack whose files are opened.
use Rattle.std.specs.Prelude.{◌≡◌, ◌⊎◌, ℕ, true, nat_eq, nat_le, if◌then◌else◌, List, [], ◌∷◌, length, map, Option, Some, None}
use Rattle.std.specs.Prelude.{Result, Ok, Err}
use Rattle.tracing_core_moments.specs.declared.moment.Moment.{Moment}
use Rattle.tracing_appender_rolling.specs.folders.Contents.{Contents}
use Rattle.tracing_appender_rolling.specs.Builders.{builder_names, is_whole}
use Rattle.tracing_appender_rolling.specs.Builds.{IsBuilt}
use Rattle.tracing_appender_queue.specs.Queue.{new_queue}
use Rattle.tracing_appender_queue.specs.queued.HeldLines.{nothing_at}
use Rattle.tracing_appender_rolling.specs.declared.appender.RollingFileAppender.{RollingFileAppender}
use Rattle.tracing_appender_rolling.specs.declared.builder.Builder.{Builder}
use Rattle.tracing_appender_rolling.specs.declared.build.BuildError.{BuildError}
use Rattle.tracing_appender_rolling.specs.declared.build.BuildError.TheVariants as builds
use Rattle.span_registry_layers_layers.specs.declared.filter.Filter.{Ghosts as FilterGhosts}
use Rattle.span_registry_layers_layers.specs.declared.filtered.Filtered.{Filtered}
use Rattle.span_registry_layers_layers.specs.declared.layer.Layer.{Ghosts as LayerGhosts}
use Rattle.span_registry_layers.specs.NewStack as stacks
use Rattle.span_registry_layers.specs.declared.output.Output.{Output}
use Rattle.span_registry_layers.specs.declared.output.StackError.{StackError}
use Rattle.span_registry_layers.specs.declared.output.StackError.TheVariants as errors
use Rattle.span_registry_layers.specs.declared.output.StackRefusal.{StackRefusal}
use Rattle.event_formatter.specs.declared.formats.fields.Fields.{Fields}
use Rattle.event_formatter.specs.declared.formats.format.Format.{Format}
use Rattle.event_formatter.specs.declared.formats.line_format.LineFormat.{LineFormat}
use Rattle.event_formatter.specs.declared.formats.timer.Timer.{Timer}
use Rattle.event_formatter.specs.fmt_layer.Threads.{PlainLane}
use Rattle.span_tracing_outputs.specs.StackFollows.{LinedStack}
use Rattle.span_tracing_outputs.specs.TraceStacks.{NewGives, TraceStackValue}
use Rattle.span_tracing_outputs.specs.Turns.{Lines}
use Rattle.span_tracing_outputs.specs.sinks.Routed.{Routed}
use Rattle.span_tracing_outputs.specs.declared.sinks.any_sink.AnySink.{AnySink}
use Rattle.span_tracing_outputs.specs.declared.sinks.any_sink.AnySink.TheVariants as sinks
use Rattle.span_tracing_skeleton.specs.declared.refusal.Refusal.{Refusal}
use Rattle.span_tracing_skeleton.specs.declared.refusal.Refusal.TheVariants as refusals
use Rattle.span_tracing_outputs.specs.files.Settings.{DescribesLayer, Shown}
use Rattle.span_tracing_outputs.specs.declared.files.open_error.OpenStackError.{OpenStackError}
use Rattle.span_tracing_outputs.specs.declared.files.opening.Routing.{Routing}
use Rattle.span_tracing_outputs.specs.declared.files.output_spec.OutputSpec.{OutputSpec}
use Rattle.span_tracing_outputs.specs.declared.files.output_spec.SinkSpec.{SinkSpec}
use Rattle.span_tracing_outputs.specs.declared.files.output_spec.SinkSpec.TheVariants.{Direct, Queued, Live}

abbrev pub stack_refusal : StackError → Refusal
stack_refusal errors.NoOutput = refusals.NoOutput
stack_refusal errors.TooManyFilters = refusals.TooManyFilters
stack_refusal errors.EqualKeys = refusals.EqualKeys
stack_refusal errors.OutOfMemory = refusals.OutOfMemory

abbrev pub build_refusal : BuildError → Refusal
build_refusal builds.BadName = refusals.BadName
build_refusal builds.BadLinkName = refusals.BadLinkName
build_refusal (builds.Init error) = refusals.FolderRefused
build_refusal builds.OutOfMemory = refusals.OutOfMemory

-- each stands so to the one at its place
abbrev pub Pairs : {A B : Type 0} → (A → B → Type 0) → List A → List B → Type 0
Pairs r [] [] = Unit {0}
Pairs r [] (y ∷ ys) = ⊥
Pairs r (x ∷ xs) [] = ⊥
Pairs r (x ∷ xs) (y ∷ ys) = r x y × Pairs r xs ys

module _ {F D Q : Type 0} where
  -- an output's layer writes the lines that are asked for, under the output's key, and knows these threads of lanes
  pub record RowOf (lanes : List PlainLane) (spec : OutputSpec F D Q) (row : Output (Filtered Shown F)) : Type 0 where
    pub key : row.key ≡ spec.key
    pub filter : row.output.filter ≡ spec.filter
    pub layer : DescribesLayer spec.lines spec.key lanes row.output.layer

  abbrev pub routing_of : OutputSpec F D Q → Routing D Q
  routing_of spec = record { key = spec.key; route = spec.route; sinks = spec.sinks }

  abbrev pub keys_of : List (OutputSpec F D Q) → List ℕ
  keys_of specs = map (λ (spec : OutputSpec F D Q). spec.key.0) specs

  -- what is wrong with the outputs themselves
  abbrev pub outputs_refusal : List (OutputSpec F D Q) → Option Refusal
  outputs_refusal specs =
      if nat_eq (length specs) 0 then Some refusals.NoOutput else if nat_le (length specs)
      64 then (if stacks.has_equal_keys (keys_of specs) then Some refusals.EqualKeys else None) else Some refusals.TooManyFilters

-- what is wrong is told, or out of memory
abbrev pub IsTold : Option Refusal → Refusal → Type 0
IsTold None told = Unit {0}
IsTold (Some refusal) told = (told ≡ refusal) ⊎ (told ≡ refusals.OutOfMemory)

-- what is told of all outputs, or of the moment
abbrev pub of_all : Refusal → OpenStackError
of_all refusal = record { refusal = refusal; output = None; fault = None }

abbrev pub IsToldOfAll : Option Refusal → OpenStackError → Type 0
IsToldOfAll None told = Unit {0}
IsToldOfAll (Some refusal) told = (told ≡ of_all refusal) ⊎ (told ≡ of_all refusals.OutOfMemory)

-- where something is wrong that is told, and nothing is made
abbrev pub Answers : {A : Type 0} → Option Refusal → Result A OpenStackError → Type 0
Answers wrong (Err told) = IsToldOfAll wrong told
Answers wrong (Ok made) = wrong ≡ None

module _ {N E F : Type 0} where
  -- what is wrong with the outputs of a stack whose layers have no filters of their own
  abbrev pub rows_refusal : List (Output (Filtered (Lines N E) F)) → Option Refusal
  rows_refusal rows =
      if nat_eq (length rows) 0 then Some refusals.NoOutput else if nat_le (length rows)
      64 then (if stacks.has_equal_keys (stacks.keys_of rows) then Some refusals.EqualKeys else None) else Some refusals.TooManyFilters

  -- a refused stack tells it, and of a stack that is made nothing is wrong; where nothing is wrong there was no memory. A stack has a row
  -- for each output
  pub record RowsAreTold (g : FilterGhosts F) (h : LayerGhosts (Lines N E)) : Type 0 where
    pub wrong : (rows : List (Output (Filtered (Lines N E) F))) (back : StackRefusal (Filtered (Lines N E) F)) →
        stacks.NewGives h g rows (Err back) → IsTold (rows_refusal rows) (stack_refusal back.error)
    pub right : (rows : List (Output (Filtered (Lines N E) F))) (s : LinedStack N E F) → stacks.NewGives h g rows (Ok s) →
        rows_refusal rows ≡ None
    pub counted : (rows : List (Output (Filtered (Lines N E) F))) (s : LinedStack N E F) → stacks.NewGives h g rows (Ok s) →
        length s.rows ≡ length rows
    pub starved : (rows : List (Output (Filtered (Lines N E) F))) (back : StackRefusal (Filtered (Lines N E) F)) →
        stacks.NewGives h g rows (Err back) → rows_refusal rows ≡ None → stack_refusal back.error ≡ refusals.OutOfMemory

module _ {D : Type 0} (contents : D → Option Contents) (failed : D → ℕ) (m : Moment) where
  -- the file was opened in its folder, after retention; the builder missed no text
  pub record OpensFiles (builder : Builder) (folder : D) (appender : RollingFileAppender D) : Type 0 where
    pub built : IsBuilt contents failed (builder_names builder) folder m appender
    pub whole : is_whole builder ≡ true

module _ {D Q : Type 0} (contents : D → Option Contents) (failed : D → ℕ) (m : Moment) where
  -- A sink over such a file, which dropped no line yet, or for whose queue no line waits. A live queue is taken as it is.
  abbrev pub OpensSink : SinkSpec D Q → AnySink D Q → Type 0
  OpensSink (Direct builder folder) (sinks.Direct sink) = OpensFiles contents failed m builder folder sink.appender × (sink.dropped ≡ 0)
  OpensSink (Direct builder folder) (sinks.Queued sink) = ⊥
  OpensSink (Direct builder folder) (sinks.Live sink) = ⊥
  OpensSink (Queued builder folder limit lossy) (sinks.Queued sink) =
      OpensFiles contents failed m builder folder sink.appender × (sink.waiting ≡ nothing_at (new_queue limit lossy))
  OpensSink (Queued builder folder limit lossy) (sinks.Direct sink) = ⊥
  OpensSink (Queued builder folder limit lossy) (sinks.Live sink) = ⊥
  OpensSink (Live queue) (sinks.Direct sink) = ⊥
  OpensSink (Live queue) (sinks.Queued sink) = ⊥
  OpensSink (Live queue) (sinks.Live sink) = sink ≡ record { queue = queue; missed = 0; lost = 0 }

  pub record OpensRouting (routing : Routing D Q) (routed : Routed (AnySink D Q)) : Type 0 where
    pub route : routed.route ≡ routing.route
    pub sinks : Pairs OpensSink routing.sinks.items routed.sinks

module _ {F D Q : Type 0} (contents : D → Option Contents) (failed : D → ℕ) (g : FilterGhosts F) (h : LayerGhosts Shown) (m : Moment)
    (lanes : List PlainLane) where
  -- a new stack of the outputs, whose lines know these threads of lanes, and whose files are all open
  pub record OpensStack (specs : List (OutputSpec F D Q)) (made : TraceStackValue Fields (Format LineFormat Timer) F (Routed (AnySink D Q)))
      : Type 0 where
    pub outputs : List (Output (Filtered Shown F))
    pub stack : LinedStack Fields (Format LineFormat Timer) F
    pub rows : Pairs (RowOf lanes) specs outputs
    pub new : stacks.NewGives h g outputs (Ok stack)
    pub sinks : Pairs (OpensRouting contents failed m) (map routing_of specs) made.sinks
    pub paired : NewGives stack made.sinks (Ok made)
