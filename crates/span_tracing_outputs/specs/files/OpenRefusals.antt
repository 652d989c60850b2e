-- Which refusal is told of outputs whose files can't be opened.
use Rattle.std.specs.Prelude.{◌≡◌, ◌⊎◌, ◌==◌, ℕ, Bool, true, false, List, [], ◌∷◌, length, Option, Some, None, Result, Ok, Err}
use Rattle.tracing_appender_rolling.specs.Builders.{builder_names}
use Rattle.tracing_appender_rolling.specs.FaultReports.{Rises}
use Rattle.tracing_appender_rolling.specs.declared.builder.Builder.{Builder}
use Rattle.tracing_appender_rolling.specs.declared.build.BuildError.{BuildError}
use Rattle.tracing_appender_rolling.specs.declared.build.BuildError.TheVariants as builds
use Rattle.tracing_appender_rolling.specs.declared.init.InitError.{InitError}
use Rattle.tracing_appender_rolling.specs.Names.{FileNames, is_bad_name, HasBadLink, HasGoodLink}
use Rattle.event_formatter_text.specs.makers.Routes.{is_good_route}
use Rattle.span_registry_layers_store.specs.declared.slot.OutputKey.{OutputKey}
use Rattle.span_tracing_skeleton.specs.declared.refusal.Refusal.{Refusal}
use Rattle.span_tracing_skeleton.specs.declared.refusal.Refusal.TheVariants.{BadLinkName, BadName, BadRoute, OutOfMemory, ZeroLimit}
use Rattle.span_tracing_outputs.specs.files.OpenedStack.{build_refusal, of_all}
use Rattle.span_tracing_outputs.specs.declared.files.open_error.OpenStackError.{OpenStackError}
use Rattle.span_tracing_outputs.specs.declared.files.opening.Routing.{Routing}
use Rattle.span_tracing_outputs.specs.declared.files.output_spec.OutputSpec.{OutputSpec}
use Rattle.span_tracing_outputs.specs.declared.files.output_spec.SinkSpec.{SinkSpec}
use Rattle.span_tracing_outputs.specs.declared.files.output_spec.SinkSpec.TheVariants.{Direct, Queued, Live}

-- what is told of an output
abbrev pub at_output : OutputKey → Refusal → OpenStackError
at_output key refusal = record { refusal = refusal; output = Some key; fault = None }

abbrev pub fault_of : BuildError → Option InitError
fault_of builds.BadName = None
fault_of builds.BadLinkName = None
fault_of (builds.Init fault) = Some fault
fault_of builds.OutOfMemory = None

-- what is told where the appender of a sink isn't built
abbrev pub of_sink : OutputKey → BuildError → OpenStackError
of_sink key error = record { refusal = build_refusal error; output = Some key; fault = fault_of error }

-- what is wrong with the names of files, where something is
abbrev pub NamesTell : FileNames → Option Refusal → Type 0
NamesTell names None = (is_bad_name names ≡ false) × HasGoodLink names
NamesTell names (Some told) = ((told ≡ BadName) × (is_bad_name names ≡ true)) ⊎
    ((told ≡ BadLinkName) × (is_bad_name names ≡ false) × HasBadLink names)

-- so of a queued sink, for whose lines there has to be room
abbrev pub LimitTells : Bool → FileNames → Option Refusal → Type 0
LimitTells true names told = told ≡ Some ZeroLimit
LimitTells false names told = NamesTell names told

-- what the first of them tells that tells something
abbrev pub FirstTells : {A T : Type 0} → (A → Option T → Type 0) → List A → Option T → Type 0
FirstTells tells [] None = Unit {0}
FirstTells tells [] (Some told) = ⊥
FirstTells tells (x ∷ xs) None = tells x None × FirstTells tells xs None
FirstTells tells (x ∷ xs) (Some told) = tells x (Some told) ⊎ (tells x None × FirstTells tells xs (Some told))

-- one of them does
abbrev pub InOne : {A : Type 0} → (A → Type 0) → List A → Type 0
InOne does [] = ⊥
InOne does (x ∷ xs) = does x ⊎ InOne does xs

module _ {D : Type 0} (failed : D → ℕ) where
  -- the folder refused to open a file of the output, with this fault, and counted it
  abbrev pub FilesTell : OutputKey → OpenStackError → D → Type 0
  FilesTell key told folder =
      (fault : InitError) × (told ≡ of_sink key (builds.Init fault)) × (back : D) × Rises (failed folder) (failed back)

module _ {D Q : Type 0} (failed : D → ℕ) where
  -- so of a sink; a live one has no folder
  abbrev pub FolderTells : OutputKey → OpenStackError → SinkSpec D Q → Type 0
  FolderTells key told (Direct builder folder) = FilesTell failed key told folder
  FolderTells key told (Queued builder folder limit lossy) = FilesTell failed key told folder
  FolderTells key told (Live queue) = ⊥

  -- the folder of one of the sinks refused, or there was no memory
  abbrev pub IsLate : OutputKey → OpenStackError → List (SinkSpec D Q) → Type 0
  IsLate key told sinks = InOne (FolderTells key told) sinks ⊎ (told ≡ at_output key OutOfMemory)

module _ {D Q : Type 0} where
  -- what is wrong with a sink's queue, or with the names of its files; with a live one nothing is
  abbrev pub SinkTells : SinkSpec D Q → Option Refusal → Type 0
  SinkTells (Direct builder folder) told = NamesTell (builder_names builder) told
  SinkTells (Queued builder folder limit lossy) told = LimitTells (limit == 0) (builder_names builder) told
  SinkTells (Live queue) told = told ≡ None

  -- the first queue without room or bad name, sinks in order
  abbrev pub SinksTell : List (SinkSpec D Q) → Option Refusal → Type 0
  SinksTell sinks told = FirstTells SinkTells sinks told

module _ {D : Type 0} (failed : D → ℕ) where
  -- files of the output with this key can't be opened for their names, or the folder refuses, or there is no memory
  abbrev pub FilesRefuse : OutputKey → OpenStackError → Builder → D → Type 0
  FilesRefuse key told builder folder =
      ((told ≡ at_output key told.refusal) × NamesTell (builder_names builder) (Some told.refusal)) ⊎
      (FilesTell failed key told folder ⊎ (told ≡ at_output key OutOfMemory))

module _ {D Q : Type 0} (failed : D → ℕ) where
  -- so of a sink; or its queue has no room for a line
  abbrev pub SinkRefuses : OutputKey → OpenStackError → SinkSpec D Q → Type 0
  SinkRefuses key told (Direct builder folder) = FilesRefuse failed key told builder folder
  SinkRefuses key told (Queued builder folder limit lossy) =
      ((told ≡ at_output key ZeroLimit) × (limit ≡ 0)) ⊎ FilesRefuse failed key told builder folder
  SinkRefuses key told (Live queue) = told ≡ at_output key OutOfMemory

  -- a sink of an output can't be opened, or its route isn't good, or there is no memory
  abbrev pub RoutingRefuses : OpenStackError → Routing D Q → Type 0
  RoutingRefuses told routing =
      InOne (SinkRefuses routing.key told) routing.sinks.items ⊎
      ((told ≡ at_output routing.key BadRoute) × (is_good_route (length routing.sinks.items) routing.route ≡ false)) ⊎
      (told ≡ at_output routing.key OutOfMemory)

module _ {F D Q : Type 0} where
  -- what is wrong with the names of an output's files, with its key
  abbrev pub OutputTells : OutputSpec F D Q → Option (OutputKey × Refusal) → Type 0
  OutputTells spec None = SinksTell spec.sinks.items None
  OutputTells spec (Some told) = (told.0 ≡ spec.key) × SinksTell spec.sinks.items (Some told.1)

  -- the first queue without room or bad name, outputs and sinks in order
  abbrev pub OutputsTell : List (OutputSpec F D Q) → Option (OutputKey × Refusal) → Type 0
  OutputsTell specs told = FirstTells OutputTells specs told

  -- its route is good for as many sinks as it has, as that of an output that `OutputSpec::new` made
  abbrev pub IsRouted : OutputSpec F D Q → Type 0
  IsRouted spec = is_good_route (length spec.sinks.items) spec.route ≡ true

module _ {F D Q : Type 0} (failed : D → ℕ) where
  -- the first of these is told with its output, or out of memory; where there is none, what one of the outputs meets where its files
  -- are opened, or out of memory before
  abbrev pub IsToldOf : List (OutputSpec F D Q) → Option (OutputKey × Refusal) → OpenStackError → Type 0
  IsToldOf specs (Some wrong) told = (told ≡ at_output wrong.0 wrong.1) ⊎ (told ≡ of_all OutOfMemory)
  IsToldOf specs None told =
      InOne (λ (spec : OutputSpec F D Q). IsLate failed spec.key told spec.sinks.items) specs ⊎ (told ≡ of_all OutOfMemory)

  -- all queues of a stack that is made have room, and all names are good; of one that isn't the first that hasn't is told, or what comes
  -- after names
  abbrev pub NamesAnswer : {A : Type 0} → List (OutputSpec F D Q) → Result A OpenStackError → Type 0
  NamesAnswer specs (Ok made) = OutputsTell specs None
  NamesAnswer specs (Err told) = (wrong : Option (OutputKey × Refusal)) × OutputsTell specs wrong × IsToldOf specs wrong told
