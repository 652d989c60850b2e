pub mod DailyOutputs
pub mod CarriedSteps
pub mod SpanMoments
pub mod OpenedTrace
pub mod Ready
pub mod Roads
pub mod OutputReaders
pub mod Calls
pub mod OutputIndependence
pub mod Levels
pub mod Sites
pub mod Setup
pub use Rattle.span_tracing_skeleton.specs.Acting
pub use Rattle.span_tracing_skeleton.specs.Counting
pub use Rattle.span_tracing_skeleton.specs.Looking
pub use Rattle.span_tracing_skeleton.specs.Machine
pub use Rattle.span_tracing_skeleton.specs.Order
pub use Rattle.span_tracing_skeleton.specs.PlainData
pub use Rattle.span_tracing_skeleton.specs.Skeleton
pub use Rattle.span_tracing_skeleton.specs.Refusals
pub use Rattle.span_tracing_skeleton.specs.Refusing
pub use Rattle.span_tracing_skeleton.specs.Replies
pub use Rattle.span_tracing_skeleton.specs.declared.call.Parent
pub use Rattle.span_tracing_skeleton.specs.declared.call.Reply
pub use Rattle.span_tracing_skeleton.specs.declared.call_error.CallError
pub use Rattle.span_tracing_skeleton.specs.declared.queue_call.QueueCall
pub use Rattle.span_tracing_skeleton.specs.declared.refusal.Refusal
pub use Rattle.span_tracing_skeleton.specs.declared.setting.OutputPlace
pub use Rattle.span_tracing_skeleton.specs.declared.setting.Setting
pub use Rattle.span_tracing_steps.specs.AnySteps
pub use Rattle.span_tracing_steps.specs.Asking
pub use Rattle.span_tracing_steps.specs.FilterSwaps
pub use Rattle.span_tracing_steps.specs.InterestPreservation
pub use Rattle.span_tracing_steps.specs.Interests
pub use Rattle.span_tracing_steps.specs.Runs as StepRuns
pub use Rattle.span_tracing_steps.specs.Setup as SetupSteps
pub use Rattle.span_tracing_steps.specs.States
pub use Rattle.span_tracing_steps.specs.Tables
pub use Rattle.span_tracing_steps.specs.Steps
pub use Rattle.span_tracing_steps.specs.TraceInvariant
pub use Rattle.span_tracing_outputs.specs.LayerAgreement
pub use Rattle.span_tracing_outputs.specs.OutputFilters
pub use Rattle.span_tracing_outputs.specs.OutputFolds
pub use Rattle.span_tracing_outputs.specs.OutputMachines
pub use Rattle.span_tracing_outputs.specs.OutputNotices
pub use Rattle.span_tracing_outputs.specs.OutputSettings
pub use Rattle.span_tracing_outputs.specs.SinkLines
pub use Rattle.span_tracing_outputs.specs.StackFollows
pub use Rattle.span_tracing_outputs.specs.TraceFollows
pub use Rattle.span_tracing_outputs.specs.TraceStacks
pub use Rattle.span_tracing_outputs.specs.TraceStarts
pub use Rattle.span_tracing_outputs.specs.Turns
pub use Rattle.span_tracing_outputs.specs.files.FileSpecs
pub use Rattle.span_tracing_outputs.specs.files.OpenRefusals
pub use Rattle.span_tracing_outputs.specs.files.OpenedStack
pub use Rattle.span_tracing_outputs.specs.files.OutputSpecs
pub use Rattle.span_tracing_outputs.specs.files.Settings
pub use Rattle.span_tracing_outputs.specs.files.Threads
pub use Rattle.span_tracing_outputs.specs.sinks.AnySinks
pub use Rattle.span_tracing_outputs.specs.sinks.Fates
pub use Rattle.span_tracing_outputs.specs.sinks.LinesInFiles
pub use Rattle.span_tracing_outputs.specs.sinks.LiveSinks
pub use Rattle.span_tracing_outputs.specs.sinks.OutputRuns
pub use Rattle.span_tracing_outputs.specs.sinks.QueueFiles
pub use Rattle.span_tracing_outputs.specs.sinks.Routed
pub use Rattle.span_tracing_outputs.specs.sinks.Runs as SinkRuns
pub use Rattle.span_tracing_outputs.specs.sinks.SinkCalls
pub use Rattle.span_tracing_outputs.specs.sinks.SinkTurns
pub use Rattle.span_tracing_outputs.specs.sinks.Takes
pub use Rattle.span_tracing_outputs.specs.declared.files.output_spec.OutputSpec
pub use Rattle.span_tracing_outputs.specs.declared.sinks.any_sink.AnySink
pub use Rattle.span_tracing_outputs.specs.declared.sinks.live.LiveSink
pub use Rattle.span_tracing_outputs.specs.declared.sinks.sink.RollingSink
pub use Rattle.span_tracing_laws.specs.json_runs.JsonRuns
pub use Rattle.span_tracing_laws.specs.queue_steps.SinkPlaces
pub use Rattle.span_tracing_laws.specs.runs.AnySteps as AnyStepLaws
pub use Rattle.span_tracing_laws.specs.runs.DrivenSinks
pub use Rattle.span_tracing_laws.specs.runs.Files
pub use Rattle.span_tracing_laws.specs.runs.KeptStacks
pub use Rattle.span_tracing_laws.specs.runs.Laws
pub use Rattle.span_tracing_laws.specs.runs.Runs
pub use Rattle.span_tracing_laws.specs.runs.SkippedCallsites
pub use Rattle.span_tracing_laws.specs.runs.SpanMasks
pub use Rattle.span_tracing_laws.specs.runs.StepFollows
pub use Rattle.span_tracing_laws.specs.runs.StepNotices
pub use Rattle.span_tracing_laws.specs.runs.StepSettings
pub use Rattle.span_tracing_outputs.specs.declared.files.open_error.OpenStackError
pub use Rattle.span_tracing_outputs.specs.declared.files.output_spec.SinkSpec
pub use Rattle.span_tracing_skeleton.specs.declared.call.Parent
pub use Rattle.span_tracing_skeleton.specs.declared.call.SpanName
pub use Rattle.tracing_appender.specs.background.Live
pub use Rattle.tracing_appender_queue.specs.declared.queued.fate.Fate
pub use Rattle.tracing_appender_rolling.specs.folders.Contents
pub use Rattle.tracing_appender_rolling.specs.Builders
pub use Rattle.tracing_appender_rolling.specs.FaultReports
pub use Rattle.tracing_appender_rolling.specs.Names
pub use Rattle.tracing_core_moments.specs.Moments
pub use Rattle.tracing_core_moments.specs.declared.moment.Moment
pub use Rattle.event_formatter.specs.formats.Contexts
pub use Rattle.event_formatter.specs.declared.formats.fields.Fields
pub use Rattle.event_formatter.specs.declared.formats.format.Format
pub use Rattle.event_formatter.specs.declared.formats.line_format.LineFormat
pub use Rattle.event_formatter.specs.declared.formats.timer.Timer
pub use Rattle.event_formatter_text.specs.declared.format_fields.FormatFields
pub use Rattle.span_tracing_shared.specs.Journals
pub use Rattle.span_tracing_shared.specs.Lanes
pub use Rattle.span_tracing_shared.specs.Entries
pub use Rattle.span_tracing_shared.specs.Seats
pub use Rattle.span_tracing_shared.specs.Books
pub use Rattle.span_tracing_shared.specs.Closing
pub use Rattle.span_tracing_shared.specs.Running
pub use Rattle.span_tracing_shared.specs.JournalLaws
pub use Rattle.span_tracing_shared.specs.Masks
pub use Rattle.span_tracing_laws.specs.harmless.Kept as HarmlessKept
pub use Rattle.span_tracing_laws.specs.harmless.Lines as HarmlessFormats
pub use Rattle.span_tracing_laws.specs.harmless.Outputs as HarmlessOutputs
pub use Rattle.span_tracing_laws.specs.harmless.Runs as HarmlessRuns
pub use Rattle.span_tracing_laws.specs.harmless.Steps as HarmlessSteps
pub use Rattle.span_tracing_laws.specs.harmless.Timers as HarmlessTimers
pub use Rattle.span_tracing_outputs.specs.BufferedLines
pub use Rattle.span_tracing_outputs.specs.TraceSteadiness
pub use Rattle.span_tracing_outputs.specs.files.Either as EitherFolders
pub use Rattle.span_tracing_laws.specs.machines.Files as MachineFiles
pub use Rattle.span_registry_layers_store.specs.CloseCandidates
pub use Rattle.span_registry_layers_store.specs.Parts as RegistryParts
pub use Rattle.tracing_core_fields.specs.OwnedCopies
