-- Each step follows the skeleton and the output machines.
use Rattle.std.proofs.Common.{◌≡◌, inl, ℕ, true, false, List, Option, Some, None}
use Rattle.std.proofs.Common.{refl, sym, subst}
use Rattle.tracing_core_fields.specs.requests.Calls.{Call, ReplyTo}
use Rattle.tracing_core_fields.specs.requests.PlainRequests.{PlainEvent}
use Rattle.tracing_core_moments.specs.declared.at.At.{At}
use Rattle.tracing_core_fields.specs.declared.requests.subscriber.Subscriber.{Ghosts as SubscriberGhosts}
use Rattle.span_registry_layers_layers.specs.declared.filter.Filter.{Ghosts as FilterGhosts}
use Rattle.span_registry_layers_layers.specs.declared.layer.Layer.{Ghosts as LayerGhosts}
use Rattle.event_formatter_text.specs.declared.format_fields.FormatFields.{Ghosts}
use Rattle.event_formatter_text.specs.declared.settings.Settings.{Settings}
use Rattle.event_formatter.specs.formats.Contexts.{PlainContext}
use Rattle.span_tracing_outputs.specs.OutputMachines.{PlainLine}
use Rattle.span_tracing_outputs.specs.OutputSettings.{stack_set}
use Rattle.span_tracing_outputs.specs.TraceFollows.{TraceFollows}
use Rattle.span_tracing_outputs.specs.TraceStacks.{TraceMoves, TraceStackValue}
use Rattle.span_tracing_outputs.specs.Turns.{Lines}
use Rattle.span_tracing_skeleton.specs.Looking.{known, named, reach}
use Rattle.span_tracing_skeleton.specs.Looking.{output_at}
use Rattle.span_tracing_skeleton.specs.Order.{refusal_of}
use Rattle.span_tracing_skeleton.specs.PlainData.{PlainStep, GlobalStep, EventStep, EnabledStep, SpanStep}
use Rattle.span_tracing_skeleton.specs.PlainData.{RecordStep, FollowsFromStep, EnterStep, ExitStep, CloneStep, CloseStep, DefaultStep}
use Rattle.span_tracing_skeleton.specs.PlainData.{ResetStep, CloneHandleStep, ReleaseStep, SetStep}
use Rattle.span_tracing_skeleton.specs.declared.call.Reply.{Reply}
use Rattle.span_tracing_skeleton.specs.declared.refusal.Refusal.{Refusal}
use Rattle.span_tracing_steps.specs.Steps.{StepGives, StepGoes, StepUnless}
use Rattle.span_tracing_laws.specs.runs.StepFollows.{Follows}
use Rattle.span_tracing_laws.specs.runs.StepFollows.{TraceIsReady, Traced, registry_of}
use Rattle.span_tracing_laws.specs.runs.StepFollows.{skeleton_of}
use Rattle.span_tracing_laws.proofs.runs.StepOutcomes.{refused}
use Rattle.span_tracing_laws.proofs.runs.RequestSteps.{event_goes, question_goes, span_goes}
use Rattle.span_tracing_laws.proofs.runs.SpanSteps.{record_goes, follows_goes, enter_goes, exit_goes, clone_goes, close_goes}
use Rattle.span_tracing_laws.proofs.runs.HolderSteps.{global_goes, default_goes, reset_goes, handle_goes, release_goes, set_goes}

module _ {N E F S : Type 0} (n : Ghosts N) (line_of : E → Settings → PlainContext → PlainEvent → Option (List ℕ)) (g : FilterGhosts F)
    (takes : S → At → PlainLine → S → Type 0) (h : LayerGhosts (Lines N E)) (sg : SubscriberGhosts (TraceStackValue N E F S))
    (moved : (x : TraceStackValue N E F S) (c : Call) (r : ReplyTo c) (y : TraceStackValue N E F S) → sg.moves x c r y →
    TraceMoves g h takes x c r y) (law : TraceFollows n line_of g takes h) where
  abbrev Stack : Type 0
  Stack = TraceStackValue N E F S

  abbrev Goes : Traced N E F S → PlainStep → Reply → Traced N E F S → Type 0
  Goes v step reply w = Follows n line_of g takes h v step reply w × TraceIsReady g h w

  -- a step that isn't refused
  step_goes : (v : Traced N E F S) (step : PlainStep) (reply : Reply) (w : Traced N E F S) → TraceIsReady g h v →
      refusal_of (skeleton_of v) step ≡ None → StepGoes sg registry_of stack_set v step reply w → Goes v step reply w
  step_goes v (GlobalStep handle) reply w ready none goes = global_goes n line_of g takes h sg moved law v handle reply w ready none
      goes.0 goes.1
  step_goes v (EventStep e) reply w ready none goes = event_goes n line_of g takes h sg moved law v e reply w (reach (skeleton_of v) e.lane)
      (known (skeleton_of v) e.callsite false) refl refl ready none goes.0 goes.1
  step_goes v (EnabledStep ask) reply w ready none goes = question_goes n line_of g takes h sg moved law v ask reply w (reach
      (skeleton_of v) ask.lane)
      (named (skeleton_of v).callsites ask.callsite.0) refl refl ready none goes
  step_goes v (SpanStep q) reply w ready none goes = span_goes n line_of g takes h sg moved law v q reply w (reach (skeleton_of v) q.lane)
      (known (skeleton_of v) q.callsite true) refl refl ready none goes
  step_goes v (RecordStep r) reply w ready none goes = record_goes n line_of g takes h sg moved law v r r.span reply w refl ready none
      goes.0 goes.1
  step_goes v (FollowsFromStep ask) reply w ready none goes = follows_goes n line_of g takes h sg moved law v ask ask.span ask.follows
      reply w refl ready none goes.0
      goes.1
  step_goes v (EnterStep ask) reply w ready none goes = enter_goes n line_of g takes h sg moved law v ask ask.span reply w refl ready none
      goes
  step_goes v (ExitStep ask) reply w ready none goes = exit_goes n line_of g takes h sg moved law v ask ask.span reply w refl ready none
      goes.0 goes.1
  step_goes v (CloneStep ask) reply w ready none goes = clone_goes n line_of g takes h sg moved law v ask ask.span reply w refl ready none
      goes.0 goes.1
  step_goes v (CloseStep ask) reply w ready none goes = close_goes n line_of g takes h sg moved law v ask ask.span reply w refl ready none
      goes
  step_goes v (DefaultStep ask) reply w ready none goes = default_goes n line_of g takes h sg moved law v ask reply w ready none goes
  step_goes v (ResetStep ask) reply w ready none goes = reset_goes n line_of g takes h sg moved law v ask reply w ready none goes.0 goes.1
  step_goes v (CloneHandleStep handle) reply w ready none goes = handle_goes n line_of g takes h sg moved law v handle reply w ready none
      goes
  step_goes v (ReleaseStep handle) reply w ready none goes = release_goes n line_of g takes h sg moved law v handle reply w ready none
      goes.0 goes.1
  step_goes v (SetStep call) reply w ready none goes = set_goes n line_of g takes h sg moved law v call reply w (output_at
      (skeleton_of v) call.output) refl ready none
      goes.0 goes.1

  step_by : (o : Option Refusal) (v : Traced N E F S) (step : PlainStep) (reply : Reply) (w : Traced N E F S) →
      refusal_of (skeleton_of v) step ≡ o → TraceIsReady g h v → StepUnless sg registry_of stack_set o v step reply w → Goes v step reply w
  step_by None v step reply w is ready goes = step_goes v step reply w ready is goes
  step_by (Some refusal) v step reply w is ready goes =
      (inl (refused n line_of g takes h v step reply w refusal is goes.0 goes.1), subst (TraceIsReady g h) (sym goes.1) ready)

  pub step_follows : (v : Traced N E F S) (step : PlainStep) (reply : Reply) (w : Traced N E F S) → TraceIsReady g h v →
      StepGives sg registry_of stack_set v step reply w → Goes v step reply w
  step_follows v step reply w ready goes = step_by (refusal_of (skeleton_of v) step) v step reply w refl ready goes
