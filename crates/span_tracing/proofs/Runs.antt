-- Runs grow by a step.
use Rattle.std.proofs.Common.{◌≡◌, Bool, true, false, ℕ, ◌+◌, ◌<◌, List, [], ◌∷◌, ◌++◌, length, take, map, get_or, refl, sym, ap, ◌∙◌}
use Rattle.std.proofs.Common.{subst}
use Rattle.std.proofs.Common.{IfOk, Option, Result, Ok, Err}
use Rattle.std.proofs.lemmas.List.{take_more, map-append}
use Rattle.tracing_core_fields.specs.declared.requests.subscriber.Subscriber.{Ghosts}
use Rattle.span_registry_layers_store.specs.Registries.{RegistryValue}
use Rattle.span_tracing_outputs.specs.TraceStacks.{TraceStackValue}
use Rattle.span_tracing_outputs.specs.OutputSettings.{stack_set}
use Rattle.span_tracing_outputs.specs.sinks.Routed.{Routed}
use Rattle.span_tracing_outputs.specs.sinks.SinkCalls.{CallsIn, outputs_hold}
use Rattle.tracing_appender_rolling.specs.folders.Contents.{Contents}
use Rattle.span_tracing_outputs.specs.declared.sinks.any_sink.AnySink.{AnySink}
use Rattle.span_tracing_laws.specs.runs.DrivenSinks.{drives, holds}
use Rattle.span_tracing_laws.specs.runs.StepFollows.{registry_of}
use Rattle.span_tracing_skeleton.specs.PlainData.{AnyStep, any_step, any_steps}
use Rattle.span_tracing_skeleton.specs.declared.call.Reply.{Reply}
use Rattle.span_tracing_skeleton.specs.declared.call.Step.{Step}
use Rattle.span_tracing_skeleton.specs.declared.queue_call.QueueCall.{QueueCall}
use Rattle.span_tracing_skeleton.specs.declared.setting.Setting.{Setting}
use Rattle.span_tracing_steps.specs.AnySteps.{AnyStepGives}
use Rattle.span_tracing_steps.specs.Asking.{AsksAnew}
use Rattle.span_tracing_steps.specs.Runs.{Road, RunGives, StepBy}
use Rattle.span_tracing_steps.specs.States.{StateValue}
use Rattle.span_tracing.specs.Roads.{road_of}
use Rattle.span_tracing.specs.Calls.{CallsMakeRuns}

-- the first steps and the one at an index
pub take_step : (steps : List Step) (i : ℕ) (x : Step) → i < length steps → x ≡ get_or steps i x →
    any_steps (take (i + 1) steps) ≡ any_steps (take i steps) ++ any_step x ∷ []
take_step steps i x h e = ap (map any_step) (take_more steps i x h ∙ ap (λ y. take i steps ++ y ∷ []) (sym e)) ∙
    map-append any_step (take i steps) (x ∷ [])

module _ {T : Type 0} (g : Ghosts T) (spans : T → RegistryValue) (set : T → ℕ → Setting → T)
    (does : T → ℕ → QueueCall → Reply → T → Type 0) (keeps : T → Bool) where
  -- a run, and one that begins where it ended
  pub run_joins : (road : Road) (v : StateValue T) (steps : List AnyStep) (replies : List Reply) (mid : StateValue T) (more : List AnyStep)
      (later : List Reply) (w : StateValue T) → RunGives g spans set does keeps road v steps replies mid →
      RunGives g spans set does keeps road mid more later w →
      RunGives g spans set does keeps road v (steps ++ more) (replies ++ later) w
  run_joins road v [] [] mid more later w same last = subst (λ u. RunGives g spans set does keeps road u more later w) same last
  run_joins road v [] (r ∷ rs) mid more later w goes last = absurd goes
  run_joins road v (s ∷ ss) [] mid more later w goes last = absurd goes
  run_joins road v (s ∷ ss) (r ∷ rs) mid more later w (next, first, rest) last =
      (next, first, run_joins road next ss rs mid more later w rest last)

  -- a step behind a run
  pub run_more : (road : Road) (v : StateValue T) (steps : List AnyStep) (replies : List Reply) (mid : StateValue T) (step : AnyStep)
      (reply : Reply) (w : StateValue T) → RunGives g spans set does keeps road v steps replies mid →
      StepBy g spans set does keeps road mid step reply w →
      RunGives g spans set does keeps road v (steps ++ step ∷ []) (replies ++ reply ∷ []) w
  run_more road v steps replies mid step reply w before last =
      run_joins road v steps replies mid (step ∷ []) (reply ∷ []) w before (w, last, refl)

  -- a step on the road that asks, and on the other one
  pub by_asking : (asks : Bool) (v start : StateValue T) (step : AnyStep) (reply : Reply) (w : StateValue T) → asks ≡ true →
      AsksAnew g v start → AnyStepGives g spans set does keeps start step reply w →
      StepBy g spans set does keeps (road_of asks) v step reply w
  by_asking asks v start step reply w is asked gives =
      subst (λ b. StepBy g spans set does keeps (road_of b) v step reply w) (sym is) (start, asked, gives)

  pub by_keeping : (asks : Bool) (v start : StateValue T) (step : AnyStep) (reply : Reply) (w : StateValue T) → asks ≡ false →
      start ≡ v → AnyStepGives g spans set does keeps start step reply w → StepBy g spans set does keeps (road_of asks) v step reply w
  by_keeping asks v start step reply w is same gives =
      subst (λ b. StepBy g spans set does keeps (road_of b) v step reply w) (sym is)
      (subst (λ u. AnyStepGives g spans set does keeps u step reply w) same gives)

pub calls_make_runs : {N E F D Q : Type 0} (contents : D → Option Contents) (failed : D → ℕ)
    (sg : Ghosts (TraceStackValue N E F (Routed (AnySink D Q)))) → CallsMakeRuns contents failed sg
calls_make_runs contents failed sg = record {
  call = λ v step reply w gives. (w, gives, refl);
  joined = λ road v steps replies mid more later w before after. run_joins sg registry_of stack_set (drives (CallsIn contents failed))
      (holds outputs_hold) road v steps replies mid more later w before after;
}

-- what follows for each value
pub of_ok : {A E : Type 0} (r : Result A E) (P Q : A → Type 0) → IfOk r P → ((x : A) → P x → Q x) → IfOk r Q
of_ok (Ok x) P Q is onward = onward x is
of_ok (Err e) P Q is onward = tt
