-- The stacks of a trace are held by as many as they count.
use Rattle.std.proofs.Common.{inl, inr, ℕ, List, [], ◌∷◌, ◌++◌, Option, sym, ap, subst}
use Rattle.std.specs.Prelude.{◌≡◌, Bool, true, false, Result, Ok, Err, if◌then◌else◌, is_some}
use Rattle.std.proofs.lemmas.List.{map-append}
use Rattle.tracing_core_fields.specs.PlainMetadata.{PlainMetadata}
use Rattle.tracing_core_fields.specs.requests.PlainRequests.{PlainEvent}
use Rattle.tracing_core_fields.specs.declared.requests.subscriber.Subscriber.{Ghosts as SubscriberGhosts}
use Rattle.tracing_core_moments.specs.declared.at.At.{At}
use Rattle.tracing_core.specs.declared.hub.parts.Lane.TheVariants.{Running}
use Rattle.tracing_core.specs.declared.hub.parts.LaneDefault.TheVariants.{Unset}
use Rattle.span_registry_layers_store.specs.SlotIndependence.{bare}
use Rattle.span_registry_layers_layers.specs.declared.filter.Filter.{Ghosts as FilterGhosts}
use Rattle.span_registry_layers_layers.specs.declared.layer.Layer.{Ghosts as LayerGhosts}
use Rattle.event_formatter_text.specs.declared.format_fields.FormatFields.{Ghosts}
use Rattle.event_formatter_text.specs.declared.settings.Settings.{Settings}
use Rattle.event_formatter.specs.formats.Contexts.{PlainContext}
use Rattle.span_tracing_outputs.specs.OutputMachines.{PlainLine}
use Rattle.span_tracing_outputs.specs.OutputSettings.{outputs_in}
use Rattle.span_tracing_outputs.specs.TraceStacks.{TraceStackValue}
use Rattle.span_tracing_outputs.specs.Turns.{Lines}
use Rattle.span_tracing_skeleton.specs.Counting.{IsCounted, StaysCounted}
use Rattle.span_tracing_skeleton.specs.PlainData.{AnyStep, OfQueue, OfTrace, PlainStep}
use Rattle.span_tracing_skeleton.specs.Skeleton.{Skeleton, Default}
use Rattle.span_tracing_skeleton.specs.declared.call.Reply.{Reply}
use Rattle.span_tracing_skeleton.specs.declared.queue_call.QueueCall.{QueueCall}
use Rattle.span_tracing_steps.specs.States.{lane_default}
use Rattle.tracing_core_fields.specs.requests.Interests.{PlainInterest}
use Rattle.span_tracing_skeleton.specs.declared.refusal.Refusal.{Refusal}
use Rattle.span_tracing_skeleton.specs.Looking.{named}
use Rattle.span_tracing_skeleton.specs.Setup.{with_callsite}
use Rattle.span_tracing_laws.specs.runs.Runs.{Asking, Caching, Road, RunGives, StepBy}
use Rattle.span_tracing_laws.specs.runs.StepFollows.{Follows, TraceIsReady, Traced, registry_of, skeleton_of}
use Rattle.span_tracing_laws.specs.runs.Laws.{Registers, SetupFollows, StepsFollow, TraceStaysCounted}
use Rattle.span_tracing_laws.specs.runs.AnySteps.{AnyFollows, AnyStepsFollow}

module _ {N E F S : Type 0} (n : Ghosts N) (line_of : E → Settings → PlainContext → PlainEvent → Option (List ℕ)) (g : FilterGhosts F)
    (takes : S → At → PlainLine → S → Type 0) (calls : ℕ → QueueCall → List S → Reply → List S → Type 0) (held : List S → Bool)
    (h : LayerGhosts (Lines N E)) (sg : SubscriberGhosts (TraceStackValue N E F S)) (counted : StaysCounted)
    (setup : SetupFollows n line_of g takes h sg) (acts : StepsFollow n line_of g takes h sg)
    (steps : AnyStepsFollow n line_of g takes calls held h sg) where
  lane_counted : (v : Traced N E F S) → IsCounted (skeleton_of v) →
      IsCounted (record (skeleton_of v) {
        lanes = (skeleton_of
            (record v { hub = record v.hub { lanes = v.hub.lanes ++ Running Unset ∷ [] } })).lanes;
      })
  lane_counted v is = subst IsCounted
      (sym (ap (λ (owns : List Default). record (skeleton_of v) { lanes = owns }) (map-append lane_default v.hub.lanes
      (Running Unset ∷ []))))
      (counted.lane_added (skeleton_of v) is)

  known_counted : (b : Bool) (s t : Skeleton) (m : PlainMetadata) → t ≡ (if b then s else with_callsite s m) → IsCounted s → IsCounted t
  known_counted true s t m same is = subst IsCounted (sym same) is
  known_counted false s t m more is = subst IsCounted (sym more) (counted.callsite_added s m is)

  registered_counted : (s t : Skeleton) (m : PlainMetadata) (r : Result PlainInterest Refusal) → Registers s m r t → IsCounted s →
      IsCounted t
  registered_counted s t m (Ok interest) left is = known_counted (is_some (named s.callsites m.callsite)) s t m left is
  registered_counted s t m (Err refusal) same is = subst IsCounted (sym same) is

  stepped_counted : (v : Traced N E F S) (step : PlainStep) (reply : Reply) (w : Traced N E F S) →
      Follows n line_of g takes h v step reply w → IsCounted (skeleton_of v) → IsCounted (skeleton_of w)
  stepped_counted v step reply w (inl follows) is =
      subst IsCounted (sym follows.skeleton) (counted.stepped (skeleton_of v) step follows.answers is)
  stepped_counted v step reply w (inr none) is = subst (λ (u : Traced N E F S). IsCounted (skeleton_of u)) (sym none.3) is

  any_counted : (v : Traced N E F S) (step : AnyStep) (reply : Reply) (w : Traced N E F S) →
      AnyFollows n line_of g takes calls held h v step reply w → IsCounted (skeleton_of v) → IsCounted (skeleton_of w)
  any_counted v (OfTrace step) reply w (inl (held_so, told, same)) is =
      subst (λ (u : Traced N E F S). IsCounted (skeleton_of u)) (sym same) is
  any_counted v (OfTrace step) reply w (inr (free, f)) is = stepped_counted v step reply w f is
  any_counted v (OfQueue ask) reply w f is = subst IsCounted (sym f.1.skeleton) is

  by_road : (road : Road) (v : Traced N E F S) (step : AnyStep) (reply : Reply) (w : Traced N E F S) → TraceIsReady g h v →
      StepBy sg calls held road v step reply w → IsCounted (skeleton_of v) → TraceIsReady g h w × IsCounted (skeleton_of w)
  by_road Caching v step reply w ready goes is =
      let one = steps.each v step reply w ready goes in
      (one.1, any_counted v step reply w one.0 is)
  by_road Asking v step reply w ready (start, asks, goes) is =
      let asked = setup.asked v start ready asks in
      let one = steps.each start step reply w asked.ready goes in
      (one.1, any_counted start step reply w one.0 (subst IsCounted (sym asked.keeps.skeleton) is))

  run_counted : (road : Road) (v : Traced N E F S) (steps_run : List AnyStep) (replies : List Reply) (w : Traced N E F S) →
      TraceIsReady g h v → RunGives sg calls held road v steps_run replies w → IsCounted (skeleton_of v) → IsCounted (skeleton_of w)
  run_counted road v [] [] w ready same is = subst (λ (u : Traced N E F S). IsCounted (skeleton_of u)) (sym same) is
  run_counted road v [] (reply ∷ replies) w ready goes is = absurd goes
  run_counted road v (step ∷ later) [] w ready goes is = absurd goes
  run_counted road v (step ∷ later) (reply ∷ replies) w ready (mid, goes, rest) is =
      let one = by_road road v step reply mid ready goes is in
      run_counted road mid later replies w one.0 rest one.1

  pub trace_stays_counted : TraceStaysCounted n line_of g takes h sg calls held
  trace_stays_counted = record {
    new = counted.new;
    lane_added = λ v thread is. lane_counted v is;
    taken = λ v number is. is;
    added = λ sinks_in v x handle w ready own adds is. subst IsCounted (sym (setup.added sinks_in v x handle w ready own adds).3)
        (counted.stack_added (skeleton_of v) (bare (registry_of x)) (outputs_in x) (sinks_in x) is);
    registered = λ v m r w ready goes is. registered_counted (skeleton_of v) (skeleton_of w) m r (setup.registered v m r w ready goes).2 is;
    swapped = λ v output filter reply w back ready own goes is. subst IsCounted
        (sym (setup.swapped v output filter reply w back ready own goes).skeleton) is;
    acted = λ v step reply w ready goes is. stepped_counted v step reply w (acts.each v step reply w ready goes).0 is;
    stepped = λ v step reply w ready goes is. any_counted v step reply w (steps.each v step reply w ready goes).0 is;
    asked = λ v w ready asks is. subst IsCounted (sym (setup.asked v w ready asks).keeps.skeleton) is;
    ran = λ road v run replies w ready goes is. run_counted road v run replies w ready goes is;
  }
