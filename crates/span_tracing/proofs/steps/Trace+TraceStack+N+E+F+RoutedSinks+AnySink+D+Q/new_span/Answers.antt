use Rattle.std.proofs.Common.{◌≡◌, ◌∙◌, ap, inl, inr, refl, sym, true}
use Rattle.tracing_core_fields.specs.IndexedEntries.{lent_entries}
use Rattle.span_tracing_outputs.specs.sinks.SinkCalls.{outputs_hold}
use Rattle.span_tracing_skeleton.specs.PlainData.{OfTrace, SpanStep}
use Rattle.span_tracing_skeleton.specs.declared.call.Reply.TheVariants.{Refused}
use Rattle.span_tracing_skeleton.specs.declared.refusal.Refusal.TheVariants.{Busy}
use Rattle.span_tracing_steps.specs.AnySteps.{holds_in}
use Rattle.span_tracing_laws.specs.runs.DrivenSinks.{holds}
use Rattle.span_tracing.proofs.TraceValue.{step_carried}
use Rattle.span_tracing.proofs.steps.Trace+TraceStack+N+E+F+RoutedSinks+AnySink+D+Q.new_span.Goals as goal

pub returns-then-is_busy : goal.returns-then-is_busy
returns-then-is_busy g c =
    let held : holds_in (holds outputs_hold) c.args.self.now ≡ true =
    sym (c.is_busy.ensures ∙ ap (holds_in (holds outputs_hold)) c.self.view_is) ∙ c.if-is_busy.true in
    record {
      gives = inl (held, refl, refl);
      follows = λ ready. c.steps_follow.ensures.each _ (OfTrace (SpanStep (record {
        lane = c.args.lane;
        moment = c.args.moment;
        callsite = c.args.callsite.0;
        parent = c.args.parent;
        values = lent_entries c.args.values.now;
      })))
          (Refused Busy) _ ready (inl (held, refl, refl));
    }

pub returns : goal.returns
returns g c = step_carried _ _ _ _ _ _ _ _ _ _ _ _ c.self.view_is
    (record {
      gives = inr (sym c.is_busy.ensures ∙ c.if-is_busy.false, c.new_span.ensures.gives);
      follows = λ ready. c.steps_follow.ensures.each _ (OfTrace (SpanStep (record {
        lane = c.args.lane;
        moment = c.args.moment;
        callsite = c.args.callsite.0;
        parent = c.args.parent;
        values = lent_entries c.args.values.now;
      })))
          c.new_span.result _ ready
          (inr (sym c.is_busy.ensures ∙ c.if-is_busy.false, c.new_span.ensures.gives));
    })
