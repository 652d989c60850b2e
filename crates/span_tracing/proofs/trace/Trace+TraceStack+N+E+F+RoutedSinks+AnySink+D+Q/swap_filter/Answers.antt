use Rattle.std.proofs.Common.{◌≡◌, ◌∙◌, ap, false, refl, sym, true}
use Rattle.span_tracing_laws.specs.runs.DrivenSinks.{holds}
use Rattle.span_tracing_outputs.specs.sinks.SinkCalls.{outputs_hold}
use Rattle.span_tracing_steps.specs.AnySteps.{holds_in}
use Rattle.span_tracing.proofs.TraceValue.{swap_carried, swap_follows_carried}
use Rattle.span_tracing.proofs.trace.Trace+TraceStack+N+E+F+RoutedSinks+AnySink+D+Q.swap_filter.Goals as goal

pub returns-then-is_busy-clause-busy : goal.returns-then-is_busy-clause-busy
returns-then-is_busy-clause-busy g c = λ held. (refl, refl, refl)

pub returns-then-is_busy-clause-gives : goal.returns-then-is_busy-clause-gives
returns-then-is_busy-clause-gives g c = λ none. absurd (
    let clash : true ≡ false = sym c.if-is_busy.true ∙ c.is_busy.ensures ∙ ap (holds_in (holds outputs_hold)) c.self.view_is ∙ none in cc)

pub returns-then-is_busy-clause-follows : goal.returns-then-is_busy-clause-follows
returns-then-is_busy-clause-follows g c = λ none. absurd (
    let clash : true ≡ false = sym c.if-is_busy.true ∙ c.is_busy.ensures ∙ ap (holds_in (holds outputs_hold)) c.self.view_is ∙ none in cc)

pub returns-clause-busy : goal.returns-clause-busy
returns-clause-busy g c = λ held. absurd (
    let clash : false ≡ true = sym c.if-is_busy.false ∙ c.is_busy.ensures ∙ ap (holds_in (holds outputs_hold)) c.self.view_is ∙ held in cc)

pub returns-clause-gives : goal.returns-clause-gives
returns-clause-gives g c = λ none. swap_carried _ _ _ _ _ _ _ _ _ _ c.self.view_is c.swap_filter.ensures.gives

pub returns-clause-follows : goal.returns-clause-follows
returns-clause-follows g c = λ none ready honest. swap_follows_carried _ _ _ _ _ _ _ _ _ _ _ c.self.view_is
    (λ before. c.setup_follows.ensures.swapped _ _ _ _ _ _ before honest c.swap_filter.ensures.gives) ready
