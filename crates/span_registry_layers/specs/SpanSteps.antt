-- What filters and layers are told of a span that is entered, left or closed.
use Rattle.std.specs.Prelude.{ℕ}
use Rattle.span_registry_layers_layers.specs.FilterViews.{Closed, Entered, Exited, Hook, View}
use Rattle.span_registry_layers.specs.declared.output_slot.spans.SpanStep.{SpanStep}
use Rattle.span_registry_layers.specs.declared.output_slot.spans.SpanStep.TheVariants as step

abbrev pub hook_of : SpanStep → ℕ → View → Hook
hook_of step.Entered id = Entered id
hook_of step.Exited id = Exited id
hook_of step.Closed id = Closed id
