-- Which output has another filter once a filter changed places with it.
use Rattle.std.specs.Prelude.{◌==◌, ℕ, if◌then◌else◌, Option, Some, None}
use Rattle.std.specs.Option.{option_map}
use Rattle.span_registry_layers.specs.Swaps.{with_filter}
use Rattle.span_tracing_outputs.specs.OutputSettings.{changed_at}
use Rattle.span_tracing_outputs.specs.TraceStacks.{TraceStackValue}
use Rattle.span_tracing_skeleton.specs.Looking.{output_at}
use Rattle.span_tracing_skeleton.specs.Machine.{or_same}
use Rattle.span_tracing_skeleton.specs.Refusing.{output_refusal}
use Rattle.span_tracing_skeleton.specs.Skeleton.{Skeleton}
use Rattle.span_tracing_skeleton.specs.declared.setting.OutputPlace.{OutputPlace}

-- the place of an output with a number, whose stack somebody holds; a call on any other is refused, and changes none
abbrev pub swapped_at : Skeleton → ℕ → Option OutputPlace
swapped_at s output = or_same (output_refusal s output) None (output_at s output)

-- with this filter at the output of a place
abbrev pub filter_set : {N E F S : Type 0} → TraceStackValue N E F S → ℕ → F → TraceStackValue N E F S
filter_set x place filter = record x { stack = record x.stack { rows = changed_at place (with_filter filter) x.stack.rows } }

-- so of the stack with a number
abbrev pub stack_filtered : {N E F S : Type 0} → ℕ → Option OutputPlace → F → Option (TraceStackValue N E F S) →
    Option (TraceStackValue N E F S)
stack_filtered stack None filter o = o
stack_filtered stack (Some at) filter o = if at.stack == stack then option_map (λ x. filter_set x at.place filter) o else o
