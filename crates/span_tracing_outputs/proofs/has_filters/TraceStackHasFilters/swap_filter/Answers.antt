use Rattle.span_tracing_outputs.proofs.OutputFilters.{swapped_rest}
use Rattle.span_tracing_outputs.proofs.has_filters.TraceStackHasFilters.swap_filter.Goals as goal

pub invariant_of-self : goal.invariant_of-self
invariant_of-self g c =
    swapped_rest g.F.Filter c.args.place c.args.filter.now _ c.self.inside.stack _ c.self.inside.sinks c.swap_in.ensures
    c.self.invariant
