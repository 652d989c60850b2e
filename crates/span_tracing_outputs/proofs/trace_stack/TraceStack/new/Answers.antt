use Rattle.std.proofs.Common.{◌≡◌, length, nat_eq, true, sym, subst, ◌∙◌, rules}
use Rattle.span_tracing_outputs.specs.TraceStacks.{IsAtRest}
use Rattle.span_tracing_outputs.proofs.OutputSinkPairs.{cleared_rest}
use Rattle.span_tracing_outputs.proofs.TraceStarts.{valid_rested}
use Rattle.span_tracing_outputs.proofs.trace_stack.TraceStack.new.Goals as goal

pub invariant_of-result : goal.invariant_of-result
invariant_of-result g c =
    let counted : nat_eq (length c.args.stack.rows) c.len.result ≡ true = sym c.has_exactly.ensures ∙ c.if-not-has_exactly.false in
    let same : length c.args.stack.rows ≡ c.len.result = search rules in
    let all : length c.args.sinks.items ≡ c.args.sinks.len = sym c.args.sinks.ok.0 in
    subst (λ sinks. IsAtRest c.clear_lines.new.stack sinks) (sym c.new.ensures)
    (cleared_rest c.args.stack c.clear_lines.new.stack c.args.sinks.items (all ∙ sym c.len.ensures ∙ sym same) c.clear_lines.ensures)

pub returns-clause-valid : goal.returns-clause-valid
returns-clause-valid g c = λ valid. valid_rested g.F.Filter c.args.stack c.clear_lines.new.stack c.clear_lines.ensures valid
