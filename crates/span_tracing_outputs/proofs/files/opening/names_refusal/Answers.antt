use Rattle.std.proofs.Common.{Some, None, refl, subst}
use Rattle.span_tracing_outputs.specs.files.OpenRefusals.{OutputTells, SinksTell}
use Rattle.span_tracing_outputs.proofs.files.FolderRefusals.{here_tells, none_left}
use Rattle.span_tracing_outputs.proofs.files.opening.names_refusal.Goals as goal

pub returns-in-Some : goal.returns-in-Some
returns-in-Some g c = c.loop-rest.invariant (Some (c.output-item.result.key, c.in-Some.refusal))
    (here_tells OutputTells c.loop-rest.rest.now c.output-item.result _ (c.output-item.result.key, c.in-Some.refusal)
    c.in-len1-up.len_at_least c.output-item.is (
      refl,
      subst (λ xs. SinksTell xs (Some c.in-Some.refusal)) c.as_slice.ensures.value
          c.in-Some.ensures,
    ))

pub returns : goal.returns
returns g c = c.loop-rest.invariant None (none_left OutputTells c.loop-rest.rest.now c.in_default.len_below)
