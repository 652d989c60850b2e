use Rattle.std.proofs.Common.{◌∙◌, ap, subst, Bool, ℕ, List, if◌then◌else◌}
use Rattle.tracing_appender.specs.background.Sending.{SendsLine}
use Rattle.tracing_appender.proofs.background.SentLines.{shorter, turned, ended}
use Rattle.tracing_appender.proofs.background.channel.Channel.send_lines.Goals as goal

pub loop-rest-preserved : goal.loop-rest-preserved
loop-rest-preserved g c =
    let i = c.loop-rest.invariant in
    let r = c.loop-rest.rest.now in
    let some = c.in-len1-up.len_at_least in
    let q = c.loop-rest.queue.value in
    let new = c.send_line-next.result.0.value in
    let fate = c.send_line-next.result.1 in
    let sends = subst (λ (bytes : List ℕ). SendsLine q bytes fate new) c.as_slice.ensures.value c.send_line-next.ensures in
    let one = c.one_if-lost.ensures ∙ ap (λ (b : Bool). if b then 1 else 0) c.is_lost.ensures in
    let other = c.one_if-missed.ensures ∙ ap (λ (b : Bool). if b then 1 else 0) c.is_missed.ensures in
    record {
      few = shorter r fate c.loop-rest.lost c.loop-rest.missed c.one_if-lost.result c.one_if-missed.result _ some one other i.few;
      so_far = turned _ q new c.args.lines.now r c.line-item.result fate c.loop-rest.lost c.loop-rest.missed c.one_if-lost.result
          c.one_if-missed.result some c.line-item.is sends one other i.so_far;
    }

pub returns-clause-sent : goal.returns-clause-sent
returns-clause-sent g c = ended c.args.queue.value c.loop-rest.queue.value c.args.lines.now c.loop-rest.rest.now c.loop-rest.lost
    c.loop-rest.missed c.in_default.len_below c.loop-rest.invariant.so_far
