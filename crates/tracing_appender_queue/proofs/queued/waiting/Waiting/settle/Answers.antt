use Rattle.std.proofs.Common.{◌∙◌, ap, subst, Bool, ℕ, List, if◌then◌else◌}
use Rattle.tracing_appender_queue.specs.queued.LineFates.{SettlesLine}
use Rattle.tracing_appender_queue.proofs.queued.SettledLines.{shorter, turned, ended}
use Rattle.tracing_appender_queue.proofs.queued.waiting.Waiting.settle.Goals as goal

pub loop-rest-preserved : goal.loop-rest-preserved
loop-rest-preserved c =
    let i = c.loop-rest.invariant in
    let r = c.loop-rest.rest.now in
    let some = c.in-len1-up.len_at_least in
    let w = c.loop-rest.self in
    let new = c.settle_line-fate.new.self in
    let fate = c.settle_line-fate.result in
    let settles = subst (λ (bytes : List ℕ). SettlesLine w bytes fate new) c.as_slice.ensures.value c.settle_line-fate.ensures in
    let one = c.one_if-lost.ensures.number ∙ ap (λ (b : Bool). if b then 1 else 0) c.is_lost.ensures in
    let other = c.one_if-missed.ensures.number ∙ ap (λ (b : Bool). if b then 1 else 0) c.is_missed.ensures in
    record {
      few_lost = shorter r c.loop-rest.lost c.one_if-lost.result _ some c.one_if-lost.ensures.few i.few_lost;
      few_missed = shorter r c.loop-rest.missed c.one_if-missed.result _ some c.one_if-missed.ensures.few i.few_missed;
      so_far = turned _ w new c.args.lines.now r c.line-item.result fate c.loop-rest.lost c.loop-rest.missed c.one_if-lost.result
          c.one_if-missed.result some c.line-item.is settles one other i.so_far;
    }

pub returns : goal.returns
returns c = ended c.args.self.now c.loop-rest.self c.args.lines.now c.loop-rest.rest.now c.loop-rest.lost c.loop-rest.missed
    c.in_default.len_below c.loop-rest.invariant.so_far
