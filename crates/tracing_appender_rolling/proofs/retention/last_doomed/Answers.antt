use Rattle.std.proofs.Common.{List, subst, arith}
use Rattle.std.specs.List.Sorted.{IsPermutation}
use Rattle.tracing_appender_rolling.specs.declared.retention.Candidate.{Candidate}
use Rattle.tracing_appender_rolling.proofs.SortedCandidates.{told_by_last, told_by_none}
use Rattle.tracing_appender_rolling.proofs.retention.last_doomed.Goals as goal

pub returns-then-place-len : goal.returns-then-place-len
returns-then-place-len c =
    let v = c.sort_candidates.new.all in
    told_by_last c.args.limit c.args.all.now v.items (subst (λ (xs : List Candidate). IsPermutation xs v.items) c.in_ok-sorted.ensures.items
    c.sort_candidates.ensures.same) c.sort_candidates.ensures.sorted c.requires
    c.index.result.now (omega (arith, c.if-place-len.true, c.len.ensures, v.ok.0)) c.index.ensures

pub returns : goal.returns
returns c =
    let v = c.sort_candidates.new.all in
    told_by_none c.args.limit c.args.all.now v.items (subst (λ (xs : List Candidate). IsPermutation xs v.items) c.in_ok-sorted.ensures.items
    c.sort_candidates.ensures.same) c.sort_candidates.ensures.sorted c.requires
    (omega (arith, c.if-place-len.false, c.len.ensures, v.ok.0))
