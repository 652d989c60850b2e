use Rattle.std.proofs.Common.{rules}
use Rattle.std.proofs.lemmas.List.Sorted.{answers_always}
use Rattle.tracing_appender_rolling.specs.Retention.{candidate_of, is_before}
use Rattle.tracing_appender_rolling.proofs.SortedCandidates.{candidates_rank}
use Rattle.tracing_appender_rolling.proofs.retention.sort_candidates.Goals as goal

pub returns-clause-sorted : goal.returns-clause-sorted
returns-clause-sorted c = c.sort_unstable_by.ensures.sorted (λ a b. is_before (candidate_of a) (candidate_of b)) candidates_rank
    (answers_always _ _ _ (λ f a r g h. search rules))
