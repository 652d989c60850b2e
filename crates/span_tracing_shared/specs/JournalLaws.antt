-- Laws of journals.
use Rattle.std.specs.Prelude.{◌≡◌, ◌++◌, List, filter, true}
use Rattle.span_tracing_skeleton.specs.Machine.{reply_of}
use Rattle.span_tracing_skeleton.specs.PlainData.{PlainStep}
use Rattle.span_tracing_skeleton.specs.Skeleton.{Skeleton, Answers}
use Rattle.span_tracing_shared.specs.Journals.{PlainEntry, counts, replies_of, skeleton_after}

-- a journal that goes on is gone through from where its beginning ends
pub record JournalsCompose : Type 0 where
  pub skeletons : (s : Skeleton) (es fs : List PlainEntry) → skeleton_after s (es ++ fs) ≡ skeleton_after (skeleton_after s es) fs
  pub replies : (s : Skeleton) (es fs : List PlainEntry) →
      replies_of s (es ++ fs) ≡ replies_of s es ++ replies_of (skeleton_after s es) fs

-- steps that found no memory or had to wait make no difference to what a journal leaves
abbrev pub LeftOutMakeNoDifference : Type 0
LeftOutMakeNoDifference = (s : Skeleton) (es : List PlainEntry) →
    skeleton_after s (filter (λ (e : PlainEntry). counts e.reply) es) ≡ skeleton_after s es

-- the machine answers neither that there is no memory nor that a line is held, so what it answers counts
abbrev pub RepliesCount : Type 0
RepliesCount = (s : Skeleton) (step : PlainStep) (a : Answers) → counts (reply_of s step a) ≡ true
