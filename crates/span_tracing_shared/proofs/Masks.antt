-- The machine reads off a step's mask what the filters answered.
use Rattle.std.proofs.Common.{◌≡◌, Bool, true, false, List, Option, Some, None, refl, ap}
use Rattle.span_tracing_skeleton.specs.Acting.{made_by}
use Rattle.span_tracing_skeleton.specs.Looking.{reach}
use Rattle.span_tracing_skeleton.specs.Machine.{acted, after, answered, new_name, or_refused, or_same, reply_of}
use Rattle.span_tracing_skeleton.specs.Order.{refusal_of}
use Rattle.span_tracing_skeleton.specs.PlainData.{PlainStep, Request, GlobalStep, EventStep, EnabledStep, SpanStep, RecordStep}
use Rattle.span_tracing_skeleton.specs.PlainData.{FollowsFromStep, EnterStep, ExitStep, CloneStep, CloseStep, DefaultStep, ResetStep}
use Rattle.span_tracing_skeleton.specs.PlainData.{CloneHandleStep, ReleaseStep, SetStep}
use Rattle.span_tracing_skeleton.specs.Skeleton.{Skeleton, Answers, Unasked, Wanted, Dropped, Passed, Heard}
use Rattle.span_tracing_skeleton.specs.declared.call.Reply.TheVariants.{Enabled, Span}
use Rattle.span_tracing_skeleton.specs.declared.refusal.Refusal.{Refusal}
use Rattle.span_tracing_shared.specs.Journals.{answers_of, made_by_mask, padded, some_pass}
use Rattle.span_tracing_shared.specs.Masks.{Shows, ShowsSpan}

-- what a step does that is not refused is the same by the mask
record SameActs (s : Skeleton) (step : PlainStep) (a b : Answers) : Type 0 where
  left : acted s step b ≡ acted s step a
  told : answered s step b ≡ answered s step a

record SameSpans (s : Skeleton) (n : Request) (a b : Answers) : Type 0 where
  made : made_by s n b ≡ made_by s n a
  named : new_name s (reach s n.lane) b ≡ new_name s (reach s n.lane) a

-- where no filter passes, none is made
spans_dropped : (s : Skeleton) (n : Request) (mask : List Bool) (wanted : Bool) → wanted ≡ false →
    SameSpans s n Dropped (made_by_mask wanted mask)
spans_dropped s n mask true is = absurd (cc)
spans_dropped s n mask false is = record { made = refl; named = refl }

spans_made : (s : Skeleton) (n : Request) (passed mask : List Bool) (wanted : Bool) → wanted ≡ true → padded mask ≡ passed →
    SameSpans s n (Passed passed) (made_by_mask wanted mask)
spans_made s n passed mask false is same = absurd (cc)
spans_made s n passed mask true is same = record { made = ap (λ x. made_by s n (Passed x)) same; named = refl }

span_by : (s : Skeleton) (n : Request) (a : Answers) (mask : List Bool) → ShowsSpan a mask →
    SameSpans s n a (made_by_mask (some_pass mask) mask)
span_by s n Unasked mask shows = let it = spans_dropped s n mask (some_pass mask) shows in record { made = it.made; named = it.named }
span_by s n (Wanted b) mask shows = let it = spans_dropped s n mask (some_pass mask) shows in record { made = it.made; named = it.named }
span_by s n Dropped mask shows = spans_dropped s n mask (some_pass mask) shows
span_by s n (Passed passed) mask shows = spans_made s n passed mask (some_pass mask) shows.0 shows.1
span_by s n (Heard passed told) mask shows =
    let it = spans_dropped s n mask (some_pass mask) shows in record { made = it.made; named = it.named }

acts : (s : Skeleton) (step : PlainStep) (a : Answers) (mask : List Bool) → Shows step a mask → SameActs s step a (answers_of step mask)
acts s (GlobalStep handle) a mask shows = record { left = refl; told = refl }
acts s (EventStep e) a mask shows = record { left = refl; told = refl }
acts s (EnabledStep call) a mask shows = record { left = refl; told = ap Enabled shows }
acts s (SpanStep n) a mask shows = let it = span_by s n a mask shows in record { left = it.made; told = ap Span it.named }
acts s (RecordStep r) a mask shows = record { left = refl; told = refl }
acts s (FollowsFromStep call) a mask shows = record { left = refl; told = refl }
acts s (EnterStep call) a mask shows = record { left = refl; told = refl }
acts s (ExitStep call) a mask shows = record { left = refl; told = refl }
acts s (CloneStep call) a mask shows = record { left = refl; told = refl }
acts s (CloseStep call) a mask shows = record { left = refl; told = refl }
acts s (DefaultStep call) a mask shows = record { left = refl; told = refl }
acts s (ResetStep call) a mask shows = record { left = refl; told = refl }
acts s (CloneHandleStep handle) a mask shows = record { left = refl; told = refl }
acts s (ReleaseStep handle) a mask shows = record { left = refl; told = refl }
acts s (SetStep call) a mask shows = record { left = refl; told = refl }

-- with a mask that shows the answers, the machine leaves and replies just what it does with these
pub record SameByMask (s : Skeleton) (step : PlainStep) (a : Answers) (mask : List Bool) : Type 0 where
  pub left : after s step (answers_of step mask) ≡ after s step a
  pub replied : reply_of s step (answers_of step mask) ≡ reply_of s step a

-- where a step is refused, nothing is read of its mask
pub mask_shows : (s : Skeleton) (step : PlainStep) (a : Answers) (mask : List Bool) → (refusal_of s step ≡ None → Shows step a mask) →
    SameByMask s step a mask
mask_shows s step a mask shows = record {
  left = left_unless (refusal_of s step) (λ none. (acts s step a mask (shows none)).left);
  replied = told_unless (refusal_of s step) (λ none. (acts s step a mask (shows none)).told);
}
  where
    left_unless : (o : Option Refusal) → (o ≡ None → acted s step (answers_of step mask) ≡ acted s step a) →
        or_same o s (acted s step (answers_of step mask)) ≡ or_same o s (acted s step a)
    left_unless None same = same refl
    left_unless (Some refusal) same = refl

    told_unless : (o : Option Refusal) → (o ≡ None → answered s step (answers_of step mask) ≡ answered s step a) →
        or_refused o (answered s step (answers_of step mask)) ≡ or_refused o (answered s step a)
    told_unless None same = same refl
    told_unless (Some refusal) same = refl
