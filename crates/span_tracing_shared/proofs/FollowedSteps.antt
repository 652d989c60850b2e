-- For whoever carries out steps: how to follow the machine, whether or not a step counts.
use Rattle.std.proofs.Common.{◌≡◌, Bool, true, false, List, refl, sym, ◌∙◌, Option, Some, None}
use Rattle.span_tracing_skeleton.specs.Machine.{or_same}
use Rattle.span_tracing_skeleton.specs.PlainData.{AnyStep}
use Rattle.span_tracing_skeleton.specs.Skeleton.{Skeleton}
use Rattle.span_tracing_skeleton.specs.declared.call.Reply.{Reply}
use Rattle.span_tracing_skeleton.specs.declared.refusal.Refusal.{Refusal}
use Rattle.span_tracing_shared.specs.Journals.{left_by, next_by, reply_by, reply_if}

-- the machine's answer is an answer
pub answered_so : (b : Bool) (s : Skeleton) (step : AnyStep) (mask : List Bool) (reply : Reply) → reply ≡ reply_by s step mask reply →
    reply ≡ reply_if b s step mask reply
answered_so false s step mask reply is = refl
answered_so true s step mask reply is = is

-- and where the machine changes nothing, nothing has to change
pub left_so : (b : Bool) (s t : Skeleton) (step : AnyStep) (mask : List Bool) → t ≡ s → left_by s step mask ≡ s → t ≡ next_by b s step mask
left_so false s t step mask same stays = same
left_so true s t step mask same stays = same ∙ sym stays

-- a step that changes nothing, refused or not
pub stays : (r : Option Refusal) (s : Skeleton) → or_same r s s ≡ s
stays None s = refl
stays (Some refusal) s = refl
