-- Journals as plain data, and what the machine on skeletons makes of them.
use Rattle.std.specs.Prelude.{ℕ, ◌++◌, Bool, true, false, not, if◌then◌else◌, List, [], ◌∷◌, length, drop, Option, Some, None}
use Rattle.std.specs.List.{list_any}
use Rattle.tracing_core_moments.specs.Moments.{is_moment}
use Rattle.span_registry_layers_store.specs.Verdicts.{all_pass}
use Rattle.span_tracing_skeleton.specs.Looking.{output_in}
use Rattle.span_tracing_skeleton.specs.Machine.{after, reply_of}
use Rattle.span_tracing_skeleton.specs.PlainData.{AnyStep, OfQueue, OfTrace, PlainStep, GlobalStep, EventStep, EnabledStep, SpanStep}
use Rattle.span_tracing_skeleton.specs.PlainData.{RecordStep, FollowsFromStep, EnterStep, ExitStep, CloneStep, CloseStep, DefaultStep}
use Rattle.span_tracing_skeleton.specs.PlainData.{ResetStep, CloneHandleStep, ReleaseStep, SetStep}
use Rattle.span_tracing_skeleton.specs.Skeleton.{Skeleton, Answers, Unasked, Wanted, Dropped, Passed}
use Rattle.span_tracing_skeleton.specs.declared.call.Reply.{Reply}
use Rattle.span_tracing_skeleton.specs.declared.call.Reply.TheVariants.{Done, Enabled, Span, Closed, Handle, Guard, Worked, Refused}
use Rattle.span_tracing_skeleton.specs.declared.queue_call.QueueCall.{QueueCall}
use Rattle.span_tracing_skeleton.specs.declared.queue_call.QueueCall.TheVariants.{Work, Admit, Shutdown}
use Rattle.span_tracing_skeleton.specs.declared.refusal.Refusal.{Refusal}
use Rattle.span_tracing_skeleton.specs.declared.refusal.Refusal.TheVariants.{OutOfMemory, Busy, BadMoment, NoRoom, NothingHeld, NotQueued}
use Rattle.span_tracing_skeleton.specs.declared.refusal.Refusal.TheVariants.{UnknownSink, MarkSent}
use Rattle.span_tracing_skeleton.specs.declared.refusal.Refusal.TheVariants as refusals
use Rattle.span_tracing_skeleton.specs.declared.setting.OutputPlace.{OutputPlace}

-- the lane of a seat, the step by it, what it answered, and a mask: of each output whether its filter passed the callsite of an event, a
-- question or a new span. Of a new span the machine reads all of it, of a question whether some filter passed, and of all else nothing
pub record PlainEntry : Type 0 where
  pub lane : ℕ
  pub step : AnyStep
  pub reply : Reply
  pub mask : List Bool

abbrev pub is_taken : Refusal → Bool
is_taken OutOfMemory = false
is_taken Busy = false
is_taken refusal = true

-- the machine takes the step, whatever it answers: it isn't one that found no memory, or had to wait while a line is held
abbrev pub counts : Reply → Bool
counts Done = true
counts (Enabled wanted) = true
counts (Span name) = true
counts (Closed closed) = true
counts (Handle handle) = true
counts (Guard guard) = true
counts (Worked lines) = true
counts (Refused refusal) = is_taken refusal

abbrev pub some_pass : List Bool → Bool
some_pass mask = list_any (λ passed. passed) mask

-- what is kept with a span: numbers without a filter pass
abbrev pub padded : List Bool → List Bool
padded mask = mask ++ drop (length mask) all_pass

abbrev pub made_by_mask : Bool → List Bool → Answers
made_by_mask false mask = Dropped
made_by_mask true mask = Passed (padded mask)

-- what the machine reads of a mask. Of an event it reads nothing
abbrev pub answers_of : PlainStep → List Bool → Answers
answers_of (GlobalStep handle) mask = Unasked
answers_of (EventStep e) mask = Unasked
answers_of (EnabledStep call) mask = Wanted (some_pass mask)
answers_of (SpanStep n) mask = made_by_mask (some_pass mask) mask
answers_of (RecordStep r) mask = Unasked
answers_of (FollowsFromStep call) mask = Unasked
answers_of (EnterStep call) mask = Unasked
answers_of (ExitStep call) mask = Unasked
answers_of (CloneStep call) mask = Unasked
answers_of (CloseStep call) mask = Unasked
answers_of (DefaultStep call) mask = Unasked
answers_of (ResetStep call) mask = Unasked
answers_of (CloneHandleStep handle) mask = Unasked
answers_of (ReleaseStep handle) mask = Unasked
answers_of (SetStep call) mask = Unasked

-- which refusals there are of a step of a worker at a moment: a moment out of range, no queue, or a sink that was taken
abbrev pub refuses_work : Bool → Refusal → Bool
refuses_work in_range BadMoment = not in_range
refuses_work in_range NotQueued = true
refuses_work in_range UnknownSink = true
refuses_work in_range refusal = false

-- of the admission of a held line
abbrev pub refuses_admission : Refusal → Bool
refuses_admission NothingHeld = true
refuses_admission refusals.Closed = true
refuses_admission NoRoom = true
refuses_admission NotQueued = true
refuses_admission UnknownSink = true
refuses_admission refusal = false

-- of the mark that closes a queue
abbrev pub refuses_shutdown : Refusal → Bool
refuses_shutdown MarkSent = true
refuses_shutdown NoRoom = true
refuses_shutdown NotQueued = true
refuses_shutdown UnknownSink = true
refuses_shutdown refusal = false

-- whether a call on the queue of a sink may be answered so
abbrev pub may_answer : QueueCall → Reply → Bool
may_answer (Work lines m) (Worked taken) = is_moment m
may_answer (Work lines m) (Refused refusal) = refuses_work (is_moment m) refusal
may_answer (Work lines m) reply = false
may_answer Admit Done = true
may_answer Admit (Refused refusal) = refuses_admission refusal
may_answer Admit reply = false
may_answer Shutdown Done = true
may_answer Shutdown (Refused refusal) = refuses_shutdown refusal
may_answer Shutdown reply = false

-- A queue decides what a call on it answers, so this reply stands as it was given, if there may be such a one. Where no sink has the
-- number, the machine decides.
abbrev pub queue_reply : Option OutputPlace → QueueCall → Reply → Reply
queue_reply None call given = Refused UnknownSink
queue_reply (Some at) call given = if may_answer call given then given else Refused UnknownSink

-- what the machine answers to a step with this mask; of a call on a queue, where this was given
abbrev pub reply_by : Skeleton → AnyStep → List Bool → Reply → Reply
reply_by s (OfTrace step) mask given = reply_of s step (answers_of step mask)
reply_by s (OfQueue ask) mask given = queue_reply (output_in s.sinks 0 ask.sink) ask.call given

-- and what it leaves
abbrev pub left_by : Skeleton → AnyStep → List Bool → Skeleton
left_by s (OfTrace step) mask = after s step (answers_of step mask)
left_by s (OfQueue ask) mask = s

-- a step that counts leaves the skeleton that the machine leaves, and any other leaves it as it was
abbrev pub next_by : Bool → Skeleton → AnyStep → List Bool → Skeleton
next_by false s step mask = s
next_by true s step mask = left_by s step mask

-- the answer that the machine gives to a step that counts, and else the one that was given
abbrev pub reply_if : Bool → Skeleton → AnyStep → List Bool → Reply → Reply
reply_if false s step mask given = given
reply_if true s step mask given = reply_by s step mask given

abbrev pub next : Skeleton → PlainEntry → Skeleton
next s e = next_by (counts e.reply) s e.step e.mask

abbrev pub reply_at : Skeleton → PlainEntry → Reply
reply_at s e = reply_if (counts e.reply) s e.step e.mask e.reply

-- the skeleton after a journal, its steps that don't count left out
abbrev pub skeleton_after : Skeleton → List PlainEntry → Skeleton
skeleton_after s [] = s
skeleton_after s (e ∷ es) = skeleton_after (next s e) es

-- the machine's replies to a journal's steps, and those given where a step doesn't count or a queue decides
abbrev pub replies_of : Skeleton → List PlainEntry → List Reply
replies_of s [] = []
replies_of s (e ∷ es) = reply_at s e ∷ replies_of (next s e) es
