-- What the outputs of a stack are told of a step, as the skeleton decides it: of a request those of the stack that its lane reaches,
-- of a call on a span those of the span's stack.
use Rattle.std.specs.Prelude.{ℕ, ◌==◌, true, false, if◌then◌else◌, List, Option, Some, None}
use Rattle.tracing_core_fields.specs.PlainMetadata.{PlainMetadata}
use Rattle.tracing_core_moments.specs.declared.at.At.{At}
use Rattle.span_registry_layers_store.specs.Registries.{with_span}
use Rattle.span_tracing_outputs.specs.OutputNotices.{Notice, close_told, enter_told, exit_told, span_told}
use Rattle.span_tracing_outputs.specs.OutputMachines.{Made, Recorded}
use Rattle.span_tracing_outputs.specs.OutputFolds.{Numbered, call_lists, event_lists}
use Rattle.span_tracing_skeleton.specs.Acting.{parent_id}
use Rattle.span_tracing_skeleton.specs.Looking.{callsite_of, known, reach, registry_at}
use Rattle.span_tracing_skeleton.specs.Machine.{or_same}
use Rattle.span_tracing_skeleton.specs.Order.{refusal_of}
use Rattle.span_tracing_skeleton.specs.PlainData.{PlainStep, Request, RecordRequest, GlobalStep, EventStep, EnabledStep, SpanStep}
use Rattle.span_tracing_skeleton.specs.PlainData.{RecordStep, FollowsFromStep, EnterStep, ExitStep, CloneStep, CloseStep, DefaultStep}
use Rattle.span_tracing_skeleton.specs.PlainData.{ResetStep, CloneHandleStep, ReleaseStep, SetStep}
use Rattle.span_tracing_skeleton.specs.Skeleton.{Skeleton, Answers, Unasked, Wanted, Dropped, Passed, Heard}
use Rattle.span_tracing_skeleton.specs.declared.call.SpanCall.{SpanCall}
use Rattle.span_tracing_skeleton.specs.declared.call.SpanName.{SpanName}
use Rattle.span_tracing_steps.specs.StackRequests.{own_values, place_at, request_of}

-- what the outputs of the stack with a number are told, where and when
pub record Told (N : Type 0) : Type 0 where
  pub stack : ℕ
  pub at : At
  -- for each output its notices, by the outputs' numbers
  pub lists : List (Numbered N) → List (List Notice)

module _ (N : Type 0) where
  -- an event at a callsite is told to the reached stack where its filters said so
  abbrev pub event_told_by : Skeleton → Request → Option ℕ → Option PlainMetadata → Answers → Option (Told N)
  event_told_by s e None callsite a = None
  event_told_by s e (Some stack) None a = None
  event_told_by s e (Some stack) (Some m) Unasked = None
  event_told_by s e (Some stack) (Some m) (Wanted b) = None
  event_told_by s e (Some stack) (Some m) Dropped = None
  event_told_by s e (Some stack) (Some m) (Passed passed) = None
  event_told_by s e (Some stack) (Some m) (Heard passed told) =
      Some (record {
        stack = stack;
        at = place_at e.lane e.moment;
        lists = event_lists (registry_at s stack) (place_at e.lane e.moment) (request_of m e) told;
      })

  -- a new span at a callsite is told to the outputs that see it, whose filters passed it
  abbrev pub span_told_by : Skeleton → Request → Option ℕ → Option PlainMetadata → Answers → Option (Told N)
  span_told_by s n None callsite a = None
  span_told_by s n (Some stack) None a = None
  span_told_by s n (Some stack) (Some m) Unasked = None
  span_told_by s n (Some stack) (Some m) (Wanted b) = None
  span_told_by s n (Some stack) (Some m) Dropped = None
  span_told_by s n (Some stack) (Some m) (Passed passed) =
      let x = registry_at s stack in
      Some (record {
        stack = stack;
        at = place_at n.lane n.moment;
        lists =
            call_lists (span_told (with_span x m (parent_id x n.lane n.parent) passed) (place_at n.lane n.moment)
            (Made (request_of m n)) x.next_id);
      })
  span_told_by s n (Some stack) (Some m) (Heard passed told) = None

  abbrev pub values_told_by : Skeleton → RecordRequest → SpanName → Option PlainMetadata → Option (Told N)
  values_told_by s r name None = None
  values_told_by s r name (Some m) =
      Some (record {
        stack = name.stack;
        at = place_at r.lane r.moment;
        lists =
            call_lists (span_told (registry_at s name.stack) (place_at r.lane r.moment) (Recorded (own_values m r.values)) name.id.value);
      })

  abbrev pub record_told_by : Skeleton → RecordRequest → Option SpanName → Option (Told N)
  record_told_by s r None = None
  record_told_by s r (Some name) = values_told_by s r name (callsite_of s name)

  abbrev pub enter_told_by : Skeleton → SpanCall → Option SpanName → Option (Told N)
  enter_told_by s call None = None
  enter_told_by s call (Some name) =
      Some (record {
        stack = name.stack;
        at = place_at call.lane call.moment;
        lists =
            call_lists (enter_told (registry_at s name.stack) (place_at call.lane call.moment) name.id.value);
      })

  -- an exit is told, and then the closes, a child before its parent
  abbrev pub exit_told_by : Skeleton → SpanCall → Option SpanName → Option (Told N)
  exit_told_by s call None = None
  exit_told_by s call (Some name) =
      Some (record {
        stack = name.stack;
        at = place_at call.lane call.moment;
        lists =
            call_lists (exit_told (registry_at s name.stack) (place_at call.lane call.moment) name.id.value);
      })

  abbrev pub close_told_by : Skeleton → SpanCall → Option SpanName → Option (Told N)
  close_told_by s call None = None
  close_told_by s call (Some name) =
      Some (record {
        stack = name.stack;
        at = place_at call.lane call.moment;
        lists =
            call_lists (close_told (registry_at s name.stack) (place_at call.lane call.moment) name.id.value);
      })

  -- of a step that is not refused; none where all outputs rest
  abbrev pub told_by : Skeleton → PlainStep → Answers → Option (Told N)
  told_by s (GlobalStep handle) a = None
  told_by s (EventStep e) a = event_told_by s e (reach s e.lane) (known s e.callsite false) a
  told_by s (EnabledStep call) a = None
  told_by s (SpanStep n) a = span_told_by s n (reach s n.lane) (known s n.callsite true) a
  told_by s (RecordStep r) a = record_told_by s r r.span
  told_by s (FollowsFromStep call) a = None
  told_by s (EnterStep call) a = enter_told_by s call call.span
  told_by s (ExitStep call) a = exit_told_by s call call.span
  told_by s (CloneStep call) a = None
  told_by s (CloseStep call) a = close_told_by s call call.span
  told_by s (DefaultStep call) a = None
  told_by s (ResetStep call) a = None
  told_by s (CloneHandleStep handle) a = None
  told_by s (ReleaseStep handle) a = None
  told_by s (SetStep call) a = None

  -- of any step: one that is refused tells nobody
  abbrev pub told_of : Skeleton → PlainStep → Answers → Option (Told N)
  told_of s step a = or_same (refusal_of s step) None (told_by s step a)

  -- what the outputs of one stack are told
  abbrev pub told_to : ℕ → Option (Told N) → Option (Told N)
  told_to stack None = None
  told_to stack (Some told) = if told.stack == stack then Some told else None
