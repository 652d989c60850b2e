-- What the machine on skeletons reads of a new span: which outputs see it.
use Rattle.std.specs.Prelude.{◌≡◌, ◌≤◌, ◌++◌, Bool, true, List, length, drop, Some}
use Rattle.span_registry_layers_store.specs.Verdicts.{all_pass}
use Rattle.span_registry_layers.specs.OutputSlots.{marks_of}
use Rattle.span_registry_layers.specs.SpanNotices.{each_sees}
use Rattle.span_tracing_outputs.specs.TraceFollows.{some_passes}
use Rattle.span_tracing_outputs.specs.TraceStacks.{TraceStackValue}
use Rattle.span_tracing_skeleton.specs.Looking.{reach}
use Rattle.span_tracing_skeleton.specs.Machine.{after, reply_of}
use Rattle.span_tracing_skeleton.specs.PlainData.{Request, SpanStep}
use Rattle.span_tracing_skeleton.specs.Skeleton.{Answers, Passed}
use Rattle.span_tracing_skeleton.specs.declared.call.Reply.TheVariants.{Span}
use Rattle.span_tracing_skeleton.specs.declared.call.SpanName.{SpanName}
use Rattle.span_tracing_steps.specs.States.{held_in}
use Rattle.span_tracing_laws.specs.runs.StepFollows.{Traced, skeleton_of}

-- each output's verdict in order, and numbers without a filter pass
abbrev pub read_of : List Bool → Answers
read_of seen = Passed (seen ++ drop (length seen) all_pass)

module _ {N E F S : Type 0} where
  -- of each output of a stack, whether it sees the span of a name
  abbrev pub seen_of : TraceStackValue N E F S → SpanName → List Bool
  seen_of x name = each_sees x.stack.registry name.id.value x.stack.rows

  -- Of a span that a step made, its stack is the one that the lane reached, is held, and has no more outputs than a mask; some output sees
  -- the span, and those that see it are marked. With what the outputs of that stack see, the machine answers what the step answered, and
  -- leaves what it left.
  pub record SpanIsRead (v : Traced N E F S) (q : Request) (name : SpanName) (w : Traced N E F S) : Type 0 where
    pub stack : TraceStackValue N E F S
    pub reached : reach (skeleton_of v) q.lane ≡ Some name.stack
    pub there : held_in w name.stack ≡ Some stack
    pub marked : marks_of stack.stack.rows ≡ seen_of stack name
    pub few : length stack.stack.rows ≤ 64
    pub some : some_passes (seen_of stack name) ≡ true
    pub replied : Span (Some name) ≡ reply_of (skeleton_of v) (SpanStep q) (read_of (seen_of stack name))
    pub skeleton : skeleton_of w ≡ after (skeleton_of v) (SpanStep q) (read_of (seen_of stack name))
