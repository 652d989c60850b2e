-- Which setting of which output a step changes, as the skeleton decides it.
use Rattle.std.specs.Prelude.{◌==◌, ℕ, if◌then◌else◌, List, Option, Some, None}
use Rattle.std.specs.Option.{option_map}
use Rattle.span_tracing_outputs.specs.OutputFolds.{Numbered}
use Rattle.span_tracing_outputs.specs.OutputSettings.{outs_set, stack_set}
use Rattle.span_tracing_outputs.specs.TraceStacks.{TraceStackValue}
use Rattle.span_tracing_skeleton.specs.Looking.{output_at}
use Rattle.span_tracing_skeleton.specs.Machine.{or_same}
use Rattle.span_tracing_skeleton.specs.Order.{refusal_of}
use Rattle.span_tracing_skeleton.specs.PlainData.{PlainStep, GlobalStep, EventStep, EnabledStep, SpanStep, RecordStep, FollowsFromStep}
use Rattle.span_tracing_skeleton.specs.PlainData.{EnterStep, ExitStep, CloneStep, CloseStep, DefaultStep, ResetStep, CloneHandleStep}
use Rattle.span_tracing_skeleton.specs.PlainData.{ReleaseStep, SetStep}
use Rattle.span_tracing_skeleton.specs.Skeleton.{Skeleton}
use Rattle.span_tracing_skeleton.specs.declared.setting.OutputPlace.{OutputPlace}
use Rattle.span_tracing_skeleton.specs.declared.setting.Setting.{Setting}

-- a setting for the output at a place of a stack
pub record OutputSetting : Type 0 where
  pub at : OutputPlace
  pub setting : Setting

abbrev pub setting_for : Option OutputPlace → Setting → Option OutputSetting
setting_for None setting = None
setting_for (Some at) setting = Some (record { at = at; setting = setting })

-- of a step that is not refused; every other step changes none
abbrev pub setting_by : Skeleton → PlainStep → Option OutputSetting
setting_by s (SetStep call) = setting_for (output_at s call.output) call.setting
setting_by s (GlobalStep handle) = None
setting_by s (EventStep e) = None
setting_by s (EnabledStep call) = None
setting_by s (SpanStep n) = None
setting_by s (RecordStep r) = None
setting_by s (FollowsFromStep call) = None
setting_by s (EnterStep call) = None
setting_by s (ExitStep call) = None
setting_by s (CloneStep call) = None
setting_by s (CloseStep call) = None
setting_by s (DefaultStep call) = None
setting_by s (ResetStep call) = None
setting_by s (CloneHandleStep handle) = None
setting_by s (ReleaseStep handle) = None

-- of any step: one that is refused changes none
abbrev pub setting_of : Skeleton → PlainStep → Option OutputSetting
setting_of s step = or_same (refusal_of s step) None (setting_by s step)

-- the machines of the stack with a number, with the setting where it is for one of them
abbrev pub outs_with : {N : Type 0} → ℕ → Option OutputSetting → List (Numbered N) → List (Numbered N)
outs_with stack None outs = outs
outs_with stack (Some c) outs = if c.at.stack == stack then outs_set c.at.place c.setting outs else outs

-- so of the stack with a number
abbrev pub stack_with : {N E F S : Type 0} → ℕ → Option OutputSetting → Option (TraceStackValue N E F S) →
    Option (TraceStackValue N E F S)
stack_with stack None o = o
stack_with stack (Some c) o = if c.at.stack == stack then option_map (λ x. stack_set x c.at.place c.setting) o else o
