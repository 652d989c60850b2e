-- Masks from which the machine reads what the filters answered.
use Rattle.std.specs.Prelude.{◌≡◌, Bool, true, false, List}
use Rattle.span_tracing_skeleton.specs.Machine.{is_wanted}
use Rattle.span_tracing_skeleton.specs.PlainData.{PlainStep, GlobalStep, EventStep, EnabledStep, SpanStep, RecordStep, FollowsFromStep}
use Rattle.span_tracing_skeleton.specs.PlainData.{EnterStep, ExitStep, CloneStep, CloseStep, DefaultStep, ResetStep, CloneHandleStep}
use Rattle.span_tracing_skeleton.specs.PlainData.{ReleaseStep, SetStep}
use Rattle.span_tracing_skeleton.specs.Skeleton.{Answers, Unasked, Wanted, Dropped, Passed, Heard}
use Rattle.span_tracing_shared.specs.Journals.{padded, some_pass}

-- the mask of a new span that these are the answers to: it is made where some filter passes, with each filter's answer
abbrev pub ShowsSpan : Answers → List Bool → Type 0
ShowsSpan Unasked mask = some_pass mask ≡ false
ShowsSpan (Wanted b) mask = some_pass mask ≡ false
ShowsSpan Dropped mask = some_pass mask ≡ false
ShowsSpan (Passed passed) mask = (some_pass mask ≡ true) × (padded mask ≡ passed)
ShowsSpan (Heard passed told) mask = some_pass mask ≡ false

-- the mask of a step that these are the answers to
abbrev pub Shows : PlainStep → Answers → List Bool → Type 0
Shows (GlobalStep handle) a mask = Unit {0}
Shows (EventStep e) a mask = Unit {0}
Shows (EnabledStep call) a mask = some_pass mask ≡ is_wanted a
Shows (SpanStep n) a mask = ShowsSpan a mask
Shows (RecordStep r) a mask = Unit {0}
Shows (FollowsFromStep call) a mask = Unit {0}
Shows (EnterStep call) a mask = Unit {0}
Shows (ExitStep call) a mask = Unit {0}
Shows (CloneStep call) a mask = Unit {0}
Shows (CloseStep call) a mask = Unit {0}
Shows (DefaultStep call) a mask = Unit {0}
Shows (ResetStep call) a mask = Unit {0}
Shows (CloneHandleStep handle) a mask = Unit {0}
Shows (ReleaseStep handle) a mask = Unit {0}
Shows (SetStep call) a mask = Unit {0}
