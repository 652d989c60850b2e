-- Lines that don't steer a terminal.
use Rattle.std.specs.Prelude.{◌<◌, ◌^◌, ℕ, Bool, List, Option, IfSome}
use Rattle.std.specs.List.{AllByRecursion}
use Rattle.event_formatter_text.specs.HarmlessTexts.{LetsPass}
use Rattle.event_formatter_text.specs.TerminalControls.{AreHarmless}
use Rattle.event_formatter_text.specs.declared.settings.Settings.{Settings}
use Rattle.event_formatter_lines.specs.Compact.{compact_line}
use Rattle.event_formatter_lines.specs.Full.{full_line}
use Rattle.event_formatter_lines.specs.Heads.{PlainHead}
use Rattle.event_formatter_lines.specs.Pretty.{PlainPlace, PlainThread, pretty_line}
use Rattle.event_formatter_lines.specs.Shown.{PlainShown}

-- what stands as it is of a head is harmless, and the number of its line has 32 bits
pub record IsTameHead (head : PlainHead) : Type 0 where
  pub time : IfSome head.time LetsPass
  pub thread_name : IfSome head.thread_name LetsPass
  pub thread_id : IfSome head.thread_id LetsPass
  pub target : IfSome head.target LetsPass
  pub file : IfSome head.file LetsPass
  pub line : IfSome head.line (λ line. line < 2 ^ 32)

-- so are a span's name and target, and the text that is kept of its fields
pub record IsTameSpan (span : PlainShown) : Type 0 where
  pub name : LetsPass span.name
  pub target : LetsPass span.target
  pub text : LetsPass span.text

-- and what a pretty line shows of a thread, and of a place
abbrev pub IsTameThread : PlainThread → Type 0
IsTameThread thread = IfSome thread.name LetsPass × IfSome thread.id LetsPass

pub record IsTamePlace (place : PlainPlace) : Type 0 where
  pub file : IfSome place.file LetsPass
  pub line : IfSome place.line (λ line. line < 2 ^ 32)
  pub thread : IfSome place.thread IsTameThread

-- no full line steers a terminal, where head, spans and fields don't
abbrev pub FullLinesAreHarmless : Type 0
FullLinesAreHarmless =
    (settings : Settings) → AreHarmless settings → (head : PlainHead) → IsTameHead head → (spans : List PlainShown) →
    AllByRecursion IsTameSpan spans → (fields : Option (List ℕ)) → IfSome fields LetsPass →
    IfSome (full_line settings head spans fields) LetsPass

-- nor does a compact line
abbrev pub CompactLinesAreHarmless : Type 0
CompactLinesAreHarmless =
    (settings : Settings) → AreHarmless settings → (head : PlainHead) → IsTameHead head → (loose strict : List PlainShown) →
    AllByRecursion IsTameSpan loose → AllByRecursion IsTameSpan strict → (fields : Option (List ℕ)) → IfSome fields LetsPass →
    IfSome (compact_line settings head loose strict fields) LetsPass

-- nor does an entry of the pretty format
abbrev pub PrettyLinesAreHarmless : Type 0
PrettyLinesAreHarmless =
    (head : PlainHead) → IsTameHead head → (place : PlainPlace) → IsTamePlace place → (shows_target : Bool) (loose : List PlainShown) →
    AllByRecursion IsTameSpan loose → (fields : Option (List ℕ)) → IfSome fields LetsPass →
    IfSome (pretty_line head place shows_target loose fields) LetsPass
