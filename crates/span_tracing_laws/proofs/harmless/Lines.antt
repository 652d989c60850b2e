-- The formats for people write lines that don't steer a terminal.
use Rattle.std.proofs.Common.{◌≡◌, ◌<◌, ◌^◌, ◌-◌, ◌&&◌, ◌||◌, ℕ, ℤ, Bool, true, false, nat_lt, not, List, ◌++◌, length, codes}
use Rattle.std.proofs.Common.{Option, Some, None, IfSome, refl, sym, subst}
use Rattle.std.specs.Fmt.{decimal}
use Rattle.std.specs.Str.{chars}
use Rattle.tracing_core_fields.specs.PlainMetadata.{PlainMetadata}
use Rattle.tracing_core_fields.specs.requests.PlainRequests.{PlainEvent}
use Rattle.event_formatter_text.specs.HarmlessTexts.{LetsPass, ListsAreHarmless}
use Rattle.event_formatter_text.specs.TerminalControls.{AreHarmless}
use Rattle.event_formatter_text.specs.Visitors.{pretty_text}
use Rattle.event_formatter_text.specs.declared.settings.Settings.{Settings}
use Rattle.event_formatter_text.proofs.TerminalControls.{both_pass, harmless_pass}
use Rattle.event_formatter_lines.specs.HarmlessLines.{CompactLinesAreHarmless, FullLinesAreHarmless, IsTameHead, IsTamePlace}
use Rattle.event_formatter_lines.specs.HarmlessLines.{IsTameThread, PrettyLinesAreHarmless}
use Rattle.event_formatter_lines.specs.Heads.{PlainHead}
use Rattle.event_formatter_lines.specs.times.Threads.{id_start, padded_name, thread_id_text}
use Rattle.event_formatter.specs.formats.Contexts.{PlainContext, PlainThread}
use Rattle.event_formatter.specs.formats.Headings.{id_in_place, id_shown, name_or_id, name_shown, time_or_unknown, time_shown}
use Rattle.event_formatter.specs.formats.Lines.{asked, head_of, line_in, pretty_heading, pretty_place, pretty_thread, with_styles}
use Rattle.event_formatter.specs.declared.formats.format.Format.{Format}
use Rattle.event_formatter.specs.declared.formats.line_format.LineFormat.{LineFormat}
use Rattle.event_formatter.specs.declared.formats.line_format.LineFormat.TheVariants as format
use Rattle.event_formatter.specs.declared.formats.line_format.Pretty.{Pretty}
use Rattle.event_formatter.specs.declared.formats.parts.Parts.{Parts}
use Rattle.span_tracing_laws.specs.harmless.Lines.{FormatsWriteHarmlessLines, IsLineForPeople, IsTameContext, IsTameEvent}
use Rattle.span_tracing_laws.specs.harmless.Lines.{IsTameMetadata}
use Rattle.span_tracing_laws.proofs.harmless.Texts.{behind_spaces, decimal_passes, either_is, option_is}

asked_is : {A : Type 0} (P : A → Type 0) (is_asked : Bool) (x : Option A) → IfSome x P → IfSome (asked is_asked x) P
asked_is P true x is = is
asked_is P false x is = tt

-- the time and the thread
known_or_not : (time : Option (List ℕ)) → IfSome time LetsPass → LetsPass (time_or_unknown time)
known_or_not None is = harmless_pass (codes "<unknown time>") refl
known_or_not (Some time) is = is

time_is : (parts : Parts) (time : Option (List ℕ)) → IfSome time LetsPass → IfSome (time_shown parts time) LetsPass
time_is parts time is = option_is LetsPass parts.timestamp (Some (time_or_unknown time)) None (known_or_not time is) tt

start_passes : (padded : Bool) (id : ℕ) → LetsPass (id_start padded id)
unfolding id_start
start_passes padded id = either_is LetsPass (padded && nat_lt id 10) (codes "ThreadId(0") (codes "ThreadId(")
    (harmless_pass (codes "ThreadId(0") refl) (harmless_pass (codes "ThreadId(") refl)

id_passes : (padded : Bool) (id : ℕ) → LetsPass (thread_id_text padded id)
id_passes padded id =
    both_pass (id_start padded id) (decimal id ++ codes ")") (start_passes padded id)
    (both_pass (decimal id) (codes ")") (decimal_passes id) (harmless_pass (codes ")") refl))

id_is : (padded : Bool) (parts : Parts) (thread : PlainThread) → IfSome (id_shown padded parts thread) LetsPass
id_is padded parts thread =
    option_is LetsPass parts.thread_ids (Some (thread_id_text padded thread.id)) None (id_passes padded thread.id) tt

in_place_is : (padded : Bool) (parts : Parts) (thread : PlainThread) → IfSome (id_in_place padded parts thread) LetsPass
in_place_is padded parts thread =
    option_is LetsPass parts.thread_ids None (Some (thread_id_text padded thread.id)) tt (id_passes padded thread.id)

either_name : (padded : Bool) (parts : Parts) (thread : PlainThread) (name : Option (List ℕ)) → IfSome name LetsPass →
    IfSome (name_or_id padded parts thread name) LetsPass
either_name padded parts thread None is = in_place_is padded parts thread
either_name padded parts thread (Some name) is =
    either_is LetsPass padded (padded_name thread.longest name) name
    (behind_spaces (thread.longest - length (chars name)) name is) is

name_is : (padded : Bool) (parts : Parts) (thread : PlainThread) → IfSome thread.name LetsPass →
    IfSome (name_shown padded parts thread) LetsPass
name_is padded parts thread is =
    option_is LetsPass parts.thread_names (name_or_id padded parts thread thread.name) None
    (either_name padded parts thread thread.name is) tt

-- what a line shows of an event beside its fields and spans
head_is : (padded : Bool) (parts : Parts) (time : Option (List ℕ)) (thread : PlainThread) (m : PlainMetadata) → IfSome time LetsPass →
    IfSome thread.name LetsPass → IsTameMetadata m → IsTameHead (head_of padded parts time thread m)
head_is padded parts time thread m time_passes name_passes tame = record {
  time = time_is parts time time_passes;
  thread_name = name_is padded parts thread name_passes;
  thread_id = id_is padded parts thread;
  target = asked_is LetsPass parts.target (Some m.target) tame.target;
  file = asked_is LetsPass parts.file m.file tame.file;
  line = asked_is (λ line. line < 2 ^ 32) parts.line_number m.line tame.line;
}

-- the pretty format's place
heading_is : (p : Pretty) (parts : Parts) (head : PlainHead) → IsTameHead head → IsTameHead (pretty_heading p parts head)
heading_is p parts head tame = record {
  time = tame.time;
  thread_name = tame.thread_name;
  thread_id = tame.thread_id;
  target = tame.target;
  file = tame.file;
  line = asked_is (λ line. line < 2 ^ 32) (p.display_location && not parts.file) head.line tame.line;
}

thread_is : (parts : Parts) (name : Option (List ℕ)) (head : PlainHead) → IfSome name LetsPass → IsTameHead head →
    IsTameThread (pretty_thread parts name head)
thread_is parts name head passes tame = (asked_is LetsPass parts.thread_names name passes, tame.thread_id)

place_is : (p : Pretty) (parts : Parts) (name : Option (List ℕ)) (head : PlainHead) → IfSome name LetsPass → IsTameHead head →
    IsTamePlace (pretty_place p parts name head)
place_is p parts name head passes tame = record {
  file = asked_is LetsPass p.display_location head.file tame.file;
  line = tame.line;
  thread = asked_is IsTameThread (parts.thread_names || parts.thread_ids) (Some (pretty_thread parts name head))
      (thread_is parts name head passes tame);
}

module _ (lists_are : ListsAreHarmless) (full : FullLinesAreHarmless) (compact : CompactLinesAreHarmless) (pretty : PrettyLinesAreHarmless)
    (parts : Parts) (settings : Settings) (harmless : AreHarmless settings) (time : Option (List ℕ)) (time_passes : IfSome time LetsPass)
    (c : PlainContext) (context : IsTameContext c) (e : PlainEvent) (tame : IsTameEvent e) where
  head_for : (padded : Bool) → IsTameHead (head_of padded parts time c.thread e.metadata)
  head_for padded = head_is padded parts time c.thread e.metadata time_passes context.thread tame.0

  pub line_passes : (shape : LineFormat) → IsLineForPeople shape → IfSome (line_in shape parts settings time c e) LetsPass
  line_passes format.Full is =
      full settings harmless (head_of true parts time c.thread e.metadata) (head_for true) c.strict context.strict
      (c.text_of settings e.values) (context.fields settings harmless e.values tame.1)
  line_passes format.Compact is =
      compact settings harmless (head_of true parts time c.thread e.metadata) (head_for true) c.loose c.strict context.loose context.strict
      (c.text_of settings e.values) (context.fields settings harmless e.values tame.1)
  line_passes (format.Pretty p) is =
      let head = head_of false parts time c.thread e.metadata in
      pretty (pretty_heading p parts head) (heading_is p parts head (head_for false))
      (pretty_place p parts c.thread.name head) (place_is p parts c.thread.name head context.thread (head_for false)) parts.target
      c.loose context.loose (pretty_text settings e.values) (lists_are settings harmless e.values tame.1).1
  line_passes (format.Json json) is = absurd is

still_harmless : (ansi : Option Bool) (settings : Settings) → IfSome ansi (λ styles. styles ≡ false) → AreHarmless settings →
    AreHarmless (with_styles ansi settings)
still_harmless None settings off harmless = harmless
still_harmless (Some styles) settings off harmless = (off, harmless.1)

module _ {T : Type 0} (line_of : Format LineFormat T → Settings → PlainContext → PlainEvent → Option (List ℕ))
    (text_at : T → ℤ → ℕ → Option (List ℕ)) (lists_are : ListsAreHarmless) (full : FullLinesAreHarmless)
    (compact : CompactLinesAreHarmless) (pretty : PrettyLinesAreHarmless)
    (writes : (layout : Format LineFormat T) (settings : Settings) (c : PlainContext) (e : PlainEvent) →
    line_of layout settings c e ≡ line_in layout.shape layout.parts (with_styles layout.ansi settings)
    (text_at layout.timer c.seconds c.nanoseconds) c e) where
  pub formats_write : FormatsWriteHarmlessLines text_at line_of
  formats_write layout is settings harmless c context e tame =
      subst (λ (line : Option (List ℕ)). IfSome line LetsPass) (sym (writes layout settings c e))
      (line_passes lists_are full compact pretty layout.parts (with_styles layout.ansi settings)
      (still_harmless layout.ansi settings is.ansi harmless) (text_at layout.timer c.seconds c.nanoseconds)
      (is.times c.seconds c.nanoseconds) c context e tame layout.shape is.shape)
