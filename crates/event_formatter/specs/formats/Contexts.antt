-- What is known of an event where its line is written.
use Rattle.std.specs.Prelude.{ℕ, ℤ, List, map, Option}
use Rattle.std.specs.Option.{option_copied}
use Rattle.tracing_core_fields.specs.requests.PlainRequests.{PlainValues}
use Rattle.span_registry_layers_layers.specs.FilterViews.{view}
use Rattle.event_formatter_text.specs.declared.settings.Settings.{Settings}
use Rattle.event_formatter_lines.specs.Shown.{PlainShown}
use Rattle.event_formatter.specs.formats.Scopes.{only_if, shown_at}
use Rattle.event_formatter.specs.declared.formats.context.CurrentThread.{CurrentThread}
use Rattle.event_formatter.specs.declared.formats.context.FmtContext.{FmtContext}
use Rattle.event_formatter.specs.declared.formats.scope.ScopedSpans.{ScopedSpans}

-- a thread: its name, its number, and how many bytes the longest name has
pub record PlainThread : Type 0 where
  pub name : Option (List ℕ)
  pub id : ℕ
  pub longest : ℕ

-- the moment, the thread, the spans of the loose and of the strict scope from the root on, and how fields are written
pub record PlainContext : Type 0 where
  pub seconds : ℤ
  pub nanoseconds : ℕ
  pub thread : PlainThread
  pub loose : List PlainShown
  pub strict : List PlainShown
  pub text_of : Settings → PlainValues → Option (List ℕ)

abbrev pub plain_thread : CurrentThread → PlainThread
plain_thread thread =
    record { name = option_copied thread.name; id = thread.id; longest = thread.longest }

abbrev pub spans_in : ScopedSpans → List PlainShown
spans_in spans = map (shown_at (view spans.context.now) spans.key.0) spans.ids.now

module _ {N : Type 0} (text_of : N → Settings → PlainValues → Option (List ℕ)) where
  abbrev pub plain_context : FmtContext N → PlainContext
  plain_context c =
      let v = view c.context.now in
      let loose = map (shown_at v c.key.0) c.ids.now in
      record {
        seconds = v.at.seconds;
        nanoseconds = v.at.nanoseconds;
        thread = plain_thread c.thread;
        loose = loose;
        strict = only_if c.has_scope loose;
        text_of = text_of c.fields.now;
      }
