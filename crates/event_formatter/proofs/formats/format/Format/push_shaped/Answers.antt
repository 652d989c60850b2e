use Rattle.std.proofs.Common.{◌≡◌, ℕ, List, Bool, Option, Some, ap, subst, ◌∙◌, string_bytes}
use Rattle.tracing_core_fields.specs.Metadata.{plain_metadata}
use Rattle.tracing_core_fields.specs.requests.PlainRequests.{plain_event}
use Rattle.tracing_core_moments.specs.declared.at.At.{At}
use Rattle.event_formatter_text.specs.Lists.{Formats}
use Rattle.event_formatter_lines.specs.Heads.{PlainHead, plain_head}
use Rattle.event_formatter.specs.formats.Contexts.{PlainThread, plain_context, plain_thread}
use Rattle.event_formatter.specs.formats.Headings.{id_shown, name_shown, time_shown}
use Rattle.event_formatter.specs.formats.Lines.{asked, head_with, is_padded, line_behind}
use Rattle.event_formatter.proofs.formats.Heads.{shown_is}
use Rattle.event_formatter.proofs.formats.format.Format.push_shaped.Goals as goal

pub returns-clause-text : goal.returns-clause-text
returns-clause-text g c =
    let parts = c.args.self.now.parts in
    let shape = c.args.shape in
    let thread = plain_thread c.args.context.now.thread in
    let metadata = plain_metadata c.args.event.now.metadata.now in
    let values = (plain_event c.args.event.now).values in
    let context = plain_context g.N.FormatFields.text_of c.args.context.now in
    let settings = c.args.settings in
    let timer = c.args.self.now.timer in
    let time = time_shown parts (g.T.FormatTime.text_at timer context.seconds context.nanoseconds) in
    let time_is : asked c.in_ok-has_time.has_time (Some c.as_str.result.now) ≡ time =
    ap (λ (text : List ℕ). asked c.in_ok-has_time.has_time (Some text)) c.as_str.ensures.value
    ∙ shown_is (time_shown parts (g.T.FormatTime.text_at timer c.at.result.seconds c.at.result.nanoseconds)) c.in_ok-has_time.has_time
    (string_bytes c.fill_time.new.out) c.in_ok-has_time.ensures.text
    ∙ ap (λ (at : At). time_shown parts (g.T.FormatTime.text_at timer at.seconds at.nanoseconds)) c.at.ensures in
    let name_is : asked c.in_ok-has_name.has_name (Some c.as_str-2.result.now) ≡ name_shown (is_padded shape) parts thread =
    ap (λ (text : List ℕ). asked c.in_ok-has_name.has_name (Some text)) c.as_str-2.ensures.value
    ∙ shown_is (name_shown c.is_padded.result parts (plain_thread c.thread-thread.result)) c.in_ok-has_name.has_name
    (string_bytes c.fill_name.new.out) c.in_ok-has_name.ensures
    ∙ ap (λ (padded : Bool). name_shown padded parts (plain_thread c.thread-thread.result)) c.is_padded.ensures
    ∙ ap (λ (t : PlainThread). name_shown (is_padded shape) parts t) c.thread-thread.ensures in
    let id_is : asked c.in_ok-has_id.has_id (Some c.as_str-3.result.now) ≡ id_shown (is_padded shape) parts thread =
    ap (λ (text : List ℕ). asked c.in_ok-has_id.has_id (Some text)) c.as_str-3.ensures.value
    ∙ shown_is (id_shown c.is_padded-2.result parts (plain_thread c.thread-thread.result)) c.in_ok-has_id.has_id
    (string_bytes c.fill_id.new.out) c.in_ok-has_id.ensures
    ∙ ap (λ (padded : Bool). id_shown padded parts (plain_thread c.thread-thread.result)) c.is_padded-2.ensures
    ∙ ap (λ (t : PlainThread). id_shown (is_padded shape) parts t) c.thread-thread.ensures in
    let head_is : plain_head c.head_with-head.result ≡ head_with parts time (name_shown (is_padded shape) parts thread)
    (id_shown (is_padded shape) parts thread) metadata =
    c.head_with-head.ensures
    ∙ (λ i. head_with parts ((c.shown.ensures ∙ time_is) i) ((c.shown-2.ensures ∙ name_is) i) ((c.shown-3.ensures ∙ id_is) i)
    (plain_metadata (c.metadata.ensures.metadata i))) in
    subst (λ (line : Option (List ℕ)). Formats line (string_bytes c.args.out.now) c.push_line.result (string_bytes c.push_line.new.out))
    (ap (λ (head : PlainHead). line_behind shape parts settings head context values) head_is)
    c.push_line.ensures
