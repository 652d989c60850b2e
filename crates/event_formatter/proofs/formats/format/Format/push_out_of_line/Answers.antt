use Rattle.std.proofs.Common.{◌≡◌, ℕ, List, map, Option, subst, sym, ◌∙◌, string_bytes}
use Rattle.tracing_core_fields.specs.requests.PlainRequests.{plain_event}
use Rattle.span_registry_layers_layers.specs.FilterViews.{view}
use Rattle.event_formatter_text.specs.Lists.{Formats}
use Rattle.event_formatter_lines.specs.Heads.{usual_head}
use Rattle.event_formatter_lines.specs.Json.{default_shape, json_line}
use Rattle.event_formatter.specs.formats.Contexts.{plain_context}
use Rattle.event_formatter.specs.formats.Headings.{time_or_unknown}
use Rattle.event_formatter.specs.formats.Lines.{line_in}
use Rattle.event_formatter.specs.formats.Scopes.{shown_at}
use Rattle.event_formatter.proofs.formats.format.Format.push_out_of_line.Goals as goal

pub returns-then-count-eq1-clause-text : goal.returns-then-count-eq1-clause-text
returns-then-count-eq1-clause-text g c =
    let context = plain_context g.N.FormatFields.text_of c.args.context.now in
    let copied = plain_context g.N.FormatFields.text_of c.copied-copied.result in
    let event = plain_event c.args.event.now in
    let text_at = g.T.FormatTime.text_at c.args.self.now.timer in
    let same = c.copied-copied.ensures in
    let shape_is = c.is_default_json.ensures c.if-is_default_json.true in
    let parts_are = c.are_default.ensures c.if-are_default.true in
    let as_apart : json_line default_shape (usual_head (time_or_unknown (text_at copied.seconds copied.nanoseconds)) event.metadata.level
    event.metadata.target) copied.loose event.values
    ≡ json_line default_shape (usual_head (time_or_unknown (text_at context.seconds context.nanoseconds)) event.metadata.level
    event.metadata.target) context.loose event.values =
    (λ i. let v = view (same.registry i) in
    json_line default_shape (usual_head (time_or_unknown (text_at v.at.seconds v.at.nanoseconds)) event.metadata.level
    event.metadata.target) (map (shown_at v (same.key i).0) (same.scope.0 i)) event.values) in
    let as_usual : line_in c.args.shape c.args.self.now.parts c.args.settings (text_at context.seconds context.nanoseconds) context event
    ≡ json_line default_shape (usual_head (time_or_unknown (text_at context.seconds context.nanoseconds)) event.metadata.level
    event.metadata.target) context.loose event.values =
    (λ i. line_in (shape_is i) (parts_are i) c.args.settings (text_at context.seconds context.nanoseconds) context event) in
    subst (λ (line : Option (List ℕ)). Formats line (string_bytes c.args.out.now) c.push_json_in_span.result
    (string_bytes c.push_json_in_span.new.out)) (as_apart ∙ sym as_usual) c.push_json_in_span.ensures.text
