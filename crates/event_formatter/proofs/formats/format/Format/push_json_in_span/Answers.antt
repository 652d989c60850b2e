use Rattle.std.proofs.Common.{◌≡◌, ℕ, List, [], ◌∷◌, Option, ap, subst, ◌∙◌, string_bytes}
use Rattle.std.proofs.lemmas.List.{length-map}
use Rattle.tracing_core_fields.specs.Metadata.{plain_metadata}
use Rattle.tracing_core_fields.specs.declared.metadata.Metadata.{Metadata}
use Rattle.tracing_core_fields.specs.requests.PlainRequests.{plain_event}
use Rattle.tracing_core_moments.specs.declared.at.At.{At}
use Rattle.span_registry_layers_layers.specs.FilterViews.{view}
use Rattle.event_formatter_text.specs.Lists.{Formats}
use Rattle.event_formatter_lines.specs.Heads.{usual_head}
use Rattle.event_formatter_lines.specs.Json.{default_shape, json_line}
use Rattle.event_formatter_lines.specs.Shown.{PlainShown, plain_shown, span_at}
use Rattle.event_formatter.specs.formats.Contexts.{plain_context}
use Rattle.event_formatter.specs.formats.Headings.{time_or_unknown}
use Rattle.event_formatter.specs.formats.Scopes.{shown_at}
use Rattle.event_formatter.proofs.formats.SingleSpanLine.{alone}
use Rattle.event_formatter.proofs.formats.format.Format.push_json_in_span.Goals as goal

pub returns-clause-text : goal.returns-clause-text
returns-clause-text g c =
    let context = plain_context g.N.FormatFields.text_of c.args.context.now in
    let event = plain_event c.args.event.now in
    let timer = c.args.self.now.timer in
    let time_at : At → List ℕ = λ at. time_or_unknown (g.T.FormatTime.text_at timer at.seconds at.nanoseconds) in
    let time = time_or_unknown (g.T.FormatTime.text_at timer context.seconds context.nanoseconds) in
    let time_is : c.as_str.result.now ≡ time =
    c.as_str.ensures.value ∙ c.in-Ok.ensures.text ∙ ap time_at c.at.ensures in
    let level_is = c.level.ensures ∙ ap (λ (m : Metadata). (plain_metadata m).level) c.metadata-metadata.ensures.metadata in
    let target_is = c.target.ensures ∙ ap (λ (m : Metadata). (plain_metadata m).target) c.metadata-metadata.ensures.metadata in
    let one = c.span-span.ensures ∙ ap (λ (spans : List PlainShown). span_at spans 0) c.loose_spans-spans.ensures in
    let spans_are : plain_shown c.span-span.result ∷ [] ≡ context.loose =
    ap (λ (s : PlainShown). s ∷ []) one ∙
    alone context.loose (length-map c.args.context.now.ids.now (shown_at (view c.args.context.now.context.now) c.args.context.now.key.0)
    ∙ c.requires) in
    let line_is : json_line default_shape (usual_head c.as_str.result.now c.level.result.now c.target.result.now)
    (plain_shown c.span-span.result ∷ []) event.values
    ≡ json_line default_shape (usual_head time event.metadata.level event.metadata.target) context.loose event.values =
    (λ i. json_line default_shape (usual_head (time_is i) (level_is i) (target_is i)) (spans_are i) event.values) in
    subst (λ (line : Option (List ℕ)). Formats line (string_bytes c.args.out.now) c.push_json_line_in_span.result
    (string_bytes c.push_json_line_in_span.new.out)) line_is c.push_json_line_in_span.ensures
