use Rattle.std.proofs.Common.{◌++◌, ◌∙◌, codes, string_bytes}
use Rattle.tracing_core_fields.specs.Metadata.{plain_metadata}
use Rattle.tracing_core_fields.specs.PlainMetadata.{PlainMetadata}
use Rattle.tracing_core_fields.specs.requests.PlainRequests.{plain_event}
use Rattle.event_formatter_lines.specs.Full.{full_head}
use Rattle.event_formatter_lines.specs.Heads.{usual_head}
use Rattle.event_formatter.specs.formats.Contexts.{plain_context}
use Rattle.event_formatter.specs.formats.Headings.{time_or_unknown}
use Rattle.event_formatter.proofs.formats.LinePieces.{behind}
use Rattle.event_formatter.proofs.formats.full.push_usual.Goals as goal

pub returns-clause-text : goal.returns-clause-text
returns-clause-text g c =
    let context = plain_context g.N.FormatFields.text_of c.args.context.now in
    let time = time_or_unknown (g.T.FormatTime.text_at c.args.timer.now context.seconds context.nanoseconds) in
    let front = λ (m : PlainMetadata). full_head c.args.settings (usual_head time m.level m.target) context.strict in
    behind (front (plain_metadata c.args.event.now.metadata.now))
    (context.text_of c.args.settings (plain_event c.args.event.now).values)
    (codes "\n")
    (string_bytes c.args.out.now)
    (string_bytes c.push_head.new.out)
    (string_bytes c.push_values.new.out)
    c.push_values.result
    (c.in-Ok.ensures.text ∙ (λ i. string_bytes c.args.out.now ++ front (plain_metadata (c.metadata.ensures.metadata i))))
    c.push_values.ensures
