-- Moments of spans as a step has them.
use Rattle.event_formatter_lines.specs.declared.fmt_span.FmtSpan.{FmtSpan}
use Rattle.span_tracing_skeleton.specs.declared.setting.SpanMoments.{SpanMoments}

abbrev pub moments_of : FmtSpan → SpanMoments
moments_of events = record { new = events.new; enter = events.enter; exit = events.exit; close = events.close }
