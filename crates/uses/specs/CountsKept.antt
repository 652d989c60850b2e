-- What a notice adds to counts of events and spans.
use Rattle.std.specs.Prelude.{ℕ}
use Rattle.span_registry_layers.specs.FilterViews.{Hook, SpanMade}
use Rattle.span_registry_layers.specs.Notices.{Called, Notice, OnEvent, OnSpan}
use Rattle.uses.specs.Tallies.{counted}
use Rattle.uses.specs.declared.layer.Counts.{Counts}

-- a span that is made counts as one
abbrev pub spans_after : Hook → ℕ → ℕ
spans_after (SpanMade attributes id v) spans = counted spans
spans_after other spans = spans

-- and so does an event
abbrev pub counts_after : Notice → Counts → Counts
counts_after (Called (OnEvent event) v y) counts = record counts { events = counted counts.events }
counts_after (Called (OnSpan id call) v y) counts = record counts { spans = spans_after (call v) counts.spans }
counts_after other counts = counts
