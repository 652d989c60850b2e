use Rattle.std.proofs.Common.{◌∙◌}
use Rattle.tracing_appender_rolling.proofs.folders.SortedEntries.{placed_new, placed_known}
use Rattle.tracing_appender_rolling.proofs.folders.entries.add_entry.Goals as goal

pub returns-then-has_name_at : goal.returns-then-has_name_at
returns-then-has_name_at c =
    let place = c.index_among-index.ensures in
    let found = c.has_name_at.ensures in
    placed_known c.args.entry c.args.entries.now.items c.as_slice.result.now c.as_slice-2.result.now c.index_among-index.result
    c.as_slice.ensures.value c.as_slice-2.ensures.value
    (record { bound = place.bound; before = place.before; at = place.at }) (found.bound c.if-has_name_at.true)
    (λ d. found.same d c.if-has_name_at.true)

pub returns : goal.returns
returns c =
    let place = c.index_among-index.ensures in
    c.in_ok-insert.ensures.items
    ∙ placed_new c.args.entry c.args.entries.now.items c.as_slice.result.now c.as_slice-2.result.now c.index_among-index.result
    c.as_slice.ensures.value c.as_slice-2.ensures.value
    (record { bound = place.bound; before = place.before; at = place.at }) (λ d. c.has_name_at.ensures.differs d c.if-has_name_at.false)
