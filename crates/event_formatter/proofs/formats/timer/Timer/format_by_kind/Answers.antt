use Rattle.std.proofs.Common.{ap, sym, ◌∙◌}
use Rattle.event_formatter.specs.formats.Timers.{text_at}
use Rattle.event_formatter.specs.declared.formats.timer.Timer.{Timer}
use Rattle.event_formatter.proofs.formats.timer.Timer.format_by_kind.Goals as goal

pub returns-in-Fixed-clause-timer : goal.returns-in-Fixed-clause-timer
returns-in-Fixed-clause-timer c s n =
    c.format_time-in-Fixed.ensures.timer s n ∙ ap (λ (timer : Timer). text_at timer s n) (sym c.in-Fixed.is)
