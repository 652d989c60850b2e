use Rattle.event_formatter_text.proofs.field.DelimitedFields.{goes_on, ends}
use Rattle.event_formatter_text.proofs.field.delimited.VisitDelimitedVisit.record_debug.Goals as goal

pub returns-in-Ok : goal.returns-in-Ok
returns-in-Ok g c = record {
  keeps_delimiter = c.delimit.ensures.delimiter;
  has_seen = c.delimit.ensures.seen;
  writes = goes_on _ _ c.delimit.ensures.inner c.in-Ok.is c.record_debug.ensures;
}

pub returns-in-Err : goal.returns-in-Err
returns-in-Err g c = record {
  keeps_delimiter = c.delimit.ensures.delimiter;
  has_seen = c.delimit.ensures.seen;
  writes = ends _ _ c.delimit.ensures.inner c.in-Err.is;
}
