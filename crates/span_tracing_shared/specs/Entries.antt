-- Entries of a journal, and calls of a seat, as plain data.
use Rattle.std.specs.Arc.{arc_value}
use Rattle.std.specs.Prelude.{ℕ, List, [], ◌∷◌, map, ◌==◌, if◌then◌else◌}
use Rattle.span_tracing_skeleton.specs.PlainData.{AnyStep, any_step}
use Rattle.span_tracing_skeleton.specs.declared.call.Reply.{Reply}
use Rattle.span_tracing_shared.specs.Journals.{PlainEntry}
use Rattle.span_tracing_shared.specs.declared.call.Call.{Call}
use Rattle.span_tracing_shared.specs.declared.entry.Entry.{Entry}

-- a step and what it answered
pub record PlainCall : Type 0 where
  pub step : AnyStep
  pub reply : Reply

abbrev pub plain_entry : Entry → PlainEntry
plain_entry e = record { lane = e.lane; step = any_step (arc_value e.step); reply = e.reply; mask = e.mask }

abbrev pub plain_journal : List Entry → List PlainEntry
plain_journal es = map plain_entry es

abbrev pub plain_call : Call → PlainCall
plain_call c = record { step = any_step (arc_value c.step); reply = c.reply }

abbrev pub plain_calls : List Call → List PlainCall
plain_calls cs = map plain_call cs

abbrev pub call_of : PlainEntry → PlainCall
call_of e = record { step = e.step; reply = e.reply }

-- a lane's steps and replies in a journal, in order
abbrev pub calls_of : ℕ → List PlainEntry → List PlainCall
calls_of lane [] = []
calls_of lane (e ∷ es) = if e.lane == lane then call_of e ∷ calls_of lane es else calls_of lane es
