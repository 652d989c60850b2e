-- Where such lines alone come to a queue, such lines alone wait there and are handed over.
use Rattle.std.proofs.Common.{inl, ℕ, zero, suc, Bool, true, false, if◌then◌else◌, List, [], ◌∷◌, ◌++◌, Option, Some, None, IfSome}
use Rattle.std.proofs.ByRecursion.{All-append}
use Rattle.std.specs.List.{AllByRecursion}
use Rattle.tracing_core_moments.specs.declared.at.At.{At}
use Rattle.tracing_core_moments.specs.declared.moment.Moment.{Moment}
use Rattle.tracing_core_moments.specs.Moments.{is_moment}
use Rattle.tracing_appender_queue.specs.Queue.{Queue, after_take, closed, first_taken, mark_next, marked, takes_mark}
use Rattle.tracing_appender_queue.specs.declared.queued.fate.Fate.{Fate}
use Rattle.tracing_appender_queue.specs.declared.queued.fate.Fate.TheVariants.{Dropped, Held, Lost, Missed, Queued}
use Rattle.tracing_appender_queue.specs.queued.HeldLines.{moved_first, without_first}
use Rattle.tracing_appender_queue.specs.queued.LineFates.{WaitingLines, fate_of, settled_as}
use Rattle.tracing_appender_queue.specs.queued.QueuedWork.{handed_at}
use Rattle.tracing_appender_queue.specs.worker.Batches.{close_if, first_of, line_next, lines_after, lines_in, queue_after, queue_in}
use Rattle.span_tracing_skeleton.specs.declared.call.Reply.{Reply}
use Rattle.span_tracing_skeleton.specs.declared.call.Reply.TheVariants.{Done, Refused}
use Rattle.span_tracing_skeleton.specs.declared.queue_call.QueueCall.TheVariants.{Admit, Shutdown, Work}
use Rattle.span_tracing_skeleton.specs.declared.refusal.Refusal.{Refusal}
use Rattle.span_tracing_skeleton.specs.declared.refusal.Refusal.TheVariants.{Closed}
use Rattle.span_tracing_outputs.specs.OutputMachines.{PlainLine}
use Rattle.span_tracing_outputs.specs.sinks.AnySinks.{bytes_in}
use Rattle.span_tracing_outputs.specs.sinks.QueueFiles.{after_admit, after_shutdown, handed_all, handed_by, handed_if}
use Rattle.span_tracing_outputs.specs.sinks.QueueFiles.{refused_admit, settled_by, waits_after, waits_all, worked_if}
use Rattle.span_tracing_outputs.specs.sinks.SinkTurns.{Asked, Came, SinkTurn, came_in}
use Rattle.span_tracing_laws.specs.machines.Lines.{AreHanded, AreRun, AreWaiting}

module _ (P : List ℕ → Type 0) where
  abbrev Such : List (List ℕ) → Type 0
  Such = AllByRecursion P

  one_more : (lines : List (List ℕ)) (line : List ℕ) → Such lines → P line → Such (lines ++ line ∷ [])
  one_more lines line all is = All-append _ lines (line ∷ []) all (is, tt)

  -- a line that comes
  settled_are : (fate : Fate) (line : List ℕ) (w : WaitingLines) → P line → AreWaiting P w →
      AreWaiting P (settled_as fate line w)
  settled_are Queued line w is all = (one_more w.queue.queued line all.0 is, all.1)
  settled_are Dropped line w is all = all
  settled_are Held line w is all = (all.0, one_more w.held line all.1 is)
  settled_are Lost line w is all = all
  settled_are Missed line w is all = all

  all_settled : (run : List (At × PlainLine)) (w : WaitingLines) → AreRun P run → AreWaiting P w →
      AreWaiting P (settled_by (bytes_in run) w)
  all_settled [] w are all = all
  all_settled (x ∷ xs) w are all =
      let line = x.1.bytes in
      all_settled xs (settled_as (fate_of w) line w) are.1 (settled_are (fate_of w) line w are.0 all)

  -- a step of a worker
  either_are : (b : Bool) (x y : Queue) → Such x.queued → Such y.queued → Such (if b then x else y).queued
  either_are true x y one other = one
  either_are false x y one other = other

  first_are : (q : Queue) (lines : List (List ℕ)) → Such q.queued → Such lines → Such (first_taken q lines).queued
  first_are q [] all lines = all
  first_are q (l ∷ ls) all lines = lines.1

  take_are : (q : Queue) → Such q.queued → Such (after_take q).queued
  take_are q all = either_are (mark_next q) (closed q) (first_taken q q.queued) tt (first_are q q.queued all all)

  close_are : (q : Queue) → Such q.queued → Such (close_if q).queued
  close_are q all = either_are (mark_next q) (after_take q) q (take_are q all) all

  next_is : (b : Bool) (lines : List (List ℕ)) → Such lines → IfSome (if b then None else first_of lines) P
  next_is true lines all = tt
  next_is false [] all = tt
  next_is false (l ∷ ls) all = all.0

  rest_are : (rest : Queue → Queue) (q : Queue) (next : Option (List ℕ)) → ((r : Queue) → Such r.queued → Such (rest r).queued) →
      Such q.queued → Such (queue_after rest q next).queued
  rest_are rest q None keep all = close_are q all
  rest_are rest q (Some line) keep all = keep (after_take q) (take_are q all)

  left_are : (k : ℕ) (q : Queue) → Such q.queued → Such (queue_in k q).queued
  left_are zero q all = close_are q all
  left_are (suc k) q all = rest_are (queue_in k) q (line_next q) (left_are k) all

  more_are : (rest : Queue → List (List ℕ)) (q : Queue) (next : Option (List ℕ)) → IfSome next P →
      ((r : Queue) → Such r.queued → Such (rest r)) → Such q.queued → Such (lines_after rest q next)
  more_are rest q None is give all = tt
  more_are rest q (Some line) is give all = (is, give (after_take q) (take_are q all))

  taken_are : (k : ℕ) (q : Queue) → Such q.queued → Such (lines_in k q)
  taken_are zero q all = tt
  taken_are (suc k) q all = more_are (lines_in k) q (line_next q) (next_is (mark_next q) q.queued all) (taken_are k) all

  worked_are : (b : Bool) (k : ℕ) (w : WaitingLines) → AreWaiting P w → AreWaiting P (worked_if b k w)
  worked_are true k w all = (left_are k w.queue all.0, all.1)
  worked_are false k w all = all

  handed_lines : (m : Moment) (lines : List (List ℕ)) → Such lines → AreHanded P (handed_at m lines)
  handed_lines m [] all = tt
  handed_lines m (l ∷ ls) all = (inl all.0, handed_lines m ls all.1)

  worked_hand : (b : Bool) (k : ℕ) (m : Moment) (w : WaitingLines) → AreWaiting P w → AreHanded P (handed_if b k m w)
  worked_hand true k m w all = handed_lines m (lines_in k w.queue) (taken_are k w.queue all.0)
  worked_hand false k m w all = tt

  -- the first held line, and the mark
  moved_are : (w : WaitingLines) (held : List (List ℕ)) → AreWaiting P w → Such held → AreWaiting P (moved_first w held)
  moved_are w [] all held = all
  moved_are w (l ∷ ls) all held = (one_more w.queue.queued l all.0 held.0, held.1)

  given_are : (w : WaitingLines) (held : List (List ℕ)) → AreWaiting P w → Such held → AreWaiting P (without_first w held)
  given_are w [] all held = all
  given_are w (l ∷ ls) all held = (all.0, held.1)

  refused_are : (refusal : Refusal) (w : WaitingLines) → AreWaiting P w → AreWaiting P (refused_admit refusal w)
  refused_are Closed w all = given_are w w.held all all.1
  refused_are refusal w all = all

  admitted_are : (reply : Reply) (w : WaitingLines) → AreWaiting P w → AreWaiting P (after_admit reply w)
  admitted_are Done w all = moved_are w w.held all all.1
  admitted_are (Refused refusal) w all = refused_are refusal w all
  admitted_are reply w all = all

  shut_are : (reply : Reply) (w : WaitingLines) → AreWaiting P w → AreWaiting P (after_shutdown reply w)
  shut_are Done w all = (either_are (takes_mark w.queue) (marked w.queue) w.queue all.0 all.0, all.1)
  shut_are reply w all = all

  -- what comes to a sink that such lines alone come to: such lines wait then, and are handed over
  parted : (one two : List (At × PlainLine)) → AreRun P (one ++ two) → AreRun P one × AreRun P two
  parted [] two all = (tt, all)
  parted (x ∷ xs) two all = let rest = parted xs two all.1 in ((all.0, rest.0), rest.1)

  record Turned (t : SinkTurn) (later : List SinkTurn) (w : WaitingLines) : Type 0 where
    pub wait : AreWaiting P (waits_after t w)
    pub hand : AreHanded P (handed_by t w)
    pub come : AreRun P (came_in later)

  turned : (t : SinkTurn) (later : List SinkTurn) (w : WaitingLines) → AreRun P (came_in (t ∷ later)) → AreWaiting P w →
      Turned t later w
  turned (Came run) later w come all =
      let each = parted run (came_in later) come in
      record { wait = all_settled run w each.0 all; hand = tt; come = each.1 }
  turned (Asked (Work k m) reply) later w come all = record {
    wait = worked_are (is_moment m) k w all;
    hand = worked_hand (is_moment m) k m w all;
    come = come;
  }
  turned (Asked Admit reply) later w come all = record { wait = admitted_are reply w all; hand = tt; come = come }
  turned (Asked Shutdown reply) later w come all = record { wait = shut_are reply w all; hand = tt; come = come }

  pub waits_are : (ts : List SinkTurn) (w : WaitingLines) → AreRun P (came_in ts) → AreWaiting P w → AreWaiting P (waits_all ts w)
  waits_are [] w come all = all
  waits_are (t ∷ ts) w come all = let now = turned t ts w come all in waits_are ts (waits_after t w) now.come now.wait

  pub hands_are : (ts : List SinkTurn) (w : WaitingLines) → AreRun P (came_in ts) → AreWaiting P w →
      AreHanded P (handed_all ts w)
  hands_are [] w come all = tt
  hands_are (t ∷ ts) w come all =
      let now = turned t ts w come all in
      All-append _ (handed_by t w) (handed_all ts (waits_after t w)) now.hand (hands_are ts (waits_after t w) now.come now.wait)
