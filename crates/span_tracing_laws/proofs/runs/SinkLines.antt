-- The lines that come to a sink in a run are those of its output that the route sends there.
use Rattle.std.proofs.Common.{◌≡◌, ◌∙◌, ◌==◌, ℕ, zero, suc, Bool, true, false, if◌then◌else◌, List, [], ◌∷◌, ◌++◌, length, Option}
use Rattle.std.proofs.Common.{Some, None, refl, sym, ap}
use Rattle.std.specs.Prelude.{slice_get}
use Rattle.tracing_core_moments.specs.declared.at.At.{At}
use Rattle.event_formatter_text.specs.declared.format_fields.FormatFields.{Ghosts}
use Rattle.event_formatter_text.specs.declared.makers.route.Route.{Route}
use Rattle.span_tracing_skeleton.specs.Looking.{output_in}
use Rattle.span_tracing_skeleton.specs.declared.call.Reply.{Reply}
use Rattle.span_tracing_skeleton.specs.declared.queue_call.QueueCall.{QueueCall}
use Rattle.span_tracing_skeleton.specs.declared.setting.OutputPlace.{OutputPlace}
use Rattle.span_tracing_outputs.specs.OutputFolds.{Fates, Numbered, outs_told}
use Rattle.span_tracing_outputs.specs.OutputMachines.{PlainLine}
use Rattle.span_tracing_outputs.specs.OutputSettings.{out_set, outs_set}
use Rattle.span_tracing_outputs.specs.TraceFollows.{at_rest, lines_offered}
use Rattle.span_tracing_outputs.specs.sinks.OutputRuns.{joined}
use Rattle.span_tracing_outputs.specs.sinks.Routed.{Routed, goes_to, sent_if, sent_to}
use Rattle.span_tracing_outputs.specs.sinks.SinkCalls.{sink_place}
use Rattle.span_tracing_outputs.specs.sinks.SinkTurns.{Offered, SinkTurn, asked_if, came_in, is_there, run_or_none, turn_for}
use Rattle.span_tracing_outputs.specs.sinks.SinkTurns.{turns_for}
use Rattle.span_tracing_outputs.proofs.OutputSettings.{count_set}
use Rattle.span_tracing_laws.specs.runs.Runs.{Drove, Plain, Starved, StepWithMask, Waited, Went, called_at, called_if, lines_left, lines_of}
use Rattle.span_tracing_laws.specs.runs.Runs.{none_for, outs_left, plain_after, stack_turn, turn_lines, turns_of}
use Rattle.span_tracing_laws.specs.runs.StepNotices.{Told, told_of, told_to}
use Rattle.span_tracing_laws.specs.runs.StepSettings.{OutputSetting, outs_with, setting_of}
use Rattle.span_tracing_laws.proofs.runs.Runs.{length_map, outs_count}

-- lists as long as one another
joined_count : (ones twos : List (List (At × PlainLine))) (count : ℕ) → length ones ≡ count → length twos ≡ count →
    length (joined ones twos) ≡ count
joined_count [] twos count a b = a
joined_count (x ∷ xs) [] count a b = b
joined_count (x ∷ xs) (y ∷ ys) zero a b = absurd (cc)
joined_count (x ∷ xs) (y ∷ ys) (suc count) a b =
    let first : length xs ≡ count = cc in
    let second : length ys ≡ count = cc in
    ap suc (joined_count xs ys count first second)

offered_count : {N : Type 0} (outs : List (Numbered N)) → length (lines_offered outs) ≡ length outs
offered_count [] = refl
offered_count (o ∷ outs) = ap suc (offered_count outs)

with_if_count : {N : Type 0} (b : Bool) (c : OutputSetting) (outs : List (Numbered N)) →
    length (if b then outs_set c.at.place c.setting outs else outs) ≡ length outs
with_if_count true c outs = count_set c.at.place (out_set c.setting) outs
with_if_count false c outs = refl

with_count : {N : Type 0} (stack : ℕ) (c : Option OutputSetting) (outs : List (Numbered N)) → length (outs_with stack c outs) ≡ length outs
with_count stack None outs = refl
with_count stack (Some c) outs = with_if_count (c.at.stack == stack) c outs

module _ {N : Type 0} (n : Ghosts N) where
  left_count : (told : Option (Told N)) (outs : List (Numbered N)) (fates : Fates) → length (lines_left n told outs fates) ≡ length outs
  left_count None outs fates = length_map _ outs
  left_count (Some told) outs fates =
      let later = outs_told n (told.lists outs) outs fates in
      length_map _ (lines_offered later) ∙ offered_count later ∙ outs_count n (told.lists outs) outs fates

  outs_left_count : (told : Option (Told N)) (outs : List (Numbered N)) (fates : Fates) → length (outs_left n told outs fates) ≡ length outs
  outs_left_count None outs fates = refl
  outs_left_count (Some told) outs fates =
      length_map at_rest (outs_told n (told.lists outs) outs fates) ∙ outs_count n (told.lists outs) outs fates

  turn_count : (p : Plain N) (t : StepWithMask) (stack : ℕ) → length (turn_lines n p t stack) ≡ length (p.outs stack)
  turn_count p (Went step a fates) stack =
      left_count (told_to N stack (told_of N p.skeleton step a)) (outs_with stack (setting_of p.skeleton step) (p.outs stack)) fates ∙
      with_count stack (setting_of p.skeleton step) (p.outs stack)
  turn_count p (Starved step) stack = length_map _ (p.outs stack)
  turn_count p (Waited step) stack = length_map _ (p.outs stack)
  turn_count p (Drove ask answer) stack = length_map _ (p.outs stack)

  after_count : (p : Plain N) (t : StepWithMask) (stack : ℕ) → length ((plain_after n p t).outs stack) ≡ length (p.outs stack)
  after_count p (Went step a fates) stack =
      outs_left_count (told_to N stack (told_of N p.skeleton step a)) (outs_with stack (setting_of p.skeleton step) (p.outs stack)) fates ∙
      with_count stack (setting_of p.skeleton step) (p.outs stack)
  after_count p (Starved step) stack = refl
  after_count p (Waited step) stack = refl
  after_count p (Drove ask answer) stack = refl

  -- a run has lines for each output
  pub lines_count : (p : Plain N) (ts : List StepWithMask) (stack : ℕ) → length (lines_of n p ts stack) ≡ length (p.outs stack)
  lines_count p [] stack = length_map _ (p.outs stack)
  lines_count p (t ∷ ts) stack =
      joined_count (turn_lines n p t stack) (lines_of n (plain_after n p t) ts stack) (length (p.outs stack)) (turn_count p t stack)
      (lines_count (plain_after n p t) ts stack ∙ after_count p t stack)

  none_run : (outs : List (Numbered N)) (place : ℕ) (run : List (At × PlainLine)) → slice_get (none_for outs) place ≡ Some run → run ≡ []
  none_run [] place run is = absurd (cc)
  none_run (o ∷ outs) zero run is = cc
  none_run (o ∷ outs) (suc place) run is = none_run outs place run is

  -- the run at a place of two that are joined
  record Both (ones twos : List (List (At × PlainLine))) (place : ℕ) (run : List (At × PlainLine)) : Type 0 where
    pub one : List (At × PlainLine)
    pub two : List (At × PlainLine)
    pub first : slice_get ones place ≡ Some one
    pub second : slice_get twos place ≡ Some two
    pub is : run ≡ one ++ two

  joined_at : (ones twos : List (List (At × PlainLine))) (place : ℕ) (run : List (At × PlainLine)) →
      slice_get (joined ones twos) place ≡ Some run → Both ones twos place run
  joined_at [] twos place run at = absurd (cc)
  joined_at (x ∷ xs) [] place run at = absurd (cc)
  joined_at (x ∷ xs) (y ∷ ys) zero run at = record { one = x; two = y; first = refl; second = refl; is = cc }
  joined_at (x ∷ xs) (y ∷ ys) (suc place) run at =
      let both = joined_at xs ys place run at in
      record { one = both.one; two = both.two; first = both.first; second = both.second; is = both.is }

  sent_more : (b : Bool) (x : At × PlainLine) (ones twos : List (At × PlainLine)) → sent_if b x (ones ++ twos) ≡ sent_if b x ones ++ twos
  sent_more true x ones twos = refl
  sent_more false x ones twos = refl

  sent_joined : (route : Route) (number : ℕ) (ones twos : List (At × PlainLine)) →
      sent_to route number (ones ++ twos) ≡ sent_to route number ones ++ sent_to route number twos
  sent_joined route number [] twos = refl
  sent_joined route number (x ∷ xs) twos =
      ap (sent_if (goes_to route x.1.level number) x) (sent_joined route number xs twos) ∙
      sent_more (goes_to route x.1.level number) x (sent_to route number xs) (sent_to route number twos)

  module _ {S : Type 0} (sinks : List (Routed S)) (place number : ℕ) (route : Route) where
    offered_came : (runs : List (List (At × PlainLine))) (one : List (At × PlainLine)) (later : List SinkTurn) →
        slice_get runs place ≡ Some one →
        came_in (turn_for sinks place number route (Offered runs) later) ≡ sent_to route number one ++ came_in later
    offered_came runs one later at =
        ap (λ (o : Option (List (At × PlainLine))). sent_to route number (run_or_none o) ++ came_in later) at

    asked_came : (b : Bool) (call : QueueCall) (reply : Reply) (later : List SinkTurn) →
        came_in (asked_if b call reply later) ≡ came_in later
    asked_came true call reply later = refl
    asked_came false call reply later = refl

    called_came : (b : Bool) (at : ℕ) (call : QueueCall) (reply : Reply) (outs : List (Numbered N)) (one : List (At × PlainLine))
        (later : List SinkTurn) → slice_get (none_for outs) place ≡ Some one →
        came_in (turn_for sinks place number route (called_if b at call reply (Offered (none_for outs))) later) ≡
        sent_to route number one ++ came_in later
    called_came true at call reply outs one later is =
        asked_came (is_there (sink_place sinks 0 at) place number) call reply later ∙
        sym (ap (λ (run : List (At × PlainLine)). sent_to route number run ++ came_in later) (none_run outs place one is))
    called_came false at call reply outs one later is = offered_came (none_for outs) one later is

    drove_came : (o : Option OutputPlace) (stack : ℕ) (call : QueueCall) (reply : Reply) (outs : List (Numbered N))
        (one : List (At × PlainLine)) (later : List SinkTurn) → slice_get (none_for outs) place ≡ Some one →
        came_in (turn_for sinks place number route (called_at o stack call reply (Offered (none_for outs))) later) ≡
        sent_to route number one ++ came_in later
    drove_came None stack call reply outs one later is = offered_came (none_for outs) one later is
    drove_came (Some at) stack call reply outs one later is = called_came (at.stack == stack) at.place call reply outs one later is

    turn_came : (p : Plain N) (t : StepWithMask) (stack : ℕ) (one : List (At × PlainLine)) (later : List SinkTurn) →
        slice_get (turn_lines n p t stack) place ≡ Some one →
        came_in (turn_for sinks place number route (stack_turn n p t stack) later) ≡ sent_to route number one ++ came_in later
    turn_came p (Went step a fates) stack one later at = offered_came (turn_lines n p (Went step a fates) stack) one later at
    turn_came p (Starved step) stack one later at = offered_came (none_for (p.outs stack)) one later at
    turn_came p (Waited step) stack one later at = offered_came (none_for (p.outs stack)) one later at
    turn_came p (Drove ask answer) stack one later at =
        drove_came (output_in p.skeleton.sinks 0 ask.sink) stack ask.call answer (p.outs stack) one later at

    pub all_came : (p : Plain N) (ts : List StepWithMask) (stack : ℕ) (run : List (At × PlainLine)) →
        slice_get (lines_of n p ts stack) place ≡ Some run →
        came_in (turns_for sinks place number route (turns_of n p ts stack)) ≡ sent_to route number run
    all_came p [] stack run at =
        sym (ap (sent_to route number) (none_run (p.outs stack) place run at))
    all_came p (t ∷ ts) stack run at =
        let both = joined_at (turn_lines n p t stack) (lines_of n (plain_after n p t) ts stack) place run at in
        let later = turns_for sinks place number route (turns_of n (plain_after n p t) ts stack) in
        turn_came p t stack both.one later both.first ∙
        ap (λ (lines : List (At × PlainLine)). sent_to route number both.one ++ lines)
        (all_came (plain_after n p t) ts stack both.two both.second) ∙
        sym (ap (sent_to route number) both.is ∙ sent_joined route number both.one both.two)
