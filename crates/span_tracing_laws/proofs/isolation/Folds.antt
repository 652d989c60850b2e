-- What a run makes of an output is a fold over what comes to it.
use Rattle.std.proofs.Common.{◌≡◌, ◌∙◌, subst, inl, inr, ◌==◌, ℕ, zero, suc, Bool, true, false, if◌then◌else◌, List, [], ◌∷◌, ◌++◌}
use Rattle.std.proofs.Common.{Option, Some, None}
use Rattle.std.proofs.Common.{slice_get, refl, sym, ap}
use Rattle.std.specs.Option.{option_map}
use Rattle.std.proofs.lemmas.Bool.{cases_eq, eq-eqb, ne_eqb}
use Rattle.std.proofs.lemmas.List.{append-nil, append_assoc}
use Rattle.std.proofs.lemmas.Option.{slice_get-map}
use Rattle.tracing_core_moments.specs.declared.at.At.{At}
use Rattle.event_formatter_text.specs.declared.format_fields.FormatFields.{Ghosts}
use Rattle.event_formatter_text.specs.declared.makers.route.Route.{Route}
use Rattle.span_tracing_outputs.specs.OutputFolds.{Fates, Numbered, outs_told}
use Rattle.span_tracing_outputs.specs.OutputMachines.{Fated, Heard, PlainLine, PlainOut, out_run, rested, with_fates}
use Rattle.span_tracing_outputs.specs.OutputNotices.{heards}
use Rattle.span_tracing_outputs.specs.OutputSettings.{changed_at, out_set, outs_set}
use Rattle.span_tracing_outputs.specs.TraceFollows.{at_rest, lines_offered}
use Rattle.span_tracing_outputs.specs.sinks.Routed.{Routed, sent_to}
use Rattle.span_tracing_outputs.specs.sinks.Runs.{lines_at}
use Rattle.span_tracing_outputs.specs.sinks.SinkCalls.{sink_place}
use Rattle.span_tracing_outputs.specs.sinks.SinkTurns.{Offered, SinkTurn, asked_if, is_there, run_or_none, turn_for, turns_for}
use Rattle.span_tracing_outputs.specs.declared.has_sinks.SinkPlace.{SinkPlace}
use Rattle.span_tracing_skeleton.specs.Looking.{output_in}
use Rattle.span_tracing_skeleton.specs.declared.call.Reply.{Reply}
use Rattle.span_tracing_skeleton.specs.declared.queue_call.QueueCall.{QueueCall}
use Rattle.span_tracing_skeleton.specs.declared.setting.OutputPlace.{OutputPlace}
use Rattle.span_tracing_laws.specs.isolation.OutputTurns.{Calls, Changes, Hears, OutputTurn, calls_at, calls_by, calls_if, came_some}
use Rattle.span_tracing_laws.specs.isolation.OutputTurns.{changes_by, changes_if, comings, hears_by, hears_some, machine_after}
use Rattle.span_tracing_laws.specs.isolation.OutputTurns.{machine_heard, machine_lines, machine_run, machine_sends, run_brings, turn_brings}
use Rattle.span_tracing_laws.specs.runs.Runs.{Drove, Plain, Starved, StepWithMask, Waited, Went, called_at, called_if, lines_left}
use Rattle.span_tracing_laws.specs.runs.Runs.{lines_of, none_for, outs_left}
use Rattle.span_tracing_laws.specs.runs.Runs.{plain_after, plain_run, stack_turn, turn_lines, turns_of}
use Rattle.span_tracing_laws.specs.runs.StepNotices.{Told, told_of, told_to}
use Rattle.span_tracing_laws.specs.runs.StepSettings.{OutputSetting, outs_with, setting_of}
use Rattle.span_tracing_laws.specs.starved.StarvedCounts.{fated_by, list_at, run_fated, turn_fated}
use Rattle.span_tracing_laws.proofs.starved.WholeFates.{AllWhole, split_whole, with_whole}
use Rattle.span_tracing_laws.proofs.starved.WholeRuns.{both, fold, joined_at, offered_at, told_at}

-- a change at a place, seen there and elsewhere
changed_there : {A : Type 0} (place : ℕ) (f : A → A) (xs : List A) (x : A) → slice_get xs place ≡ Some x →
    slice_get (changed_at place f xs) place ≡ Some (f x)
changed_there place f [] x is = absurd (cc)
changed_there zero f (y ∷ ys) x is = ap (option_map f) is
changed_there (suc place) f (y ∷ ys) x is = changed_there place f ys x is

changed_apart : {A : Type 0} (at place : ℕ) (f : A → A) (xs : List A) → (at ≡ place → ⊥) →
    slice_get (changed_at at f xs) place ≡ slice_get xs place
changed_apart at place f [] apart = refl
changed_apart zero zero f (y ∷ ys) apart = absurd (apart refl)
changed_apart zero (suc place) f (y ∷ ys) apart = refl
changed_apart (suc at) zero f (y ∷ ys) apart = refl
changed_apart (suc at) (suc place) f (y ∷ ys) apart = changed_apart at place f ys (λ e. apart (ap suc e))

changed_here : {A : Type 0} (at place : ℕ) (f : A → A) (xs : List A) (x : A) → slice_get xs place ≡ Some x →
    slice_get (changed_at at f xs) place ≡ Some (if at == place then f x else x)
changed_here at place f xs x is = elim (cases_eq at place) [
  | inl same ↦ rw (eq-eqb at place same)
      (ap (λ (k : ℕ). slice_get (changed_at k f xs) place) same ∙ changed_there place f xs x is)
  | inr apart ↦ rw (ne_eqb at place apart) (changed_apart at place f xs apart ∙ is)
]

came_append : (lines : List (At × PlainLine)) (ts later : List SinkTurn) → came_some lines (ts ++ later) ≡ came_some lines ts ++ later
came_append [] ts later = refl
came_append (line ∷ lines) ts later = refl

asked_append : (b : Bool) (call : QueueCall) (reply : Reply) (ts later : List SinkTurn) →
    asked_if b call reply (ts ++ later) ≡ asked_if b call reply ts ++ later
asked_append true call reply ts later = refl
asked_append false call reply ts later = refl

comings_asked : (b : Bool) (call : QueueCall) (reply : Reply) (later : List SinkTurn) →
    comings (asked_if b call reply later) ≡ asked_if b call reply (comings later)
comings_asked true call reply later = refl
comings_asked false call reply later = refl

none_here : {N : Type 0} (outs : List (Numbered N)) (o : Numbered N) (place : ℕ) → slice_get outs place ≡ Some o →
    slice_get (none_for outs) place ≡ Some []
none_here {N} outs o place is =
    slice_get-map (λ (o : Numbered N). []) outs place ∙ ap (option_map (λ (o : Numbered N). [])) is

module _ {N : Type 0} (n : Ghosts N) where
  rest_same : (o : PlainOut N) → o.lines ≡ [] → rested o ≡ o
  rest_same o none = ap (λ (lines : List PlainLine). record o { lines = lines }) (sym none)

  run_append : (o : PlainOut N) (xs ys : List OutputTurn) → machine_run n o (xs ++ ys) ≡ machine_run n (machine_run n o xs) ys
  run_append o [] ys = refl
  run_append o (x ∷ xs) ys = run_append (machine_after n o x) xs ys

  lines_append : (o : PlainOut N) (xs ys : List OutputTurn) →
      machine_lines n o (xs ++ ys) ≡ machine_lines n o xs ++ machine_lines n (machine_run n o xs) ys
  lines_append o [] ys = refl
  lines_append o (Changes setting ∷ xs) ys = lines_append (machine_after n o (Changes setting)) xs ys
  lines_append o (Hears at hs ∷ xs) ys =
      let first = lines_at at (machine_heard n o hs).lines in
      let next = machine_after n o (Hears at hs) in
      ap (λ (lines : List (At × PlainLine)). first ++ lines) (lines_append next xs ys)
      ∙ sym (append_assoc first (machine_lines n next xs) (machine_lines n (machine_run n next xs) ys))
  lines_append o (Calls sink call reply ∷ xs) ys = lines_append o xs ys

  sends_append : (route : Route) (number : ℕ) (o : PlainOut N) (xs ys : List OutputTurn) →
      machine_sends n route number o (xs ++ ys) ≡
      machine_sends n route number o xs ++ machine_sends n route number (machine_run n o xs) ys
  sends_append route number o [] ys = refl
  sends_append route number o (Changes setting ∷ xs) ys = sends_append route number (machine_after n o (Changes setting)) xs ys
  sends_append route number o (Hears at hs ∷ xs) ys =
      let first = sent_to route number (lines_at at (machine_heard n o hs).lines) in
      let next = machine_after n o (Hears at hs) in
      ap (came_some first) (sends_append route number next xs ys)
      ∙ came_append first (machine_sends n route number next xs) (machine_sends n route number (machine_run n next xs) ys)
  sends_append route number o (Calls sink call reply ∷ xs) ys =
      ap (asked_if (sink == number) call reply) (sends_append route number o xs ys)
      ∙ asked_append (sink == number) call reply (machine_sends n route number o xs)
      (machine_sends n route number (machine_run n o xs) ys)

  pub rests : (o : PlainOut N) (xs : List OutputTurn) → o.lines ≡ [] → (machine_run n o xs).lines ≡ []
  rests o [] none = none
  rests o (Changes setting ∷ xs) none = rests (machine_after n o (Changes setting)) xs none
  rests o (Hears at hs ∷ xs) none = rests (machine_after n o (Hears at hs)) xs refl
  rests o (Calls sink call reply ∷ xs) none = rests o xs none

  -- an output that hears notices in one step
  heard_out : (at : At) (hs : List Heard) (o : PlainOut N) → o.lines ≡ [] →
      rested (machine_heard n o hs) ≡ machine_run n o (hears_some at hs)
  heard_out at [] o none = rest_same o none
  heard_out at (x ∷ hs) o none = refl

  heard_lines : (at : At) (hs : List Heard) (o : PlainOut N) → o.lines ≡ [] →
      lines_at at (machine_heard n o hs).lines ≡ machine_lines n o (hears_some at hs)
  heard_lines at [] o none = ap (lines_at at) none
  heard_lines at (x ∷ hs) o none = sym (append-nil (lines_at at (machine_heard n o (x ∷ hs)).lines))

  heard_sends : (route : Route) (number : ℕ) (at : At) (hs : List Heard) (o : PlainOut N) (later : List SinkTurn) → o.lines ≡ [] →
      came_some (sent_to route number (lines_at at (machine_heard n o hs).lines)) later ≡
      machine_sends n route number o (hears_some at hs) ++ later
  heard_sends route number at [] o later none =
      ap (λ (lines : List PlainLine). came_some (sent_to route number (lines_at at lines)) later) none
  heard_sends route number at (x ∷ hs) o later none =
      came_append (sent_to route number (lines_at at (machine_heard n o (x ∷ hs)).lines)) [] later

  module _ {S : Type 0} (sinks : List (Routed S)) (stack place : ℕ) where
    abbrev Outs : Type 0
    Outs = List (Numbered N)

    abbrev after_all : Numbered N → List OutputTurn → Numbered N
    after_all o xs = record o { out = machine_run n o.out xs }

    set_here : (c : Option OutputSetting) (outs : Outs) (o : Numbered N) → slice_get outs place ≡ Some o →
        slice_get (outs_with stack c outs) place ≡ Some (after_all o (changes_by stack place c))
    set_here None outs o is = is
    set_here (Some c) outs o is = by_if (c.at.stack == stack)
      where
        here : (b : Bool) → (if b then out_set c.setting o else o) ≡ after_all o (changes_if b c.setting)
        here true = refl
        here false = refl

        by_if : (b : Bool) → slice_get (if b then outs_set c.at.place c.setting outs else outs) place ≡
            Some (after_all o (if b then changes_if (c.at.place == place) c.setting else []))
        by_if true = changed_here c.at.place place (out_set c.setting) outs o is ∙ ap Some (here (c.at.place == place))
        by_if false = is

    -- what a turn leaves of the output, hands on, and brings to the sink with a number
    record TurnFolds (outs : Outs) (lines : Option (List (At × PlainLine))) (o : Numbered N) (xs : List OutputTurn) : Type 0 where
      pub out : slice_get outs place ≡ Some (after_all o xs)
      pub its : lines ≡ Some (machine_lines n o.out xs)
      pub sends : (route : Route) (number : ℕ) (later : List SinkTurn) →
          came_some (sent_to route number (run_or_none lines)) later ≡ machine_sends n route number o.out xs ++ later

    told_folds : (told : Option (Told N)) (fates : Fates) (outs : Outs) (o : Numbered N) → slice_get outs place ≡ Some o →
        o.out.lines ≡ [] → AllWhole (fated_by told outs fates place) →
        TurnFolds (outs_left n told outs fates) (slice_get (lines_left n told outs fates) place) o (hears_by told outs place)
    told_folds None fates outs o is none whole = record {
      out = is;
      its = none_here outs o place is;
      sends = λ route number later. ap
          (λ (r : Option (List (At × PlainLine))). came_some (sent_to route number (run_or_none r)) later) (none_here outs o place is);
    }
    told_folds (Some told) fates outs o is none whole =
        let hs = heards (list_at (told.lists outs) place) in
        let all = outs_told n (told.lists outs) outs fates in
        let told_is : slice_get all place ≡ Some (record o { out = machine_heard n o.out hs }) =
        told_at n (told.lists outs) outs fates place
        ∙ ap (option_map (fold n (with_fates hs (list_at fates place)))) is
        ∙ ap (λ (ts : List Fated). Some (record o { out = out_run n o.out ts })) (with_whole hs (list_at fates place) whole) in
        let lines_are : slice_get (lines_left n (Some told) outs fates) place ≡ Some (lines_at told.at (machine_heard n o.out hs).lines) =
        slice_get-map (lines_at told.at) (lines_offered all) place
        ∙ ap (option_map (lines_at told.at))
        (offered_at all place ∙ ap (option_map (λ (x : Numbered N). x.out.lines)) told_is) in
        record {
          out = slice_get-map at_rest all place ∙ ap (option_map at_rest) told_is
              ∙ ap (λ (m : PlainOut N). Some (record o { out = m })) (heard_out told.at hs o.out none);
          its = lines_are ∙ ap Some (heard_lines told.at hs o.out none);
          sends = λ route number later.
              ap (λ (r : Option (List (At × PlainLine))). came_some (sent_to route number (run_or_none r)) later) lines_are
              ∙ heard_sends route number told.at hs o.out later none;
        }

    nothing_sent : (outs : Outs) (o : Numbered N) (route : Route) (number : ℕ) (later : List SinkTurn) → slice_get outs place ≡ Some o →
        came_some (sent_to route number (run_or_none (slice_get (none_for outs) place))) (comings later) ≡ comings later
    nothing_sent outs o route number later is =
        ap (λ (r : Option (List (At × PlainLine))). came_some (sent_to route number (run_or_none r)) (comings later))
        (none_here outs o place is)

    -- of a call on a queue
    call_sends : (route : Route) (number : ℕ) (at : Option OutputPlace) (call : QueueCall) (reply : Reply) (outs : Outs) (o : Numbered N)
        (later : List SinkTurn) → slice_get outs place ≡ Some o →
        comings (turn_for sinks place number route (called_at at stack call reply (Offered (none_for outs))) later) ≡
        machine_sends n route number o.out (calls_by sinks stack place at call reply) ++ comings later
    call_sends route number at call reply outs o later is = by_at at
      where
        by_output : (b : Bool) (sink : ℕ) →
            comings (asked_if (if b then sink == number else false) call reply later) ≡
            machine_sends n route number o.out (calls_if b sink call reply) ++ comings later
        by_output true sink = comings_asked (sink == number) call reply later ∙ asked_append (sink == number) call reply [] (comings later)
        by_output false sink = refl

        by_place : (there : Option SinkPlace) →
            comings (asked_if (is_there there place number) call reply later) ≡
            machine_sends n route number o.out (calls_at there place call reply) ++ comings later
        by_place None = refl
        by_place (Some there) = by_output (there.output == place) there.sink

        by_stack : (b : Bool) (sink : ℕ) →
            comings (turn_for sinks place number route (called_if b sink call reply (Offered (none_for outs))) later) ≡
            machine_sends n route number o.out (if b then calls_at (sink_place sinks 0 sink) place call reply else []) ++ comings later
        by_stack true sink = by_place (sink_place sinks 0 sink)
        by_stack false sink = nothing_sent outs o route number later is

        by_at : (at : Option OutputPlace) →
            comings (turn_for sinks place number route (called_at at stack call reply (Offered (none_for outs))) later) ≡
            machine_sends n route number o.out (calls_by sinks stack place at call reply) ++ comings later
        by_at None = nothing_sent outs o route number later is
        by_at (Some at) = by_stack (at.stack == stack) at.place

    -- what a run leaves of the output, the lines that it offers, and what comes to its sinks
    pub record RunFolds (p : Plain N) (ts : List StepWithMask) (o : Numbered N) : Type 0 where
      pub out : slice_get ((plain_run n p ts).outs stack) place ≡ Some (after_all o (run_brings n sinks p ts stack place))
      pub lines : slice_get (lines_of n p ts stack) place ≡ Some (machine_lines n o.out (run_brings n sinks p ts stack place))
      pub sends : (route : Route) (number : ℕ) → comings (turns_for sinks place number route (turns_of n p ts stack)) ≡
          machine_sends n route number o.out (run_brings n sinks p ts stack place)

    -- of a turn and a run behind it
    turn_then : (p : Plain N) (t : StepWithMask) (ts : List StepWithMask) (o : Numbered N) →
        (xs : List OutputTurn) → turn_brings n sinks p t stack place ≡ xs →
        slice_get ((plain_after n p t).outs stack) place ≡ Some (after_all o xs) →
        slice_get (turn_lines n p t stack) place ≡ Some (machine_lines n o.out xs) →
        ((route : Route) (number : ℕ) (later : List SinkTurn) →
        comings (turn_for sinks place number route (stack_turn n p t stack) later) ≡
        machine_sends n route number o.out xs ++ comings later) →
        RunFolds (plain_after n p t) ts (after_all o xs) → RunFolds p (t ∷ ts) o
    turn_then p t ts o xs same out its sends rest =
        let next = plain_after n p t in
        let ys = run_brings n sinks next ts stack place in
        let brings : xs ++ ys ≡ run_brings n sinks p (t ∷ ts) stack place = ap (λ (zs : List OutputTurn). zs ++ ys) (sym same) in
        record {
          out = rest.out ∙ ap (λ (m : PlainOut N). Some (record o { out = m }))
              (sym (run_append o.out xs ys) ∙ ap (machine_run n o.out) brings);
          lines = joined_at (turn_lines n p t stack) (lines_of n next ts stack) place
              ∙ ap (λ (r : Option (List (At × PlainLine))). both r (slice_get (lines_of n next ts stack) place)) its
              ∙ ap (both (Some (machine_lines n o.out xs))) rest.lines
              ∙ ap Some (sym (lines_append o.out xs ys) ∙ ap (machine_lines n o.out) brings);
          sends = λ route number. sends route number (turns_for sinks place number route (turns_of n next ts stack))
              ∙ ap (λ (zs : List SinkTurn). machine_sends n route number o.out xs ++ zs) (rest.sends route number)
              ∙ sym (sends_append route number o.out xs ys) ∙ ap (machine_sends n route number o.out) brings;
        }

    -- a setting hands nothing on
    changes_lines : (c : Option OutputSetting) (o : PlainOut N) → machine_lines n o (changes_by stack place c) ≡ []
    changes_lines None o = refl
    changes_lines (Some c) o = by_stack (c.at.stack == stack)
      where
        by_place : (b : Bool) → machine_lines n o (changes_if b c.setting) ≡ []
        by_place true = refl
        by_place false = refl

        by_stack : (b : Bool) → machine_lines n o (if b then changes_if (c.at.place == place) c.setting else []) ≡ []
        by_stack true = by_place (c.at.place == place)
        by_stack false = refl

    changes_sends : (c : Option OutputSetting) (o : PlainOut N) (route : Route) (number : ℕ) →
        machine_sends n route number o (changes_by stack place c) ≡ []
    changes_sends None o route number = refl
    changes_sends (Some c) o route number = by_stack (c.at.stack == stack)
      where
        by_place : (b : Bool) → machine_sends n route number o (changes_if b c.setting) ≡ []
        by_place true = refl
        by_place false = refl

        by_stack : (b : Bool) →
            machine_sends n route number o (if b then changes_if (c.at.place == place) c.setting else []) ≡ []
        by_stack true = by_place (c.at.place == place)
        by_stack false = refl

    -- a call on a queue leaves the output as it is
    calls_still : (at : Option OutputPlace) (call : QueueCall) (reply : Reply) (o : Numbered N) →
        (after_all o (calls_by sinks stack place at call reply) ≡ o) ×
        (machine_lines n o.out (calls_by sinks stack place at call reply) ≡ [])
    calls_still None call reply o = (refl, refl)
    calls_still (Some at) call reply o = by_stack (at.stack == stack)
      where
        by_output : (b : Bool) (sink : ℕ) → (after_all o (calls_if b sink call reply) ≡ o) ×
            (machine_lines n o.out (calls_if b sink call reply) ≡ [])
        by_output true sink = (refl, refl)
        by_output false sink = (refl, refl)

        by_place : (there : Option SinkPlace) → (after_all o (calls_at there place call reply) ≡ o) ×
            (machine_lines n o.out (calls_at there place call reply) ≡ [])
        by_place None = (refl, refl)
        by_place (Some there) = by_output (there.output == place) there.sink

        by_stack : (b : Bool) →
            (after_all o (if b then calls_at (sink_place sinks 0 at.place) place call reply else []) ≡ o) ×
            (machine_lines n o.out (if b then calls_at (sink_place sinks 0 at.place) place call reply else []) ≡ [])
        by_stack true = by_place (sink_place sinks 0 at.place)
        by_stack false = (refl, refl)

    pub run_folds : (p : Plain N) (ts : List StepWithMask) (o : Numbered N) → slice_get (p.outs stack) place ≡ Some o → o.out.lines ≡ [] →
        AllWhole (run_fated n p ts stack place) → RunFolds p ts o
    run_folds p [] o is none whole = record {
      out = is;
      lines = none_here (p.outs stack) o place is;
      sends = λ route number. refl;
    }
    run_folds p (Went step a fates ∷ ts) o is none whole =
        let t = Went step a fates in
        let next = plain_after n p t in
        let wholes = split_whole (turn_fated p t stack place) (run_fated n next ts stack place) whole in
        let set = setting_of p.skeleton step in
        let told = told_to N stack (told_of N p.skeleton step a) in
        let outs = outs_with stack set (p.outs stack) in
        let first = changes_by stack place set in
        let second = hears_by told outs place in
        let mid = after_all o first in
        let one = told_folds told fates outs mid (set_here set (p.outs stack) o is) (rests o.out first none) wholes.0 in
        let last = after_all o (first ++ second) in
        let same : after_all mid second ≡ last = ap (λ (m : PlainOut N). record o { out = m }) (sym (run_append o.out first second)) in
        let is_last : slice_get (next.outs stack) place ≡ Some last = one.out ∙ ap Some same in
        turn_then p t ts o (first ++ second) refl is_last
        (one.its ∙ ap (λ (lines : List (At × PlainLine)). Some (lines ++ machine_lines n mid.out second)) (sym (changes_lines set o.out))
        ∙ ap Some (sym (lines_append o.out first second)))
        (λ route number later. one.sends route number (comings later)
        ∙ ap (λ (zs : List SinkTurn). (zs ++ machine_sends n route number mid.out second) ++ comings later)
        (sym (changes_sends set o.out route number))
        ∙ ap (λ (zs : List SinkTurn). zs ++ comings later) (sym (sends_append route number o.out first second)))
        (run_folds next ts last is_last (rests o.out (first ++ second) none) wholes.1)
    run_folds p (Drove ask answer ∷ ts) o is none whole =
        let at = output_in p.skeleton.sinks 0 ask.sink in
        let xs = calls_by sinks stack place at ask.call answer in
        let same = calls_still at ask.call answer o in
        turn_then p (Drove ask answer) ts o xs refl (is ∙ ap Some (sym same.0)) (none_here (p.outs stack) o place is ∙ ap Some (sym same.1))
        (λ route number later. call_sends route number at ask.call answer (p.outs stack) o later is)
        (subst (RunFolds p ts) (sym same.0) (run_folds p ts o is none whole))
    run_folds p (Starved step ∷ ts) o is none whole = turn_then p (Starved step) ts o [] refl is (none_here (p.outs stack) o place is)
        (λ route number later. nothing_sent (p.outs stack) o route number later is) (run_folds p ts o is none whole)
    run_folds p (Waited step ∷ ts) o is none whole = turn_then p (Waited step) ts o [] refl is (none_here (p.outs stack) o place is)
        (λ route number later. nothing_sent (p.outs stack) o route number later is) (run_folds p ts o is none whole)
