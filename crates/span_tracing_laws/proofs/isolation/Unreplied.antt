-- What comes to an output, but for what queues answer.
use Rattle.std.proofs.Common.{◌≡◌, ◌∙◌, ◌==◌, ℕ, Bool, true, false, List, [], ◌∷◌, ◌++◌, map, refl, sym, ap, subst}
use Rattle.std.specs.List.{AllByRecursion}
use Rattle.std.proofs.lemmas.List.{map-append}
use Rattle.tracing_core_moments.specs.declared.at.At.{At}
use Rattle.span_registry_layers_store.specs.Registries.{RegistryValue}
use Rattle.event_formatter_text.specs.declared.format_fields.FormatFields.{Ghosts}
use Rattle.event_formatter_text.specs.declared.makers.route.Route.{Route}
use Rattle.span_tracing_outputs.specs.OutputMachines.{Heard, Made, PlainLine, PlainOut, Recorded}
use Rattle.span_tracing_outputs.specs.OutputNotices.{close_told, enter_told, event_told, exit_told, heards, span_told}
use Rattle.span_tracing_outputs.specs.sinks.Routed.{sent_to}
use Rattle.span_tracing_outputs.specs.sinks.Runs.{lines_at}
use Rattle.span_tracing_outputs.specs.sinks.SinkTurns.{Asked, SinkTurn, asked_if, came_in}
use Rattle.span_tracing_skeleton.specs.declared.call.Reply.{Reply}
use Rattle.span_tracing_skeleton.specs.declared.call.Reply.TheVariants.{Done, Refused}
use Rattle.span_tracing_skeleton.specs.declared.queue_call.QueueCall.{QueueCall}
use Rattle.span_tracing_skeleton.specs.declared.queue_call.QueueCall.TheVariants.{Admit, Shutdown, Work}
use Rattle.span_tracing_skeleton.specs.declared.refusal.Refusal.TheVariants.{OutOfMemory}
use Rattle.span_tracing_skeleton.specs.declared.setting.Setting.{Setting}
use Rattle.span_tracing_laws.specs.isolation.FaultyFolders.{AllComeAlike, ComeAlike}
use Rattle.span_tracing_laws.specs.isolation.OutputTurns.{Calls, Changes, FindsMemory, Hears, OutputTurn, came_some, hears_some}
use Rattle.span_tracing_laws.specs.isolation.OutputTurns.{machine_after, machine_heard, machine_lines, machine_run, machine_sends, unreplied}
use Rattle.span_tracing_laws.specs.isolation.OwnRequests.{Asks, CloseMade, Comes, EntryMade, EventMade, ExitMade, HandleMade, OwnRequest}
use Rattle.span_tracing_laws.specs.isolation.OwnRequests.{OwnTurn, SpanMade, ValuesMade, own_after, own_brings, own_hears, own_made, seen}

-- the lines that come to a sink, whether or not the turns without one are left out
pub came_lines : (lines : List (At × PlainLine)) (later : List SinkTurn) → came_in (came_some lines later) ≡ lines ++ came_in later
came_lines [] later = refl
came_lines (line ∷ lines) later = refl

came_asked : (b : Bool) (call : QueueCall) (reply : Reply) (ts : List SinkTurn) → came_in (asked_if b call reply ts) ≡ came_in ts
came_asked true call reply ts = refl
came_asked false call reply ts = refl

-- what an output hears, none of which a queue answered
some_heard : (at : At) (hs : List Heard) → map unreplied (hears_some at hs) ≡ hears_some at hs
some_heard at [] = refl
some_heard at (h ∷ hs) = refl

own_heard : (x : RegistryValue) (r : OwnRequest) → map unreplied (own_hears x r) ≡ own_hears x r
own_heard x (EventMade at e) = some_heard at (heards (event_told x at e true 0))
own_heard x (SpanMade at a passed) = some_heard at (heards (span_told (own_made x at a passed) at (Made a) x.next_id 0))
own_heard x (ValuesMade at id values) = some_heard at (heards (span_told x at (Recorded values) id 0))
own_heard x (EntryMade at id) = some_heard at (heards (enter_told x at id 0))
own_heard x (ExitMade at id) = some_heard at (heards (exit_told x at id 0))
own_heard x (HandleMade id) = refl
own_heard x (CloseMade at id) = some_heard at (heards (close_told x at id 0))

pub brings_seen : (x : RegistryValue) (ts : List OwnTurn) → map unreplied (own_brings x ts) ≡ own_brings x (map seen ts)
brings_seen x [] = refl
brings_seen x (Asks r ∷ ts) =
    map-append unreplied (own_hears x r) (own_brings (own_after x r) ts)
    ∙ ap (λ (xs : List OutputTurn). xs ++ map unreplied (own_brings (own_after x r) ts)) (own_heard x r)
    ∙ ap (λ (xs : List OutputTurn). own_hears x r ++ xs) (brings_seen (own_after x r) ts)
brings_seen x (Comes t ∷ ts) = ap (λ (xs : List OutputTurn). unreplied t ∷ xs) (brings_seen x ts)

module _ {N : Type 0} (n : Ghosts N) where
  pub run_unreplied : (o : PlainOut N) (xs : List OutputTurn) → machine_run n o (map unreplied xs) ≡ machine_run n o xs
  run_unreplied o [] = refl
  run_unreplied o (Changes setting ∷ xs) = run_unreplied (machine_after n o (Changes setting)) xs
  run_unreplied o (Hears at hs ∷ xs) = run_unreplied (machine_after n o (Hears at hs)) xs
  run_unreplied o (Calls sink call reply ∷ xs) = run_unreplied o xs

  pub lines_unreplied : (o : PlainOut N) (xs : List OutputTurn) → machine_lines n o (map unreplied xs) ≡ machine_lines n o xs
  lines_unreplied o [] = refl
  lines_unreplied o (Changes setting ∷ xs) = lines_unreplied (machine_after n o (Changes setting)) xs
  lines_unreplied o (Hears at hs ∷ xs) =
      ap (λ (lines : List (At × PlainLine)). lines_at at (machine_heard n o hs).lines ++ lines)
      (lines_unreplied (machine_after n o (Hears at hs)) xs)
  lines_unreplied o (Calls sink call reply ∷ xs) = lines_unreplied o xs

  module _ (route : Route) (number : ℕ) where
    pub came_unreplied : (o : PlainOut N) (xs : List OutputTurn) →
        came_in (machine_sends n route number o (map unreplied xs)) ≡ came_in (machine_sends n route number o xs)
    came_unreplied o [] = refl
    came_unreplied o (Changes setting ∷ xs) = came_unreplied (machine_after n o (Changes setting)) xs
    came_unreplied o (Hears at hs ∷ xs) =
        let lines = sent_to route number (lines_at at (machine_heard n o hs).lines) in
        let next = machine_after n o (Hears at hs) in
        came_lines lines (machine_sends n route number next (map unreplied xs))
        ∙ ap (λ (later : List (At × PlainLine)). lines ++ later) (came_unreplied next xs)
        ∙ sym (came_lines lines (machine_sends n route number next xs))
    came_unreplied o (Calls sink call reply ∷ xs) =
        came_asked (sink == number) call Done (machine_sends n route number o (map unreplied xs))
        ∙ came_unreplied o xs
        ∙ sym (came_asked (sink == number) call reply (machine_sends n route number o xs))

    -- the same lines, or the same call that finds memory
    came_alike : (lines : List (At × PlainLine)) (ts us : List SinkTurn) → AllComeAlike ts us →
        AllComeAlike (came_some lines ts) (came_some lines us)
    came_alike [] ts us alike = alike
    came_alike (line ∷ lines) ts us alike = (refl, alike)

    call_alike : (call : QueueCall) (reply answer : Reply) → (reply ≡ Refused OutOfMemory → ⊥) → (answer ≡ Refused OutOfMemory → ⊥) →
        ComeAlike (Asked call reply) (Asked call answer)
    call_alike (Work k m) reply answer finds also = (refl, refl)
    call_alike Admit reply answer finds also = (finds, also)
    call_alike Shutdown reply answer finds also = tt

    asked_alike : (b : Bool) (call : QueueCall) (reply answer : Reply) (ts us : List SinkTurn) →
        ComeAlike (Asked call reply) (Asked call answer) → AllComeAlike ts us →
        AllComeAlike (asked_if b call reply ts) (asked_if b call answer us)
    asked_alike true call reply answer ts us one alike = (one, alike)
    asked_alike false call reply answer ts us one alike = alike

    pub sends_come : (o : PlainOut N) (xs ys : List OutputTurn) → map unreplied ys ≡ map unreplied xs →
        AllByRecursion FindsMemory xs → AllByRecursion FindsMemory ys →
        AllComeAlike (machine_sends n route number o xs) (machine_sends n route number o ys)
    sends_come o [] [] same finds also = tt
    sends_come o (Changes setting ∷ xs) (Changes changed ∷ ys) same finds also =
        let one : changed ≡ setting = cc in
        let rest : map unreplied ys ≡ map unreplied xs = cc in
        subst (λ (it : Setting). AllComeAlike (machine_sends n route number (machine_after n o (Changes setting)) xs)
        (machine_sends n route number (machine_after n o (Changes it)) ys)) (sym one)
        (sends_come (machine_after n o (Changes setting)) xs ys rest finds.1 also.1)
    sends_come o (Hears at hs ∷ xs) (Hears there ks ∷ ys) same finds also =
        let one : there ≡ at = cc in
        let two : ks ≡ hs = cc in
        let rest : map unreplied ys ≡ map unreplied xs = cc in
        subst (λ (it : At). AllComeAlike (machine_sends n route number o (Hears at hs ∷ xs))
        (machine_sends n route number o (Hears it ks ∷ ys))) (sym one)
        (subst (λ (its : List Heard). AllComeAlike (machine_sends n route number o (Hears at hs ∷ xs))
        (machine_sends n route number o (Hears at its ∷ ys))) (sym two)
        (came_alike (sent_to route number (lines_at at (machine_heard n o hs).lines))
        (machine_sends n route number (machine_after n o (Hears at hs)) xs) (machine_sends n route number (machine_after n o (Hears at hs)) ys)
        (sends_come (machine_after n o (Hears at hs)) xs ys rest finds.1 also.1)))
    sends_come o (Calls sink call reply ∷ xs) (Calls other ask answer ∷ ys) same finds also =
        let one : other ≡ sink = cc in
        let two : ask ≡ call = cc in
        let rest : map unreplied ys ≡ map unreplied xs = cc in
        subst (λ (it : ℕ). AllComeAlike (machine_sends n route number o (Calls sink call reply ∷ xs))
        (machine_sends n route number o (Calls it ask answer ∷ ys))) (sym one)
        (subst (λ (it : QueueCall). AllComeAlike (machine_sends n route number o (Calls sink call reply ∷ xs))
        (machine_sends n route number o (Calls sink it answer ∷ ys))) (sym two)
        (asked_alike (sink == number) call reply answer (machine_sends n route number o xs) (machine_sends n route number o ys)
        (call_alike call reply answer finds.0 also.0) (sends_come o xs ys rest finds.1 also.1)))
    sends_come o xs ys same finds also = absurd (cc)
