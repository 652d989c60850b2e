-- A stack that is ready for a call is ready afterwards.
use Rattle.std.proofs.Common.{◌≡◌, ◌==◌, ℕ, Bool, List, [], ◌∷◌, length, true, Option, refl, ap, sym, ◌∙◌, subst, arith}
use Rattle.std.proofs.lemmas.Bool.{eqb-true}
use Rattle.std.proofs.lemmas.Bool.Decides.{nat_tests}
use Rattle.tracing_core_fields.specs.requests.Calls.{Call, ReplyTo, DispatchRegistered, CallsiteRegistered, Asked, HintAsked, SpanMade}
use Rattle.tracing_core_fields.specs.requests.Calls.{Recorded, FollowsRecorded, EventAsked, EventDispatched, Entered, Exited, Cloned}
use Rattle.tracing_core_fields.specs.requests.Calls.{Dropped, CloseTried, CurrentAsked}
use Rattle.tracing_core_fields.specs.PlainMetadata.{PlainMetadata}
use Rattle.tracing_core_fields.specs.requests.PlainRequests.{PlainEvent}
use Rattle.tracing_core_moments.specs.declared.at.At.{At}
use Rattle.span_registry_layers_store.specs.Laws.{IsSound}
use Rattle.span_registry_layers_layers.specs.Notices as notices
use Rattle.span_registry_layers_layers.specs.declared.filter.Filter.{Ghosts as FilterGhosts}
use Rattle.span_registry_layers_layers.specs.declared.layer.Layer.{Ghosts as LayerGhosts}
use Rattle.span_registry_layers.specs.OutputSlots.{EachBecomes}
use Rattle.span_registry_layers.specs.Questions.{question_alike}
use Rattle.span_registry_layers.specs.Soundness.{StackStaysSound}
use Rattle.span_registry_layers.specs.Stacks.{is_refused}
use Rattle.span_registry_layers.specs.Steps.{SameKeys}
use Rattle.event_formatter_text.specs.declared.format_fields.FormatFields.{Ghosts}
use Rattle.event_formatter_text.specs.declared.settings.Settings.{Settings}
use Rattle.event_formatter.specs.formats.Contexts.{PlainContext}
use Rattle.event_formatter.specs.fmt_layer.LayerNotices.{LayerTold}
use Rattle.span_tracing_outputs.specs.SinkLines.{NoLines}
use Rattle.span_tracing_outputs.specs.OutputMachines.{PlainLine}
use Rattle.span_tracing_outputs.specs.BufferedLines.{TakesLine}
use Rattle.span_tracing_outputs.specs.StackFollows.{LinedStack}
use Rattle.span_tracing_outputs.specs.TraceFollows.{AreFirst, IsReady, numbers_in}
use Rattle.span_tracing_outputs.specs.TraceStacks.{LeavesSinks, ThenHandsOver, TraceMoves, TraceStackValue}
use Rattle.span_tracing_outputs.specs.TraceSteadiness.{trace_stays}
use Rattle.span_tracing_outputs.specs.Turns.{AreDistinct, Lined, Lines, keys_of}
use Rattle.span_tracing_outputs.proofs.OutputSinkPairs.{hands_paired, moves_keys, moves_length}
use Rattle.span_tracing_outputs.proofs.CallsWithoutNotices.{dispatch_same}
use Rattle.span_tracing_outputs.proofs.HandedLines.{keys_cleared}
use Rattle.span_tracing_outputs.proofs.MarkedRows.{lines_marked, lines_unmarked}
use Rattle.span_tracing_outputs.proofs.OutputNumbers.{numbers_cleared, numbers_moved}

equal_self : (a : ℕ) → (a == a) ≡ true
equal_self a = grind (arith, nat_tests)

-- who is tested alike is the same
key_equal : (a b : ℕ) → ((key : ℕ) → (key == b) ≡ (key == a)) → b ≡ a
key_equal a b same = sym (eqb-true a b (same a ∙ equal_self a))

module _ {N E F S : Type 0} (n : Ghosts N) (line_of : E → Settings → PlainContext → PlainEvent → Option (List ℕ)) (g : FilterGhosts F)
    (takes : S → At → PlainLine → S → Type 0) (h : LayerGhosts (Lines N E))
    (keyed : (layer : Lines N E) (key : ℕ) → h.keys layer key ≡ (key == layer.config.key.0)) where
  same_keys : (rows later : List (Lined N E F)) → EachBecomes (SameKeys g h) rows later → keys_of later ≡ keys_of rows
  same_keys [] [] w = refl
  same_keys [] (m ∷ ms) w = absurd w
  same_keys (l ∷ ls) [] w = absurd w
  same_keys (l ∷ ls) (m ∷ ms) w =
      let own = key_equal l.output.layer.config.key.0 m.output.layer.config.key.0 (λ key. sym (keyed m.output.layer key) ∙ w.0.1 key ∙
      keyed l.output.layer key) in
      ap (λ (key : ℕ). key ∷ keys_of ms) own ∙ ap (λ (ks : List ℕ). l.output.layer.config.key.0 ∷ ks) (same_keys ls ms w.1)

  module _ (says : (layer : Lines N E) (t : notices.Notice) (later : Lines N E) → h.told layer t later →
      LayerTold n line_of TakesLine layer t later) (sound : StackStaysSound g h)
      (unnumbered : (layer : Lines N E) → h.numbers layer ≡ []) where
    handed_ready : (at : At) (x : TraceStackValue N E F S) (c : Call) (r : ReplyTo c) (y : TraceStackValue N E F S) → IsReady g x →
        TraceMoves g h takes x c r y → ThenHandsOver g h takes at x c r y → IsReady g y
    handed_ready at x c r y ready moves w =
        let left = sym w.2.1 in
        let keys = keys_cleared w.0.rows ∙ same_keys x.stack.rows w.0.rows (moves_keys g h x.stack c r w.0 w.1) in
        let numbers = numbers_cleared w.0.rows ∙ numbers_moved g h unnumbered x.stack c r w.0 w.1 in record {
          valid = (trace_stays g h takes x c r y moves ready.valid).0;
          sound = subst (λ (s : LinedStack N E F). IsSound s.registry) left (sound x.stack c r w.0 w.1 ready.sound);
          keys = subst (λ (s : LinedStack N E F). AreDistinct (keys_of s.rows)) left (subst AreDistinct (sym keys) ready.keys);
          numbers = subst (λ (s : LinedStack N E F). AreFirst (numbers_in s.rows)) left (subst AreFirst (sym numbers) ready.numbers);
          rest = hands_paired takes at w.0 x.sinks y.stack y.sinks w.2 (ready.rest.0 ∙ sym (moves_length g h x.stack c r w.0 w.1));
        }

    left_ready : (x : TraceStackValue N E F S) (c : Call) (r : ReplyTo c) (y : TraceStackValue N E F S) → IsReady g x →
        TraceMoves g h takes x c r y → LeavesSinks g h takes x c r y → y.stack.rows ≡ x.stack.rows → IsReady g y
    left_ready x c r y ready moves w rows = record {
      valid = (trace_stays g h takes x c r y moves ready.valid).0;
      sound = sound x.stack c r y.stack w.0 ready.sound;
      keys = subst (λ (ls : List (Lined N E F)). AreDistinct (keys_of ls)) (sym rows) ready.keys;
      numbers = subst (λ (ls : List (Lined N E F)). AreFirst (numbers_in ls)) (sym rows) ready.numbers;
      rest = (ap length w.1 ∙ ready.rest.0 ∙ sym (ap length rows), subst NoLines (sym rows) ready.rest.1);
    }

    -- a question leaves marks alone
    marked_ready : (x : TraceStackValue N E F S) (m : PlainMetadata) (at : At) (r : Bool) (y : TraceStackValue N E F S) → IsReady g x →
        TraceMoves g h takes x (Asked m at) r y → IsReady g y
    marked_ready x m at r y ready w =
        let same = ap (λ (s : LinedStack N E F). s.rows) (question_alike g (is_refused x.stack m) m at x.stack y.stack w.0.0) in
        record {
          valid = (trace_stays g h takes x (Asked m at) r y w ready.valid).0;
          sound = sound x.stack (Asked m at) r y.stack w.0 ready.sound;
          keys = subst AreDistinct (sym (same_keys x.stack.rows y.stack.rows (moves_keys g h x.stack (Asked m at) r y.stack w.0))) ready.keys;
          numbers = subst AreFirst (sym (numbers_moved g h unnumbered x.stack (Asked m at) r y.stack w.0)) ready.numbers;
          rest = (
            ap length w.1 ∙ ready.rest.0 ∙ sym (moves_length g h x.stack (Asked m at) r y.stack w.0),
            lines_unmarked y.stack.rows (subst NoLines (sym same) (lines_marked x.stack.rows ready.rest.1)),
          );
        }

    pub stays_ready : (x : TraceStackValue N E F S) (c : Call) (r : ReplyTo c) (y : TraceStackValue N E F S) → IsReady g x →
        TraceMoves g h takes x c r y → IsReady g y
    stays_ready x (DispatchRegistered dispatch) r y ready w =
        left_ready x (DispatchRegistered dispatch) r y ready w w
        (ap (λ (s : LinedStack N E F). s.rows) (dispatch_same n line_of g h says dispatch x.stack y.stack w.0))
    stays_ready x (CallsiteRegistered m) r y ready w = left_ready x (CallsiteRegistered m) r y ready w w
        (ap (λ (s : LinedStack N E F). s.rows) w.0.1.1)
    stays_ready x (Asked m at) r y ready w = marked_ready x m at r y ready w
    stays_ready x HintAsked r y ready w = left_ready x HintAsked r y ready w w (ap (λ (s : LinedStack N E F). s.rows) w.0.1)
    stays_ready x (SpanMade a at) r y ready w = handed_ready at x (SpanMade a at) r y ready w w
    stays_ready x (Recorded id values at) r y ready w = handed_ready at x (Recorded id values at) r y ready w w
    stays_ready x (FollowsRecorded id follows at) r y ready w = handed_ready at x (FollowsRecorded id follows at) r y ready w w
    stays_ready x (EventAsked e at) r y ready w = left_ready x (EventAsked e at) r y ready w w (ap (λ (s : LinedStack N E F). s.rows) w.0.1)
    stays_ready x (EventDispatched e at) r y ready w = handed_ready at x (EventDispatched e at) r y ready w w
    stays_ready x (Entered id at) r y ready w = handed_ready at x (Entered id at) r y ready w w
    stays_ready x (Exited id at) r y ready w = handed_ready at x (Exited id at) r y ready w w
    stays_ready x (Cloned id at) r y ready w = left_ready x (Cloned id at) r y ready w w (ap (λ (s : LinedStack N E F). s.rows) w.0.1)
    stays_ready x (Dropped id at) r y ready w = handed_ready at x (Dropped id at) r y ready w w
    stays_ready x (CloseTried id at) r y ready w = handed_ready at x (CloseTried id at) r y ready w w
    stays_ready x (CurrentAsked at) r y ready w = left_ready x (CurrentAsked at) r y ready w w (ap (λ (s : LinedStack N E F). s.rows) w.0.1)
