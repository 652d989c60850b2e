-- Spans that close, one after the other.
use Rattle.std.proofs.Common.{◌≡◌, ℕ, true, List, ◌∷◌, Option, sym, subst}
use Rattle.tracing_core_moments.specs.declared.at.At.{At}
use Rattle.span_registry_layers_store.specs.RegistryCalls.{ClosesNext, ForgetGives, IsNext}
use Rattle.span_registry_layers_store.specs.SlotIndependence.{SameButSlots, ids_of}
use Rattle.span_registry_layers_store.specs.Registries.{RegistryValue, closing_in, without_entry}
use Rattle.span_registry_layers_layers.specs.FilterViews.{Closed, Exited}
use Rattle.span_registry_layers_layers.specs.Several.{EachInTurn}
use Rattle.span_registry_layers_layers.specs.declared.filter.Filter.{Ghosts}
use Rattle.span_registry_layers_layers.specs.declared.filtered.Filtered.{Filtered}
use Rattle.span_registry_layers_layers.specs.declared.layer.Layer.{Ghosts as LayerGhosts}
use Rattle.span_registry_layers.specs.Calls.{Closes, ClosesOne, ExitGives, over}
use Rattle.span_registry_layers.specs.SpanNotices.{ClosesEach, TellsSpan}
use Rattle.span_registry_layers.specs.Stacks.{RowsInTurn, StackValue}
use Rattle.span_registry_layers.specs.declared.output_slot.OutputSlot.{OutputSlot}
use Rattle.span_registry_layers_layers.proofs.NextSpanClose.{closed_next}
use Rattle.span_registry_layers.proofs.RegistryAfterNotices.{slots_kept, span_left, turns_left}

module _ {L F : Type 0} (g : Ghosts F) (h : LayerGhosts L) where
  -- what is told of a close writes slots alone
  pub told_aside : (at : At) (id : ℕ) (x : RegistryValue) (rows : List (OutputSlot (Filtered L F))) (z : RegistryValue)
      (told : List (OutputSlot (Filtered L F))) → EachInTurn (TellsSpan g h (Closed id) id at) x rows z told → SameButSlots x z
  told_aside at id x rows z told heard = turns_left g h SameButSlots (slots_kept h) (TellsSpan g h (Closed id) id at)
      (span_left g h SameButSlots (slots_kept h) (Closed id) id at) x rows z told heard

  -- after one close, what is still to come is what was to come but for that
  pub one_closed : (at : At) (id : ℕ) (x z y w : RegistryValue) (rows told later : List (OutputSlot (Filtered L F))) →
      EachInTurn (TellsSpan g h (Closed id) id at) x rows z told → ClosesNext z id y → ids_of (closing_in x) ≡ id ∷ ids_of (closing_in y) →
      ClosesEach g h (ids_of (closing_in y)) at y told w later → ClosesEach g h (ids_of (closing_in x)) at x rows w later
  one_closed at id x z y w rows told later heard next ids rest = subst (λ ids. ClosesEach g h ids at x rows w later) (sym ids)
      (told, z, heard, (y, next, rest))

  pub exited : (id : ℕ) (at : At) (x : RegistryValue) (s told t : StackValue (Filtered L F)) → x ≡ without_entry s.registry at.lane id →
      RowsInTurn (TellsSpan g h (Exited id) id at) (over x s) told → Closes g h at told t → ExitGives g h id at s t
  exited id at x s told t e heard closed = (told, subst (λ y. RowsInTurn (TellsSpan g h (Exited id) id at) (over y s) told) e heard, closed)

  pub closed_one : (at : At) (s : StackValue (Filtered L F)) (id : ℕ) (z : RegistryValue) (r : Option ℕ) (t : StackValue (Filtered L F)) →
      IsNext s.registry id → EachInTurn (TellsSpan g h (Closed id) id at) s.registry s.rows z t.rows → ForgetGives z r t.registry →
      t ≡ record s { registry = t.registry; rows = t.rows } → ClosesOne g h at s true t
  closed_one at s id z r t next heard given same =
      let gone = closed_next s.registry z t.registry id r next (told_aside at id s.registry s.rows z t.rows heard) given in
      (id, z, heard, gone.0, gone.1, gone.2, same)
