-- Calls that tell no output anything that it keeps.
use Rattle.std.proofs.Common.{◌≡◌, ◌&&◌, ℕ, List, [], ◌∷◌, Bool, true, false, Option, Some, None, Result, Ok, Err, refl, ap, sym, ◌∙◌}
use Rattle.std.proofs.Common.{subst}
use Rattle.tracing_core_fields.specs.requests.PlainRequests.{PlainEvent}
use Rattle.tracing_core_fields.specs.requests.Refusals.{or_same}
use Rattle.tracing_core_moments.specs.declared.at.At.{At}
use Rattle.tracing_core_fields.specs.declared.requests.refusal.RequestError.{RequestError}
use Rattle.span_registry_layers_store.specs.RegistryCalls.{clone_refusal}
use Rattle.span_registry_layers_store.specs.Registries.{PlainSpan, RegistryValue, one_more, with_handle}
use Rattle.span_registry_layers_layers.specs.FilterViews.{View}
use Rattle.span_registry_layers_layers.specs.Notices as notices
use Rattle.span_registry_layers_layers.specs.Notices.{Dispatched, Followed}
use Rattle.span_registry_layers_layers.specs.Several.{EachInTurn}
use Rattle.span_registry_layers_layers.specs.declared.filter.Filter.{Ghosts as FilterGhosts}
use Rattle.span_registry_layers_layers.specs.declared.layer.Layer.{Ghosts as LayerGhosts}
use Rattle.span_registry_layers.specs.Calls.{CloneGives, WhereTaken}
use Rattle.span_registry_layers.specs.SpanNotices.{TellsDispatch, TellsFollows, sees}
use Rattle.span_registry_layers.specs.OutputSlots.{EachBecomes, TellsIf, view_of, with_layer}
use Rattle.span_registry_layers.specs.Stacks.{RowsBecome, RowsInTurn}
use Rattle.event_formatter_text.specs.declared.format_fields.FormatFields.{Ghosts}
use Rattle.event_formatter_text.specs.declared.settings.Settings.{Settings}
use Rattle.event_formatter.specs.formats.Contexts.{PlainContext}
use Rattle.event_formatter.specs.fmt_layer.LayerNotices.{LayerTold}
use Rattle.span_tracing_outputs.specs.BufferedLines.{TakesLine}
use Rattle.span_tracing_outputs.specs.OutputFolds.{EachAgrees, Numbered}
use Rattle.span_tracing_outputs.specs.StackFollows.{LinedStack}
use Rattle.span_tracing_outputs.specs.Turns.{Lined, Lines}
use Rattle.span_tracing_outputs.proofs.Stacks.{SameButHandles, kept_handled}

more_alike : (s : PlainSpan) → SameButHandles (one_more s) s
more_alike s = record { slots = refl; id = refl; passed = refl }

module _ {N E F : Type 0} (n : Ghosts N) (line_of : E → Settings → PlainContext → PlainEvent → Option (List ℕ)) (g : FilterGhosts F) where
  -- one more handle of a span
  handle_agrees : (id : ℕ) (x : RegistryValue) (rows : List (Lined N E F)) (outs : List (Numbered N)) → EachAgrees n line_of g x rows outs →
      EachAgrees n line_of g (with_handle x id) rows outs
  handle_agrees id x [] [] agrees = tt
  handle_agrees id x [] (o ∷ outs) agrees = absurd agrees
  handle_agrees id x (row ∷ rows) [] agrees = absurd agrees
  handle_agrees id x (row ∷ rows) (o ∷ outs) agrees = (
    (
      agrees.0.0,
      (
        agrees.0.1.0,
        kept_handled one_more more_alike x id (Some row.id.index) row.output.layer.config.key.0 o.out.kept
            agrees.0.1.1,
      ),
    ),
    handle_agrees id x rows outs agrees.1,
  )

  clone_agrees : (refusal : Option RequestError) (id : ℕ) (x y : RegistryValue) (rows : List (Lined N E F)) (outs : List (Numbered N)) →
      y ≡ or_same refusal x (with_handle x id) →
      EachAgrees n line_of g x rows outs → EachAgrees n line_of g y rows outs
  clone_agrees None id x y rows outs same agrees = subst (λ (z : RegistryValue). EachAgrees n line_of g z rows outs) (sym same)
      (handle_agrees id x rows outs agrees)
  clone_agrees (Some refusal) id x y rows outs same agrees = subst (λ (z : RegistryValue). EachAgrees n line_of g z rows outs) (sym same)
      agrees

  pub clones_agree : (id : ℕ) (s t : LinedStack N E F) (r : Result ℕ RequestError) → CloneGives id s r t → (outs : List (Numbered N)) →
      EachAgrees n line_of g s.registry s.rows outs → EachAgrees n line_of g t.registry t.rows outs
  clones_agree id s t r gives outs agrees =
      subst (λ (ls : List (Lined N E F)). EachAgrees n line_of g t.registry ls outs) (sym (ap (λ (z : LinedStack N E F). z.rows) gives.1))
      (clone_agrees (clone_refusal s.registry id) id s.registry t.registry s.rows outs
      (ap (λ (p : Result ℕ RequestError × RegistryValue). p.1) gives.0) agrees)

  module _ (h : LayerGhosts (Lines N E)) (says : (layer : Lines N E) (t : notices.Notice) (later : Lines N E) → h.told layer t later →
      LayerTold n line_of TakesLine layer t later) where
    -- a layer passes over that a hub took the stack
    dispatched : (dispatch : Option ℕ) (rows later : List (Lined N E F)) → EachBecomes (TellsDispatch g h dispatch) rows later →
        later ≡ rows
    dispatched dispatch [] [] w = refl
    dispatched dispatch [] (m ∷ ms) w = absurd w
    dispatched dispatch (l ∷ ls) [] w = absurd w
    dispatched dispatch (l ∷ ls) (m ∷ ms) w =
        let layer : m.output.layer ≡ l.output.layer = (says l.output.layer (Dispatched dispatch) m.output.layer w.0.0).2 in
        let row : m ≡ l = w.0.1 ∙ ap (λ (z : Lines N E). with_layer z l) layer in
        ap (λ (r : Lined N E F). r ∷ ms) row ∙ ap (λ (rs : List (Lined N E F)). l ∷ rs) (dispatched dispatch ls ms w.1)

    pub dispatch_same : (dispatch : Option ℕ) (s t : LinedStack N E F) → RowsBecome (TellsDispatch g h dispatch) s t → t ≡ s
    dispatch_same dispatch s t w = w.1 ∙ ap (λ (ls : List (Lined N E F)). record s { rows = ls }) (dispatched dispatch s.rows t.rows w.0)

    module _ (id follows : ℕ) (at : At) where
      -- and that a span follows from another one
      followed : (b : Bool) (layer : Lines N E) (v : View) (y : RegistryValue) (later : Lines N E) →
          TellsIf h b layer (Followed id follows) v y later → (later ≡ layer) × (y ≡ v.registry)
      followed true layer v y later w = let told = (says layer (Followed id follows v y) later w).2 in (told.1, told.0)
      followed false layer v y later w = w

      turns_same : (x : RegistryValue) (rows : List (Lined N E F)) (y : RegistryValue) (later : List (Lined N E F)) →
          EachInTurn (TellsFollows g h id follows at) x rows y later → (y ≡ x) × (later ≡ rows)
      turns_same x [] y [] w = (w, refl)
      turns_same x [] y (m ∷ ms) w = absurd w
      turns_same x (l ∷ ls) y [] w = absurd w
      turns_same x (l ∷ ls) y (m ∷ ms) (z, first, rest) =
          let one = followed (sees x id l && sees x follows l) l.output.layer (view_of at x l) z m.output.layer first.0 in
          let row : m ≡ l = first.1 ∙ ap (λ (k : Lines N E). with_layer k l) one.0 in
          let later = turns_same z ls y ms rest in
          (later.0 ∙ one.1, ap (λ (r : Lined N E F). r ∷ ms) row ∙ ap (λ (rs : List (Lined N E F)). l ∷ rs) later.1)

      pub follows_same : (s t : LinedStack N E F) (r : Result (Unit {0}) RequestError) →
          WhereTaken r s (RowsInTurn (TellsFollows g h id follows at) s) t → t ≡ s
      follows_same s t (Ok done) w =
          let same = turns_same s.registry s.rows t.registry t.rows w.0 in
          w.1 ∙ ap (λ (x : RegistryValue). record s { registry = x; rows = t.rows }) same.0 ∙
          ap (λ (ls : List (Lined N E F)). record s { rows = ls }) same.1
      follows_same s t (Err e) w = w
