-- What stays of the outputs' marks while outputs are told.
use Rattle.std.proofs.Common.{◌≡◌, ℕ, Bool, true, false, List, [], ◌∷◌, map, inl, refl, ap, ◌∙◌}
use Rattle.tracing_core_fields.specs.PlainMetadata.{PlainMetadata}
use Rattle.tracing_core_fields.specs.requests.Lists.{Every}
use Rattle.tracing_core_fields.specs.requests.PlainRequests.{PlainEvent}
use Rattle.tracing_core_moments.specs.declared.at.At.{At}
use Rattle.span_registry_layers_store.specs.Registries.{RegistryValue}
use Rattle.span_registry_layers_store.specs.SlotIndependence.{bare}
use Rattle.span_registry_layers_layers.specs.FilterViews.{Hook, View}
use Rattle.span_registry_layers_layers.specs.Several.{EachInTurn}
use Rattle.span_registry_layers_layers.specs.declared.filter.Filter.{Ghosts as FilterGhosts}
use Rattle.span_registry_layers_layers.specs.declared.layer.Layer.{Ghosts as LayerGhosts}
use Rattle.span_registry_layers.specs.OutputSlots.{Afresh, AsksCallsite, EachBecomes, TellsEvent, marked, marks_of, view_of}
use Rattle.span_registry_layers.specs.SpanNotices.{HearsIf, TellsMade, each_sees, sees}
use Rattle.span_tracing_outputs.specs.SinkLines.{NoLines, cleared_row}
use Rattle.span_tracing_outputs.specs.TraceFollows.{EachAnswers, EachAsked}
use Rattle.span_tracing_outputs.specs.Turns.{Lined, Lines}
use Rattle.span_tracing_outputs.proofs.SeenSpans.{sees_by}

module _ {N E F : Type 0} where
  -- handing lines over leaves the marks
  pub marks_cleared : (rows : List (Lined N E F)) → marks_of (map cleared_row rows) ≡ marks_of rows
  marks_cleared [] = refl
  marks_cleared (row ∷ rows) = ap (λ mask. row.passed ∷ mask) (marks_cleared rows)

  -- marks have no say in which lines are kept
  pub lines_marked : (rows : List (Lined N E F)) → NoLines rows → NoLines (map (marked false) rows)
  lines_marked [] none = tt
  lines_marked (row ∷ rows) none = (none.0, lines_marked rows none.1)

  pub lines_unmarked : (rows : List (Lined N E F)) → NoLines (map (marked false) rows) → NoLines rows
  lines_unmarked [] none = tt
  lines_unmarked (row ∷ rows) none = (none.0, lines_unmarked rows none.1)

  module _ (g : FilterGhosts F) where
    -- what was marked is what each filter answered
    pub marks_answer : (A : F → PlainMetadata → View → Bool → Type 0) (m : PlainMetadata) (at : At) (x : RegistryValue)
        (rows asked : List (Lined N E F)) → EachBecomes (AsksCallsite A m at x) rows asked → EachAnswers A m at x rows (marks_of asked)
    marks_answer A m at x [] [] w = tt
    marks_answer A m at x [] (l ∷ ls) w = absurd w
    marks_answer A m at x (r ∷ rs) [] w = absurd w
    marks_answer A m at x (r ∷ rs) (l ∷ ls) w = (w.0.0, marks_answer A m at x rs ls w.1)

    -- of an event, too
    pub asked_answer : (e : PlainEvent) (at : At) (x : RegistryValue) (rows : List (Lined N E F)) (passed told : List Bool) →
        EachAsked g e at x rows passed told → EachAnswers (Afresh g) e.metadata at x rows passed
    asked_answer e at x [] [] [] w = tt
    asked_answer e at x [] [] (t ∷ ts) w = absurd w
    asked_answer e at x [] (p ∷ ps) told w = absurd w
    asked_answer e at x (r ∷ rs) [] told w = absurd w
    asked_answer e at x (r ∷ rs) (p ∷ ps) [] w = absurd w
    asked_answer e at x (r ∷ rs) (p ∷ ps) (t ∷ ts) w = (w.0, asked_answer e at x rs ps ts w.2)

    -- a filter that answers so does so when it is asked again
    pub answer_again : (m : PlainMetadata) (at : At) (x : RegistryValue) (rows : List (Lined N E F)) (passed : List Bool) →
        EachAnswers g.answers m at x rows passed → EachAnswers (Afresh g) m at x rows passed
    answer_again m at x [] [] w = tt
    answer_again m at x [] (p ∷ ps) w = absurd w
    answer_again m at x (r ∷ rs) [] w = absurd w
    answer_again m at x (r ∷ rs) (p ∷ ps) w = (inl w.0, answer_again m at x rs ps w.1)

    -- where all refuse, no mark is left
    pub refused_answer : (m : PlainMetadata) (at : At) (x : RegistryValue) (rows : List (Lined N E F)) →
        Every (λ (row : Lined N E F). Afresh g row.output.filter m (view_of at x row) false) rows →
        EachAnswers (Afresh g) m at x rows (marks_of (map (marked false) rows))
    refused_answer m at x [] w = tt
    refused_answer m at x (row ∷ rows) w = (w.0, refused_answer m at x rows w.1)

  module _ (g : FilterGhosts F) (h : LayerGhosts (Lines N E)) where
    -- telling an event leaves the marks
    pub event_marks : (e : PlainEvent) (at : At) (x : RegistryValue) (rows : List (Lined N E F)) (y : RegistryValue)
        (later : List (Lined N E F)) → EachInTurn (TellsEvent h e at) x rows y later → marks_of later ≡ marks_of rows
    event_marks e at x [] y [] w = refl
    event_marks e at x [] y (l ∷ ls) w = absurd w
    event_marks e at x (r ∷ rs) y [] w = absurd w
    event_marks e at x (r ∷ rs) y (l ∷ ls) w =
        ap (λ (row : Lined N E F). row.passed ∷ marks_of ls) w.1.1 ∙ ap (λ mask. r.passed ∷ mask) (event_marks e at w.0 rs y ls w.2)

    heard_passed : (b : Bool) (id : ℕ) (call : View → Hook) (v : View) (row : Lined N E F) (y : RegistryValue) (later : Lined N E F) →
        HearsIf g h b id call v row y later → later.passed ≡ row.passed
    heard_passed true id call v row y later w = ap (λ (l : Lined N E F). l.passed) w.1
    heard_passed false id call v row y later w = ap (λ (l : Lined N E F). l.passed) w.0

    -- a new span leaves a mark where the output sees it
    pub made_marks : (call : View → Hook) (id : ℕ) (at : At) →
        ((x : RegistryValue) (row : Lined N E F) (y : RegistryValue) (later : Lined N E F) → TellsMade g h call id at x row y later →
        bare y ≡ bare x) →
        (k x : RegistryValue) (rows : List (Lined N E F)) (y : RegistryValue) (later : List (Lined N E F)) → bare x ≡ k →
        EachInTurn (TellsMade g h call id at) x rows y later → marks_of later ≡ each_sees k id rows
    made_marks call id at one k x [] y [] same w = refl
    made_marks call id at one k x [] y (l ∷ ls) same w = absurd w
    made_marks call id at one k x (r ∷ rs) y [] same w = absurd w
    made_marks call id at one k x (r ∷ rs) y (l ∷ ls) same w =
        let b = sees x id r in
        let own : l.passed ≡ sees k id r =
        heard_passed b id call (view_of at x r) (marked b r) w.0 l w.1 ∙ sees_by k x id r same in
        ap (λ passed. passed ∷ marks_of ls) own ∙
        ap (λ mask. sees k id r ∷ mask) (made_marks call id at one k w.0 rs y ls (one x r w.0 l w.1 ∙ same) w.2)
