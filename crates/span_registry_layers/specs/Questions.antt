-- What a question answers, and what it leaves: marks alone.
use Rattle.std.specs.Prelude.{◌≡◌, ◌↔◌, ◌||◌, Bool, true, false, List, [], ◌∷◌, map, refl}
use Rattle.std.proofs.Common.{ap, sym, subst, ◌∙◌}
use Rattle.tracing_core_moments.specs.declared.at.At.{At}
use Rattle.tracing_core_fields.specs.PlainMetadata.{PlainMetadata}
use Rattle.span_registry_layers_store.specs.Registries.{RegistryValue}
use Rattle.span_registry_layers_layers.specs.Combined.{Else}
use Rattle.span_registry_layers_layers.specs.declared.filter.Filter.{Ghosts}
use Rattle.span_registry_layers_layers.specs.declared.filtered.Filtered.{Filtered}
use Rattle.span_registry_layers.specs.CommonAnswers.{SomePasses}
use Rattle.span_registry_layers.specs.Caches.{else_known}
use Rattle.span_registry_layers.specs.OutputSlots.{AsksCallsite, EachBecomes, marked, marks_of, with_marks}
use Rattle.span_registry_layers.specs.Stacks.{MarksUnless, PassesCached, PassesUnless, QuestionUnless, StackValue, cleared, is_refused}
use Rattle.span_registry_layers.specs.Stacks.{some_passes}
use Rattle.span_registry_layers.specs.declared.output_slot.OutputSlot.{OutputSlot}

-- no mark passes where all are cleared
pub cleared_passes : {O : Type 0} (rows : List (OutputSlot O)) → some_passes (marks_of (map (marked false) rows)) ≡ false
cleared_passes [] = refl
cleared_passes (row ∷ rows) = cleared_passes rows

else_or : (Q : Bool → Type 0) (p b : Bool) → Q b → Else Q p (p || b)
else_or Q true b w = refl
else_or Q false b w = w

module _ {L F : Type 0} (g : Ghosts F) where
  asked_passes : (m : PlainMetadata) (at : At) (x : RegistryValue) (rows asked : List (OutputSlot (Filtered L F))) →
      EachBecomes (AsksCallsite g.answers m at x) rows asked → SomePasses g m at x rows (some_passes (marks_of asked))
  asked_passes m at x [] [] w = refl
  asked_passes m at x [] (l ∷ ls) w = absurd w
  asked_passes m at x (r ∷ rs) [] w = absurd w
  asked_passes m at x (r ∷ rs) (l ∷ ls) w = (
    l.passed,
    w.0.0,
    else_or (SomePasses g m at x rs) l.passed (some_passes (marks_of ls)) (asked_passes m at x rs ls w.1),
  )

  -- that some mark is left is what the filters answer in turn, until one passes
  pub question_passes : (c : Bool) (m : PlainMetadata) (at : At) (s : StackValue (Filtered L F)) (b : Bool) (t : StackValue (Filtered L F)) →
      QuestionUnless g c m at s b t → PassesUnless g c s m at b
  question_passes true m at s b t w =
      w.1 ∙ ap (λ (v : StackValue (Filtered L F)). some_passes (marks_of v.rows)) w.0 ∙ cleared_passes s.rows
  question_passes false m at s b t w =
      subst (SomePasses g m at s.registry s.rows) (sym w.1) (asked_passes m at s.registry s.rows t.rows w.0.0)

  one_cleared : (p : Bool) (row later : OutputSlot (Filtered L F)) → later ≡ with_marks p false row → marked false later ≡ marked false row
  one_cleared p row later e = ap (marked false) e

  asked_cleared : (m : PlainMetadata) (at : At) (x : RegistryValue) (rows asked : List (OutputSlot (Filtered L F))) →
      EachBecomes (AsksCallsite g.answers m at x) rows asked → map (marked false) asked ≡ map (marked false) rows
  asked_cleared m at x [] [] w = refl
  asked_cleared m at x [] (l ∷ ls) w = absurd w
  asked_cleared m at x (r ∷ rs) [] w = absurd w
  asked_cleared m at x (r ∷ rs) (l ∷ ls) w =
      ap (λ (first : OutputSlot (Filtered L F)). first ∷ map (marked false) ls) (one_cleared l.passed r l w.0.1) ∙
      ap (λ (later : List (OutputSlot (Filtered L F))). marked false r ∷ later) (asked_cleared m at x rs ls w.1)

  cleared_again : (rows : List (OutputSlot (Filtered L F))) → map (marked false) (map (marked false) rows) ≡ map (marked false) rows
  cleared_again [] = refl
  cleared_again (row ∷ rows) = ap (λ (later : List (OutputSlot (Filtered L F))). marked false row ∷ later) (cleared_again rows)

  -- a question changes nothing but marks
  pub question_alike : (c : Bool) (m : PlainMetadata) (at : At) (s t : StackValue (Filtered L F)) → MarksUnless g c m at s t →
      cleared t ≡ cleared s
  question_alike true m at s t w =
      ap cleared w ∙ ap (λ (rows : List (OutputSlot (Filtered L F))). record s { rows = rows }) (cleared_again s.rows)
  question_alike false m at s t w =
      ap cleared w.1 ∙
      ap (λ (rows : List (OutputSlot (Filtered L F))). record s { rows = rows }) (asked_cleared m at s.registry s.rows t.rows w.0)

  onto_cleared : (m : PlainMetadata) (at : At) (x : RegistryValue) (rows : List (OutputSlot (Filtered L F))) (b : Bool) →
      SomePasses g m at x rows b → SomePasses g m at x (map (marked false) rows) b
  onto_cleared m at x [] b w = w
  onto_cleared m at x (row ∷ rows) b w = (
    w.0,
    w.1,
    else_known (SomePasses g m at x rows) (SomePasses g m at x (map (marked false) rows)) w.0 b (onto_cleared m at x rows b) w.2,
  )

  from_cleared : (m : PlainMetadata) (at : At) (x : RegistryValue) (rows : List (OutputSlot (Filtered L F))) (b : Bool) →
      SomePasses g m at x (map (marked false) rows) b → SomePasses g m at x rows b
  from_cleared m at x [] b w = w
  from_cleared m at x (row ∷ rows) b w = (
    w.0,
    w.1,
    else_known (SomePasses g m at x (map (marked false) rows)) (SomePasses g m at x rows) w.0 b (from_cleared m at x rows b) w.2,
  )

  onto_unless : (c : Bool) (s : StackValue (Filtered L F)) (m : PlainMetadata) (at : At) (b : Bool) → PassesUnless g c s m at b →
      PassesUnless g c (cleared s) m at b
  onto_unless true s m at b w = w
  onto_unless false s m at b w = onto_cleared m at s.registry s.rows b w

  from_unless : (c : Bool) (s : StackValue (Filtered L F)) (m : PlainMetadata) (at : At) (b : Bool) → PassesUnless g c (cleared s) m at b →
      PassesUnless g c s m at b
  from_unless true s m at b w = w
  from_unless false s m at b w = from_cleared m at s.registry s.rows b w

  alike_passes : (s t : StackValue (Filtered L F)) (m : PlainMetadata) (at : At) (b : Bool) → cleared t ≡ cleared s →
      PassesCached g s m at b → PassesCached g t m at b
  alike_passes s t m at b e w =
      from_unless (is_refused t m) t m at b
      (subst (λ (v : StackValue (Filtered L F)). PassesCached g v m at b) (sym e) (onto_unless (is_refused s m) s m at b w))

  -- marks have no say in what a stack answers
  pub stack_quiet : (s t : StackValue (Filtered L F)) (m : PlainMetadata) (at : At) (b : Bool) → cleared t ≡ cleared s →
      PassesCached g s m at b ↔ PassesCached g t m at b
  stack_quiet s t m at b e = (alike_passes s t m at b e, alike_passes t s m at b (sym e))
