-- What levels answer.
use Rattle.std.proofs.Common.{◌≡◌, ℕ, Bool, true, false, ◌||◌, List, [], ◌∷◌, nat_le, Option, Some, None, refl, ap, sym, ◌∙◌, inl, inr}
use Rattle.tracing_core_fields.specs.PlainMetadata.{PlainMetadata}
use Rattle.tracing_core_fields.specs.requests.Lists.{Every}
use Rattle.tracing_core_moments.specs.declared.at.At.{At}
use Rattle.tracing_core_fields.specs.requests.PlainRequests.{PlainEvent}
use Rattle.span_registry_layers_store.specs.Registries.{RegistryValue}
use Rattle.span_registry_layers_store.specs.Verdicts.{all_pass}
use Rattle.span_registry_layers_layers.specs.Combined.{Either, Else, Then}
use Rattle.span_registry_layers_layers.specs.FilterViews.{Hook, View}
use Rattle.span_registry_layers_layers.specs.declared.filter.Filter.{Ghosts as FilterGhosts}
use Rattle.span_registry_layers_layers.specs.declared.layer.Layer.{Ghosts as LayerGhosts}
use Rattle.span_registry_layers.specs.CommonAnswers.{SomePassesBy}
use Rattle.span_registry_layers.specs.OutputSlots.{Afresh, view_of}
use Rattle.event_formatter_text.specs.declared.format_fields.FormatFields.{Ghosts}
use Rattle.event_formatter_text.specs.declared.settings.Settings.{Settings}
use Rattle.event_formatter.specs.formats.Contexts.{PlainContext}
use Rattle.span_tracing_outputs.specs.OutputNotices.{Notice}
use Rattle.span_tracing_outputs.specs.TraceFollows.{EachAnswers, EachAsked, numbers_in, some_passes, verdicts_from}
use Rattle.span_tracing_outputs.specs.TraceStacks.{TraceStackValue}
use Rattle.span_tracing_outputs.specs.Turns.{FilterHears, Lined, Lines, filter_after, hook_of}
use Rattle.span_tracing_skeleton.specs.Looking.{known, named, reach}
use Rattle.span_tracing_skeleton.specs.PlainData.{PlainStep, GlobalStep, EventStep, EnabledStep, SpanStep, RecordStep, FollowsFromStep}
use Rattle.span_tracing_skeleton.specs.PlainData.{EnterStep, ExitStep, CloneStep, CloseStep, DefaultStep, ResetStep, CloneHandleStep}
use Rattle.span_tracing_skeleton.specs.PlainData.{ReleaseStep, SetStep}
use Rattle.span_tracing_skeleton.specs.Skeleton.{Answers, Unasked, Wanted, Dropped, Passed, Heard}
use Rattle.span_tracing_steps.specs.StackRequests.{place_at, request_of}
use Rattle.span_tracing_steps.specs.States.{held_in}
use Rattle.span_tracing_laws.specs.runs.StepFollows.{AnswersEvent, AnswersQuestion, AnswersSpan, AskedWhere, IsAnswered, Traced}
use Rattle.span_tracing_laws.specs.runs.StepFollows.{skeleton_of}
use Rattle.span_tracing.specs.Levels.{LevelsAnswer, heard_by, if_asked, level_answers, made_by, made_if, passing, wanted_by}

where_asked : (reached : Option ℕ) (callsite : Option PlainMetadata) (asked : ℕ → PlainMetadata → Answers → Type 0)
    (f : ℕ → PlainMetadata → Answers) (a : Answers) → ((stack : ℕ) (m : PlainMetadata) → asked stack m a → a ≡ f stack m) →
    AskedWhere reached callsite asked a → a ≡ if_asked reached callsite f
where_asked None callsite asked f a each w = w
where_asked (Some stack) None asked f a each w = w
where_asked (Some stack) (Some m) asked f a each w = each stack m w

two : (a b : Bool) (xs ys : List Bool) → a ≡ b → xs ≡ ys → a ∷ xs ≡ b ∷ ys
two a b xs ys e es = ap (λ x. x ∷ xs) e ∙ ap (λ zs. b ∷ zs) es

or_false : (a b : Bool) → a ≡ false → b ≡ false → (a || b) ≡ false
or_false a b e f = ap (λ x. x || b) e ∙ f

module _ {N E : Type 0} where
  dropped : (rows : List (Lined N E ℕ)) (passed : List Bool) (b : Bool) → b ≡ false → Dropped ≡ made_if b rows passed
  dropped rows passed b e = sym (ap (λ c. made_if c rows passed) e)

  made : (rows : List (Lined N E ℕ)) (passed given : List Bool) (b : Bool) → b ≡ true → given ≡ passed →
      Passed (verdicts_from all_pass (numbers_in rows) given) ≡ made_if b rows passed
  made rows passed given b e same = ap (λ xs. Passed (verdicts_from all_pass (numbers_in rows) xs)) same ∙
      sym (ap (λ c. made_if c rows passed) e)

-- filters whose answer is read off their value and the metadata, and that no call changes
module _ (g : FilterGhosts ℕ)
    (answers : (f : ℕ) (m : PlainMetadata) (v : View) (b : Bool) → g.answers f m v b → b ≡ nat_le m.level f)
    (may : (f : ℕ) (m : PlainMetadata) (v : View) → g.answers f m v (nat_le m.level f))
    (event_answers : (f : ℕ) (e : PlainEvent) (v : View) (b : Bool) → g.event_answers f e v b → b ≡ true)
    (after : (f : ℕ) (hook : Hook) → g.after f hook ≡ f) where
  fresh : (f : ℕ) (m : PlainMetadata) (v : View) (b : Bool) → Afresh g f m v b → b ≡ nat_le m.level f
  fresh f m v b (inl w) = answers f m v b w
  fresh f m v b (inr (e, all)) = e ∙ sym (all (nat_le m.level f) (may f m v))

  then_same : (f : ℕ) (e : PlainEvent) (v : View) (p t : Bool) → Then (g.event_answers f e v) p t → t ≡ p
  then_same f e v true t w = event_answers f e v t w
  then_same f e v false t w = w

  either_same : (f : ℕ) (m : PlainMetadata) (v : View) (Q : Bool → Type 0) (rest b : Bool) → ((c : Bool) → Q c → c ≡ rest) →
      Either (Afresh g f m v) Q b → b ≡ (nat_le m.level f || rest)
  either_same f m v Q rest b later (p, one, more) = by_first p b (fresh f m v p one) more
    where
      by_first : (p b : Bool) → p ≡ nat_le m.level f → Else Q p b → b ≡ (nat_le m.level f || rest)
      by_first true b e w = w ∙ ap (λ x. x || rest) e
      by_first false b e w = later b w ∙ ap (λ x. x || rest) e

  each_asked : {N E : Type 0} (e : PlainEvent) (at : At) (x : RegistryValue) (rows : List (Lined N E ℕ)) (passed told : List Bool) →
      EachAsked g e at x rows passed told →
      (passed ≡ passing e.metadata rows) × (told ≡ passing e.metadata rows)
  each_asked e at x [] [] [] w = (refl, refl)
  each_asked e at x [] [] (t ∷ told) w = absurd w
  each_asked e at x [] (p ∷ passed) told w = absurd w
  each_asked e at x (row ∷ rows) [] told w = absurd w
  each_asked e at x (row ∷ rows) (p ∷ passed) [] w = absurd w
  each_asked e at x (row ∷ rows) (p ∷ passed) (t ∷ told) (one, then, more) =
      let own = fresh row.output.filter e.metadata (view_of at x row) p one in
      let rest = each_asked e at x rows passed told more in (
        two p (nat_le e.metadata.level row.output.filter) passed (passing e.metadata rows) own rest.0,
        two t (nat_le e.metadata.level row.output.filter) told (passing e.metadata rows)
            (then_same row.output.filter e (view_of at x row) p t then ∙ own) rest.1,
      )

  each_answers : {N E : Type 0} (m : PlainMetadata) (at : At) (x : RegistryValue) (rows : List (Lined N E ℕ)) (given : List Bool) →
      EachAnswers g.answers m at x rows given → given ≡ passing m rows
  each_answers m at x [] [] w = refl
  each_answers m at x [] (p ∷ given) w = absurd w
  each_answers m at x (row ∷ rows) [] w = absurd w
  each_answers m at x (row ∷ rows) (p ∷ given) (one, more) =
      two p (nat_le m.level row.output.filter) given (passing m rows) (answers row.output.filter m (view_of at x row) p one)
      (each_answers m at x rows given more)

  nobody : {N E : Type 0} (m : PlainMetadata) (at : At) (x : RegistryValue) (rows : List (Lined N E ℕ)) →
      Every (λ (row : Lined N E ℕ). Afresh g row.output.filter m (view_of at x row) false) rows → some_passes (passing m rows) ≡ false
  nobody m at x [] w = refl
  nobody m at x (row ∷ rows) (one, more) =
      or_false (nat_le m.level row.output.filter) (some_passes (passing m rows))
      (sym (fresh row.output.filter m (view_of at x row) false one)) (nobody m at x rows more)

  some : {N E : Type 0} (m : PlainMetadata) (at : At) (x : RegistryValue) (rows : List (Lined N E ℕ)) (b : Bool) →
      SomePassesBy (Afresh g) m at x rows b → b ≡ some_passes (passing m rows)
  some m at x [] b w = w
  some m at x (row ∷ rows) b w =
      either_same row.output.filter m (view_of at x row) (SomePassesBy (Afresh g) m at x rows) (some_passes (passing m rows)) b
      (some m at x rows) w

  module _ {N E S : Type 0} (h : LayerGhosts (Lines N E)) where
    event : (stack : Option (TraceStackValue N E ℕ S)) (e : PlainEvent) (at : At) (a : Answers) → AnswersEvent g h stack e at a →
        a ≡ heard_by stack e.metadata
    event None e at a w = absurd w
    event (Some x) e at Unasked w = absurd w
    event (Some x) e at (Wanted b) w = absurd w
    event (Some x) e at Dropped w = absurd w
    event (Some x) e at (Passed passed) w = absurd w
    event (Some x) e at (Heard passed told) w =
        let both = each_asked e at x.stack.registry x.stack.rows passed told w in
        ap (λ p. Heard p told) both.0 ∙ ap (Heard (passing e.metadata x.stack.rows)) both.1

    question : (stack : Option (TraceStackValue N E ℕ S)) (m : PlainMetadata) (at : At) (a : Answers) → AnswersQuestion g h stack m at a →
        a ≡ wanted_by stack m
    question None m at a w = absurd w
    question (Some x) m at Unasked w = absurd w
    question (Some x) m at (Wanted b) w = ap Wanted (some m at x.stack.registry x.stack.rows b w)
    question (Some x) m at Dropped w = absurd w
    question (Some x) m at (Passed passed) w = absurd w
    question (Some x) m at (Heard passed told) w = absurd w

    span : (stack : Option (TraceStackValue N E ℕ S)) (m : PlainMetadata) (at : At) (a : Answers) → AnswersSpan g h stack m at a →
        a ≡ made_by stack m
    span None m at a w = absurd w
    span (Some x) m at Unasked w = absurd w
    span (Some x) m at (Wanted b) w = absurd w
    span (Some x) m at Dropped w = dropped x.stack.rows (passing m x.stack.rows) (some_passes (passing m x.stack.rows))
        (nobody m at x.stack.registry x.stack.rows w)
    span (Some x) m at (Passed passed) (given, each, some, same) =
        let own = each_answers m at x.stack.registry x.stack.rows given each in
        ap Passed same ∙ made x.stack.rows (passing m x.stack.rows) given (some_passes (passing m x.stack.rows)) (sym (ap some_passes own) ∙
        some) own
    span (Some x) m at (Heard passed told) w = absurd w

    step_answers : (v : Traced N E ℕ S) (step : PlainStep) (a : Answers) → IsAnswered g h v step a → a ≡ level_answers v step
    step_answers v (GlobalStep handle) a w = w
    step_answers v (EventStep e) a w =
        where_asked (reach (skeleton_of v) e.lane) (known (skeleton_of v) e.callsite false)
        (λ stack m b. AnswersEvent g h (held_in v stack) (request_of m e) (place_at e.lane e.moment) b)
        (λ stack m. heard_by (held_in v stack) m) a
        (λ stack m asked. event (held_in v stack) (request_of m e) (place_at e.lane e.moment) a asked) w
    step_answers v (EnabledStep call) a w =
        where_asked (reach (skeleton_of v) call.lane) (named (skeleton_of v).callsites call.callsite.0)
        (λ stack m b. AnswersQuestion g h (held_in v stack) m (place_at call.lane call.moment) b)
        (λ stack m. wanted_by (held_in v stack) m) a
        (λ stack m asked. question (held_in v stack) m (place_at call.lane call.moment) a asked) w
    step_answers v (SpanStep n) a w =
        where_asked (reach (skeleton_of v) n.lane) (known (skeleton_of v) n.callsite true)
        (λ stack m b. AnswersSpan g h (held_in v stack) m (place_at n.lane n.moment) b) (λ stack m. made_by (held_in v stack) m) a
        (λ stack m asked. span (held_in v stack) m (place_at n.lane n.moment) a asked) w
    step_answers v (RecordStep r) a w = w
    step_answers v (FollowsFromStep call) a w = w
    step_answers v (EnterStep call) a w = w
    step_answers v (ExitStep call) a w = w
    step_answers v (CloneStep call) a w = w
    step_answers v (CloseStep call) a w = w
    step_answers v (DefaultStep call) a w = w
    step_answers v (ResetStep call) a w = w
    step_answers v (CloneHandleStep handle) a w = w
    step_answers v (ReleaseStep handle) a w = w
    step_answers v (SetStep call) a w = w

  module _ {N E : Type 0} (n : Ghosts N) (line_of : E → Settings → PlainContext → PlainEvent → Option (List ℕ)) where
    after_none : (f : ℕ) (hook : Option Hook) → filter_after n line_of g f hook ≡ f
    after_none f None = refl
    after_none f (Some hook) = after f hook

    stays : (number level : ℕ) (notices : List Notice) (later : ℕ) → FilterHears n line_of g number level notices later → later ≡ level
    stays number level [] later w = w
    stays number level (t ∷ ts) later (v, at, mask, within, more) =
        stays number (filter_after n line_of g level (hook_of t.heard.said v)) ts later more ∙ after_none level (hook_of t.heard.said v)

    pub levels_answer : {S : Type 0} (h : LayerGhosts (Lines N E)) → LevelsAnswer S n line_of g h
    levels_answer {S = S} h = record { answers = step_answers {S = S} h; stays = stays }
