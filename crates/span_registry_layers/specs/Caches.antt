-- What is kept refuses only what asking refuses.
use Rattle.std.specs.Prelude.{◌≡◌, ◌||◌, ◌&&◌, ◌⊎◌, ℕ, Bool, true, false, List, [], ◌∷◌, map, Option, Some, None, Result, refl}
use Rattle.std.specs.List.{list_any}
use Rattle.std.proofs.Common.{inl, inr, sym, subst, arith}
use Rattle.tracing_core_moments.specs.declared.at.At.{At}
use Rattle.tracing_core_fields.specs.requests.Interests.{PlainInterest, says_never, Covers}
use Rattle.tracing_core_fields.specs.declared.requests.interest.InterestInner.TheVariants.{Never, Sometimes, Always}
use Rattle.tracing_core_fields.specs.requests.Lists.{Every}
use Rattle.tracing_core_fields.specs.PlainMetadata.{PlainMetadata, is_same_metadata-decides}
use Rattle.tracing_core_fields.specs.requests.PlainRequests.{PlainAttributes, PlainEvent, explicit_parent}
use Rattle.tracing_core_fields.specs.declared.requests.refusal.RequestError.{RequestError}
use Rattle.tracing_core_fields.specs.requests.Steady.{HintFits, InterestFits}
use Rattle.span_registry_layers_store.specs.Registries.{RegistryValue, knows}
use Rattle.span_registry_layers_store.specs.Verdicts.{all_pass}
use Rattle.span_registry_layers_layers.specs.Combined.{Else}
use Rattle.span_registry_layers_layers.specs.FilterViews.{View}
use Rattle.span_registry_layers_layers.specs.Several.{EachInTurn}
use Rattle.span_registry_layers_layers.specs.declared.filter.Filter.{Ghosts}
use Rattle.span_registry_layers_layers.specs.declared.filtered.Filtered.{Filtered}
use Rattle.span_registry_layers_layers.specs.declared.layer.Layer.{Ghosts as LayerGhosts}
use Rattle.span_registry_layers.specs.CommonAnswers.{AsksFrom, SomePasses, SomePassesBy}
use Rattle.span_registry_layers.specs.Calls.{SpanAfresh, SpanAsked, SpanByAnswers, SpanCached, SpanKnown, SpanUnless, SpanWhere}
use Rattle.span_registry_layers.specs.OutputSlots.{Afresh, AsksCallsite, AsksEventBy, EachBecomes, TellsEvent, filters_of, marked, view_of}
use Rattle.span_registry_layers.specs.InterestCache.{PlainCachedInterest, is_of, is_refused_by}
use Rattle.span_registry_layers.specs.Stacks.{EventAsked, EventByAnswers, EventCached, PassesAsked, PassesCached, PassesUnless, StackValue}
use Rattle.span_registry_layers.specs.Stacks.{QuestionAsked, QuestionByAnswers, QuestionCached, QuestionUnless, RowsBecome, TellsAfresh}
use Rattle.span_registry_layers.specs.Stacks.{TellsAll, TellsUnless, WhereKnown, cleared, is_above, is_refused}
use Rattle.span_registry_layers.specs.CacheValidity.{HintOver, Knows, CacheIsValid, CacheIsValidFor}
use Rattle.span_registry_layers.specs.declared.output_slot.OutputSlot.{OutputSlot}

pub by_hint : (own kept : Option ℕ) (level : ℕ) (p : Bool) → HintFits own level p → HintOver own kept → is_above kept level ≡ true →
    p ≡ false
by_hint own None level p below over e = absurd (cc)
by_hint None (Some top) level p below over e = absurd over
by_hint (Some a) (Some top) level p below over e = below (grind arith)

by_never : (own : PlainInterest) (p : Bool) → Covers Never own → InterestFits own p → p ≡ false
by_never own p covers fits = rw covers at fits

pub either_true : (a b : Bool) → (a || b) ≡ true → (a ≡ true) ⊎ (b ≡ true)
either_true true b e = inl refl
either_true false b e = inr e

both_true : (a b : Bool) → (a && b) ≡ true → (a ≡ true) × (b ≡ true)
both_true true b e = (refl, e)
both_true false b e = absurd (cc)

never_said : (k : PlainInterest) → says_never k ≡ true → k ≡ Never
never_said Never e = refl
never_said Sometimes e = absurd (cc)
never_said Always e = absurd (cc)

neither_true : (a b : Bool) → (a || b) ≡ false → (a ≡ false) × (b ≡ false)
neither_true true b e = absurd (cc)
neither_true false b e = (refl, e)

pub else_known : (P Q : Bool → Type 0) (p r : Bool) → (P r → Q r) → Else P p r → Else Q p r
else_known P Q true r f w = w
else_known P Q false r f w = f w

module _ {F : Type 0} (g : Ghosts F) where
  -- a filter refuses the callsite wherever it is asked
  abbrev pub Refuses : PlainMetadata → F → Type 0
  Refuses m f = (v : View) (b : Bool) → g.answers f m v b → b ≡ false

  site_known : (m : PlainMetadata) (site : PlainCachedInterest) (fs : List F) → is_refused_by m site ≡ true →
      Every (Knows g site.metadata site.interest) fs → Every (Knows g m Never) fs
  site_known m site fs e w =
      let both = both_true (says_never site.interest) (is_of m site) e in
      subst (λ n. Every (Knows g n Never) fs) ((is_same_metadata-decides site.metadata m).0 both.1)
      (subst (λ k. Every (Knows g site.metadata k) fs) (never_said site.interest both.0) w)

  by_sites : (P : Type 0) (here later : Bool) → ((here ≡ true) ⊎ (later ≡ true)) → (here ≡ true → P) → (later ≡ true → P) → P
  by_sites P here later (inl e) f k = f e
  by_sites P here later (inr e) f k = k e

  pub never_known : (m : PlainMetadata) (fs : List F) (interest_cache : List PlainCachedInterest) →
      list_any (is_refused_by m) interest_cache ≡ true → Every (λ site. Every (Knows g site.metadata site.interest) fs) interest_cache →
      Every (Knows g m Never) fs
  never_known m fs [] e w = absurd (cc)
  never_known m fs (site ∷ interest_cache) e w =
      by_sites (Every (Knows g m Never) fs) (is_refused_by m site) (list_any (is_refused_by m) interest_cache)
      (either_true (is_refused_by m site) (list_any (is_refused_by m) interest_cache) e)
      (λ t. site_known m site fs t w.0) (λ later. never_known m fs interest_cache later w.1)

  pub all_below : (m : PlainMetadata) (h : Option ℕ) (fs : List F) → is_above h m.level ≡ true → Every (λ f. g.honest f) fs →
      Every (λ f. HintOver (g.hint f) h) fs → Every (Refuses m) fs
  all_below m h [] e a b = tt
  all_below m h (f ∷ fs) e a b = (λ v p w. by_hint (g.hint f) h m.level p ((g.fair f a.0).below m v p w) b.0 e, all_below m h fs e a.1 b.1)

  pub all_never : (m : PlainMetadata) (fs : List F) → Every (λ f. g.honest f) fs → Every (Knows g m Never) fs → Every (Refuses m) fs
  all_never m [] a b = tt
  all_never m (f ∷ fs) a b = (λ v p w. by_never b.0.0 p b.0.2 ((g.fair f a.0).interest m v p b.0.0 w b.0.1), all_never m fs a.1 b.1)

  pub all_refuse : (m : PlainMetadata) (h : Option ℕ) (fs : List F) (interest_cache : List PlainCachedInterest) →
      CacheIsValidFor g fs interest_cache h → (is_above h m.level || list_any (is_refused_by m) interest_cache) ≡ true →
      Every (Refuses m) fs
  all_refuse m h fs interest_cache w e = each (either_true (is_above h m.level) (list_any (is_refused_by m) interest_cache) e)
    where
      each : (is_above h m.level ≡ true) ⊎ (list_any (is_refused_by m) interest_cache ≡ true) → Every (Refuses m) fs
      each (inl above) = all_below m h fs above w.honest w.hints
      each (inr never) = all_never m fs w.honest (never_known m fs interest_cache never w.interests)

  module _ {L : Type 0} where
    -- where each filter refuses, nobody has to be asked
    nobody_passes : (m : PlainMetadata) (at : At) (x : RegistryValue) (rows : List (OutputSlot (Filtered L F))) →
        Every (Refuses m) (filters_of rows) → SomePassesBy (Afresh g) m at x rows false
    nobody_passes m at x [] w = refl
    nobody_passes m at x (row ∷ rows) w = (false, inr (refl, w.0 (view_of at x row)), nobody_passes m at x rows w.1)

    pub afresh_passes : (m : PlainMetadata) (at : At) (x : RegistryValue) (rows : List (OutputSlot (Filtered L F))) (b : Bool) →
        SomePasses g m at x rows b → SomePassesBy (Afresh g) m at x rows b
    afresh_passes m at x [] b w = w
    afresh_passes m at x (row ∷ rows) b w =
        (w.0, inl w.1, else_known (SomePasses g m at x rows) (SomePassesBy (Afresh g) m at x rows) w.0 b (afresh_passes m at x rows b) w.2)

    pub passes_is_asked : (s : StackValue (Filtered L F)) (m : PlainMetadata) (at : At) (b : Bool) → CacheIsValid g s →
        PassesCached g s m at b → PassesAsked g s m at b
    passes_is_asked s m at b w given = unless (is_refused s m) refl given
      where
        unless : (c : Bool) → is_refused s m ≡ c → PassesUnless g c s m at b → PassesAsked g s m at b
        unless true e given = subst (PassesAsked g s m at) (sym given)
            (nobody_passes m at s.registry s.rows (all_refuse m s.hint (filters_of s.rows) s.interest_cache w e))
        unless false e given = afresh_passes m at s.registry s.rows b given

    all_refuse_afresh : (m : PlainMetadata) (at : At) (x : RegistryValue) (rows : List (OutputSlot (Filtered L F))) →
        Every (Refuses m) (filters_of rows) →
        Every (λ (row : OutputSlot (Filtered L F)). Afresh g row.output.filter m (view_of at x row) false) rows
    all_refuse_afresh m at x [] w = tt
    all_refuse_afresh m at x (row ∷ rows) w = (inr (refl, w.0 (view_of at x row)), all_refuse_afresh m at x rows w.1)

module _ {L F : Type 0} (g : Ghosts F) where
  marks_refused : (m : PlainMetadata) (at : At) (x : RegistryValue) (rows : List (OutputSlot (Filtered L F))) →
      Every (Refuses g m) (filters_of rows) → EachBecomes (AsksCallsite (Afresh g) m at x) rows (map (marked false) rows)
  marks_refused m at x [] w = tt
  marks_refused m at x (row ∷ rows) w = ((inr (refl, w.0 (view_of at x row)), refl), marks_refused m at x rows w.1)

  marks_afresh : (m : PlainMetadata) (at : At) (x : RegistryValue) (rows asked : List (OutputSlot (Filtered L F))) →
      EachBecomes (AsksCallsite g.answers m at x) rows asked → EachBecomes (AsksCallsite (Afresh g) m at x) rows asked
  marks_afresh m at x [] [] w = w
  marks_afresh m at x [] (l ∷ ls) w = absurd w
  marks_afresh m at x (r ∷ rs) [] w = absurd w
  marks_afresh m at x (r ∷ rs) (l ∷ ls) w = ((inl w.0.0, w.0.1), marks_afresh m at x rs ls w.1)

  -- the marks that a question leaves are what each filter answers, asked again
  pub question_afresh : (m : PlainMetadata) (at : At) (s : StackValue (Filtered L F)) (b : Bool) (t : StackValue (Filtered L F)) →
      QuestionByAnswers g m at s b t → QuestionAsked g m at s b t
  question_afresh m at s b t asked = ((marks_afresh m at s.registry s.rows t.rows asked.0.0, asked.0.1), asked.1)

  pub question_is_asked : (m : PlainMetadata) (at : At) (s : StackValue (Filtered L F)) (b : Bool) (t : StackValue (Filtered L F)) →
      CacheIsValid g s → QuestionCached g m at s b t → QuestionAsked g m at s b t
  question_is_asked m at s b t w asked = unless (is_refused s m) refl asked
    where
      unless : (c : Bool) → is_refused s m ≡ c → QuestionUnless g c m at s b t → QuestionAsked g m at s b t
      unless true e given = (
        subst (λ (v : StackValue (Filtered L F)). RowsBecome (AsksCallsite (Afresh g) m at s.registry) s v) (sym given.0)
            (marks_refused m at s.registry s.rows (all_refuse g m s.hint (filters_of s.rows) s.interest_cache w e), refl),
        given.1,
      )
      unless false e given = question_afresh m at s b t given

where_known : {O : Type 0} (s : StackValue O) (P Q : StackValue O → Type 0) (b : Bool) (r : Result (Unit {0}) RequestError)
    (t : StackValue O) → (P t → Q t) → WhereKnown b s P r t → WhereKnown b s Q r t
where_known s P Q true r t f w = (w.0, f w.1)
where_known s P Q false r t f w = w

module _ {L F : Type 0} (g : Ghosts F) (h : LayerGhosts L) where
  cleared_asked : (e : PlainEvent) (at : At) (x : RegistryValue) (rows : List (OutputSlot (Filtered L F))) →
      Every (Refuses g e.metadata) (filters_of rows) → EachBecomes (AsksEventBy g (Afresh g) e at x) rows (map (marked false) rows)
  cleared_asked e at x [] w = tt
  cleared_asked e at x (row ∷ rows) w = ((inr (refl, w.0 (view_of at x row)), refl, refl), cleared_asked e at x rows w.1)

  cleared_told : (e : PlainEvent) (at : At) (x : RegistryValue) (rows : List (OutputSlot (Filtered L F))) →
      EachInTurn (TellsEvent h e at) x (map (marked false) rows) x (map (marked false) rows)
  cleared_told e at x [] = refl
  cleared_told e at x (row ∷ rows) = (x, ((refl, refl), refl), cleared_told e at x rows)

  afresh_asked : (e : PlainEvent) (at : At) (x : RegistryValue) (rows asked : List (OutputSlot (Filtered L F))) →
      EachBecomes (AsksEventBy g g.answers e at x) rows asked → EachBecomes (AsksEventBy g (Afresh g) e at x) rows asked
  afresh_asked e at x [] [] w = w
  afresh_asked e at x [] (l ∷ ls) w = absurd w
  afresh_asked e at x (r ∷ rs) [] w = absurd w
  afresh_asked e at x (r ∷ rs) (l ∷ ls) w = ((inl w.0.0, w.0.1, w.0.2), afresh_asked e at x rs ls w.1)

  all_told : (e : PlainEvent) (at : At) (s t : StackValue (Filtered L F)) → TellsAll g h e at s t → TellsAfresh g h e at s t
  all_told e at s t told = (told.0, (afresh_asked e at s.registry s.rows told.0.rows told.1.0, told.1.1), told.2)

  unless_told : (e : PlainEvent) (at : At) (s t : StackValue (Filtered L F)) → CacheIsValid g s → (b : Bool) → is_refused s e.metadata ≡ b →
      TellsUnless g h b e at s t → TellsAfresh g h e at s t
  unless_told e at s t w true refused same =
      let refuse = all_refuse g e.metadata s.hint (filters_of s.rows) s.interest_cache w refused in
      subst (TellsAfresh g h e at s) (sym same) (
        cleared s,
        (cleared_asked e at s.registry s.rows refuse, refl),
        (cleared_told e at s.registry s.rows, refl),
      )
  unless_told e at s t w false refused told = all_told e at s t told

  -- so is what each filter answers now
  pub event_by_answers : (e : PlainEvent) (at : At) (s : StackValue (Filtered L F)) (r : Result (Unit {0}) RequestError)
      (t : StackValue (Filtered L F)) → EventByAnswers g h e at s r t → EventAsked g h e at s r t
  event_by_answers e at s r t told = where_known s (TellsAll g h e at s) (TellsAfresh g h e at s)
      (knows s.registry (explicit_parent e.parent)) r t (all_told e at s t) told

  -- what is answered by what is kept is what asking every filter again gives
  pub event_is_asked : (e : PlainEvent) (at : At) (s : StackValue (Filtered L F)) (r : Result (Unit {0}) RequestError)
      (t : StackValue (Filtered L F)) → CacheIsValid g s → EventCached g h e at s r t → EventAsked g h e at s r t
  event_is_asked e at s r t w told =
      where_known s (TellsUnless g h (is_refused s e.metadata) e at s) (TellsAfresh g h e at s)
      (knows s.registry (explicit_parent e.parent)) r t (unless_told e at s t w (is_refused s e.metadata) refl) told

  -- where nobody passed so far, each was refused
  none_passed : (m : PlainMetadata) (at : At) (x : RegistryValue) (rows : List (OutputSlot (Filtered L F))) (passed : List Bool)
      (some : Bool) (verdicts : List Bool) → AsksFrom g h m at x passed some rows verdicts false →
      (some ≡ false) × Every (λ (row : OutputSlot (Filtered L F)). Afresh g row.output.filter m (view_of at x row) false) rows
  none_passed m at x [] passed some verdicts w = (sym w.1, tt)
  none_passed m at x (row ∷ rows) passed some verdicts w =
      let rest = none_passed m at x rows w.1 (some || w.0) verdicts w.3 in
      let both = neither_true some w.0 rest.0 in
      (both.0, (inl (subst (g.answers row.output.filter m (view_of at x row)) both.1 w.2.0), rest.1))

  span_where_afresh : (some : Bool) (verdicts : List Bool) (a : PlainAttributes) (at : At) (s : StackValue (Filtered L F))
      (r : Result (Option ℕ) RequestError) (t : StackValue (Filtered L F)) →
      AsksFrom g h a.metadata at s.registry all_pass false s.rows verdicts some →
      SpanWhere g h some a at verdicts s r t → SpanAfresh g h a at s r t
  span_where_afresh true verdicts a at s r t asked made = inr (verdicts, asked, made)
  span_where_afresh false verdicts a at s r t asked dropped =
      inl ((none_passed a.metadata at s.registry s.rows all_pass false verdicts asked).1, dropped.0, dropped.1)

  span_afresh : (a : PlainAttributes) (at : At) (s : StackValue (Filtered L F)) (r : Result (Option ℕ) RequestError)
      (t : StackValue (Filtered L F)) → CacheIsValid g s → (b : Bool) → is_refused s a.metadata ≡ b → SpanUnless g h b a at s r t →
      SpanAfresh g h a at s r t
  span_afresh a at s r t w true refused dropped =
      inl (
        all_refuse_afresh g a.metadata at s.registry s.rows
            (all_refuse g a.metadata s.hint (filters_of s.rows) s.interest_cache w refused),
        dropped.0,
        dropped.1,
      )
  span_afresh a at s r t w false refused given = span_where_afresh given.1 given.0 a at s r t given.2 given.3

  pub span_is_asked : (a : PlainAttributes) (at : At) (s : StackValue (Filtered L F)) (r : Result (Option ℕ) RequestError)
      (t : StackValue (Filtered L F)) → CacheIsValid g s → SpanCached g h a at s r t → SpanAsked g h a at s r t
  span_is_asked a at s r t w given = known (knows s.registry (explicit_parent a.parent)) given
    where
      known : (k : Bool) → SpanKnown g h k s (SpanUnless g h (is_refused s a.metadata) a at s) r t →
          SpanKnown g h k s (SpanAfresh g h a at s) r t
      known true given = span_afresh a at s r t w (is_refused s a.metadata) refl given
      known false given = given

  pub span_by_answers : (a : PlainAttributes) (at : At) (s : StackValue (Filtered L F)) (r : Result (Option ℕ) RequestError)
      (t : StackValue (Filtered L F)) → SpanByAnswers g h a at s r t → SpanAsked g h a at s r t
  span_by_answers a at s r t given = known (knows s.registry (explicit_parent a.parent)) given
    where
      known : (k : Bool) → SpanKnown g h k s (SpanUnless g h false a at s) r t → SpanKnown g h k s (SpanAfresh g h a at s) r t
      known true given = span_where_afresh given.1 given.0 a at s r t given.2 given.3
      known false given = given
