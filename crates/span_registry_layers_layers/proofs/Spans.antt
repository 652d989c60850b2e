-- A span that a tree makes is told to each of its layers exactly where all filters on the way to it pass its callsite.
use Rattle.std.proofs.Common.{◌≡◌, ◌<◌, ◌==◌, ℕ, List, [], ◌∷◌, ◌++◌, map, Bool, true, false, if◌then◌else◌, Option, Some, None, Result, Ok}
use Rattle.std.proofs.Common.{Err, is_some, refl, sym, ap, subst, ◌∙◌, arith}
use Rattle.std.proofs.lemmas.Bool.Decides.{nat_tests}
use Rattle.std.specs.List.{AllByRecursion}
use Rattle.std.specs.Option.{option_map}
use Rattle.tracing_core_fields.specs.PlainMetadata.{PlainMetadata}
use Rattle.tracing_core_moments.specs.declared.at.At.{At}
use Rattle.tracing_core_fields.specs.declared.requests.refusal.RequestError.{RequestError}
use Rattle.tracing_core_fields.specs.declared.requests.refusal.RequestError.TheVariants.{UnknownParent}
use Rattle.tracing_core_fields.specs.requests.PlainRequests.{PlainAttributes, PlainEvent, explicit_parent}
use Rattle.span_registry_layers_store.specs.SlotIndependence.{bare_span}
use Rattle.span_registry_layers_store.specs.RegistryCalls.{GivesUnless, span_refusal}
use Rattle.span_registry_layers_store.specs.Registries.{PlainSpan, RegistryValue, kin_in, knows, under as parent_under, with_span}
use Rattle.span_registry_layers_store.specs.IdOrder.{IsRising}
use Rattle.span_registry_layers_store.specs.Spans.{found}
use Rattle.span_registry_layers_store.specs.Verdicts.{passes_at}
use Rattle.span_registry_layers_store.specs.Views.{seen_if}
use Rattle.span_registry_layers_store.proofs.ParentLinks.{found_carried}
use Rattle.span_registry_layers_layers.specs.FilterViews as looks
use Rattle.span_registry_layers_layers.specs.Notices.{Happened, OnEvent, OnSpan, Said}
use Rattle.span_registry_layers_layers.specs.Trees.{IsDropped, LayersTold, Made, MakesSpan, TellsEvent, Where, whole}
use Rattle.span_registry_layers_layers.specs.Ways.{KeepsWord, Reaches, StandsWith, TellsWhere, ToldIf, TreeTellsEvents, TreeTellsSpans}
use Rattle.span_registry_layers_layers.specs.declared.layer.Layer.{Ghosts}
use Rattle.span_registry_layers_layers.specs.declared.layer.layered.Layered.{Layered}

-- whether a span is seen doesn't depend on its slots
bare_if : (filter : ℕ) (b : Bool) (s : PlainSpan) → is_some (if b then Some s else None) ≡ is_some (if b then Some (bare_span s) else None)
bare_if filter true s = refl
bare_if filter false s = refl

bare_seen : (filter : ℕ) (o : Option PlainSpan) →
    is_some (seen_if (Some filter) o) ≡ is_some (seen_if (Some filter) (option_map bare_span o))
bare_seen filter None = refl
bare_seen filter (Some s) = bare_if filter (passes_at s.passed filter) s

seen_bare : (filter : ℕ) (spans : List PlainSpan) (id : ℕ) → is_some (seen_if (Some filter) (found kin_in spans id)) ≡ is_some
    (seen_if (Some filter) (found kin_in (map bare_span spans) id))
seen_bare filter spans id = bare_seen filter (found kin_in spans id) ∙
    ap (λ o. is_some (seen_if (Some filter) o)) (sym (found_carried kin_in bare_span spans id))

-- the last span is found, where the others have lesser ids
past : (x : PlainSpan) (n : ℕ) (o : Option PlainSpan) → x.kin.id < n → (if x.kin.id == n then Some x else o) ≡ o
past x n o below = let other : (x.kin.id == n) ≡ false = grind (arith, nat_tests, below) in rw other refl

itself : (x : PlainSpan) → (if x.kin.id == x.kin.id then Some x else None) ≡ Some x
itself x = let same : (x.kin.id == x.kin.id) ≡ true = grind (arith, nat_tests) in rw same refl

found_last : (xs : List PlainSpan) (new : PlainSpan) → AllByRecursion (λ (s : PlainSpan). s.kin.id < new.kin.id) xs →
    found kin_in (xs ++ new ∷ []) new.kin.id ≡ Some new
found_last [] new below = itself new
found_last (x ∷ xs) new below = past x new.kin.id (found kin_in (xs ++ new ∷ []) new.kin.id) below.0 ∙ found_last xs new below.1

own_verdict : (b : Bool) (s : PlainSpan) → is_some (if b then Some s else None) ≡ b
own_verdict true s = refl
own_verdict false s = refl

-- a new span is seen by its verdicts
new_stands : (x y : RegistryValue) (m : PlainMetadata) (parent : Option ℕ) (verdicts : List Bool) (at : At) → IsRising x →
    y ≡ with_span x m parent verdicts → StandsWith (whole at y) x.next_id verdicts
new_stands x y m parent verdicts at rising made = λ z same filter.
    let new : PlainSpan = record {
      kin = record { id = x.next_id; parent = parent; handles = 1 };
      metadata = m;
      passed = verdicts;
      slots =
          [];
    } in
    let there : found kin_in y.spans x.next_id ≡ Some new = ap (λ (v : RegistryValue). found kin_in v.spans x.next_id) made ∙
    found_last x.spans new rising.below in
    seen_bare filter z.spans x.next_id
    ∙ ap (λ (v : RegistryValue). is_some (seen_if (Some filter) (found kin_in v.spans x.next_id))) same
    ∙ sym (seen_bare filter y.spans x.next_id)
    ∙ ap (λ o. is_some (seen_if (Some filter) o)) there
    ∙ own_verdict (passes_at verdicts filter) new

given_id : (refusal : Option RequestError) (x y left : RegistryValue) (answer i : ℕ) → GivesUnless refusal x answer left (Ok i) y →
    (i ≡ answer) × (y ≡ left)
given_id None x y left answer i w = w
given_id (Some refusal) x y left answer i w = let refused = w.0 in absurd (cc)

module _ {T L : Type 0} (g : Ghosts T) (h : Ghosts L) (leads : T → L → Type 0) (passes : T → Said → looks.View → Bool → Type 0)
    (asks : T → PlainMetadata → looks.View → Bool → Type 0) (tells : TellsWhere g h leads passes) (keeps : KeepsWord g.kept passes asks)
  where
    abbrev Told : Layered T RegistryValue → PlainAttributes → At → ℕ → Layered T RegistryValue → L → Type 0
    Told s a at id t l =
        (b : Bool) × asks s.layer a.metadata (whole at s.inner) b × (m : L) × leads t.layer m × (u : looks.View) × (u.at ≡ at) ×
        ToldIf g h b l (OnSpan id (looks.SpanMade a id)) u m

    told_made : (s t : Layered T RegistryValue) (a : PlainAttributes) (at : At) (id i : ℕ) (l : L) (verdicts : List Bool) (some : Bool)
        (x : RegistryValue) → IsRising s.inner → g.kept s.layer a.metadata (whole at s.inner) true verdicts some →
        (i ≡ s.inner.next_id) × (x ≡ with_span s.inner a.metadata (parent_under s.inner at.lane a.parent) verdicts) →
        Made g a at s x (Ok i) (Ok (Some id)) t → leads s.layer l → Told s a at id t l
    told_made s t a at id i l verdicts some x rising kept given made lead =
        let said = made.0 in
        let same : i ≡ id = cc in
        let call = OnSpan i (looks.SpanMade a i) in
        let r = tells s.layer call (whole at x) t.inner t.layer l made.1 lead in
        let stands : StandsWith (whole at x) i verdicts = subst (λ n. StandsWith (whole at x) n verdicts) (sym given.0)
        (new_stands s.inner x a.metadata (parent_under s.inner at.lane a.parent) verdicts at rising given.1) in
        let asked = keeps s.layer a.metadata (whole at s.inner) verdicts some i (looks.SpanMade a i) (whole at x) r.0 kept stands r.1 in
        (r.0, asked, r.2, r.3, r.4, r.5.0, subst (λ n. ToldIf g h r.0 l (OnSpan n (looks.SpanMade a n)) r.4 r.2) same r.6)

    made : (s t : Layered T RegistryValue) (a : PlainAttributes) (at : At) (id : ℕ) (l : L) (verdicts : List Bool) (some : Bool) →
        IsRising s.inner → g.kept s.layer a.metadata (whole at s.inner) true verdicts some →
        (given : Result ℕ RequestError) (x : RegistryValue) → GivesUnless (span_refusal s.inner a.parent) s.inner s.inner.next_id
        (with_span s.inner a.metadata (parent_under s.inner at.lane a.parent) verdicts) given x →
        Made g a at s x given (Ok (Some id)) t → leads s.layer l → Told s a at id t l
    made s t a at id l verdicts some rising kept (Ok i) x w m lead =
        told_made s t a at id i l verdicts some x rising kept
        (given_id (span_refusal s.inner a.parent) s.inner x (with_span s.inner a.metadata (parent_under s.inner at.lane a.parent) verdicts)
        s.inner.next_id i w) m lead
    made s t a at id l verdicts some rising kept (Err e) x w m lead = let refused = m.0 in absurd (cc)

    if_made : (s t : Layered T RegistryValue) (a : PlainAttributes) (at : At) (id : ℕ) (l : L) (verdicts : List Bool) (some : Bool)
        (to : Bool) → IsRising s.inner → g.kept s.layer a.metadata (whole at s.inner) true verdicts some → leads s.layer l →
        Where to (MakesSpan g a at verdicts s (Ok (Some id)) t) (IsDropped g s (Ok (Some id)) t) → Told s a at id t l
    if_made s t a at id l verdicts some true rising kept lead w = made s t a at id l verdicts some rising kept w.0 w.1 w.2 w.3 lead
    if_made s t a at id l verdicts some false rising kept lead w = let dropped = w.0 in absurd (cc)

    pub tells_spans : TreeTellsSpans g h leads asks
    tells_spans s t a at id l rising asked lead = if_made s t a at id l asked.0 asked.1 asked.1 rising asked.2 lead asked.3

module _ {T L : Type 0} (g : Ghosts T) (h : Ghosts L) (leads : T → L → Type 0) (passes : T → Said → looks.View → Bool → Type 0)
    (tells : TellsWhere g h leads passes) where
  told_if : (b : Bool) (s t : Layered T RegistryValue) (e : PlainEvent) (at : At) (l : L) → leads s.layer l →
      Where b (LayersTold g (Happened e (whole at s.inner)) s t) (t ≡ s) →
      Where b (Reaches g h leads passes s.layer (OnEvent e) (whole at s.inner) t.layer l) (t ≡ s)
  told_if true s t e at l lead w = tells s.layer (OnEvent e) (whole at s.inner) t.inner t.layer l w lead
  told_if false s t e at l lead w = w

  known : (b : Bool) (r : Result (Unit {0}) RequestError) (s t : Layered T RegistryValue) (e : PlainEvent) (at : At) → r ≡ Ok tt →
      Where b ((r ≡ Ok tt) × TellsEvent g e at s t) ((r ≡ Err UnknownParent) × (t ≡ s)) → TellsEvent g e at s t
  known true r s t e at taken w = w.1
  known false r s t e at taken w = let refused = w.0 in absurd (cc)

  pub tells_events : TreeTellsEvents g h leads passes
  tells_events s t e at l given lead = let told = known (knows s.inner (explicit_parent e.parent)) (Ok tt) s t e at refl given in
      (told.0, told.1, told_if told.0 s t e at l lead told.2)
