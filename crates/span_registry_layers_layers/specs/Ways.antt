-- Ways down a tree of layers to one of them: that one is told what all filters on the way pass.
use Rattle.std.specs.Prelude.{◌≡◌, ℕ, zero, suc, Bool, true, false, List, [], ◌∷◌, Option, Some, None, Ok, refl}
use Rattle.std.proofs.Common.{sym, subst, ◌∙◌}
use Rattle.tracing_core_moments.specs.declared.at.At.{At}
use Rattle.tracing_core_fields.specs.PlainMetadata.{PlainMetadata}
use Rattle.tracing_core_fields.specs.requests.PlainRequests.{PlainAttributes, PlainEvent}
use Rattle.span_registry_layers_store.specs.SlotIndependence.{SameButSlots}
use Rattle.span_registry_layers_store.specs.Registries.{RegistryValue}
use Rattle.span_registry_layers_store.specs.IdOrder.{IsRising}
use Rattle.span_registry_layers_store.specs.Verdicts.{passes_at}
use Rattle.span_registry_layers_store.specs.declared.filter_map.FilterId.{FilterId}
use Rattle.span_registry_layers_layers.specs.OptionalLayer.{KeptOf, NotifiedOf}
use Rattle.span_registry_layers_layers.specs.Combined.{Both, Then}
use Rattle.span_registry_layers_layers.specs.Filtereds.{FilteredKept, FilteredTold, HearsAt, HearsIf, KeptAt, MayHear, is_seen, under}
use Rattle.span_registry_layers_layers.specs.Layereds.{KeptByBoth, NotifiedBoth}
use Rattle.span_registry_layers_layers.specs.FilterViews.{Hook, View, seeing}
use Rattle.span_registry_layers_layers.specs.FilterViews as looks
use Rattle.span_registry_layers_layers.specs.Notices.{Called, OnEvent, OnFollows, OnIdChange, OnSpan, Said}
use Rattle.span_registry_layers_layers.specs.Several.{EachInTurn, KeptByEach, TellsInTurn, TellsOne}
use Rattle.span_registry_layers_layers.specs.Trees.{AsksSpan, EventGives, LayersTold, Where, whole}
use Rattle.span_registry_layers_layers.specs.declared.filter.Filter.{Ghosts as FilterGhosts}
use Rattle.span_registry_layers_layers.specs.declared.filtered.Filtered.{Filtered}
use Rattle.span_registry_layers_layers.specs.declared.layer.Layer.{Ghosts}
use Rattle.span_registry_layers_layers.specs.declared.layer.layered.Layered.{Layered}

-- it stands at this place of the list, counted from 0
abbrev pub StandsAt : {A : Type 0} → ℕ → List A → A → Type 0
StandsAt n [] a = ⊥
StandsAt zero (x ∷ xs) a = a ≡ x
StandsAt (suc n) (x ∷ xs) a = StandsAt n xs a

-- the same place and moment, and the same registry but for slots that were written since
abbrev pub SeenLater : View → View → Type 0
SeenLater v u = (u.at ≡ v.at) × SameButSlots v.registry u.registry

-- once these slots are written
abbrev pub Later : (View → Bool → Type 0) → View → Bool → Type 0
Later P v b = (z : RegistryValue) × SameButSlots v.registry z × P (seeing z v) b

-- a span is seen under each filter by these verdicts, whatever slots are written
abbrev pub StandsWith : View → ℕ → List Bool → Type 0
StandsWith u id verdicts = (z : RegistryValue) → SameButSlots u.registry z → (filter : ℕ) →
    is_seen (under filter (seeing z u)) id ≡ passes_at verdicts filter

-- what the filters on a way may pass of a call on a span that stands with the verdicts that are kept, they may answer of its callsite,
-- asked when it is made
abbrev pub KeepsWord : {T : Type 0} → (T → PlainMetadata → View → Bool → List Bool → Bool → Type 0) → (T → Said → View → Bool → Type 0) →
    (T → PlainMetadata → View → Bool → Type 0) → Type 0
KeepsWord {T = T} kept passes asks =
    (x : T) (m : PlainMetadata) (v : View) (verdicts : List Bool) (some : Bool) (id : ℕ) (call : View → Hook) (u : View) (b : Bool) →
    kept x m v true verdicts some → StandsWith u id verdicts → passes x (OnSpan id call) u b → asks x m v b

module _ {T L : Type 0} (g : Ghosts T) (h : Ghosts L) where
  -- the layer is told, or stays as it was
  abbrev pub ToldIf : Bool → L → Said → View → L → Type 0
  ToldIf true l said u m = (left : RegistryValue) × h.told l (Called said u left) m
  ToldIf false l said u m = m ≡ l

  -- the layer at the end of the way is told exactly where all filters on it pass
  abbrev pub Reaches : (T → L → Type 0) → (T → Said → View → Bool → Type 0) → T → Said → View → T → L → Type 0
  Reaches leads passes x said v y l = (b : Bool) × passes x said v b × (m : L) × leads y m × (u : View) × SeenLater v u ×
      ToldIf b l said u m

  abbrev pub TellsWhere : (T → L → Type 0) → (T → Said → View → Bool → Type 0) → Type 0
  TellsWhere leads passes = (x : T) (said : Said) (v : View) (left : RegistryValue) (y : T) (l : L) → g.told x (Called said v left) y →
      leads x l → Reaches leads passes x said v y l

  -- whatever the layers of a tree are told
  abbrev pub TreeTells : (T → L → Type 0) → (T → Said → View → Bool → Type 0) → Type 0
  TreeTells leads passes =
      (s t : Layered T RegistryValue) (said : Said) (v : View) (l : L) → LayersTold g (Called said v) s t → leads s.layer l →
      Reaches leads passes s.layer said v t.layer l

  -- an event that is taken and that no layer vetoes reaches it so, and another one reaches nobody
  abbrev pub TreeTellsEvents : (T → L → Type 0) → (T → Said → View → Bool → Type 0) → Type 0
  TreeTellsEvents leads passes =
      (s t : Layered T RegistryValue) (e : PlainEvent) (at : At) (l : L) → EventGives g e at s (Ok tt) t → leads s.layer l →
      (b : Bool) × Both (g.answers s.layer e.metadata (whole at s.inner)) (g.event_answers s.layer e (whole at s.inner)) b
      × Where b (Reaches leads passes s.layer (OnEvent e) (whole at s.inner) t.layer l) (t ≡ s)

  -- a span that is made is told to the layer at the end exactly where all filters on the way, asked then, pass its callsite
  abbrev pub TreeTellsSpans : (T → L → Type 0) → (T → PlainMetadata → View → Bool → Type 0) → Type 0
  TreeTellsSpans leads asks =
      (s t : Layered T RegistryValue) (a : PlainAttributes) (at : At) (id : ℕ) (l : L) → IsRising s.inner →
      AsksSpan g a at s (Ok (Some id)) t → leads s.layer l →
      (b : Bool) × asks s.layer a.metadata (whole at s.inner) b × (m : L) × leads t.layer m × (u : View) × (u.at ≡ at) ×
      ToldIf b l (OnSpan id (looks.SpanMade a id)) u m

module _ {T : Type 0} (g : Ghosts T) where
  -- the tree itself: no filter stands on the way
  pub here_tells : TellsWhere g g (λ x l. l ≡ x) (λ x said v b. b ≡ true)
  here_tells x said v left y l t lead =
      (true, refl, y, refl, v, (refl, refl), (left, subst (λ z. g.told z (Called said v left) y) (sym lead) t))

module _ {A B L : Type 0} (a : Ghosts A) (b : Ghosts B) (h : Ghosts L) (both : Ghosts (Layered A B)) where
  abbrev TellsBoth : Type 0
  TellsBoth = (x : Layered A B) (said : Said) (v : View) (left : RegistryValue) (y : Layered A B) → both.told x (Called said v left) y →
      NotifiedBoth a b x (Called said v left) y

  -- through the outer one of two, which is told once the inner one was
  pub outer_tells : TellsBoth → (leads : A → L → Type 0) (passes : A → Said → View → Bool → Type 0) → TellsWhere a h leads passes →
      TellsWhere both h (λ x. leads x.layer) (λ x said. Later (passes x.layer said))
  outer_tells by leads passes f x said v left y l told lead =
      let t = by x said v left y told in
      let same = (b.aside x.inner (Called said v t.0) y.inner t.1).0 in
      let r = f x.layer said (seeing t.0 v) left y.layer l t.2 lead in
      (r.0, (t.0, same, r.1), r.2, r.3, r.4, (r.5.0, r.5.1 ∙ same), r.6)

  -- through the inner one
  pub inner_tells : TellsBoth → (leads : B → L → Type 0) (passes : B → Said → View → Bool → Type 0) → TellsWhere b h leads passes →
      TellsWhere both h (λ x. leads x.inner) (λ x. passes x.inner)
  inner_tells by leads passes f x said v left y l told lead = let t = by x said v left y told in f x.inner said v t.0 y.inner l t.1 lead

module _ {A B : Type 0} (K : A → PlainMetadata → View → Bool → List Bool → Bool → Type 0) (J : B → PlainMetadata → View → Bool → List Bool →
    Bool → Type 0) where
  abbrev KeptInBoth : Layered A B → PlainMetadata → View → Bool → List Bool → Bool → Type 0
  KeptInBoth x = KeptByBoth (K x.layer) (J x.inner)

  pub outer_keeps : (passes : A → Said → View → Bool → Type 0) (asks : A → PlainMetadata → View → Bool → Type 0) → KeepsWord K passes asks →
      KeepsWord KeptInBoth (λ x said. Later (passes x.layer said)) (λ x. asks x.layer)
  outer_keeps passes asks f x m v verdicts some id call u b kept stands p =
      f x.layer m v verdicts kept.0 id call (seeing p.0 u) b kept.2 (λ z same filter. stands z (same ∙ p.1) filter) p.2

  pub inner_keeps : (passes : B → Said → View → Bool → Type 0) (asks : B → PlainMetadata → View → Bool → Type 0) → KeepsWord J passes asks →
      KeepsWord KeptInBoth (λ x. passes x.inner) (λ x. asks x.inner)
  inner_keeps passes asks f x m v verdicts some id call u b kept stands p = f x.inner m v verdicts kept.1 id call u b kept.3 stands p

module _ {F : Type 0} (g : FilterGhosts F) where
  -- whether the filter, under its number, may pass what is said
  abbrev pub MayPassSaid : F → Said → View → Bool → Type 0
  MayPassSaid filter said v b = MayHear g filter (Called said v v.registry) b

  pub may_pass : (filter : F) (said : Said) (v : View) (left : RegistryValue) (b : Bool) → MayHear g filter (Called said v left) b →
      MayPassSaid filter said v b
  may_pass filter (OnSpan id call) v left b w = w
  may_pass filter (OnFollows span follows) v left b w = w
  may_pass filter (OnEvent e) v left b w = w
  may_pass filter (OnIdChange old new) v left b w = w

module _ {A F : Type 0} (g : FilterGhosts F) (passes : A → Said → View → Bool → Type 0) where
  -- the filter first, and then those below it; without a number it passes nothing
  abbrev pub PassesBelow : Option FilterId → Filtered A F → Said → View → Bool → Type 0
  PassesBelow None x said v b = b ≡ false
  PassesBelow (Some i) x said v b = Both (MayPassSaid g x.filter said (under i.index v)) (passes x.layer said (under i.index v)) b

module _ {A F : Type 0} (g : FilterGhosts F) (asks : A → PlainMetadata → View → Bool → Type 0) where
  -- the same of a callsite, asked there and then
  abbrev pub AsksBelow : Option FilterId → Filtered A F → PlainMetadata → View → Bool → Type 0
  AsksBelow None x m v b = b ≡ false
  AsksBelow (Some i) x m v b = Both (g.answers x.filter m (under i.index v)) (asks x.layer m (under i.index v)) b

module _ {A F : Type 0} (g : FilterGhosts F) (a : Ghosts A) (passes : A → Said → View → Bool → Type 0) (asks : A → PlainMetadata → View →
    Bool → Type 0) (f : KeepsWord a.kept passes asks) where
  if_kept : (own : Bool) (i : FilterId) (x : Filtered A F) (m : PlainMetadata) (v : View) (verdicts : List Bool) (some : Bool) (id : ℕ)
      (call : View → Hook) (u : View) (b : Bool) → g.answers x.filter m (under i.index v) own →
      a.kept x.layer m (under i.index v) own verdicts some → StandsWith u id verdicts →
      Then (passes x.layer (OnSpan id call) (under i.index u)) own b → AsksBelow g asks (Some i) x m v b
  if_kept true i x m v verdicts some id call u b answer kept stands p =
      (true, answer, f x.layer m (under i.index v) verdicts some id call (under i.index u) b kept stands p)
  if_kept false i x m v verdicts some id call u b answer kept stands p = (false, answer, p)

  at_kept : (i : Option FilterId) (x : Filtered A F) (m : PlainMetadata) (v : View) (verdicts : List Bool) (some : Bool) (id : ℕ)
      (call : View → Hook) (u : View) (b : Bool) → KeptAt g a i x m v true verdicts some →
      StandsWith u id verdicts → PassesBelow g passes i x (OnSpan id call) u b → AsksBelow g asks i x m v b
  at_kept None x m v verdicts some id call u b kept stands p = p
  at_kept (Some i) x m v verdicts some id call u b kept stands p =
      let same = p.1 ∙ stands u.registry refl i.index ∙ kept.2 in
      if_kept kept.0 i x m v verdicts some id call u b kept.1 kept.3 stands
      (subst (λ own. Then (passes x.layer (OnSpan id call) (under i.index u)) own b) same p.2)

  pub below_keeps : KeepsWord (FilteredKept g a) (λ x. PassesBelow g passes x.id x) (λ x. AsksBelow g asks x.id x)
  below_keeps x = at_kept x.id x

module _ {A F L : Type 0} (g : FilterGhosts F) (a : Ghosts A) (h : Ghosts L) (below : Ghosts (Filtered A F)) (leads : A → L → Type 0)
    (passes : A → Said → View → Bool → Type 0) (f : TellsWhere a h leads passes) where
  abbrev ReachesBelow : Option FilterId → Filtered A F → Said → View → Filtered A F → L → Type 0
  ReachesBelow i x said v y l = Reaches below h (λ z. leads z.layer) (λ z said u b. PassesBelow g passes i z said u b) x said v y l

  stays_below : (i : Option FilterId) (x : Filtered A F) (said : Said) (v : View) (y : Filtered A F) (l : L) → y ≡ x → leads x.layer l →
      PassesBelow g passes i x said v false → ReachesBelow i x said v y l
  stays_below i x said v y l e lead no_pass = (
    false,
    no_pass,
    l,
    subst (λ (z : Filtered A F). leads z.layer l) (sym e) lead,
    v,
    (refl, refl),
    refl,
  )

  if_below : (p : Bool) (i : FilterId) (x : Filtered A F) (said : Said) (v : View) (left : RegistryValue) (y : Filtered A F) (l : L) →
      MayPassSaid g x.filter said (under i.index v) p → leads x.layer l →
      HearsIf g a p x (Called said) (under i.index v) left y → ReachesBelow (Some i) x said v y l
  if_below true i x said v left y l may lead w = let r = f x.layer said (under i.index v) left y.layer l w.0 lead in
      (r.0, (true, may, r.1), r.2, r.3, r.4, r.5, r.6)
  if_below false i x said v left y l may lead w = stays_below (Some i) x said v y l w.0 lead (false, may, refl)

  at_below : (i : Option FilterId) (x : Filtered A F) (said : Said) (v : View) (left : RegistryValue) (y : Filtered A F) (l : L) →
      leads x.layer l → HearsAt g a i x (Called said) v left y → ReachesBelow i x said v y l
  at_below None x said v left y l lead w = stays_below None x said v y l w.0 lead refl
  at_below (Some i) x said v left y l lead w = if_below w.0 i x said v left y l (may_pass g x.filter said (under i.index v) left w.0 w.1)
      lead w.2

  -- through a filter
  pub below_tells : ((x : Filtered A F) (said : Said) (v : View) (left : RegistryValue) (y : Filtered A F) →
      below.told x (Called said v left) y → FilteredTold g a x (Called said v left) y) →
      TellsWhere below h (λ x. leads x.layer) (λ x. PassesBelow g passes x.id x)
  below_tells by x said v left y l told lead = at_below x.id x said v left y l lead (by x said v left y told).0

module _ {A : Type 0} (g : Ghosts A) where
  -- the layer at a place of several is told once those before it were
  pub place_told : (place : ℕ) (said : Said) (v : View) (r : RegistryValue) (xs : List A) (left : RegistryValue) (ys : List A) (l : A) →
      SameButSlots v.registry r → EachInTurn (TellsOne g (Called said) v) r xs left ys → StandsAt place xs l →
      (m : A) × StandsAt place ys m × (z : RegistryValue) × SameButSlots v.registry z × (after : RegistryValue) ×
      g.told l (Called said (seeing z v) after) m
  place_told place said v r [] left ys l same t stands = absurd stands
  place_told place said v r (x ∷ xs) left [] l same t stands = absurd t
  place_told zero said v r (x ∷ xs) left (y ∷ ys) l same t stands =
      (y, refl, r, same, t.0, subst (λ z. g.told z (Called said (seeing r v) t.0) y) (sym stands) t.1)
  place_told (suc place) said v r (x ∷ xs) left (y ∷ ys) l same t stands = place_told place said v t.0 xs left ys l
      ((g.aside x (Called said (seeing r v) t.0) y t.1).0 ∙ same) t.2 stands

module _ {A V : Type 0} (items : V → List A) where
  -- the layer at this place of several, and then down from there
  abbrev pub LeadsIn : {L : Type 0} → (A → L → Type 0) → ℕ → V → L → Type 0
  LeadsIn leads place x l = (a : A) × StandsAt place (items x) a × leads a l

  abbrev pub PassesIn : (A → Said → View → Bool → Type 0) → ℕ → V → Said → View → Bool → Type 0
  PassesIn passes place x said v b = (a : A) × StandsAt place (items x) a × Later (passes a said) v b

  abbrev pub AsksIn : (A → PlainMetadata → View → Bool → Type 0) → ℕ → V → PlainMetadata → View → Bool → Type 0
  AsksIn asks place x m v b = (a : A) × StandsAt place (items x) a × asks a m v b

module _ {A L V : Type 0} (g : Ghosts A) (h : Ghosts L) (several : Ghosts V) (items : V → List A) (leads : A → L → Type 0) (passes : A →
    Said → View → Bool → Type 0) where
  pub each_tells : TellsWhere g h leads passes → (place : ℕ) →
      ((x : V) (said : Said) (v : View) (left : RegistryValue) (y : V) → several.told x (Called said v left) y →
      TellsInTurn g (Called said) v (items x) left (items y)) →
      TellsWhere several h (LeadsIn items leads place) (PassesIn items passes place)
  each_tells f place by x said v left y l told lead =
      let one = place_told g place said v v.registry (items x) left (items y) lead.0 refl (by x said v left y told) lead.1 in
      let r = f lead.0 said (seeing one.2 v) one.4 one.0 l one.5 lead.2 in
      (r.0, (lead.0, lead.1, (one.2, one.3, r.1)), r.2, (one.0, one.1, r.3), r.4, (r.5.0, r.5.1 ∙ one.3), r.6)

module _ {A V : Type 0} (g : Ghosts A) (items : V → List A) (passes : A → Said → View → Bool → Type 0) (asks : A → PlainMetadata → View →
    Bool → Type 0) where
  kept_in : (place : ℕ) (xs : List A) (a : A) (m : PlainMetadata) (v : View) (verdicts : List Bool) (some : Bool) →
      KeptByEach g xs m v true verdicts some → StandsAt place xs a → (own : Bool) × g.kept a m v true verdicts own
  kept_in place [] a m v verdicts some kept stands = absurd stands
  kept_in zero (x ∷ xs) a m v verdicts some kept stands = (kept.0, subst (λ z. g.kept z m v true verdicts kept.0) (sym stands) kept.2)
  kept_in (suc place) (x ∷ xs) a m v verdicts some kept stands = kept_in place xs a m v verdicts kept.1 kept.3 stands

  pub each_keeps : KeepsWord g.kept passes asks → (place : ℕ) → KeepsWord (λ x. KeptByEach g (items x)) (PassesIn items passes place)
      (AsksIn items asks place)
  each_keeps f place x m v verdicts some id call u b kept stands p =
      let one = kept_in place (items x) p.0 m v verdicts some kept p.1 in
      (p.0, p.1, f p.0 m v verdicts one.0 id call (seeing p.2.0 u) b one.1 (λ z same filter. stands z (same ∙ p.2.1) filter) p.2.2)

module _ {A : Type 0} where
  -- the layer that may be absent, where it is there
  abbrev pub LeadsIf : {L : Type 0} → (A → L → Type 0) → Option A → L → Type 0
  LeadsIf leads None l = ⊥
  LeadsIf leads (Some x) l = leads x l

  abbrev pub PassesIf : (A → Said → View → Bool → Type 0) → Option A → Said → View → Bool → Type 0
  PassesIf passes None said v b = b ≡ false
  PassesIf passes (Some x) said v b = passes x said v b

  abbrev pub AsksIf : (A → PlainMetadata → View → Bool → Type 0) → Option A → PlainMetadata → View → Bool → Type 0
  AsksIf asks None m v b = b ≡ false
  AsksIf asks (Some x) m v b = asks x m v b

module _ {A L : Type 0} (g : Ghosts A) (h : Ghosts L) (maybe : Ghosts (Option A)) (leads : A → L → Type 0) (passes : A → Said → View →
    Bool → Type 0) (f : TellsWhere g h leads passes) where
  if_there : (x : Option A) (said : Said) (v : View) (left : RegistryValue) (y : Option A) (l : L) → NotifiedOf g x (Called said v left) y →
      LeadsIf leads x l → Reaches maybe h (LeadsIf leads) (PassesIf passes) x said v y l
  if_there None said v left y l told lead = absurd lead
  if_there (Some x) said v left None l told lead = absurd told
  if_there (Some x) said v left (Some y) l told lead = f x said v left y l told lead

  -- into a layer that may be absent
  pub present_tells : ((x : Option A) (said : Said) (v : View) (left : RegistryValue) (y : Option A) → maybe.told x (Called said v left) y →
      NotifiedOf g x (Called said v left) y) → TellsWhere maybe h (LeadsIf leads) (PassesIf passes)
  present_tells by x said v left y l told lead = if_there x said v left y l (by x said v left y told) lead

pub present_keeps : {A : Type 0} (g : Ghosts A) (passes : A → Said → View → Bool → Type 0) (asks : A → PlainMetadata → View → Bool →
    Type 0) → KeepsWord g.kept passes asks → KeepsWord (KeptOf g) (PassesIf passes) (AsksIf asks)
present_keeps g passes asks f None m v verdicts some id call u b kept stands p = p
present_keeps g passes asks f (Some x) m v verdicts some id call u b kept stands p = f x m v verdicts some id call u b kept stands p
