-- Outputs side by side: each folds its own notices.
use Rattle.std.specs.Prelude.{◌≡◌, ℕ, Bool, List, [], ◌∷◌, map, Option, Some}
use Rattle.tracing_core_fields.specs.requests.PlainRequests.{PlainEvent}
use Rattle.tracing_core_moments.specs.declared.at.At.{At}
use Rattle.span_registry_layers_store.specs.SlotIndependence.{bare}
use Rattle.span_registry_layers_store.specs.Registries.{RegistryValue}
use Rattle.span_registry_layers_layers.specs.declared.filter.Filter.{Ghosts as FilterGhosts}
use Rattle.span_registry_layers.specs.OutputSlots.{Afresh, AsksEventBy, EachBecomes, marks_of}
use Rattle.event_formatter_text.specs.declared.format_fields.FormatFields.{Ghosts}
use Rattle.event_formatter_text.specs.declared.settings.Settings.{Settings}
use Rattle.event_formatter.specs.formats.Contexts.{PlainContext}
use Rattle.span_tracing_outputs.specs.LayerAgreement.{Agrees}
use Rattle.span_tracing_outputs.specs.OutputNotices.{Notice, event_told, heards}
use Rattle.span_tracing_outputs.specs.OutputMachines.{Fate, PlainOut, out_run, starved_by, with_fates}
use Rattle.span_tracing_outputs.specs.StackFollows.{EventGoes, LinedStack}
use Rattle.span_tracing_outputs.specs.Turns.{EachFollows, FilterHears, Lined, own}

-- an output machine, and the number of the output's filter
pub record Numbered (N : Type 0) : Type 0 where
  pub number : ℕ
  pub out : PlainOut N

-- of lists for each output, those of the first one, and those of the others
abbrev pub first_of : {A : Type 0} → List (List A) → List A
first_of [] = []
first_of (xs ∷ later) = xs

abbrev pub rest_of : {A : Type 0} → List (List A) → List (List A)
rest_of [] = []
rest_of (xs ∷ later) = later

-- for each output, what became of its texts and lines
abbrev pub Fates : Type 0
Fates = List (List Fate)

module _ {N : Type 0} (n : Ghosts N) where
  -- an output folds its notices
  abbrev pub out_told : Numbered N → List Notice → List Fate → Numbered N
  out_told o ns fates = record o { out = out_run n o.out (with_fates (heards ns) fates) }

  -- each output does
  abbrev pub outs_told : List (List Notice) → List (Numbered N) → Fates → List (Numbered N)
  outs_told nss [] fates = []
  outs_told nss (o ∷ outs) fates = out_told o (first_of nss) (first_of fates) ∷ outs_told (rest_of nss) outs (rest_of fates)

-- what each output is told by its number
abbrev pub call_lists : {N : Type 0} → (ℕ → List Notice) → List (Numbered N) → List (List Notice)
call_lists ns outs = map (λ o. ns o.number) outs

-- what each is told of an event by this mask
abbrev pub event_lists : {N : Type 0} → RegistryValue → At → PlainEvent → List Bool → List (Numbered N) → List (List Notice)
event_lists x at e [] outs = []
event_lists x at e (told ∷ mask) [] = []
event_lists x at e (told ∷ mask) (o ∷ outs) = event_told x at e told o.number ∷ event_lists x at e mask outs

module _ {N E F : Type 0} (n : Ghosts N) (line_of : E → Settings → PlainContext → PlainEvent → Option (List ℕ)) (g : FilterGhosts F) where
  abbrev pub RowAgrees : RegistryValue → Lined N E F → Numbered N → Type 0
  RowAgrees x row o = (o.number ≡ row.id.index) × Agrees n line_of own x (Some row.id.index) row.output.layer o.out

  -- each output keeps what its machine does
  abbrev pub EachAgrees : RegistryValue → List (Lined N E F) → List (Numbered N) → Type 0
  EachAgrees x [] [] = Unit {0}
  EachAgrees x [] (o ∷ outs) = ⊥
  EachAgrees x (row ∷ rows) [] = ⊥
  EachAgrees x (row ∷ rows) (o ∷ outs) = RowAgrees x row o × EachAgrees x rows outs

  -- the filter, and the count of what found no memory, after these notices with these fates
  abbrev pub RowGoes : List Notice → Lined N E F → List Fate → Lined N E F → Type 0
  RowGoes ns row fates later =
      FilterHears n line_of g row.id.index row.output.filter ns later.output.filter
      × (later.output.layer.output.starved ≡ starved_by (with_fates (heards ns) fates) row.output.layer.output.starved)

  abbrev pub EachGoes : List (List Notice) → List (Lined N E F) → Fates → List (Lined N E F) → Type 0
  EachGoes nss [] fates [] = Unit {0}
  EachGoes nss [] fates (m ∷ ms) = ⊥
  EachGoes nss (l ∷ ls) fates [] = ⊥
  EachGoes nss (l ∷ ls) fates (m ∷ ms) = RowGoes (first_of nss) l (first_of fates) m × EachGoes (rest_of nss) ls (rest_of fates) ms

  -- with these fates the filters and the counts go on, and the outputs agree with what their machines fold, from any that they agreed with
  pub record Folds (nss : List (List Notice)) (x : RegistryValue) (rows : List (Lined N E F)) (y : RegistryValue)
      (later : List (Lined N E F)) : Type 0 where
    pub fates : Fates
    pub goes : EachGoes nss rows fates later
    pub agreed : (outs : List (Numbered N)) → EachAgrees x rows outs → EachAgrees y later (outs_told n nss outs fates)

  -- the filters were asked, and by what they passed each output folds the notice of the event
  pub record EventFolds (e : PlainEvent) (at : At) (s t : LinedStack N E F) : Type 0 where
    pub asked : List (Lined N E F)
    pub answers : EachBecomes (AsksEventBy g (Afresh g) e at s.registry) s.rows asked
    pub folds : Folds (map (λ row. event_told (bare s.registry) at e row.told row.id.index) asked) s.registry asked t.registry t.rows
    pub agreed : (outs : List (Numbered N)) → EachAgrees s.registry s.rows outs → EachAgrees s.registry asked outs
    pub lists : (outs : List (Numbered N)) → EachAgrees s.registry asked outs →
        map (λ row. event_told (bare s.registry) at e row.told row.id.index) asked ≡ event_lists (bare s.registry) at e
        (map (λ row. row.told) asked) outs
    pub marks : marks_of t.rows ≡ marks_of asked

  -- outputs that go through their notices fold them
  pub record FollowingFolds : Type 0 where
    pub folds : (ns : Lined N E F → List Notice) (x : RegistryValue) (rows : List (Lined N E F)) (y : RegistryValue)
        (later : List (Lined N E F)) →
        EachFollows n line_of g ns x rows y later → Folds (map ns rows) x rows y later
    -- what outputs are told by their numbers, so are the machines that they agree with
    pub lists : (ns : ℕ → List Notice) (x : RegistryValue) (rows : List (Lined N E F)) (outs : List (Numbered N)) → EachAgrees x rows outs →
        map (λ row. ns row.id.index) rows ≡ call_lists ns outs
    pub events : (e : PlainEvent) (at : At) (s t : LinedStack N E F) → EventGoes n line_of g e at s t → EventFolds e at s t
