-- What is asked of all filters again.
use Rattle.std.specs.Prelude.{◌≡◌, ◌||◌, ℕ, Bool, false, List, [], ◌∷◌, length, Option, None, slice_set}
use Rattle.tracing_core_fields.specs.requests.Interests.{joined, settled, PlainInterest}
use Rattle.tracing_core_moments.specs.declared.at.At.{At}
use Rattle.tracing_core_fields.specs.PlainMetadata.{PlainMetadata}
use Rattle.span_registry_layers_store.specs.Registries.{RegistryValue}
use Rattle.span_registry_layers_layers.specs.Combined.{Either, either_hint}
use Rattle.span_registry_layers_layers.specs.FilterViews.{View}
use Rattle.span_registry_layers_layers.specs.FilterNumbers.{AreNumbers, SameBut, SameOf}
use Rattle.span_registry_layers_layers.specs.declared.filter.Filter.{Ghosts}
use Rattle.span_registry_layers_layers.specs.declared.filtered.Filtered.{Filtered}
use Rattle.span_registry_layers_layers.specs.declared.layer.Layer.{Ghosts as LayerGhosts}
use Rattle.span_registry_layers.specs.OutputSlots.{view_of}
use Rattle.span_registry_layers.specs.declared.output_slot.OutputSlot.{OutputSlot}

module _ {F : Type 0} (g : Ghosts F) where
  -- the highest of this hint and the filters', and none where one is absent
  abbrev pub common_hint : Option ℕ → List F → Option ℕ
  common_hint h [] = h
  common_hint h (f ∷ fs) = common_hint (either_hint h (g.hint f)) fs

  -- the filters' interests in a callsite, one of each, joined to those before
  abbrev pub InterestFrom : PlainMetadata → Option PlainInterest → List F → PlainInterest → Type 0
  InterestFrom m before [] k = k ≡ settled before
  InterestFrom m before (f ∷ fs) k = (own : PlainInterest) × g.says f m own × InterestFrom m (joined before own) fs k

  -- what the filters have in common of a callsite
  abbrev pub CommonInterest : PlainMetadata → List F → PlainInterest → Type 0
  CommonInterest m fs k = InterestFrom m None fs k

module _ {L F : Type 0} where
  -- whether some output's filter passes the callsite: they are asked in order, until one does
  abbrev pub SomePassesBy : (F → PlainMetadata → View → Bool → Type 0) → PlainMetadata → At → RegistryValue →
      List (OutputSlot (Filtered L F)) → Bool → Type 0
  SomePassesBy A m at x [] b = b ≡ false
  SomePassesBy A m at x (row ∷ rows) b = Either (A row.output.filter m (view_of at x row)) (SomePassesBy A m at x rows) b

  -- the same by answers that the filters may give there
  abbrev pub SomePasses : Ghosts F → PlainMetadata → At → RegistryValue → List (OutputSlot (Filtered L F)) → Bool → Type 0
  SomePasses g m at x rows b = SomePassesBy g.answers m at x rows b

module _ {L F : Type 0} (g : Ghosts F) (h : LayerGhosts L) where
  -- the filters in a layer are asked of a new span, of which the output's filter said this: each of them may say what is then known,
  -- whatever other filters say
  abbrev pub AsksLayer : PlainMetadata → View → Bool → L → List Bool → List Bool → Type 0
  AsksLayer m v answer layer before after =
      (length after ≡ length before) × SameBut (h.numbers layer) before after
      × ((heard : Bool) × ((later : List Bool) → AreNumbers (length before) (h.numbers layer) → SameOf (h.numbers layer) after later →
      h.kept layer m v answer later heard))

  -- an output's filter is asked of a new span, and then those in its layer: the answer is kept under the filter's number
  abbrev pub AsksRow : PlainMetadata → At → RegistryValue → OutputSlot (Filtered L F) → List Bool → List Bool → Bool → Type 0
  AsksRow m at x row before after answer =
      g.answers row.output.filter m (view_of at x row) answer ×
      (AsksLayer m (view_of at x row) answer row.output.layer (slice_set before row.id.index answer) after)

  -- all are asked, in order, and whether one of the outputs' filters passes is told
  abbrev pub AsksFrom : PlainMetadata → At → RegistryValue → List Bool → Bool → List (OutputSlot (Filtered L F)) → List Bool → Bool → Type 0
  AsksFrom m at x passed some [] verdicts result = (verdicts ≡ passed) × (result ≡ some)
  AsksFrom m at x passed some (row ∷ rows) verdicts result =
      (answer : Bool) × (next : List Bool) × AsksRow m at x row passed next answer × AsksFrom m at x next (some || answer) rows verdicts
      result
