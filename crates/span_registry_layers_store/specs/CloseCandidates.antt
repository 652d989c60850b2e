-- Which spans of a registry may not stay.
use Rattle.std.specs.Prelude.{◌≡◌, ℕ, List, Option, Some, None, true, false}
use Rattle.span_registry_layers_store.specs.Registries.{PlainSpan, RegistryValue, kin_in}
use Rattle.span_registry_layers_store.specs.IdOrder.{IsBelow}
use Rattle.span_registry_layers_store.specs.RegistryCalls.{ClosesFirst}
use Rattle.span_registry_layers_store.specs.Spans.{AllStay, Rises, StayBut, keeps}
use Rattle.span_registry_layers_store.specs.declared.close_candidates.CloseCandidates.{CloseCandidates}
use Rattle.span_registry_layers_store.specs.declared.close_candidates.CloseCandidates.TheVariants.{Nobody, One, Anybody}

-- all others stay
abbrev pub OthersStay : CloseCandidates → List (List ℕ) → List PlainSpan → Type 0
OthersStay Nobody lanes ss = StayBut kin_in None lanes ss
OthersStay (One id) lanes ss = StayBut kin_in (Some id) lanes ss
OthersStay Anybody lanes ss = Unit {0}

-- the span of the id may go
abbrev pub MayGo : ℕ → CloseCandidates → Type 0
MayGo id Nobody = ⊥
MayGo id (One other) = other ≡ id
MayGo id Anybody = Unit {0}

abbrev pub at_most : Option ℕ → CloseCandidates
at_most None = Nobody
at_most (Some id) = One id

-- after the close of a span with this parent
abbrev pub after_close : CloseCandidates → Option ℕ → CloseCandidates
after_close Nobody parent = at_most parent
after_close (One id) parent = at_most parent
after_close Anybody parent = Anybody

-- among those that may go the span of the id closes first, unless it stays: then all do
pub record IsFirst (u : CloseCandidates) (x : RegistryValue) (id : ℕ) : Type 0 where
  pub may : MayGo id u
  pub goes : Rises kin_in 0 x.spans → keeps kin_in x.lanes x.spans id ≡ false → ClosesFirst x.lanes x.spans id
  pub stay : Rises kin_in 0 x.spans → keeps kin_in x.lanes x.spans id ≡ true → AllStay kin_in x.lanes x.spans

-- ids are below the next one, and all spans stay but those that may go
abbrev pub IsWhole : CloseCandidates → RegistryValue → Type 0
IsWhole u x = IsBelow x × OthersStay u x.lanes x.spans
