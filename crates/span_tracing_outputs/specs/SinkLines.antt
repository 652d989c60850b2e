-- Lines that are handed to sinks.
use Rattle.std.specs.Prelude.{◌≡◌, ◌||◌, ℕ, Bool, false, List, [], ◌∷◌, map, Option, Some, None, slice_get, slice_set}
use Rattle.tracing_core_moments.specs.declared.at.At.{At}
use Rattle.span_registry_layers.specs.OutputSlots.{with_layer}
use Rattle.span_tracing_outputs.specs.OutputMachines.{PlainLine}
use Rattle.span_tracing_outputs.specs.StackFollows.{LinedStack}
use Rattle.span_tracing_outputs.specs.Turns.{Lined, Lines}

-- whether a line is held beside a queue of one of these sinks
abbrev pub some_hold : {S : Type 0} → (S → Bool) → List S → Bool
some_hold holds [] = false
some_hold holds (sink ∷ sinks) = holds sink || some_hold holds sinks

-- lines are taken, in order
abbrev pub TakesAll : {S : Type 0} → (S → At → PlainLine → S → Type 0) → At → List PlainLine → S → S → Type 0
TakesAll takes at [] old new = new ≡ old
TakesAll {S = S} takes at (line ∷ lines) old new = (mid : S) × takes old at line mid × TakesAll takes at lines mid new

-- the lines of each list went to the sink at its place
abbrev pub TakesLists : {S : Type 0} → (S → At → PlainLine → S → Type 0) → At → List (List PlainLine) → List S → List S → Type 0
TakesLists takes at [] [] [] = Unit {0}
TakesLists takes at (lines ∷ later) (sink ∷ sinks) (taken ∷ sinks_after) = TakesAll takes at lines sink taken ×
    TakesLists takes at later sinks sinks_after
TakesLists takes at later sinks sinks_after = ⊥

-- the lines that each output keeps
abbrev pub lines_kept : {N E F : Type 0} → List (Lined N E F) → List (List PlainLine)
lines_kept [] = []
lines_kept (row ∷ rows) = row.output.layer.output.maker ∷ lines_kept rows

-- none keeps a line
abbrev pub NoLines : {N E F : Type 0} → List (Lined N E F) → Type 0
NoLines [] = Unit {0}
NoLines (row ∷ rows) = (row.output.layer.output.maker ≡ []) × NoLines rows

-- a layer has no line any more
abbrev pub cleared : {N E : Type 0} → Lines N E → Lines N E
cleared layer = record layer { output = record layer.output { maker = [] } }

abbrev pub cleared_row : {N E F : Type 0} → Lined N E F → Lined N E F
cleared_row row = with_layer (cleared row.output.layer) row

-- an output at a place has no line any more
abbrev pub cleared_at : {N E F : Type 0} → Option (Lined N E F) → ℕ → List (Lined N E F) → List (Lined N E F)
cleared_at None place rows = rows
cleared_at (Some row) place rows = slice_set rows place (cleared_row row)

-- lines went to the sink at a place
abbrev pub TookAt : {S : Type 0} → (S → At → PlainLine → S → Type 0) → At → List PlainLine → ℕ → List S → List S → Type 0
TookAt {S} takes at lines place sinks sinks_after =
    (sink : S) × (taken : S) × (slice_get sinks place ≡ Some sink) × TakesAll takes at lines sink taken ×
    (sinks_after ≡ slice_set sinks place taken)

-- the lines of an output went there
abbrev pub LinesIf : {N E F S : Type 0} → (S → At → PlainLine → S → Type 0) → At → Option (Lined N E F) → ℕ → List S → List S → Type 0
LinesIf takes at None place sinks sinks_after = sinks_after ≡ sinks
LinesIf takes at (Some row) place sinks sinks_after = TookAt takes at row.output.layer.output.maker place sinks sinks_after

-- the lines of each output went to its sink
abbrev pub TakesEach : {N E F S : Type 0} → (S → At → PlainLine → S → Type 0) → At → List (Lined N E F) → List S → List S → Type 0
TakesEach takes at rows sinks sinks_after = TakesLists takes at (lines_kept rows) sinks sinks_after

-- each sink took its output's lines, and no output has a line any more
abbrev pub HandsOver : {N E F S : Type 0} → (S → At → PlainLine → S → Type 0) → At → LinedStack N E F → List S → LinedStack N E F → List S →
    Type 0
HandsOver takes at s sinks t sinks_after = TakesEach takes at s.rows sinks sinks_after × (t ≡ record s { rows = map cleared_row s.rows })
