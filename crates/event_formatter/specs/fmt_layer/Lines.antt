-- What becomes of the line of an event.
use Rattle.std.specs.Prelude.{◌≡◌, ◌+◌, ℕ, min, Bool, true, false, List, [], ◌∷◌, ◌++◌, Option, Some, None, Result, Ok, Err, codes}
use Rattle.std.specs.IoError.{error_kind}
use Rattle.std.specs.List.{flat_map}
use Rattle.std.specs.declared.io.Error.{Error}
use Rattle.std.specs.declared.io.ErrorKind.TheVariants as kind
use Rattle.tracing_core_fields.specs.PlainMetadata.{PlainMetadata}
use Rattle.event_formatter.specs.declared.fmt_layer.output.Output.{Output}

-- names, a comma and a space before each
abbrev pub later_names : List (List ℕ) → List ℕ
later_names names = flat_map (λ name. codes ", " ++ name) names

-- names, a comma and a space between two
abbrev pub names_inside : List (List ℕ) → List ℕ
names_inside [] = []
names_inside (name ∷ names) = name ++ later_names names

-- what stands before an event's name, in what stands in place of one that can't be formatted
unfoldable pub before_name : List ℕ
before_name = codes "Unable to format the following event. Name: "

-- what stands before the names of its fields there
unfoldable pub before_fields : List ℕ
before_fields = codes "; Fields: ["

-- what stands in place of an event that can't be formatted
abbrev pub fault_text : PlainMetadata → List ℕ
fault_text m = before_name ++ m.name ++ before_fields ++ names_inside m.field_names ++ codes "]\n"

abbrev pub fault_if : Bool → PlainMetadata → Option (List ℕ)
fault_if true m = Some (fault_text m)
fault_if false m = None

-- the line of an event, or what stands in its place
abbrev pub line_or_fault : Bool → PlainMetadata → Option (List ℕ) → Option (List ℕ)
line_or_fault tells_faults m None = fault_if tells_faults m
line_or_fault tells_faults m (Some line) = Some line

-- one more text or line found no memory
abbrev pub one_more : ℕ → ℕ
one_more count = min (count + 1) 18446744073709551615

-- a refusal is for lack of memory
abbrev pub IsWantOfMemory : Error → Type 0
IsWantOfMemory error = error_kind error ≡ kind.OutOfMemory

-- what a maker that found no memory misses is counted
abbrev pub Counts : Result (Unit {0}) Error → ℕ → ℕ → Type 0
Counts (Ok done) before after = after ≡ before
Counts (Err error) before after =
    (IsWantOfMemory error → after ≡ one_more before) × ((IsWantOfMemory error → ⊥) → after ≡ before)

module _ {W : Type 0} (writes : W → PlainMetadata → List ℕ → Result (Unit {0}) Error → W → Type 0) where
  -- the line was handed to the maker, once and whole
  abbrev pub HandsLine : Output W → PlainMetadata → List ℕ → Output W → Type 0
  HandsLine x m line y =
      (answer : Result (Unit {0}) Error) × writes x.maker m line answer y.maker × Counts answer x.starved y.starved

  -- the line found no memory, and nothing of it was handed on
  abbrev pub MissesLine : Output W → Output W → Type 0
  MissesLine x y = (y.maker ≡ x.maker) × (y.starved ≡ one_more x.starved)

  -- there is no line
  abbrev pub RestsWithout : Output W → Output W → Type 0
  RestsWithout x y = (y.maker ≡ x.maker) × (y.starved ≡ x.starved)

  abbrev pub HandsIfAny : Output W → PlainMetadata → Option (List ℕ) → Output W → Type 0
  HandsIfAny x m None y = RestsWithout x y
  HandsIfAny x m (Some line) y = HandsLine x m line y

  -- a line, where there is one, was handed on, or found no memory
  abbrev pub OffersBy : Bool → Output W → PlainMetadata → Option (List ℕ) → Output W → Type 0
  OffersBy true x m line y = HandsIfAny x m line y
  OffersBy false x m line y = MissesLine x y

  abbrev pub Offers : Output W → PlainMetadata → Option (List ℕ) → Output W → Type 0
  Offers x m line y = (whole : Bool) × OffersBy whole x m line y
