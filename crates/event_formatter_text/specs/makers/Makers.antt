-- What makers over other makers do with a line.
use Rattle.std.specs.Prelude.{◌≡◌, Bool, true, false, Result, Ok, Err}
use Rattle.std.specs.IoError.{error_kind}
use Rattle.std.specs.declared.io.Error.{Error}
use Rattle.std.specs.declared.io.ErrorKind.TheVariants as kind

-- what handing a line over answered, and what it left
abbrev pub Handing : Type 0 → Type 1
Handing M = Result (Unit {0}) Error → M → Type 0

-- it is handed on where the bound lets it through; else nothing is done
abbrev pub WritesIf : {M : Type 0} → Bool → Handing M → M → Result (Unit {0}) Error → M → Type 0
WritesIf true writes before answer after = writes answer after
WritesIf false writes before answer after = (answer ≡ Ok tt) × (after ≡ before)

-- a refusal is for lack of memory
abbrev pub IsWantOfMemory : Error → Type 0
IsWantOfMemory error = error_kind error ≡ kind.OutOfMemory

-- What is told of two answers: the error of one that had no memory, else the first's error, or else what the second answered.
abbrev pub ToldOfBoth : Result (Unit {0}) Error → Result (Unit {0}) Error → Result (Unit {0}) Error → Type 0
ToldOfBoth (Ok done) second answer = answer ≡ second
ToldOfBoth (Err error) (Ok done) answer = answer ≡ Err error
ToldOfBoth (Err error) (Err other) answer =
    (IsWantOfMemory other → answer ≡ Err other) × ((IsWantOfMemory other → ⊥) → answer ≡ Err error)

-- both are handed the line
abbrev pub WritesBoth : {A B : Type 0} → Handing A → Handing B → Result (Unit {0}) Error → A → B → Type 0
WritesBoth first second answer a b =
    (x : Result (Unit {0}) Error) × (y : Result (Unit {0}) Error) × first x a × second y b × ToldOfBoth x y answer

-- one is handed the line, by what the first takes
abbrev pub WritesOne : {A B : Type 0} → Bool → Handing A → Handing B → A → B → Result (Unit {0}) Error → A → B → Type 0
WritesOne true first second old-a old-b answer a b = first answer a × (b ≡ old-b)
WritesOne false first second old-a old-b answer a b = second answer b × (a ≡ old-a)

abbrev pub WritesEither : {A B : Type 0} → (Bool → Type 0) → Handing A → Handing B → A → B → Result (Unit {0}) Error → A → B → Type 0
WritesEither takes first second old-a old-b answer a b =
    (taken : Bool) × takes taken × WritesOne taken first second old-a old-b answer a b
