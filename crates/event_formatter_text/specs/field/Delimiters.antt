-- A delimiter before a field.
use Rattle.std.specs.Prelude.{◌≡◌, Bool, true, false, Result, Ok, Err}

-- before a field that isn't the first, the delimiter is appended; before the first one nothing is done
abbrev pub Begins : {V E : Type 0} → Bool → (V → Result (Unit {0}) E → V → Type 0) → V → Result (Unit {0}) E → V → Type 0
Begins true appends before answer after = appends before answer after
Begins false appends before (Ok done) after = after ≡ before
Begins false appends before (Err error) after = ⊥

-- A field is written behind the delimiter, unless it is the first. Where the delimiter is refused, the field isn't
-- written.
pub data WritesDelimited {V E : Type 0} (seen : Bool) (appends shows : V → Result (Unit {0}) E → V → Type 0) (before : V) : Result
    (Unit {0}) E → V → Type 0 where
  is_first : {answer : Result (Unit {0}) E} {after : V} → seen ≡ false → shows before answer after →
      WritesDelimited seen appends shows before answer after
  is_later : {answer : Result (Unit {0}) E} {next after : V} → seen ≡ true → appends before (Ok tt) next → shows next answer after →
      WritesDelimited seen appends shows before answer after
  is_refused : {error : E} {after : V} → seen ≡ true → appends before (Err error) after →
      WritesDelimited seen appends shows before (Err error) after
