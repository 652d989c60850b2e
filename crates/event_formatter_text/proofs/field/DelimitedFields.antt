-- The delimiter, and then the field.
use Rattle.std.proofs.Common.{◌≡◌, Bool, true, false, Result, Ok, Err, refl, subst}
use Rattle.event_formatter_text.specs.field.Delimiters.{Begins, WritesDelimited, is_first, is_later, is_refused}

module _ {V E : Type 0} (appends shows : V → Result (Unit {0}) E → V → Type 0) {before : V} where
  then_shown : (seen : Bool) {next after : V} {answer : Result (Unit {0}) E} → Begins seen appends before (Ok tt) next →
      shows next answer after → WritesDelimited seen appends shows before answer after
  then_shown true begun shown = is_later refl begun shown
  then_shown false {after = after} {answer = answer} begun shown = is_first refl (subst (λ v. shows v answer after) begun shown)

  refused : (seen : Bool) {next : V} {error : E} → Begins seen appends before (Err error) next →
      WritesDelimited seen appends shows before (Err error) next
  refused true begun = is_refused refl begun
  refused false begun = absurd begun

  -- the delimiter was appended, where there was to be one, and then the field was shown
  pub goes_on : {seen : Bool} {next after : V} {answer begun : Result (Unit {0}) E} → Begins seen appends before begun next →
      begun ≡ Ok tt → shows next answer after → WritesDelimited seen appends shows before answer after
  goes_on {seen = seen} {next = next} begins is shown = then_shown seen (subst (λ r. Begins seen appends before r next) is begins) shown

  -- the delimiter was refused
  pub ends : {seen : Bool} {next : V} {begun : Result (Unit {0}) E} {error : E} → Begins seen appends before begun next →
      begun ≡ Err error → WritesDelimited seen appends shows before (Err error) next
  ends {seen = seen} {next = next} begins is = refused seen (subst (λ r. Begins seen appends before r next) is begins)
