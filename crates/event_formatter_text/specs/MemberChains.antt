-- Members of a JSON object, which several functions append one after the other.
use Rattle.std.specs.Prelude.{◌≡◌, ℕ, Bool, false, List, [], ◌∷◌, ◌++◌, if◌then◌else◌, Option, Some, None, is_none, Result, Ok, Err, codes}
use Rattle.std.specs.List.{filter_map, list_any}
use Rattle.tracing_core_fields.specs.requests.PlainRequests.{PlainValues}
use Rattle.event_formatter_text.specs.Lists.{entry_piece, joined}
use Rattle.event_formatter_text.specs.Visitors.{member_piece}
use Rattle.event_formatter_text.specs.declared.error.FormatError.{FormatError}
use Rattle.event_formatter_text.specs.declared.error.FormatError.TheVariants.{Failed, OutOfMemory}

-- the members of a list of values, in the order of the list; none where a value can't be formatted
abbrev pub members_of : PlainValues → Option (List (List ℕ))
members_of values =
    if list_any (λ e. is_none (entry_piece member_piece values.names e)) values.entries then None
    else Some (filter_map (entry_piece member_piece values.names) values.entries)

-- whether the next member is the first one of its object, once these were appended
abbrev pub is_still_first : {X : Type 0} → Bool → List X → Bool
is_still_first is_first [] = is_first
is_still_first is_first (x ∷ xs) = false

-- Members were appended, with a comma before each but the first one of the object.
pub record Extends (members : List (List ℕ)) (is_first : Bool) (old : List ℕ)
    (is_still : Bool) (new : List ℕ) : Type 0 where
  pub text : new ≡ old ++ joined (codes ",") is_first members
  pub first : is_still ≡ is_still_first is_first members

-- Members were appended, or they can't be formatted. Out of memory says nothing of what was appended.
abbrev pub ExtendsWhole : Option (List (List ℕ)) → Bool → List ℕ → Result Bool FormatError → List ℕ → Type 0
ExtendsWhole (Some members) is_first old (Ok is_still) new = Extends members is_first old is_still new
ExtendsWhole None is_first old (Ok is_still) new = ⊥
ExtendsWhole (Some members) is_first old (Err Failed) new = ⊥
ExtendsWhole None is_first old (Err Failed) new = Unit {0}
ExtendsWhole members is_first old (Err OutOfMemory) new = Unit {0}
