-- Members that a visit gives.
use Rattle.std.specs.Prelude.{◌≡◌, List, Option, Some, None, Result, Ok, Err, map}
use Rattle.std.specs.Global.{Vec}
use Rattle.event_formatter_text.specs.JsonObjects.{Pair, pair_of}
use Rattle.event_formatter_text.specs.declared.error.FormatError.{FormatError}
use Rattle.event_formatter_text.specs.declared.error.FormatError.TheVariants.{Failed, OutOfMemory}
use Rattle.event_formatter_text.specs.declared.json_object.Member.{Member}

-- these members are given, or there are none since a value can't be formatted
abbrev pub GivesMembers : Option (List Pair) → Result (Vec Member) FormatError → Type 0
GivesMembers (Some pairs) (Ok members) = map pair_of members.items ≡ pairs
GivesMembers None (Ok members) = ⊥
GivesMembers (Some pairs) (Err Failed) = ⊥
GivesMembers None (Err Failed) = Unit {0}
GivesMembers pairs (Err OutOfMemory) = Unit {0}
