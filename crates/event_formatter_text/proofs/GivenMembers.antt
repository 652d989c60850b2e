-- What is written and kept of members that a visit gave.
use Rattle.std.proofs.Common.{◌≡◌, ℕ, List, ◌++◌, Option, Some, None, Ok, Err, map, refl, ap, ◌∙◌}
use Rattle.std.specs.Global.{Vec}
use Rattle.std.specs.Option.{option_map}
use Rattle.event_formatter_text.specs.GivenMembers.{GivesMembers}
use Rattle.event_formatter_text.specs.JsonObjects.{Pair, object_text, pair_of, words_of}
use Rattle.event_formatter_text.specs.SpanFields.{Adds, PlainFields}
use Rattle.event_formatter_text.specs.Lists.{Formats}
use Rattle.event_formatter_text.specs.Members.{Keeps}
use Rattle.event_formatter_text.specs.declared.error.FormatError.{FormatError}
use Rattle.event_formatter_text.specs.declared.error.FormatError.TheVariants.{Failed, OutOfMemory}
use Rattle.event_formatter_text.specs.declared.json_object.Member.{Member}

pub given : (o : Option (List Pair)) (members : Vec Member) → Keeps o (Ok tt) (map pair_of members.items) → GivesMembers o (Ok members)
given None members k = absurd k
given (Some pairs) members k = k

pub refused : (o : Option (List Pair)) (new : List Pair) (error : FormatError) → Keeps o (Err error) new → GivesMembers o (Err error)
refused None new Failed k = tt
refused (Some pairs) new Failed k = absurd k
refused None new OutOfMemory k = tt
refused (Some pairs) new OutOfMemory k = tt

pub object_written : (o : Option (List Pair)) (members : Vec Member) (old new : List ℕ) → GivesMembers o (Ok members) → new ≡ old ++
    object_text (map pair_of members.items) → Formats (option_map object_text o) old (Ok tt) new
object_written None members old new g wrote = absurd g
object_written (Some pairs) members old new g wrote = wrote ∙ ap (λ (ps : List Pair). old ++ object_text ps) g

pub object_refused : (o : Option (List Pair)) (error : FormatError) (old new : List ℕ) → GivesMembers o (Err error) →
    Formats (option_map object_text o) old (Err error) new
object_refused None Failed old new g = tt
object_refused (Some pairs) Failed old new g = absurd g
object_refused None OutOfMemory old new g = tt
object_refused (Some pairs) OutOfMemory old new g = tt

pub members_added : (o : Option (List Pair)) (members : Vec Member) (old : PlainFields) (text : List ℕ) (words : List (List ℕ)) →
    GivesMembers o (Ok members) → text ≡ object_text (map pair_of members.items) → words ≡ words_of (map pair_of members.items) →
    Adds (option_map (λ pairs. record old { text = object_text pairs; words = words_of pairs }) o) old (Ok tt)
    (record old { text = text; words = words })
members_added None members old text words g t w = absurd g
members_added (Some pairs) members old text words g t w = λ i. record old { text = (t ∙ ap object_text g) i; words = (w ∙ ap words_of g) i }

pub members_refused : (o : Option (List Pair)) (error : FormatError) (old : PlainFields) → GivesMembers o (Err error) →
    Adds (option_map (λ pairs. record old { text = object_text pairs; words = words_of pairs }) o) old (Err error) old
members_refused None Failed old g = refl
members_refused (Some pairs) Failed old g = absurd g
members_refused None OutOfMemory old g = refl
members_refused (Some pairs) OutOfMemory old g = refl
