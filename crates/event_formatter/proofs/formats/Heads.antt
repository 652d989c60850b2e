-- Lines by what they are made of.
use Rattle.std.proofs.Common.{◌≡◌, ℕ, Bool, true, false, List, Option, Some, None, Ok, refl, ap}
use Rattle.event_formatter.specs.formats.Headings.{Shows}
use Rattle.event_formatter.specs.formats.Lines.{asked}

-- a text that is shown where it is to be is the one that is to be shown
pub shown_is : (due : Option (List ℕ)) (is_shown : Bool) (text : List ℕ) → Shows due (Ok is_shown) text → asked is_shown (Some text) ≡ due
shown_is (Some due) true text is = ap Some is
shown_is (Some due) false text is = absurd is
shown_is None true text is = absurd is
shown_is None false text is = refl
