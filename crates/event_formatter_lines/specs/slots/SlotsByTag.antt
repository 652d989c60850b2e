-- The slots of one output, apart from those of the others.
use Rattle.std.specs.Prelude.{◌≡◌, IsSome, ℕ, ◌==◌, List, [], not, Bool, true, false, Option, Some, None}
use Rattle.std.specs.List.{filter}
use Rattle.span_registry_layers_store.specs.Slots.{PlainPlace, PlainSlot, Text, Times, Words, slot_at}
use Rattle.span_registry_layers_store.specs.declared.slot.Tag.{Tag}
use Rattle.span_registry_layers_store.specs.declared.slot.Tag.TheVariants as tag
use Rattle.span_registry_layers_store.specs.declared.slot.Timings.{Timings}
use Rattle.event_formatter_text.specs.SpanFields.{PlainFields}
use Rattle.event_formatter_lines.specs.slots.FieldsAndTimings.{PlainKept, fields_by, text_by, timings_by, words_by}

-- the slots of an output by their tags, and all slots of others
pub record SlotsByTag : Type 0 where
  pub text : Option PlainSlot
  pub timings : Option PlainSlot
  pub number : Option PlainSlot
  pub words : Option PlainSlot
  pub others : List PlainPlace

unfoldable pub by_tag : ℕ → List PlainPlace → SlotsByTag
by_tag key places =
    record {
      text = slot_at places key tag.Text;
      timings = slot_at places key tag.Timings;
      number = slot_at places key tag.Number;
      words = slot_at places key tag.Words;
      others = filter (λ (p : PlainPlace). not (p.key == key)) places;
    }

abbrev pub slot_under : Tag → SlotsByTag → Option PlainSlot
slot_under tag.Text slots = slots.text
slot_under tag.Timings slots = slots.timings
slot_under tag.Number slots = slots.number
slot_under tag.Words slots = slots.words

abbrev pub with_under : Tag → Option PlainSlot → SlotsByTag → SlotsByTag
with_under tag.Text slot slots = record slots { text = slot }
with_under tag.Timings slot slots = record slots { timings = slot }
with_under tag.Number slot slots = record slots { number = slot }
with_under tag.Words slot slots = record slots { words = slot }

-- what is kept in them
abbrev pub kept_by : SlotsByTag → PlainKept
kept_by slots = record { fields = fields_by slots.text slots.words slots.number; timings = timings_by slots.timings }

-- a slot is put there; without memory, which is needed only where there is none, nothing changes
abbrev pub Puts : Tag → PlainSlot → SlotsByTag → Bool → SlotsByTag → Type 0
Puts t slot before true after = after ≡ with_under t (Some slot) before
Puts t slot before false after = (slot_under t before ≡ None) × (after ≡ before)

-- timings are put there, where there are any to keep
abbrev pub PutsTimings : Option Timings → SlotsByTag → Bool → SlotsByTag → Type 0
PutsTimings None before kept after = (kept ≡ true) × (after ≡ before)
PutsTimings (Some timings) before kept after = Puts tag.Timings (Times timings) before kept after

-- another value of what is kept stands there, and nothing of other outputs changed
abbrev pub Leaves : SlotsByTag → PlainKept → SlotsByTag → Type 0
Leaves before kept after = (kept_by after ≡ kept) × (after.others ≡ before.others)

-- the fields are kept; without memory there is no text of them that wasn't there before
abbrev pub PutsFields : PlainFields → SlotsByTag → Bool → SlotsByTag → Type 0
PutsFields fields before true after = Leaves before (record (kept_by before) { fields = Some fields }) after
PutsFields fields before false after =
    (after.text ≡ before.text) × (after.timings ≡ before.timings) × (after.others ≡ before.others)

-- the text is taken out, and an empty one left there
abbrev pub TakesText : SlotsByTag → Option (List ℕ) → SlotsByTag → Type 0
TakesText before None after = (text_by before.text ≡ None) × (after ≡ before)
TakesText before (Some text) after =
    (text_by before.text ≡ Some text) × (after ≡ record before { text = Some (Text []) })

-- the words are taken out, and none left there; without memory nothing changes
abbrev pub TakesWords : SlotsByTag → Option (List (List ℕ)) → SlotsByTag → Type 0
TakesWords before None after = after ≡ before
TakesWords before (Some words) after =
    (words_by before.words ≡ words) × (after ≡ record before { words = Some (Words []) })

-- the fields are taken out, and slots left for others; without memory they stay
abbrev pub TakesFields : SlotsByTag → Option PlainFields → SlotsByTag → Type 0
TakesFields before None after = Leaves before (kept_by before) after
TakesFields before (Some fields) after =
    ((kept_by before).fields ≡ Some fields) × (after.timings ≡ before.timings) × (after.others ≡ before.others)
    × IsSome after.text × IsSome after.words × IsSome after.number
