-- Timings that are brought up to a moment in their slot.
use Rattle.std.proofs.Common.{◌≡◌, ℕ, List, Option, Some, None, refl, ap, sym, ◌∙◌}
use Rattle.std.specs.Option.{option_map}
use Rattle.tracing_core_moments.specs.declared.at.At.{At}
use Rattle.span_registry_layers_store.specs.Slots.{Number, PlainPlace, PlainSlot, Text, Times, Words, put_by, slot_at, with_slot}
use Rattle.span_registry_layers_store.specs.declared.slot.Tag.TheVariants as tag
use Rattle.span_registry_layers_store.specs.declared.slot.Timings.{Timings}
use Rattle.event_formatter_lines.specs.slots.SlotsByTag.{Leaves, SlotsByTag, by_tag, kept_by}
use Rattle.event_formatter_lines.specs.slots.FieldsAndTimings.{timings_by}
use Rattle.event_formatter_lines.specs.slots.SteppedTimings.{kept_stepped, slot_after, timings_after}
use Rattle.event_formatter_lines.specs.declared.slots.timings.TimingStep.{TimingStep}
use Rattle.event_formatter_lines.proofs.slots.SlotsByTag.{put_by_tag, slot_by_tag}

slot_stepped : (step : TimingStep) (at : At) (s : PlainSlot) → timings_by (Some (slot_after step at s)) ≡
    option_map (timings_after step at) (timings_by (Some s))
slot_stepped step at (Text text) = refl
slot_stepped step at (Times timings) = refl
slot_stepped step at (Number n) = refl
slot_stepped step at (Words words) = refl

module _ (key : ℕ) (ps : List PlainPlace) (step : TimingStep) (at : At) where
  was : (o : Option PlainSlot) → o ≡ slot_at ps key tag.Timings → (by_tag key ps).timings ≡ o
  was o there = slot_by_tag key tag.Timings ps ∙ sym there

  -- where there is one
  module _ (s t : PlainSlot) (there : Some s ≡ slot_at ps key tag.Timings) (is : t ≡ slot_after step at s) where
    told : timings_by (Some t) ≡ (kept_stepped step at (kept_by (by_tag key ps))).timings
    told = ap (λ (p : PlainSlot). timings_by (Some p)) is ∙ slot_stepped step at s ∙
        ap (λ (o : Option PlainSlot). option_map (timings_after step at) (timings_by o)) (sym (was (Some s) there))

    put : by_tag key (with_slot ps key tag.Timings t) ≡ record (by_tag key ps) { timings = Some t }
    put = ap (λ (o : Option PlainSlot). by_tag key (put_by o ps key tag.Timings t)) there ∙ put_by_tag key tag.Timings ps t

    pub slot_told : (answer : Option Timings) → answer ≡ timings_by (Some t) → answer ≡
        (kept_stepped step at (kept_by (by_tag key ps))).timings
    slot_told answer gives = gives ∙ told

    pub slot_leaves : Leaves (by_tag key ps) (kept_stepped step at (kept_by (by_tag key ps)))
        (by_tag key (with_slot ps key tag.Timings t))
    slot_leaves = (
      ap kept_by put ∙ ap (λ (timings : Option Timings). record (kept_by (by_tag key ps)) { timings = timings }) told,
      ap (λ (slots : SlotsByTag). slots.others) put,
    )

  -- and where there is none
  module _ (none : None ≡ slot_at ps key tag.Timings) where
    pub none_told : None ≡ (kept_stepped step at (kept_by (by_tag key ps))).timings
    none_told = ap (λ (o : Option PlainSlot). option_map (timings_after step at) (timings_by o)) (sym (was None none))

    pub none_leaves : Leaves (by_tag key ps) (kept_stepped step at (kept_by (by_tag key ps))) (by_tag key ps)
    none_leaves = (
      ap (λ (timings : Option Timings). record (kept_by (by_tag key ps)) { timings = timings }) (ap timings_by (was None none) ∙ none_told),
      refl,
    )
