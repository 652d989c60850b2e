-- What is written in the slots that a context lends.
use Rattle.std.proofs.Common.{◌≡◌, ℕ, ◌==◌, List, [], ◌∷◌, filter, not, Bool, true, false, if◌then◌else◌, Option, Some, None, refl, ap, sym}
use Rattle.std.proofs.Common.{◌∙◌, subst, arith}
use Rattle.std.proofs.lemmas.Bool.Decides.{nat_tests}
use Rattle.std.specs.Option.{option_map}
use Rattle.span_registry_layers_store.specs.SlotIndependence.{keys_equal}
use Rattle.span_registry_layers_store.specs.SlotCalls.{with_slots}
use Rattle.span_registry_layers_store.specs.Registries.{PlainSpan, RegistryValue}
use Rattle.span_registry_layers_store.specs.Slots.{PlainPlace}
use Rattle.span_registry_layers_layers.specs.ContextLoans.{slots_in, writing}
use Rattle.span_registry_layers_layers.specs.Contexts.{span_in}
use Rattle.span_registry_layers_layers.specs.FilterViews.{View, left, view}
use Rattle.span_registry_layers_layers.specs.declared.context.Context.{Context}
use Rattle.span_registry_layers_layers.proofs.LentSlots.{writes_under}
use Rattle.event_formatter_lines.specs.slots.SlotsByTag.{Leaves, by_tag, kept_by}
use Rattle.event_formatter_lines.specs.slots.FieldsAndTimings.{PlainKept, kept_at}
use Rattle.event_formatter_lines.specs.slots.SpanUpdates.{KeepsWith, Rekeeps, kept_in, kept_with}

-- what is kept reads the same either way
pub kept_same : (key : ℕ) (places : List PlainPlace) → kept_by (by_tag key places) ≡ kept_at key places
unfolding by_tag
kept_same key places = refl

-- the slots under one key are among the others of another one
not_other : (k key other : ℕ) → (k == other) ≡ true → (other == key) ≡ false → (k == key) ≡ false
not_other k key other is not = grind (arith, nat_tests, is, not)

other_if : (a b : Bool) (p : PlainPlace) (ps : List PlainPlace) (other : ℕ) → (p.key == other) ≡ a → (a ≡ true → b ≡ false) →
    (if a then p ∷ filter (λ (q : PlainPlace). q.key == other) ps else filter (λ (q : PlainPlace). q.key == other) ps)
    ≡ (if not b then (if a then p ∷ filter (λ (q : PlainPlace). q.key == other) ps else filter (λ (q : PlainPlace). q.key == other) ps)
    else filter (λ (q : PlainPlace). q.key == other) ps)
other_if true true p ps other e f = absurd (let g = f refl in cc)
other_if true false p ps other e f = refl
other_if false true p ps other e f = refl
other_if false false p ps other e f = refl

kept_apart : (b : Bool) (p : PlainPlace) (ps : List PlainPlace) (other : ℕ) →
    filter (λ (q : PlainPlace). q.key == other) (if not b then p ∷ ps else ps)
    ≡ (if not b then (if p.key == other then p ∷ filter (λ (q : PlainPlace). q.key == other) ps else filter
    (λ (q : PlainPlace). q.key == other) ps) else filter (λ (q : PlainPlace). q.key == other) ps)
kept_apart true p ps other = refl
kept_apart false p ps other = refl

under_other : (key other : ℕ) (ps : List PlainPlace) → (other == key) ≡ false →
    filter (λ (p : PlainPlace). p.key == other) (filter (λ (p : PlainPlace). not (p.key == key)) ps) ≡ filter
    (λ (p : PlainPlace). p.key == other) ps
under_other key other [] not_same = refl
under_other key other (p ∷ ps) not_same =
    let rest = filter (λ (q : PlainPlace). not (q.key == key)) ps in
    let later : filter (λ (q : PlainPlace). q.key == other) rest ≡ filter (λ (q : PlainPlace). q.key == other) ps =
    under_other key other ps not_same in
    kept_apart (p.key == key) p rest other
    ∙ ap (λ (qs : List PlainPlace). if not (p.key == key) then (if p.key == other then p ∷ qs else qs) else qs) later
    ∙ sym (other_if (p.key == other) (p.key == key) p ps other refl (λ is. not_other p.key key other is not_same))

pub others_same : (key : ℕ) (ps qs : List PlainPlace) → (by_tag key qs).others ≡ (by_tag key ps).others → (other : ℕ) →
    (other == key) ≡ false →
    filter (λ (p : PlainPlace). p.key == other) qs ≡ filter (λ (p : PlainPlace). p.key == other) ps
unfolding by_tag
others_same key ps qs same other not_same =
    sym (under_other key other qs not_same) ∙ ap (filter (λ (p : PlainPlace). p.key == other)) same ∙ under_other key other ps not_same

-- the slots that are lent are those of the span
kept_lent : (key : ℕ) (o : Option PlainSpan) (slots : List PlainPlace) → Some slots ≡ option_map slots_in o →
    kept_with key o ≡ kept_at key slots
kept_lent key None slots lent = absurd (cc)
kept_lent key (Some s) slots lent = let same : slots ≡ s.slots = cc in ap (kept_at key) (sym same)

keeps_lent : (o : Option PlainSpan) (x : RegistryValue) (id key : ℕ) (slots places : List PlainPlace) (kept : PlainKept) →
    Some slots ≡ option_map slots_in o → kept_at key places ≡ kept → KeepsWith o x id key kept (with_slots x id places)
keeps_lent None x id key slots places kept lent is = absurd (cc)
keeps_lent (Some s) x id key slots places kept lent is = (places, is, refl)

keeps_unlent : (o : Option PlainSpan) (x : RegistryValue) (id key : ℕ) (kept : PlainKept) → None ≡ option_map slots_in o →
    KeepsWith o x id key kept x
keeps_unlent None x id key kept none = refl
keeps_unlent (Some s) x id key kept none = absurd (cc)

pub kept_of_lent : (v : View) (id key : ℕ) (slots : List PlainPlace) → Some slots ≡ option_map slots_in (span_in v id) →
    kept_in v id key ≡ kept_by (by_tag key slots)
kept_of_lent v id key slots lent = kept_lent key (span_in v id) slots lent ∙ sym (kept_same key slots)

-- other slots of a span that is seen, which keep what a function makes of what was kept
pub rekept : (c : Context) (id key : ℕ) (slots places : List PlainPlace) (kept : PlainKept) →
    Some slots ≡ option_map slots_in (span_in (view c) id) → Leaves (by_tag key slots) kept (by_tag key places) →
    Rekeeps (view c) id key kept (left (writing c id places))
rekept c id key slots places kept lent leaves = (
  keeps_lent (span_in (view c) id) (left c) id key slots places kept lent (sym (kept_same key places) ∙ leaves.0),
  writes_under c id (λ k. k == key) slots places lent (others_same key slots places leaves.1),
)

pub rekept_by : (c : Context) (id key : ℕ) (slots places : List PlainPlace) (f : PlainKept → PlainKept) →
    Some slots ≡ option_map slots_in (span_in (view c) id) →
    Leaves (by_tag key slots) (f (kept_by (by_tag key slots))) (by_tag key places) →
    Rekeeps (view c) id key (f (kept_in (view c) id key)) (left (writing c id places))
rekept_by c id key slots places f lent leaves =
    rekept c id key slots places (f (kept_in (view c) id key)) lent
    (subst (λ (kept : PlainKept). Leaves (by_tag key slots) (f kept) (by_tag key places))
    (sym (kept_of_lent (view c) id key slots lent)) leaves)

-- a span that isn't seen
pub unkept : (c : Context) (id key : ℕ) (kept : PlainKept) → None ≡ option_map slots_in (span_in (view c) id) →
    Rekeeps (view c) id key kept (left c)
unkept c id key kept none = (
  keeps_unlent (span_in (view c) id) (left c) id key kept none,
  keys_equal (λ k. k == key) (left c) (left c)
      refl,
)
