-- The end of the index.
use Rattle.std.proofs.Common.{◌≡◌, ℕ, zero, suc, ◌+◌, ◌-◌, ◌<◌, List, [], ◌∷◌, ◌++◌, length, map, true, false, slice_get, Option, Some}
use Rattle.std.proofs.Common.{None, refl, sym, ap, ◌∙◌, subst, arith, length-append}
use Rattle.std.specs.List.{AllByRecursion}
use Rattle.std.specs.Option.{option_to_list}
use Rattle.std.proofs.lemmas.List.{append-nil}
use Rattle.span_registry_layers_store.specs.Registries.{PlainSpan}
use Rattle.span_registry_layers_store.specs.SpanSlots.{EndsOpen, entry_kin, holds_in, if_holds, leads, plain_slot_span, standing}
use Rattle.span_registry_layers_store.specs.Spans.{Rises}
use Rattle.span_registry_layers_store.specs.declared.index.Entry.{Entry}
use Rattle.span_registry_layers_store.specs.declared.span_slot.SpanSlot.{SpanSlot}
use Rattle.span_registry_layers_store.proofs.StandingSlots.{held}
use Rattle.std.proofs.lemmas.Bool.{false≢true}
use Rattle.std.proofs.lemmas.Option.{same_Some}
use Rattle.span_registry_layers_store.proofs.FreeSlots.{more_same}

pub none_held : (id : ℕ) (o : Option SpanSlot) → holds_in id o ≡ false → if_holds id o ≡ []
none_held id None is = refl
none_held id (Some s) is = rw is refl

-- without a last entry that leads nowhere
pub last_dropped : (slots : List SpanSlot) (es : List Entry) (e : Entry) → leads slots e ≡ false → standing slots (es ++ e ∷ []) ≡
    standing slots es
last_dropped slots [] e is = ap (λ xs. xs ++ []) (none_held e.id (slice_get slots e.slot) is)
last_dropped slots (f ∷ es) e is = ap (λ xs. if_holds f.id (slice_get slots f.slot) ++ xs) (last_dropped slots es e is)

pub rise_front : (least : ℕ) (es : List Entry) (e : Entry) → Rises entry_kin least (es ++ e ∷ []) → Rises entry_kin least es
rise_front least [] e rise = tt
rise_front least (f ∷ es) e rise = (rise.0, rise_front (f.id + 1) es e rise.1)

abbrev Below : ℕ → List PlainSpan → Type 0
Below id ss = AllByRecursion (λ (s : PlainSpan). s.kin.id < id) ss

below_rest : (id : ℕ) (xs ys : List SpanSlot) → Below id (map plain_slot_span (xs ++ ys)) → Below id (map plain_slot_span ys)
below_rest id [] ys below = below
below_rest id (x ∷ xs) ys below = below_rest id xs ys below.1

below_held : (id j : ℕ) (o : Option SpanSlot) (ys : List SpanSlot) → holds_in j o ≡ true →
    Below id (map plain_slot_span (if_holds j o ++ ys)) → j < id
below_held id j None ys is below = absurd (false≢true is)
below_held id j (Some s) ys is below =
    let all : Below id (map plain_slot_span ((s ∷ []) ++ ys)) = rw is at below in
    let same = (held j s is).1 in
    let first = all.0 in
    omega (arith, same, first)

pub ends_below_next : (slots : List SpanSlot) (e f : Entry) (es : List Entry) (id least : ℕ) → Rises entry_kin least (e ∷ f ∷ es) →
    AllByRecursion (λ (g : Entry). g.id < id) (f ∷ es) → AllByRecursion (λ (g : Entry). g.id < id) (e ∷ f ∷ es)
ends_below_next slots e f es id least rise later = (let next = rise.1.0 in let below = later.0 in omega (arith, next, below), later)

-- an id above all open spans is above all ids of the index
pub ends_below : (slots : List SpanSlot) (es : List Entry) (id least : ℕ) → EndsOpen slots es → Rises entry_kin least es →
    Below id (map plain_slot_span (standing slots es)) → AllByRecursion (λ (e : Entry). e.id < id) es
ends_below slots [] id least ends rise below = tt
ends_below slots (e ∷ []) id least ends rise below = (below_held id e.id (slice_get slots e.slot) [] ends below, tt)
ends_below slots (e ∷ f ∷ es) id least ends rise below =
    ends_below_next slots e f es id least rise
    (ends_below slots (f ∷ es) id (e.id + 1) ends rise.1
    (below_rest id (if_holds e.id (slice_get slots e.slot)) (standing slots (f ∷ es)) below))

ends_from : (slots : List SpanSlot) (es : List Entry) (n : ℕ) (e : Entry) → n + 1 ≡ length es → slice_get es n ≡ Some e → leads slots e ≡
    true → EndsOpen slots es
ends_from slots [] n e size here is = tt
ends_from slots (f ∷ []) zero e size here is = let same : f ≡ e = cc in rw same is
ends_from slots (f ∷ []) (suc n) e size here is = absurd (omega (arith, size))
ends_from slots (f ∷ g ∷ es) zero e size here is = absurd (omega (arith, size))
ends_from slots (f ∷ g ∷ es) (suc n) e size here is = ends_from slots (g ∷ es) n e (omega (arith, size)) here is

-- the last entry
pub ends_at : (slots : List SpanSlot) (es : List Entry) (e : Entry) → slice_get es (length es - 1) ≡ Some e → leads slots e ≡ true →
    EndsOpen slots es
ends_at slots [] e here is = tt
ends_at slots (f ∷ es) e here is = let last : length (f ∷ es) - 1 ≡ length es = omega arith in
    ends_from slots (f ∷ es) (length es) e (omega arith) (subst (λ n. slice_get (f ∷ es) n ≡ Some e) last here) is

-- what a slice of them says
pub ends_told : (slots : List SpanSlot) (slice es : List Entry) (e : Entry) → slice ≡ es → Some e ≡ slice_get slice (length slice - 1) →
    leads slots e ≡ true → EndsOpen slots es
ends_told slots slice es e same here is = subst (λ fs. EndsOpen slots fs) same (ends_at slots slice e (sym here) is)

pub last_same : (slice es left : List Entry) (e f : Entry) → slice ≡ es → Some e ≡ slice_get slice (length slice - 1) → es ≡ left ++ f ∷ []
    → e ≡ f
last_same slice es left e f same here is =
    let both : Some e ≡ slice_get (left ++ f ∷ []) (length (left ++ f ∷ []) - 1) =
    subst (λ fs. Some e ≡ slice_get fs (length fs - 1)) (same ∙ is) here in
    let size = length-append left (f ∷ []) in
    let last : length (left ++ f ∷ []) - 1 ≡ length left = omega (arith, size) in
    same_Some e f (subst (λ n. Some e ≡ slice_get (left ++ f ∷ []) n) last both ∙ more_same left f)

-- a turn of the loop that drops the last entry
pub end_turn : (slots : List SpanSlot) (slice es left first : List Entry) (e f : Entry) → slice ≡ es → Some e ≡
    slice_get slice (length slice - 1) → es ≡ left ++ f ∷ [] → leads slots e ≡ false → standing slots es ≡ standing slots first →
    Rises entry_kin 0 es → (standing slots left ≡ standing slots first) × Rises entry_kin 0 left
end_turn slots slice es left first e f same here is nowhere before rise =
    let equal = last_same slice es left e f same here is in
    let gone_f : leads slots f ≡ false = subst (λ (g : Entry). leads slots g ≡ false) equal nowhere in (
      sym (last_dropped slots left f gone_f) ∙ ap (standing slots) (sym is) ∙ before,
      rise_front 0 left f (subst (λ fs. Rises entry_kin 0 fs) is rise),
    )

-- the same by what a pop answers
pub end_pop : (slots : List SpanSlot) (slice es left first : List Entry) (e : Entry) (o : Option Entry) → slice ≡ es → Some e ≡
    slice_get slice (length slice - 1) → es ≡ left ++ option_to_list o → leads slots e ≡ false → standing slots es ≡ standing slots first →
    Rises entry_kin 0 es → (standing slots left ≡ standing slots first) × Rises entry_kin 0 left
end_pop slots slice es left first e None same here is nowhere before rise =
    subst (λ fs. (standing slots fs ≡ standing slots first) × Rises entry_kin 0 fs) (is ∙ append-nil left) (before, rise)
end_pop slots slice es left first e (Some f) same here is nowhere before rise =
    end_turn slots slice es left first e f same here is nowhere before rise
