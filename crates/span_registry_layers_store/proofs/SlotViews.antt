-- What a contract sees of spans in slots.
use Rattle.std.proofs.Common.{◌≡◌, ℕ, ◌+◌, ◌==◌, ◌||◌, List, [], ◌∷◌, length, map, Bool, true, false, if◌then◌else◌, Option, Some, None}
use Rattle.std.proofs.Common.{refl, sym, ap, ◌∙◌, arith}
use Rattle.std.specs.Option.{is_some, option_map}
use Rattle.std.specs.Prelude.{option_and_then}
use Rattle.std.proofs.lemmas.Option.{none-some}
use Rattle.span_registry_layers_store.specs.RegistryCalls.{dropped}
use Rattle.span_registry_layers_store.specs.Registries.{PlainSpan, kin_in}
use Rattle.span_registry_layers_store.specs.SpanSlots.{gone, less_children, more_children, one_child_less, one_child_more, plain_slot_span}
use Rattle.span_registry_layers_store.specs.SpanSlots.{slot_kin}
use Rattle.span_registry_layers_store.specs.Spans.{Rises, changed, found, handles_in, handles_of, is_open, keeps, parent_of, stays}
use Rattle.span_registry_layers_store.specs.declared.span_slot.SpanSlot.{SpanSlot}
use Rattle.span_registry_layers_store.proofs.ParentLinks.{changed_carried, found_carried, stays_carried}

pub found_shown : (xs : List SpanSlot) (id : ℕ) → found kin_in (map plain_slot_span xs) id ≡
    option_map plain_slot_span (found slot_kin xs id)
found_shown = found_carried kin_in plain_slot_span

pub changed_shown : (f : SpanSlot → SpanSlot) (g : PlainSpan → PlainSpan) →
    ((x : SpanSlot) → plain_slot_span (f x) ≡ g (plain_slot_span x)) → (xs : List SpanSlot) (id : ℕ) →
    changed kin_in g (map plain_slot_span xs) id ≡ map plain_slot_span (changed slot_kin f xs id)
changed_shown = changed_carried kin_in plain_slot_span

-- a span of an id is open where one is found
open_if : (b : Bool) (s : PlainSpan) (o : Option PlainSpan) (c : Bool) → is_some o ≡ c → is_some (if b then Some s else o) ≡ (b || c)
open_if true s o c later = refl
open_if false s o c later = later

pub open_found : (ss : List PlainSpan) (id : ℕ) → is_some (found kin_in ss id) ≡ is_open kin_in ss id
open_found [] id = refl
open_found (s ∷ ss) id = open_if (s.kin.id == id) s (found kin_in ss id) (is_open kin_in ss id) (open_found ss id)

pub there_shown : (xs : List SpanSlot) (id : ℕ) (s : SpanSlot) → found slot_kin xs id ≡ Some s → found kin_in (map plain_slot_span xs) id ≡
    Some (plain_slot_span s)
there_shown xs id s here = found_shown xs id ∙ ap (option_map plain_slot_span) here

pub none_shown : (xs : List SpanSlot) (id : ℕ) → found slot_kin xs id ≡ None → found kin_in (map plain_slot_span xs) id ≡ None
none_shown xs id here = found_shown xs id ∙ ap (option_map plain_slot_span) here

pub is_open_there : (xs : List SpanSlot) (id : ℕ) (s : SpanSlot) → found slot_kin xs id ≡ Some s →
    is_open kin_in (map plain_slot_span xs) id ≡ true
is_open_there xs id s here = sym (open_found (map plain_slot_span xs) id) ∙ ap is_some (there_shown xs id s here)

pub is_open_nowhere : (xs : List SpanSlot) (id : ℕ) → found slot_kin xs id ≡ None → is_open kin_in (map plain_slot_span xs) id ≡ false
is_open_nowhere xs id here = sym (open_found (map plain_slot_span xs) id) ∙ ap is_some (none_shown xs id here)

pub handles_shown : (xs : List SpanSlot) (id : ℕ) (s : SpanSlot) → found slot_kin xs id ≡ Some s →
    handles_of kin_in (map plain_slot_span xs) id ≡ s.span.kin.handles
handles_shown xs id s here = ap (handles_in kin_in) (there_shown xs id s here)

pub no_handles_shown : (xs : List SpanSlot) (id : ℕ) → found slot_kin xs id ≡ None → handles_of kin_in (map plain_slot_span xs) id ≡ 0
no_handles_shown xs id here = ap (handles_in kin_in) (none_shown xs id here)

pub parent_shown : (xs : List SpanSlot) (id : ℕ) (s : SpanSlot) → found slot_kin xs id ≡ Some s →
    parent_of kin_in (map plain_slot_span xs) id ≡ s.span.kin.parent
parent_shown xs id s here = ap (option_and_then (λ (t : PlainSpan). t.kin.parent)) (there_shown xs id s here)

pub no_parent_shown : (xs : List SpanSlot) (id : ℕ) → found slot_kin xs id ≡ None → parent_of kin_in (map plain_slot_span xs) id ≡ None
no_parent_shown xs id here = ap (option_and_then (λ (t : PlainSpan). t.kin.parent)) (none_shown xs id here)

keeps_if : (b : Bool) (lanes : List (List ℕ)) (x : SpanSlot) (xs : List SpanSlot) (k l : Bool) → k ≡ l →
    (if b then stays kin_in lanes (plain_slot_span x) (map plain_slot_span xs) else k) ≡ (if b then stays slot_kin lanes x xs else l)
keeps_if true lanes x xs k l later = stays_carried kin_in plain_slot_span lanes x xs
keeps_if false lanes x xs k l later = later

pub keeps_shown : (lanes : List (List ℕ)) (xs : List SpanSlot) (id : ℕ) → keeps kin_in lanes (map plain_slot_span xs) id ≡
    keeps slot_kin lanes xs id
keeps_shown lanes [] id = refl
keeps_shown lanes (x ∷ xs) id =
    keeps_if (x.span.kin.id == id) lanes x xs (keeps kin_in lanes (map plain_slot_span xs) id) (keeps slot_kin lanes xs id)
    (keeps_shown lanes xs id)

pub rise_shown : (least : ℕ) (xs : List SpanSlot) → Rises slot_kin least xs → Rises kin_in least (map plain_slot_span xs)
rise_shown least [] rise = tt
rise_shown least (x ∷ xs) rise = (rise.0, rise_shown (x.span.kin.id + 1) xs rise.1)

gone_if : (b : Bool) (x : SpanSlot) (xs ys : List SpanSlot) (zs : List PlainSpan) → map plain_slot_span ys ≡ zs →
    map plain_slot_span (if b then xs else x ∷ ys) ≡ (if b then map plain_slot_span xs else plain_slot_span x ∷ zs)
gone_if true x xs ys zs later = refl
gone_if false x xs ys zs later = ap (λ l. plain_slot_span x ∷ l) later

pub gone_shown : (xs : List SpanSlot) (id : ℕ) → map plain_slot_span (gone xs id) ≡ dropped (map plain_slot_span xs) id
gone_shown [] id = refl
gone_shown (x ∷ xs) id = gone_if (x.span.kin.id == id) x xs (gone xs id) (dropped (map plain_slot_span xs) id) (gone_shown xs id)

none_gone_if : (b : Bool) (x : SpanSlot) (xs ys : List SpanSlot) (o : Option SpanSlot) → (if b then Some x else o) ≡ None →
    (o ≡ None → ys ≡ xs) → (if b then xs else x ∷ ys) ≡ x ∷ xs
none_gone_if true x xs ys o here later = absurd (none-some x (sym here))
none_gone_if false x xs ys o here later = ap (λ l. x ∷ l) (later here)

pub none_gone : (xs : List SpanSlot) (id : ℕ) → found slot_kin xs id ≡ None → gone xs id ≡ xs
none_gone [] id here = refl
none_gone (x ∷ xs) id here = none_gone_if (x.span.kin.id == id) x xs (gone xs id) (found slot_kin xs id) here (none_gone xs id)

none_changed_if : (b : Bool) (f : SpanSlot → SpanSlot) (x : SpanSlot) (xs ys : List SpanSlot) (o : Option SpanSlot) →
    (if b then Some x else o) ≡ None → (o ≡ None → ys ≡ xs) → (if b then f x ∷ xs else x ∷ ys) ≡ x ∷ xs
none_changed_if true f x xs ys o here later = absurd (none-some x (sym here))
none_changed_if false f x xs ys o here later = ap (λ l. x ∷ l) (later here)

-- a change of what isn't there
pub none_changed : (f : SpanSlot → SpanSlot) (xs : List SpanSlot) (id : ℕ) → found slot_kin xs id ≡ None → changed slot_kin f xs id ≡ xs
none_changed f [] id here = refl
none_changed f (x ∷ xs) id here =
    none_changed_if (x.span.kin.id == id) f x xs (changed slot_kin f xs id) (found slot_kin xs id) here (none_changed f xs id)

unseen_if : (b : Bool) (f : SpanSlot → SpanSlot) (x : SpanSlot) (xs ys : List SpanSlot) → plain_slot_span (f x) ≡ plain_slot_span x →
    map plain_slot_span ys ≡ map plain_slot_span xs → map plain_slot_span (if b then f x ∷ xs else x ∷ ys) ≡ map plain_slot_span (x ∷ xs)
unseen_if true f x xs ys same later = ap (λ y. y ∷ map plain_slot_span xs) same
unseen_if false f x xs ys same later = ap (λ l. plain_slot_span x ∷ l) later

-- a change that no contract sees
pub unseen : (f : SpanSlot → SpanSlot) → ((x : SpanSlot) → plain_slot_span (f x) ≡ plain_slot_span x) → (xs : List SpanSlot) (id : ℕ) →
    map plain_slot_span (changed slot_kin f xs id) ≡ map plain_slot_span xs
unseen f same [] id = refl
unseen f same (x ∷ xs) id = unseen_if (x.span.kin.id == id) f x xs (changed slot_kin f xs id) (same x) (unseen f same xs id)

pub more_unseen : (xs : List SpanSlot) (parent : Option ℕ) → map plain_slot_span (more_children xs parent) ≡ map plain_slot_span xs
more_unseen xs None = refl
more_unseen xs (Some p) = unseen one_child_more (λ s. refl) xs p

pub less_unseen : (xs : List SpanSlot) (parent : Option ℕ) → map plain_slot_span (less_children xs parent) ≡ map plain_slot_span xs
less_unseen xs None = refl
less_unseen xs (Some p) = unseen one_child_less (λ s. refl) xs p

length_if : (b : Bool) (f : SpanSlot → SpanSlot) (x : SpanSlot) (xs ys : List SpanSlot) → length ys ≡ length xs →
    length (if b then f x ∷ xs else x ∷ ys) ≡ length (x ∷ xs)
length_if true f x xs ys later = refl
length_if false f x xs ys later = omega (arith, later)

pub length_changed : (f : SpanSlot → SpanSlot) (xs : List SpanSlot) (id : ℕ) → length (changed slot_kin f xs id) ≡ length xs
length_changed f [] id = refl
length_changed f (x ∷ xs) id = length_if (x.span.kin.id == id) f x xs (changed slot_kin f xs id) (length_changed f xs id)

pub length_more : (xs : List SpanSlot) (parent : Option ℕ) → length (more_children xs parent) ≡ length xs
length_more xs None = refl
length_more xs (Some p) = length_changed one_child_more xs p

pub length_less : (xs : List SpanSlot) (parent : Option ℕ) → length (less_children xs parent) ≡ length xs
length_less xs None = refl
length_less xs (Some p) = length_changed one_child_less xs p

gone_length_if : (b : Bool) (x s : SpanSlot) (xs ys : List SpanSlot) (o : Option SpanSlot) → (if b then Some x else o) ≡ Some s →
    (o ≡ Some s → length ys + 1 ≡ length xs) → length (if b then xs else x ∷ ys) + 1 ≡ length (x ∷ xs)
gone_length_if true x s xs ys o here later = omega arith
gone_length_if false x s xs ys o here later = let is = later here in omega (arith, is)

pub length_gone : (xs : List SpanSlot) (id : ℕ) (s : SpanSlot) → found slot_kin xs id ≡ Some s → length (gone xs id) + 1 ≡ length xs
length_gone [] id s here = absurd (none-some s here)
length_gone (x ∷ xs) id s here = gone_length_if (x.span.kin.id == id) x s xs (gone xs id) (found slot_kin xs id) here (length_gone xs id s)
