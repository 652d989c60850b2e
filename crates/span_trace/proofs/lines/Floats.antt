-- Floats in the items of lists and in the members of objects.
use Rattle.std.proofs.Common.{◌≡◌, ℕ, List, [], ◌∷◌, ◌≤◌, length, drop, false, String, Vec, BTreeMap, Global, refl, ap, ◌∙◌, ◌||◌}
use Rattle.std.specs.BTreeMap.{values}
use Rattle.std.specs.Map.{values_of}
use Rattle.std.proofs.lemmas.List.{drop_all}
use Rattle.serde_json.specs.View.{view, items_view, members_view}
use Rattle.serde_json.specs.Written.{has_float, items_have_float, members_have_float}
use Rattle.serde_json.specs.declared.value.Value.{Value, Array, Object}
use Rattle.serde_json.proofs.Views.{Entry, view-Array, view-Object}

pub array_floats : (v : Vec Value Global) → has_float (view (Array v)) ≡ items_have_float (items_view v.items)
array_floats v = ap has_float (view-Array v)

pub no_floats_left : (xs : List Value) (i : ℕ) → length xs ≤ i → items_have_float (items_view (drop i xs)) ≡ false
no_floats_left xs i h = ap (λ (ys : List Value). items_have_float (items_view ys)) (drop_all i xs h)

members_floats : (es : List Entry) → members_have_float (members_view es) ≡ items_have_float (items_view (values_of es))
members_floats [] = refl
members_floats (e ∷ es) = ap (λ b. has_float (view e.1) || b) (members_floats es)

pub object_floats : (m : BTreeMap (String Global) Value) → has_float (view (Object m)) ≡ items_have_float (items_view (values m))
object_floats m = ap has_float (view-Object m) ∙ members_floats m.entries
