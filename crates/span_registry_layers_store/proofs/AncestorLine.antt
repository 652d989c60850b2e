-- An id and its ancestors, one at a time.
use Rattle.std.proofs.Common.{◌≡◌, ℕ, ◌+◌, List, [], ◌∷◌, zero, suc, Option, Some, None, refl, add-one}
use Rattle.span_registry_layers_store.specs.Spans.{parent_of, ancestry}
use Rattle.span_registry_layers_store.specs.declared.record.SpanRecord.{SpanRecord}

pub line_next : {A : Type 0} (kin : A → SpanRecord) (spans : List A) (m n here : ℕ) → m ≡ n + 1 →
    ancestry kin spans m (Some here) ≡ here ∷ ancestry kin spans n (parent_of kin spans here)
unfolding ancestry
line_next kin spans m n here e = rw (e, add-one)

pub ancestry_zero : {A : Type 0} (kin : A → SpanRecord) (spans : List A) (m : ℕ) (at : Option ℕ) → m ≡ 0 → ancestry kin spans m at ≡ []
unfolding ancestry
ancestry_zero kin spans m at e = rw e

pub ancestry_none : {A : Type 0} (kin : A → SpanRecord) (spans : List A) (m : ℕ) → ancestry kin spans m None ≡ []
unfolding ancestry
ancestry_none kin spans zero = refl
ancestry_none kin spans (suc m) = refl
