-- What a call leaves of the object behind a box, seen from the box.
use Rattle.std.proofs.Common.{◌≡◌, Global, subst, sym, refl}
use Rattle.std.specs.declared.dyn_box.DynBox.{DynBox}

abbrev with_object : {I : Type 0} {D : I → Type 0} → DynBox I Global D → (i : I) → D i → DynBox I Global D
with_object b i object = record { ptr = b.ptr; vtable = i; alloc = b.alloc; value = object }

pub moved : {I : Type 0} {D : I → Type 0} (Q : (i : I) → D i → D i → Type 0) (b : DynBox I Global D) (p : (i : I) × D i) →
    p ≡ (b.vtable, b.value) → (n : D p.0) → Q p.0 p.1 n →
    (x : D b.vtable) × Q b.vtable b.value x × (with_object b p.0 n ≡ with_object b b.vtable x)
moved {D = D} Q b p e =
    subst (λ (r : (i : _) × D i). (n : D r.0) → Q r.0 r.1 n → (x : D b.vtable) × Q b.vtable b.value x ×
    (with_object b r.0 n ≡ with_object b b.vtable x)) (sym e) (λ n h. (n, h, refl))
