-- What the value in a box did.
use Rattle.std.proofs.Common.{◌≡◌, refl, subst}

-- D gives the type of a box's value by the box's table
pub told_in_box : {V : Type 0} {D : V → Type 0} {C : Type 0} (make : (t : V) → D t → C) (told : (t : V) → D t → D t → Type 0)
    (r p : (t : V) × D t) → r ≡ p → (w : D r.0) → told r.0 r.1 w → (x : D p.0) × told p.0 p.1 x × (make r.0 w ≡ make p.0 x)
told_in_box {D = D} make told r p same w t = subst (λ q. (x : D q.0) × told q.0 q.1 x × (make r.0 w ≡ make q.0 x)) same (w, t, refl)
