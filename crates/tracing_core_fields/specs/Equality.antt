-- A test that decides equality of what a function reads is an equivalence.
use Rattle.std.specs.Prelude.{◌≡◌, Bool, refl}
use Rattle.std.proofs.Common.{sym, ◌∙◌}
use Rattle.std.specs.Bool.{Decides, one_answer}
use Rattle.std.specs.Cmp.{IsEquivalence}

pub equivalence_by : {K J : Type 0} (f : K → J) (E : K → K → Bool) → ((a b : K) → Decides (E a b) (f a ≡ f b)) → IsEquivalence E
equivalence_by f E decides = record {
  refl = λ x. (decides x x).1 refl;
  symm = λ x y. one_answer (E x y) (E y x) (decides x y) (λ same. sym ((decides y x).0 same), λ same. (decides y x).1 (sym same));
  congr = λ x y z same.
      let xy = (decides x y).0 same in
      one_answer (E x z) (E y z) (decides x z) (λ yz. xy ∙ (decides y z).0 yz, λ xz. (decides y z).1 (sym xy ∙ xz));
}
