-- What a kind says: its callsite makes events, makes spans, or only asks.
use Rattle.std.specs.Prelude.{◌≡◌, Bool, ◌&&◌}
use Rattle.std.specs.Bool.{Decides}
use Rattle.std.specs.Cmp.{IsEquivalence, booleans_Decides, decided}
use Rattle.std.proofs.Common.{ap}
use Rattle.std.proofs.Math.Bool.{beq}
use Rattle.std.proofs.lemmas.Bool.{and_parts, and_from}

pub record PlainKind : Type 0 where
  pub is_event : Bool
  pub is_span : Bool
  pub is_hint : Bool

-- the kinds say the same
abbrev pub is_same_kind : PlainKind → PlainKind → Bool
is_same_kind a b = beq a.is_event b.is_event && beq a.is_span b.is_span && beq a.is_hint b.is_hint

pub is_same_kind-decides : (a b : PlainKind) → Decides (is_same_kind a b) (a ≡ b)
is_same_kind-decides a b = (
  λ same.
      let outer = and_parts _ _ same in
      let inner = and_parts _ _ outer.0 in
      let event = (booleans_Decides _ _).0 inner.0 in
      let span = (booleans_Decides _ _).0 inner.1 in
      let hint = (booleans_Decides _ _).0 outer.1 in
      λ i. record { is_event = event i; is_span = span i; is_hint = hint i },
  λ same. and_from _ _
      (and_from _ _ ((booleans_Decides _ _).1 (ap (λ kind. kind.is_event) same))
      ((booleans_Decides _ _).1 (ap (λ kind. kind.is_span) same)))
      ((booleans_Decides _ _).1 (ap (λ kind. kind.is_hint) same)),
)

pub is_same_kind-equivalence : IsEquivalence is_same_kind
is_same_kind-equivalence = decided is_same_kind is_same_kind-decides
