-- Metadata as plain data, with no borrowed parts.
use Rattle.std.specs.Prelude.{◌≡◌, ℕ, Bool, ◌&&◌, ◌==◌, List, Option, Some, None, refl}
use Rattle.std.specs.Bool.{Decides}
use Rattle.std.specs.Cmp.{IsEquivalence, decided, unsigned_Decides}
use Rattle.std.specs.Cmp.Lexicographic.{pointwise, pointwise_decides, bytes_decides}
use Rattle.std.specs.Option.{option_eq}
use Rattle.std.specs.Str.{bytes_eq}
use Rattle.std.proofs.Common.{ap, nat_eq, sym}
use Rattle.std.proofs.lemmas.Bool.{and_parts, and_from, false≢true}
use Rattle.std.proofs.lemmas.Option.{none-some, same_Some}
use Rattle.tracing_core_fields.specs.PlainKind.{PlainKind, is_same_kind, is_same_kind-decides}

pub record PlainMetadata : Type 0 where
  pub name : List ℕ
  pub target : List ℕ
  -- the rank of the level, from 1 to 5
  pub level : ℕ
  pub module_path : Option (List ℕ)
  pub file : Option (List ℕ)
  pub line : Option ℕ
  pub field_names : List (List ℕ)
  pub callsite : ℕ
  pub kind : PlainKind

-- the texts and the level are the same
abbrev pub is_same_label : PlainMetadata → PlainMetadata → Bool
is_same_label a b = bytes_eq a.name b.name && bytes_eq a.target b.target && (a.level == b.level)

-- the places in the source are the same
abbrev pub is_same_place : PlainMetadata → PlainMetadata → Bool
is_same_place a b =
    option_eq bytes_eq a.module_path b.module_path && option_eq bytes_eq a.file b.file && option_eq nat_eq a.line b.line

-- the fields and the kind are the same
abbrev pub is_same_shape : PlainMetadata → PlainMetadata → Bool
is_same_shape a b =
    (a.callsite == b.callsite) && pointwise bytes_eq a.field_names b.field_names && is_same_kind a.kind b.kind

-- all parts are the same; the callsites' numbers are compared first, since they nearly always tell two callsites apart
abbrev pub is_same_metadata : PlainMetadata → PlainMetadata → Bool
is_same_metadata a b = is_same_shape a b && is_same_label a b && is_same_place a b

pub option_eq-decides : {A : Type 0} (E : A → A → Bool) → ((x y : A) → Decides (E x y) (x ≡ y)) → (o p : Option A) →
    Decides (option_eq E o p) (o ≡ p)
option_eq-decides E decides None None = (λ _. refl, λ _. refl)
option_eq-decides E decides None (Some y) = (λ same. absurd (false≢true same), λ same. absurd (none-some y same))
option_eq-decides E decides (Some x) None = (λ same. absurd (false≢true same), λ same. absurd (none-some x (sym same)))
option_eq-decides E decides (Some x) (Some y) = (λ same. ap Some ((decides x y).0 same), λ same. (decides x y).1 (same_Some x y same))

pub is_same_metadata-decides : (a b : PlainMetadata) → Decides (is_same_metadata a b) (a ≡ b)
is_same_metadata-decides a b = (
  λ same.
      let both = and_parts _ _ same in
      let first = and_parts _ _ both.0 in
      let label = and_parts _ _ first.1 in
      let texts = and_parts _ _ label.0 in
      let place = and_parts _ _ both.1 in
      let sources = and_parts _ _ place.0 in
      let shape = and_parts _ _ first.0 in
      let set = and_parts _ _ shape.0 in
      let name = (bytes_decides _ _).0 texts.0 in
      let target = (bytes_decides _ _).0 texts.1 in
      let level = (unsigned_Decides _ _).0 label.1 in
      let module_path = (option_eq-decides bytes_eq bytes_decides _ _).0 sources.0 in
      let file = (option_eq-decides bytes_eq bytes_decides _ _).0 sources.1 in
      let line = (option_eq-decides nat_eq unsigned_Decides _ _).0 place.1 in
      let callsite = (unsigned_Decides _ _).0 set.0 in
      let names = (pointwise_decides bytes_decides _ _).0 set.1 in
      let kind = (is_same_kind-decides _ _).0 shape.1 in
      λ i. record {
        name = name i;
        target = target i;
        level = level i;
        module_path = module_path i;
        file = file i;
        line = line i;
        field_names = names i;
        callsite = callsite i;
        kind = kind i;
      },
  λ same.
      let label = and_from _ _
      (and_from _ _ ((bytes_decides _ _).1 (ap (λ m. m.name) same)) ((bytes_decides _ _).1 (ap (λ m. m.target) same)))
      ((unsigned_Decides _ _).1 (ap (λ m. m.level) same)) in
      let place = and_from _ _
      (and_from _ _ ((option_eq-decides bytes_eq bytes_decides _ _).1 (ap (λ m. m.module_path) same))
      ((option_eq-decides bytes_eq bytes_decides _ _).1 (ap (λ m. m.file) same)))
      ((option_eq-decides nat_eq unsigned_Decides _ _).1 (ap (λ m. m.line) same)) in
      let shape = and_from _ _
      (and_from _ _ ((unsigned_Decides _ _).1 (ap (λ m. m.callsite) same))
      ((pointwise_decides bytes_decides _ _).1 (ap (λ m. m.field_names) same)))
      ((is_same_kind-decides _ _).1 (ap (λ m. m.kind) same)) in
      and_from _ _ (and_from _ _ shape label) place,
)

pub is_same_metadata-equivalence : IsEquivalence is_same_metadata
is_same_metadata-equivalence = decided is_same_metadata is_same_metadata-decides
