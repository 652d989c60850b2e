-- Filters and layers that answer the same where they are asked the same.
use Rattle.std.specs.Prelude.{◌≡◌, ◌||◌, not, Bool, true, false, List}
use Rattle.std.specs.Borrow.{Bor}
use Rattle.std.proofs.Common.{sym, ap, subst, ◌∙◌}
use Rattle.tracing_core_fields.specs.PlainMetadata.{PlainMetadata}
use Rattle.tracing_core_fields.specs.requests.PlainRequests.{PlainEvent}
use Rattle.tracing_core_fields.specs.declared.metadata.Metadata.{Metadata}
use Rattle.span_registry_layers_layers.specs.Combined.{Both, Either, Else, Then, Turned}
use Rattle.span_registry_layers_layers.specs.Dynamic.{AnswersIn, IsDeterminedIn}
use Rattle.span_registry_layers_layers.specs.Functions.{AnswersBy, IsDetermined}
use Rattle.span_registry_layers_layers.specs.Honesty.{One, OneAnswer, Single}
use Rattle.span_registry_layers_layers.specs.Layereds.{KeptByBoth}
use Rattle.span_registry_layers_layers.specs.FilterViews.{View}
use Rattle.span_registry_layers_layers.specs.declared.context.Context.{Context}

pub then_one : (Q : Bool → Type 0) (p r s : Bool) → One Q → Then Q p r → Then Q p s → r ≡ s
then_one Q true r s one x y = one r s x y
then_one Q false r s one x y = x ∙ sym y

else_one : (Q : Bool → Type 0) (p r s : Bool) → One Q → Else Q p r → Else Q p s → r ≡ s
else_one Q true r s one x y = x ∙ sym y
else_one Q false r s one x y = one r s x y

pub both_one : (P Q : Bool → Type 0) → One P → One Q → One (Both P Q)
both_one P Q f g r s x y = then_one Q x.0 r s g x.2 (subst (λ p. Then Q p s) (f y.0 x.0 y.1 x.1) y.2)

either_one : (P Q : Bool → Type 0) → One P → One Q → One (Either P Q)
either_one P Q f g r s x y = else_one Q x.0 r s g x.2 (subst (λ p. Else Q p s) (f y.0 x.0 y.1 x.1) y.2)

equal_one : (p : Bool) → One (λ b. b ≡ p)
equal_one p a b x y = x ∙ sym y

-- what is told by a function
pub function_single : (p : PlainMetadata → View → Bool) → Single (λ m v b. b ≡ p m v) (λ e v b. b ≡ true)
function_single p = record { callsite = λ m v. equal_one (p m v); event = λ e v. equal_one true }

module _ {A B : PlainMetadata → View → Bool → Type 0} {C D : PlainEvent → View → Bool → Type 0} where
  pub both_single : Single A C → Single B D → Single (λ m v r. Both (A m v) (B m v) r) (λ e v r. Both (C e v) (D e v) r)
  both_single f g = record {
    callsite = λ m v. both_one (A m v) (B m v) (f.callsite m v) (g.callsite m v);
    event =
        λ e v. both_one (C e v) (D e v) (f.event e v) (g.event e v);
  }

  pub either_single : Single A C → Single B D → Single (λ m v r. Either (A m v) (B m v) r) (λ e v r. Either (C e v) (D e v) r)
  either_single f g = record {
    callsite = λ m v. either_one (A m v) (B m v) (f.callsite m v) (g.callsite m v);
    event =
        λ e v. either_one (C e v) (D e v) (f.event e v) (g.event e v);
  }

module _ {A : PlainMetadata → View → Bool → Type 0} {C : PlainEvent → View → Bool → Type 0} where
  pub turned_single : Single A C → Single (λ m v r. Turned (A m v) r) (λ e v r. r ≡ true)
  turned_single f = record {
    callsite = λ m v r s x y. x.2 ∙ ap not (f.callsite m v x.0 y.0 x.1 y.1) ∙ sym y.2;
    event =
        λ e v. equal_one true;
  }

pub closure_single : (P : Bor Metadata → Bool → Type 0) → IsDetermined P → Single (AnswersBy P) (λ e v b. b ≡ true)
closure_single P d = record { callsite = λ m v a b x y. d x.0 y.0 a b (x.1 ∙ sym y.1) x.2 y.2; event = λ e v. equal_one true }

pub dynamic_single : (P : Bor Metadata → Bor Context → Bool → Type 0) → IsDeterminedIn P → Single (AnswersIn P) (λ e v b. b ≡ true)
dynamic_single P d = record {
  callsite = λ m v a b x y. d x.0 y.0 x.1 y.1 a b (x.2 ∙ sym y.2) (x.3 ∙ sym y.3) x.4 y.4;
  event =
      λ e v. equal_one true;
}

-- of what has no filters
pub leaf_once : OneAnswer (λ m v passes verdicts some. some ≡ passes)
leaf_once m v passes verdicts others a b x y = x ∙ sym y

pub both_once : (K J : PlainMetadata → View → Bool → List Bool → Bool → Type 0) → OneAnswer K → OneAnswer J → OneAnswer (KeptByBoth K J)
both_once K J f g m v passes verdicts others a b x y =
    x.4 ∙ ap (λ p. p || x.1) (f m v passes verdicts others x.0 y.0 x.2 y.2) ∙
    ap (λ q. y.0 || q) (g m v passes verdicts others x.1 y.1 x.3 y.3) ∙ sym y.4
