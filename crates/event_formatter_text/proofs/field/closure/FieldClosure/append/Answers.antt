use Rattle.std.proofs.Common.{◌≡◌, refl, subst}
use Rattle.event_formatter_text.proofs.field.closure.FieldClosure.append.Goals as goal

moved : {B A R : Type 0} (post : B → A → R → Type 0) {b c : B} {a : A} {r : R} → b ≡ c → post b a r → post c a r
moved post {a = a} {r = r} is called = subst (λ b. post b a r) is called

-- the closure that was called is the one in the box
pub returns : goal.returns
returns g c = (
  _,
  _,
  refl,
  refl,
  moved (λ b. (g.dyn-1.0.entry b.0).1.post b.1)
      {a = (c.args.text, (record { ref_ptr = _; now = c.args.field.now }, (record { ref_ptr = _; now = c.args.value.now }, tt)))}
      {r = c.call.result} c.deref_box-1.ensures.1 c.call.ensures.0,
)
