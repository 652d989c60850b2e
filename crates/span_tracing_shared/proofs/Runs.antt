-- One call more of a run.
use Rattle.std.proofs.Common.{◌≡◌, ◌+◌, ◌<◌, ℕ, List, [], ◌∷◌, ◌++◌, length, take, get_or, map, ap, ◌∙◌, sym}
use Rattle.std.proofs.lemmas.List.{append_assoc, map-append, map_more, take-map}
use Rattle.span_tracing_skeleton.specs.PlainData.{AnyStep, any_step, any_steps}
use Rattle.span_tracing_skeleton.specs.declared.call.Reply.{Reply}
use Rattle.span_tracing_skeleton.specs.declared.call.Step.{Step}
use Rattle.span_tracing_shared.specs.Entries.{PlainCall}
use Rattle.span_tracing_shared.specs.Running.{steps_of}

steps_more : (steps : List Step) (n : ℕ) (x : Step) → n < length steps → x ≡ get_or steps n x →
    take (n + 1) (any_steps steps) ≡ take n (any_steps steps) ++ any_step x ∷ []
steps_more steps n x below is =
    take-map any_step (n + 1) steps
    ∙ (map_more any_step steps n x below
    ∙ (ap (λ (y : Step). map any_step (take n steps) ++ any_step y ∷ []) (sym is)
    ∙ ap (λ (ss : List AnyStep). ss ++ any_step x ∷ []) (sym (take-map any_step n steps))))

abbrev call : AnyStep → Reply → PlainCall
call step reply = record { step = step; reply = reply }

pub ran_more : (steps : List Step) (n : ℕ) (x : Step) (before old new more : List PlainCall) (r : Reply) → n < length steps →
    x ≡ get_or steps n x → old ≡ before ++ more → steps_of more ≡ take n (any_steps steps) →
    new ≡ old ++ record { step = any_step x; reply = r } ∷ [] →
    (all : List PlainCall) × (new ≡ before ++ all) × (steps_of all ≡ take (n + 1) (any_steps steps))
ran_more steps n x before old new more r below is own told now = (
  more ++ call (any_step x) r ∷ [],
  now ∙ (ap (λ (cs : List PlainCall). cs ++ call (any_step x) r ∷ []) own ∙ append_assoc before more (call (any_step x) r ∷ [])),
  map-append (λ (c : PlainCall). c.step) more (call (any_step x) r ∷ [])
      ∙ (ap (λ (ss : List AnyStep). ss ++ any_step x ∷ []) told ∙ sym (steps_more steps n x below is)),
)
