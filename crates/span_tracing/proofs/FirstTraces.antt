-- A trace without stacks is ready, and neither lanes nor released stacks matter.
use Rattle.std.proofs.Common.{◌≡◌, ℕ, zero, suc, Bool, true, false, List, [], ◌∷◌, length, slice_set, Option, Some, None, Result, Ok, Err}
use Rattle.std.proofs.Common.{refl, subst, sym, ap, ◌∙◌, arith, inl, inr}
use Rattle.std.specs.Prelude.{if◌then◌else◌, nat_lt}
use Rattle.span_registry_layers_layers.specs.declared.filter.Filter.{Ghosts as FilterGhosts}
use Rattle.span_registry_layers_layers.specs.declared.layer.Layer.{Ghosts as LayerGhosts}
use Rattle.tracing_core_fields.specs.PlainMetadata.{PlainMetadata}
use Rattle.tracing_core_fields.specs.requests.PlainRequests.{PlainEvent}
use Rattle.tracing_core_fields.specs.declared.requests.subscriber.Subscriber.{Ghosts as SubscriberGhosts}
use Rattle.tracing_core_moments.specs.declared.at.At.{At}
use Rattle.event_formatter_text.specs.declared.format_fields.FormatFields.{Ghosts}
use Rattle.event_formatter_text.specs.declared.settings.Settings.{Settings}
use Rattle.event_formatter.specs.formats.Contexts.{PlainContext}
use Rattle.span_tracing_outputs.specs.OutputMachines.{PlainLine}
use Rattle.span_tracing_outputs.specs.TraceStacks.{TraceStackValue}
use Rattle.span_tracing_outputs.specs.Turns.{Lines}
use Rattle.span_tracing_skeleton.specs.declared.refusal.Refusal.{Refusal}
use Rattle.span_tracing_laws.specs.runs.Laws.{SetupFollows}
use Rattle.span_tracing_laws.specs.runs.StepFollows.{TraceIsReady, Traced}
use Rattle.span_tracing_steps.specs.Setup.{own_at, with_thread, without_retired}
use Rattle.span_tracing_steps.specs.States.{PlainThread, new_state}
use Rattle.span_tracing.specs.Setup.{SitesStayReady, StartsReady}
use Rattle.span_tracing.specs.Sites.{MakesSite, RegistersSite}
use Rattle.span_tracing.specs.declared.site.Site.{Site}

length_set : {A : Type 0} (xs : List A) (n : ℕ) (x : A) → length (slice_set xs n x) ≡ length xs
length_set [] zero x = refl
length_set [] (suc n) x = refl
length_set (y ∷ ys) zero x = refl
length_set (y ∷ ys) (suc n) x = ap suc (length_set ys n x)

length_if : {A : Type 0} (b : Bool) (xs : List A) (n : ℕ) (x : A) → length (if b then slice_set xs n x else xs) ≡ length xs
length_if true xs n x = length_set xs n x
length_if false xs n x = refl

module _ {N E F : Type 0} (g : FilterGhosts F) (h : LayerGhosts (Lines N E)) (S : Type 0) where
  new_ready : TraceIsReady {N = N} {E = E} {F = F} {S = S} g h new_state
  new_ready = record {
    sound = record { numbers = omega (arith); apart = tt; sites = tt };
    given = refl;
    stacks = λ number x e. absurd (let odd : None ≡ Some x = e in cc);
  }

  thread_ready : (v : Traced N E F S) (thread : PlainThread) → TraceIsReady g h v → TraceIsReady g h (with_thread v thread)
  thread_ready v thread ready = record {
    sound = record { numbers = ready.sound.numbers; apart = ready.sound.apart; sites = ready.sound.sites };
    given = ready.given;
    stacks = ready.stacks;
  }

  taken_ready : (v : Traced N E F S) (number : ℕ) → TraceIsReady g h v → TraceIsReady g h (without_retired v number)
  taken_ready v number ready = record {
    sound = ready.sound;
    given = length_if (nat_lt number (length v.retired)) v.retired number None ∙ ready.given;
    stacks = ready.stacks;
  }

  pub traces_start_ready : StartsReady g h S
  traces_start_ready = record { new = new_ready; thread = thread_ready; taken = taken_ready }

module _ {N E F S : Type 0} (n : Ghosts N) (line_of : E → Settings → PlainContext → PlainEvent → Option (List ℕ)) (g : FilterGhosts F)
    (takes : S → At → PlainLine → S → Type 0) (h : LayerGhosts (Lines N E)) (sg : SubscriberGhosts (TraceStackValue N E F S))
    (setup : SetupFollows n line_of g takes h sg) where
  site_ready : (v : Traced N E F S) (m : PlainMetadata) (result : Result Site Refusal) (w : Traced N E F S) → TraceIsReady g h v →
      RegistersSite sg v m result w → TraceIsReady g h w
  site_ready v m (Ok site) w ready (k, gives, named, at) = (setup.registered v (own_at m.callsite m) (Ok k) w ready gives).0
  site_ready v m (Err refusal) w ready gives = (setup.registered v (own_at m.callsite m) (Err refusal) w ready gives).0

  made_ready : (v : Traced N E F S) (m : ℕ → PlainMetadata) (result : Result Site Refusal) (w : Traced N E F S) → TraceIsReady g h v →
      MakesSite sg v m result w → TraceIsReady g h w
  made_ready v m result w ready makes = elim (makes) [
    | inl (identifier, free, registers, fields) ↦ site_ready v (m identifier) result w ready registers
    | inr (taken, told, same) ↦ subst (TraceIsReady g h) (sym same) ready
  ]

  pub sites_ready : SitesStayReady g h sg
  sites_ready = record { registered = site_ready; made = made_ready }
