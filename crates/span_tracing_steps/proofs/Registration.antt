-- What registering a callsite leaves.
use Rattle.std.proofs.Common.{◌≡◌, inl, inr, Option, Some, None, Result, Ok, Err, refl, sym, ap, ◌∙◌, subst}
use Rattle.tracing_core_fields.specs.PlainMetadata.{PlainMetadata}
use Rattle.tracing_core_fields.specs.declared.requests.subscriber.Subscriber.{Ghosts}
use Rattle.tracing_core_fields.specs.requests.Interests.{PlainInterest}
use Rattle.tracing_core_fields.specs.requests.Lists.{Every}
use Rattle.std.specs.Prelude.{List, length}
use Rattle.tracing_core.specs.CachePreservation.{PreservesCaches}
use Rattle.tracing_core.specs.Commands.{RegisterGives as HubRegisters, RegisterGivesAt, callsite_with, kept_alike}
use Rattle.tracing_core.specs.Table.{Table}
use Rattle.tracing_core.specs.declared.hub.parts.Lane.{Lane}
use Rattle.tracing_core.specs.declared.refusal.RegisterError.{RegisterError}
use Rattle.tracing_core.specs.declared.refusal.RegisterError.TheVariants as errors
use Rattle.span_tracing_skeleton.specs.declared.refusal.Refusal.{Refusal}
use Rattle.span_tracing_skeleton.specs.declared.refusal.Refusal.TheVariants.{OutOfMemory, Taken}
use Rattle.span_tracing_steps.specs.Callsites.{own_metadata}
use Rattle.span_tracing_steps.specs.Setup.{RegisterGives}
use Rattle.span_tracing_steps.specs.States.{StateValue}
use Rattle.span_tracing_steps.specs.TraceInvariant.{IsSound, Runs}
use Rattle.span_tracing_steps.specs.contracts.callsite.TraceCallsiteCallsite.TheImpl.{ghosts}
use Rattle.span_tracing_steps.specs.declared.callsite.TraceCallsite.{TraceCallsite}
use Rattle.span_tracing_steps.specs.declared.parts.TraceParts.{TraceParts}

-- what is told of the hub's answer
abbrev pub told : Result PlainInterest (RegisterError TraceCallsite) → Result PlainInterest Refusal
told (Ok k) = Ok k
told (Err (errors.Taken back)) = Err Taken
told (Err (errors.OutOfMemory back)) = Err OutOfMemory

-- the lanes stay, and the next number of a stack
pub record Stays {T : Type 0} (t u : Table T TraceCallsite) : Type 0 where
  pub lanes : u.lanes ≡ t.lanes
  pub next : u.next ≡ t.next

module _ {T : Type 0} (g : Ghosts T) where
  same : (t u : Table T TraceCallsite) → u ≡ t → Stays t u
  same t u e = record { lanes = ap (λ (x : Table T TraceCallsite). x.lanes) e; next = ap (λ (x : Table T TraceCallsite). x.next) e }

  stays_at : (t u : Table T TraceCallsite) (callsite : TraceCallsite) (o : Option (Option PlainInterest))
      (r : Result PlainInterest (RegisterError TraceCallsite)) → RegisterGivesAt g ghosts t callsite o r u → Stays t u
  stays_at t u callsite None (Ok k) w = record {
    lanes = ap (λ (x : Table T TraceCallsite). x.lanes) w.kept;
    next = ap (λ (x : Table T TraceCallsite). x.next) w.kept;
  }
  stays_at t u callsite None (Err (errors.Taken back)) w = absurd w
  stays_at t u callsite None (Err (errors.OutOfMemory back)) w = same t u w.1
  stays_at t u callsite (Some None) r w = same t u w.1
  stays_at t u callsite (Some (Some k)) r w = same t u w.1

  pub hub_stays : (t u : Table T TraceCallsite) (callsite : TraceCallsite) (r : Result PlainInterest (RegisterError TraceCallsite)) →
      HubRegisters g ghosts t callsite r u → Stays t u
  hub_stays t u callsite r gives = stays_at t u callsite (kept_alike ghosts (own_metadata callsite)
      (callsite_with (own_metadata callsite).callsite t.callsites)) r gives

  -- parts stay sound
  pub register_sound : (p : TraceParts T) (u : Table T TraceCallsite) (callsite : TraceCallsite)
      (r : Result PlainInterest (RegisterError TraceCallsite)) → IsSound p → HubRegisters g ghosts p.hub callsite r u →
      PreservesCaches g ghosts p.hub u → IsSound (record p { hub = u })
  register_sound p u callsite r sound gives keeps =
      let stays = hub_stays p.hub u callsite r gives in
      record {
        hub = keeps.sound sound.hub;
        lanes = sound.lanes ∙ ap (λ (ls : List Lane). length ls) (sym stays.lanes);
        running = subst (λ (ls : List Lane). Every Runs ls) (sym stays.lanes) sound.running;
        given = sound.given ∙ sym stays.next;
      }

  told_at : (v : StateValue T) (u : Table T TraceCallsite) (callsite : TraceCallsite) (m : PlainMetadata)
      (o : Option (Option PlainInterest)) (r : Result PlainInterest (RegisterError TraceCallsite)) →
      o ≡ kept_alike ghosts (own_metadata callsite) (callsite_with (own_metadata callsite).callsite v.hub.callsites) →
      own_metadata callsite ≡ m → RegisterGivesAt g ghosts v.hub callsite o r u → RegisterGives g v m (told r) (record v { hub = u })
  told_at v u callsite m o (Ok k) is own w =
      inl (callsite, own, (subst (λ (x : Option (Option PlainInterest)). RegisterGivesAt g ghosts v.hub callsite x (Ok k) u) is w, refl))
  told_at v u callsite m None (Err (errors.Taken back)) is own w = absurd w
  told_at v u callsite m None (Err (errors.OutOfMemory back)) is own w =
      inr (refl, ap (λ (t : Table T TraceCallsite). record v { hub = t }) w.1)
  told_at v u callsite m (Some None) (Err (errors.Taken back)) is own w =
      inl (
        callsite,
        own,
        inl (
          refl,
          subst (λ (x : Option (Option PlainInterest)). RegisterGivesAt g ghosts v.hub callsite x (Err (errors.Taken callsite)) v.hub) is
              (refl, refl),
          ap (λ (t : Table T TraceCallsite). record v { hub = t }) w.1,
        ),
      )
  told_at v u callsite m (Some None) (Err (errors.OutOfMemory back)) is own w = absurd (cc)
  told_at v u callsite m (Some (Some k)) (Err (errors.Taken back)) is own w = absurd (cc)
  told_at v u callsite m (Some (Some k)) (Err (errors.OutOfMemory back)) is own w = absurd (cc)

  pub registers : (v : StateValue T) (u : Table T TraceCallsite) (callsite : TraceCallsite) (m : PlainMetadata)
      (r : Result PlainInterest (RegisterError TraceCallsite)) → own_metadata callsite ≡ m → HubRegisters g ghosts v.hub callsite r u →
      RegisterGives g v m (told r) (record v { hub = u })
  registers v u callsite m r own w = told_at v u callsite m
      (kept_alike ghosts (own_metadata callsite) (callsite_with (own_metadata callsite).callsite v.hub.callsites)) r refl own w
