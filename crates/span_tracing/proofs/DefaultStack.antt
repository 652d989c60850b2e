-- The first stack of a trace with one lane, made the global default.
use Rattle.std.proofs.Common.{◌≡◌, ◌+◌, ℕ, inl, inr, true, false, List, [], ◌∷◌, length, map, Option, Some, None, Ok, refl, ap, sym}
use Rattle.std.proofs.Common.{◌∙◌, subst}
use Rattle.std.specs.Prelude.{min}
use Rattle.std.proofs.lemmas.List.{length-map}
use Rattle.tracing_core_moments.specs.declared.moment.Moment.{Moment}
use Rattle.tracing_appender_rolling.specs.folders.Contents.{Contents}
use Rattle.span_registry_layers_layers.specs.declared.filter.Filter.{Ghosts as FilterGhosts}
use Rattle.span_registry_layers_layers.specs.declared.layer.Layer.{Ghosts as LayerGhosts}
use Rattle.event_formatter.specs.declared.formats.fields.Fields.{Fields}
use Rattle.event_formatter.specs.declared.formats.format.Format.{Format}
use Rattle.event_formatter.specs.declared.formats.line_format.LineFormat.{LineFormat}
use Rattle.event_formatter.specs.declared.formats.timer.Timer.{Timer}
use Rattle.span_tracing_outputs.specs.OutputSettings.{outputs_in}
use Rattle.span_tracing_outputs.specs.SinkLines.{cleared_row}
use Rattle.span_tracing_outputs.specs.TraceStacks.{TraceStackValue}
use Rattle.event_formatter.specs.fmt_layer.Threads.{PlainLane}
use Rattle.span_tracing_outputs.specs.files.OpenedStack.{OpensRouting, OpensSink, OpensStack, Pairs, routing_of}
use Rattle.span_tracing_outputs.specs.files.Settings.{Shown}
use Rattle.span_tracing_outputs.specs.sinks.Routed.{Routed}
use Rattle.span_tracing_outputs.specs.sinks.SinkCalls.{sinks_in, sinks_of}
use Rattle.span_tracing_outputs.specs.declared.files.output_spec.OutputSpec.{OutputSpec}
use Rattle.span_tracing_outputs.specs.declared.sinks.any_sink.AnySink.{AnySink}
use Rattle.tracing_core_fields.specs.declared.requests.subscriber.Subscriber.{Ghosts}
use Rattle.tracing_core.specs.CacheRefresh.{Formed}
use Rattle.tracing_core.specs.Commands.{living}
use Rattle.tracing_core.specs.InterestsAndHints.{Each, GivesHint, Raises, RowAsked}
use Rattle.tracing_core.specs.Table.{Table}
use Rattle.tracing_core.specs.TableRows.{KeptCallsite, KeptSubscriber}
use Rattle.tracing_core.specs.declared.hub.parts.Lane.TheVariants.{Running}
use Rattle.tracing_core.specs.declared.hub.parts.LaneDefault.TheVariants.{Unset}
use Rattle.span_registry_layers_store.specs.Registries.{RegistryValue}
use Rattle.span_tracing_skeleton.specs.PlainData.{GlobalStep}
use Rattle.span_tracing_skeleton.specs.declared.setting.Setting.{Setting}
use Rattle.span_tracing_skeleton.specs.declared.call.Reply.{Reply}
use Rattle.span_tracing_skeleton.specs.declared.call.Reply.TheVariants.{Done}
use Rattle.span_tracing_steps.specs.Setup.{AddGives, with_thread}
use Rattle.span_tracing_steps.specs.States.{PlainThread, StateValue, new_state, stack_in}
use Rattle.span_tracing_steps.specs.Steps.{StepGives, with_global}
use Rattle.span_tracing_steps.specs.contracts.callsite.TraceCallsiteCallsite.TheImpl.{ghosts}
use Rattle.span_tracing_steps.specs.declared.callsite.TraceCallsite.{TraceCallsite}
use Rattle.span_tracing_laws.specs.runs.StepFollows.{Traced}
use Rattle.span_tracing.specs.OpenedTrace.{ReachesFirst, sinks_asked}

module _ {T : Type 0} where
  -- a stack with its handle, which told its hint
  abbrev first_kept : T → Option ℕ → KeptSubscriber T
  first_kept y top = record { serial = 0; handles = 1; lent = false; interests = []; hint = Some top; subscriber = y }

  abbrev first_hub : List (KeptSubscriber T) → List (KeptCallsite TraceCallsite) → ℕ → Table T TraceCallsite
  first_hub subscribers callsites greatest = record {
    subscribers = subscribers;
    next = 1;
    callsites = callsites;
    lanes = Running Unset ∷ [];
    entered = false ∷ [];
    global = Unset;
    greatest = greatest;
  }

  abbrev first_on : PlainThread → ℕ × ℕ → Table T TraceCallsite → StateValue T
  first_on thread count hub = record {
    hub = hub;
    threads = thread ∷ [];
    outputs = count.0 ∷ [];
    sinks = count.1 ∷ [];
    handles = Some (Some 0) ∷ [];
    guards = [];
    retired = None ∷ [];
  }

  -- one lane and one stack, which has so many outputs and sinks
  abbrev pub first_state : PlainThread → ℕ × ℕ → T → Option ℕ → ℕ → StateValue T
  first_state thread count y top greatest = first_on thread count (first_hub (first_kept y top ∷ []) [] greatest)

  -- which is the global default
  abbrev pub opened_state : PlainThread → ℕ × ℕ → T → Option ℕ → ℕ → StateValue T
  opened_state thread count y top greatest = with_global (first_state thread count y top greatest) (Some 0)

module _ {T : Type 0} (s : Ghosts T) (outputs_in sinks_in : T → ℕ) where
  -- how many outputs and sinks a stack has
  abbrev counts : T → ℕ × ℕ
  counts x = (outputs_in x, sinks_in x)

  abbrev OneTells : List (KeptSubscriber T) → Type 0
  OneTells fs = (y : T) × (top : Option ℕ) × (fs ≡ first_kept y top ∷ [])

  gives_one : (z : T) (top : Option ℕ) (f : KeptSubscriber T) → GivesHint s false top (living 0 z) f → OneTells (f ∷ [])
  gives_one z top f (inl told) = (f.subscriber, top, ap (λ (e : KeptSubscriber T). e ∷ []) told.2)
  gives_one z top f (inr told) = absurd (let odd : true ≡ false = told.0 in cc)

  one_tells : (z : T) (fs : List (KeptSubscriber T)) (last : ℕ) → Each (Raises s false) 0 (living 0 z ∷ []) fs last → OneTells fs
  one_tells z [] last each = absurd each
  one_tells z (f ∷ []) last each = gives_one z each.1.0 f each.1.1
  one_tells z (f ∷ d ∷ ds) last each = absurd each.2

  no_rows : (before after : ℕ × List (KeptSubscriber T)) (laters : List (KeptCallsite TraceCallsite)) →
      Each (RowAsked s ghosts false) before [] laters after → (laters ≡ []) × (after ≡ before)
  no_rows before after [] each = (refl, each)
  no_rows before after (later ∷ laters) each = absurd each

  formed_first : (z : T) (u : Table T TraceCallsite) → Formed s ghosts false (first_hub (living 0 z ∷ []) [] 0) u →
      (y : T) × (top : Option ℕ) × (u ≡ first_hub (first_kept y top ∷ []) [] u.greatest)
  formed_first z u formed =
      let rows = no_rows (0, living 0 z ∷ []) (formed.callsites.0, formed.asked) u.callsites formed.callsites.1 in
      let one = one_tells z u.subscribers u.greatest
      (subst (λ (es : List (KeptSubscriber T)). Each (Raises s false) 0 es u.subscribers u.greatest)
      (ap (λ (p : ℕ × List (KeptSubscriber T)). p.1) rows.1) formed.hints) in (
        one.0,
        one.1,
        formed.rest
            ∙ ap (λ (es : List (KeptSubscriber T)). first_hub es u.callsites u.greatest) one.2
            ∙ ap (λ (cs : List (KeptCallsite TraceCallsite)). first_hub (first_kept one.0 one.1 ∷ []) cs u.greatest) rows.0,
      )

  -- the first stack of a trace with one lane
  first_added : (thread : PlainThread) (x : T) (handle : ℕ) (v : StateValue T) →
      AddGives s outputs_in sinks_in (with_thread new_state thread) x
      (Ok handle) v →
      (handle ≡ 0) × ((y : T) × (top : Option ℕ) × (v ≡ first_state thread (counts x) y top v.hub.greatest))
  first_added thread x handle v (number, (told, (z, moved, formed)), is) =
      let first = formed_first z v.hub formed in
      (number, (first.0, first.1, is ∙ ap (first_on thread (counts x)) first.2))

  module _ (registry_of : T → RegistryValue) (set_of : T → ℕ → Setting → T) where
    set_first : (thread : PlainThread) (count : ℕ × ℕ) (y : T) (top : Option ℕ) (greatest handle : ℕ) (reply : Reply) (w : StateValue T) →
        handle ≡ 0 →
        StepGives s registry_of set_of (first_state thread count y top greatest) (GlobalStep handle) reply w →
        (reply ≡ Done) × (w ≡ opened_state thread count y top greatest)
    set_first thread count y top greatest handle reply w first step =
        subst (λ (k : ℕ). StepGives s registry_of set_of (first_state thread count y top greatest) (GlobalStep k) reply w) first step

    -- Made the global default, it is reached, and there is no other.
    pub record Opens (thread : PlainThread) (x : T) (v : StateValue T) (handle : ℕ) (reply : Reply) (w : StateValue T) : Type 0 where
      pub count : ℕ × ℕ
      pub stack : T
      pub hint : Option ℕ
      pub greatest : ℕ
      pub added : v ≡ first_state thread count stack hint greatest
      pub done : reply ≡ Done
      pub set : w ≡ opened_state thread count stack hint greatest
      pub outputs : w.outputs ≡ outputs_in x ∷ []
      pub sinks : w.sinks ≡ sinks_in x ∷ []

    pub opens : (thread : PlainThread) (x : T) (handle : ℕ) (v : StateValue T) (reply : Reply) (w : StateValue T) →
        AddGives s outputs_in sinks_in (with_thread new_state thread) x (Ok handle) v → StepGives s registry_of set_of v
        (GlobalStep handle) reply w →
        Opens thread x v handle reply w
    opens thread x handle v reply w adds step =
        let first = first_added thread x handle v adds in
        let set = set_first thread (counts x) first.1.0 first.1.1 v.hub.greatest handle reply w first.0
        (subst (λ (u : StateValue T). StepGives s registry_of set_of u (GlobalStep handle) reply w) first.1.2 step) in
        record {
          count = counts x;
          stack = first.1.0;
          hint = first.1.1;
          greatest = v.hub.greatest;
          added = first.1.2;
          done = set.0;
          set = set.1;
          outputs = ap (λ (u : StateValue T). u.outputs) set.1;
          sinks = ap (λ (u : StateValue T). u.sinks) set.1;
        }

    -- of a trace that was new before
    pub opened : (thread : PlainThread) (x : T) (handle : ℕ) (fresh before v : StateValue T) (reply : Reply) (w : StateValue T) →
        fresh ≡ new_state → before ≡ with_thread fresh thread → AddGives s outputs_in sinks_in before x (Ok handle) v →
        StepGives s registry_of set_of v (GlobalStep handle) reply w → Opens thread x v handle reply w
    opened thread x handle fresh before v reply w new is adds step =
        opens thread x handle v reply w
        (subst (λ (u : StateValue T). AddGives s outputs_in sinks_in u x (Ok handle) v) (is ∙ ap (λ
        (u : StateValue T). with_thread u thread) new) adds) step

    pub same_stack : (thread : PlainThread) (x : T) (v : StateValue T) (handle : ℕ) (reply : Reply) (w : StateValue T) →
        Opens thread x v handle reply w → (number : ℕ) → number ≡ 0 → stack_in v number ≡ stack_in w 0
    same_stack thread x v handle reply w o number first =
        ap (λ (u : StateValue T). stack_in u number) o.added
        ∙ ap (λ (k : ℕ). stack_in (first_state thread o.count o.stack o.hint o.greatest) k) first
        ∙ sym (ap (λ (u : StateValue T). stack_in u 0) o.set)

module _ {N E F S : Type 0} where
  pub reaches_first : (thread : PlainThread) (count : ℕ × ℕ) (w : Traced N E F S) (y : _) (top : Option ℕ) (greatest : ℕ) →
      w ≡ opened_state thread count y top greatest → ReachesFirst w
  reaches_first thread count w y top greatest is = subst (λ (u : Traced N E F S). ReachesFirst u) (sym is)
      (record { given = refl; lanes = refl; default = refl; reached = refl; handles = refl; guards = refl })

same_length : {A B : Type 0} (r : A → B → Type 0) (xs : List A) (ys : List B) → Pairs r xs ys → length ys ≡ length xs
same_length r [] [] pairs = refl
same_length r [] (y ∷ ys) pairs = absurd pairs
same_length r (x ∷ xs) [] pairs = absurd pairs
same_length r (x ∷ xs) (y ∷ ys) pairs = let later = same_length r xs ys pairs.1 in cc

module _ {F D Q : Type 0} (contents : D → Option Contents) (failed : D → ℕ) (g : FilterGhosts F) (h : LayerGhosts Shown) (m : Moment)
    (lanes : List PlainLane) where
  -- an opened stack has as many outputs as were asked for
  pub opened_count : (specs : List (OutputSpec F D Q))
      (made : TraceStackValue Fields (Format LineFormat Timer) F (Routed (AnySink D Q))) →
      OpensStack contents failed g h m lanes specs made → outputs_in made ≡ length specs
  opened_count specs made o =
      ap (λ (x : TraceStackValue Fields (Format LineFormat Timer) F (Routed (AnySink D Q))). length x.stack.rows) o.paired.1
      ∙ length-map o.stack.rows cleared_row
      ∙ sym o.paired.0
      ∙ same_length (OpensRouting contents failed m) (map routing_of specs) made.sinks o.sinks
      ∙ length-map specs routing_of

  asked_opened : (specs : List (OutputSpec F D Q)) (rs : List (Routed (AnySink D Q))) →
      Pairs (OpensRouting contents failed m) (map routing_of specs) rs → sinks_of rs ≡ sinks_asked specs
  asked_opened [] [] pairs = refl
  asked_opened [] (r ∷ rs) pairs = absurd pairs
  asked_opened (spec ∷ specs) [] pairs = absurd pairs
  asked_opened (spec ∷ specs) (r ∷ rs) pairs =
      ap (λ (k : ℕ). min (k + length r.sinks) 18446744073709551615) (asked_opened specs rs pairs.1)
      ∙ ap (λ (k : ℕ). min (sinks_asked specs + k) 18446744073709551615)
      (same_length (OpensSink contents failed m) spec.sinks.items r.sinks pairs.0.sinks)

  -- and as many sinks
  pub opened_sinks : (specs : List (OutputSpec F D Q))
      (made : TraceStackValue Fields (Format LineFormat Timer) F (Routed (AnySink D Q))) →
      OpensStack contents failed g h m lanes specs made → sinks_in made ≡ sinks_asked specs
  opened_sinks specs made o = asked_opened specs made.sinks o.sinks
