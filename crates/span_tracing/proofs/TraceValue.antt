-- What is said of the value of a trace's parts is said of the trace.
use Rattle.std.proofs.Common.{◌≡◌, ℕ, List, Option, subst}
use Rattle.tracing_core_fields.specs.requests.PlainRequests.{PlainEvent}
use Rattle.tracing_core_fields.specs.declared.requests.subscriber.Subscriber.{Ghosts as SubscriberGhosts}
use Rattle.tracing_appender_queue.specs.declared.queued.fate.Fate.{Fate}
use Rattle.tracing_appender_rolling.specs.folders.Contents.{Contents}
use Rattle.span_registry_layers_layers.specs.declared.filter.Filter.{Ghosts as FilterGhosts}
use Rattle.span_registry_layers_layers.specs.declared.layer.Layer.{Ghosts as LayerGhosts}
use Rattle.event_formatter_text.specs.declared.format_fields.FormatFields.{Ghosts}
use Rattle.event_formatter_text.specs.declared.settings.Settings.{Settings}
use Rattle.event_formatter.specs.formats.Contexts.{PlainContext}
use Rattle.span_tracing_outputs.specs.TraceStacks.{TraceStackValue}
use Rattle.span_tracing_outputs.specs.Turns.{Lines}
use Rattle.span_tracing_outputs.specs.sinks.Routed.{Routed}
use Rattle.span_tracing_outputs.specs.declared.sinks.any_sink.AnySink.{AnySink}
use Rattle.span_tracing_skeleton.specs.PlainData.{AnyStep}
use Rattle.span_tracing_skeleton.specs.declared.call.Reply.{Reply}
use Rattle.span_registry_layers_store.specs.Registries.{RegistryValue}
use Rattle.tracing_core_moments.specs.declared.at.At.{At}
use Rattle.span_tracing_outputs.specs.OutputMachines.{PlainLine}
use Rattle.span_tracing_steps.specs.FilterSwaps.{SwapGives}
use Rattle.span_tracing_steps.specs.States.{StateValue}
use Rattle.span_tracing_laws.specs.runs.Files.{FileTrace}
use Rattle.span_tracing_laws.specs.runs.Laws.{SwapFollows}
use Rattle.span_tracing_laws.specs.runs.StepFollows.{TraceIsReady, Traced}
use Rattle.span_tracing.specs.Ready.{IsStep}

pub step_carried : {N E F D Q : Type 0} {settles : Q → List ℕ → Fate → Q → Type 0} (contents : D → Option Contents) (failed : D → ℕ)
    (s : SubscriberGhosts (TraceStackValue N E F (Routed (AnySink D Q)))) (n : Ghosts N)
    (line_of : E → Settings → PlainContext → PlainEvent → Option (List ℕ)) (g : FilterGhosts F) (h : LayerGhosts (Lines N E))
    (u v : FileTrace N E F D Q) (step : AnyStep) (reply : Reply) (w : FileTrace N E F D Q) → u ≡ v →
    IsStep contents failed settles s n line_of g h u step reply w → IsStep contents failed settles s n line_of g h v step reply w
step_carried {settles = settles} contents failed s n line_of g h u v step reply w is done =
    subst (λ x. IsStep contents failed settles s n line_of g h x step reply w) is done

-- so it is where the step is told in another way
pub step_named : {N E F D Q : Type 0} {settles : Q → List ℕ → Fate → Q → Type 0} (contents : D → Option Contents) (failed : D → ℕ)
    (s : SubscriberGhosts (TraceStackValue N E F (Routed (AnySink D Q)))) (n : Ghosts N)
    (line_of : E → Settings → PlainContext → PlainEvent → Option (List ℕ)) (g : FilterGhosts F) (h : LayerGhosts (Lines N E))
    (v : FileTrace N E F D Q) (a b : AnyStep) (reply : Reply) (w : FileTrace N E F D Q) → a ≡ b →
    IsStep contents failed settles s n line_of g h v a reply w → IsStep contents failed settles s n line_of g h v b reply w
step_named {settles = settles} contents failed s n line_of g h v a b reply w is done =
    subst (λ x. IsStep contents failed settles s n line_of g h v x reply w) is done

-- and of a filter that changes places with an output's
pub swap_carried : {T F : Type 0} (s : SubscriberGhosts T) (registry_of : T → RegistryValue) (swap : T → ℕ → F → T → F → Type 0)
    (u v : StateValue T) (output : ℕ) (filter : F) (reply : Reply) (w : StateValue T) (back : F) → u ≡ v →
    SwapGives s registry_of swap u output filter reply w back → SwapGives s registry_of swap v output filter reply w back
swap_carried s registry_of swap u v output filter reply w back is gives =
    subst (λ x. SwapGives s registry_of swap x output filter reply w back) is gives

pub swap_follows_carried : {N E F S : Type 0} (n : Ghosts N) (line_of : E → Settings → PlainContext → PlainEvent → Option (List ℕ))
    (g : FilterGhosts F) (takes : S → At → PlainLine → S → Type 0) (h : LayerGhosts (Lines N E))
    (s : SubscriberGhosts (TraceStackValue N E F S)) (u v : Traced N E F S) (output : ℕ) (filter : F) (w : Traced N E F S) → u ≡ v →
    (TraceIsReady g h u → SwapFollows n line_of g takes h s u output filter w) → TraceIsReady g h v →
    SwapFollows n line_of g takes h s v output filter w
swap_follows_carried n line_of g takes h s u v output filter w is follows =
    subst (λ x. TraceIsReady g h x → SwapFollows n line_of g takes h s x output filter w) is follows
