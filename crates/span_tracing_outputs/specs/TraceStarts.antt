-- A new stack with sinks.
use Rattle.std.specs.Prelude.{◌≡◌, ℕ, List, [], map, Option, Ok}
use Rattle.tracing_core_fields.specs.requests.Lists.{Every}
use Rattle.tracing_core_fields.specs.requests.PlainRequests.{PlainEvent}
use Rattle.span_registry_layers_layers.specs.declared.filter.Filter.{Ghosts as FilterGhosts}
use Rattle.span_registry_layers_layers.specs.declared.filtered.Filtered.{Filtered}
use Rattle.span_registry_layers_layers.specs.declared.layer.Layer.{Ghosts as LayerGhosts}
use Rattle.span_registry_layers.specs.CacheValidity.{CacheIsValid}
use Rattle.span_registry_layers.specs.NewStack as stacks
use Rattle.span_registry_layers.specs.declared.output.Output.{Output}
use Rattle.event_formatter_text.specs.declared.format_fields.FormatFields.{Ghosts}
use Rattle.event_formatter_text.specs.declared.settings.Settings.{Settings}
use Rattle.event_formatter.specs.formats.Contexts.{PlainContext}
use Rattle.event_formatter.specs.fmt_layer.Threads.{plain_lanes}
use Rattle.span_tracing_outputs.specs.OutputFolds.{EachAgrees, Numbered}
use Rattle.span_tracing_outputs.specs.StackFollows.{LinedStack}
use Rattle.span_tracing_outputs.specs.TraceFollows.{IsReady}
use Rattle.span_tracing_outputs.specs.TraceStacks.{NewGives, TraceStackValue}
use Rattle.span_tracing_outputs.specs.Turns.{Lined, Lines}

-- the layer of an output was made with the output's key
abbrev pub HasOwnKey : {N E F : Type 0} → Output (Filtered (Lines N E) F) → Type 0
HasOwnKey output = output.output.layer.config.key.0 ≡ output.key.0

-- the machine of an output as long as there is no span: it is made as the output is, and keeps nothing
abbrev pub out_of : {N E F : Type 0} → (E → Settings → PlainContext → PlainEvent → Option (List ℕ)) → Lined N E F → Numbered N
out_of line_of row =
    let layer = row.output.layer in
    record {
      number = row.id.index;
      out = record {
        config = layer.config;
        line_of = line_of layer.format;
        lanes = plain_lanes layer.threads;
        longest = layer.threads.longest;
        kept = [];
        lines = layer.output.maker;
      };
    }

module _ {N E F : Type 0} (n : Ghosts N) (line_of : E → Settings → PlainContext → PlainEvent → Option (List ℕ)) (g : FilterGhosts F)
    (h : LayerGhosts (Lines N E)) where
  -- of a new stack, whose outputs have their own keys, and whose cache is valid: it is ready once it has its sinks, and its outputs agree
  -- with such machines
  pub record TraceStarts (S : Type 0) : Type 0 where
    pub ready : (outputs : List (Output (Filtered (Lines N E) F))) (s : LinedStack N E F) (sinks : List S) (x : TraceStackValue N E F S) →
        stacks.NewGives h g outputs (Ok s) → Every HasOwnKey outputs → CacheIsValid g s →
        NewGives s sinks (Ok x) → IsReady g x
    pub agreed : (outputs : List (Output (Filtered (Lines N E) F))) (s : LinedStack N E F) (sinks : List S) (x : TraceStackValue N E F S) →
        stacks.NewGives h g outputs (Ok s) → NewGives s sinks (Ok x) →
        EachAgrees n line_of g x.stack.registry x.stack.rows (map (out_of line_of) x.stack.rows)
