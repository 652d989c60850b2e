-- A setting of an output of a stack, and of its machine.
use Rattle.std.proofs.Common.{◌==◌, ℕ, Bool, true, false, if◌then◌else◌, List, Option, Some, None, sym, ap, ◌∙◌}
use Rattle.std.specs.Option.{option_map}
use Rattle.tracing_core_fields.specs.requests.PlainRequests.{PlainEvent}
use Rattle.span_registry_layers_layers.specs.declared.filter.Filter.{Ghosts as FilterGhosts}
use Rattle.event_formatter_text.specs.declared.format_fields.FormatFields.{Ghosts}
use Rattle.event_formatter_text.specs.declared.settings.Settings.{Settings}
use Rattle.event_formatter.specs.formats.Contexts.{PlainContext}
use Rattle.span_tracing_outputs.specs.OutputFolds.{Numbered}
use Rattle.span_tracing_outputs.specs.OutputSettings.{out_set, outs_set, stack_set}
use Rattle.span_tracing_outputs.specs.TraceStacks.{TraceStackValue}
use Rattle.span_tracing_outputs.proofs.OutputSettings.{count_set, each_agrees}
use Rattle.span_tracing_skeleton.specs.declared.setting.Setting.{Setting}
use Rattle.span_tracing_laws.specs.runs.KeptStacks.{OutsAgree}
use Rattle.span_tracing_laws.specs.runs.StepSettings.{OutputSetting, outs_with, stack_with}

module _ {N E F S : Type 0} (n : Ghosts N) (line_of : E → Settings → PlainContext → PlainEvent → Option (List ℕ)) (g : FilterGhosts F) where
  set_by : (b : Bool) (place : ℕ) (setting : Setting) (o : Option (TraceStackValue N E F S)) (outs : List (Numbered N)) →
      OutsAgree n line_of g o outs →
      OutsAgree n line_of g (if b then option_map (λ x. stack_set x place setting) o else o)
      (if b then outs_set place setting outs else outs)
  set_by false place setting o outs a = a
  set_by true place setting None outs a = ap (outs_set place setting) a
  set_by true place setting (Some x) outs a = (
    each_agrees n line_of g x.stack.registry place setting x.stack.rows outs a.0,
    a.1 ∙ sym (count_set place (out_set setting) outs),
  )

  pub set_agrees : (stack : ℕ) (c : Option OutputSetting) (o : Option (TraceStackValue N E F S)) (outs : List (Numbered N)) →
      OutsAgree n line_of g o outs → OutsAgree n line_of g (stack_with stack c o) (outs_with stack c outs)
  set_agrees stack None o outs a = a
  set_agrees stack (Some c) o outs a = set_by (c.at.stack == stack) c.at.place c.setting o outs a
