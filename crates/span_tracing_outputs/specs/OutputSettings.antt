-- A setting that changes: of a layer, of the output machine that it goes along with, and of a stack.
use Rattle.std.specs.Prelude.{◌≡◌, ℕ, zero, suc, List, [], ◌∷◌, length, Some, refl}
use Rattle.std.proofs.Common.{ap, sym, subst}
use Rattle.tracing_core_fields.specs.requests.Steady.{SameWord}
use Rattle.span_registry_layers_layers.specs.declared.filter.Filter.{Ghosts as FilterGhosts}
use Rattle.span_registry_layers.specs.CommonAnswers.{CommonInterest, common_hint}
use Rattle.span_registry_layers.specs.CacheValidity.{CacheIsValid, CacheIsValidFor}
use Rattle.span_registry_layers.specs.OutputSlots.{filters_of}
use Rattle.event_formatter.specs.declared.fmt_layer.layer.Config.{Config}
use Rattle.event_formatter_lines.specs.declared.fmt_span.FmtSpan.{FmtSpan}
use Rattle.span_tracing_outputs.specs.OutputFolds.{Numbered}
use Rattle.span_tracing_outputs.specs.TraceStacks.{TraceStackValue}
use Rattle.span_tracing_outputs.specs.StackFollows.{LinedStack}
use Rattle.span_tracing_outputs.specs.Turns.{Lined, Lines}
use Rattle.span_tracing_skeleton.specs.declared.setting.Setting.{Setting}
use Rattle.span_tracing_skeleton.specs.declared.setting.Setting.TheVariants.{Ansi, SpanEvents}
use Rattle.span_tracing_skeleton.specs.declared.setting.SpanMoments.{SpanMoments}

-- the value at a place changed, the others as they are
abbrev pub changed_at : {A : Type 0} → ℕ → (A → A) → List A → List A
changed_at place f [] = []
changed_at zero f (x ∷ xs) = f x ∷ xs
changed_at (suc place) f (x ∷ xs) = x ∷ changed_at place f xs

abbrev pub fmt_span_of : SpanMoments → FmtSpan
fmt_span_of m = record { new = m.new; enter = m.enter; exit = m.exit; close = m.close }

-- Lines have styles or none from now on, and so have texts of spans that are made from now on; or other moments of a span have lines.
abbrev pub config_set : {N : Type 0} → Setting → Config N → Config N
config_set (Ansi on) c = record c { settings = record c.settings { styles = on } }
config_set (SpanEvents moments) c = record c { span_events = fmt_span_of moments }

-- nothing else of an output changes: what is kept with its spans stays as it was made
abbrev pub out_set : {N : Type 0} → Setting → Numbered N → Numbered N
out_set setting o = record o { out = record o.out { config = config_set setting o.out.config } }

abbrev pub layer_set : {N E : Type 0} → Setting → Lines N E → Lines N E
layer_set setting layer = record layer { config = config_set setting layer.config }

abbrev pub row_set : {N E F : Type 0} → Setting → Lined N E F → Lined N E F
row_set setting row = record row { output = record row.output { layer = layer_set setting row.output.layer } }

-- with a setting of the output at a place
abbrev pub outs_set : {N : Type 0} → ℕ → Setting → List (Numbered N) → List (Numbered N)
outs_set place setting outs = changed_at place (out_set setting) outs

abbrev pub lined_set : {N E F : Type 0} → LinedStack N E F → ℕ → Setting → LinedStack N E F
lined_set s place setting = record s { rows = changed_at place (row_set setting) s.rows }

abbrev pub stack_set : {N E F S : Type 0} → TraceStackValue N E F S → ℕ → Setting → TraceStackValue N E F S
stack_set x place setting = record x { stack = lined_set x.stack place setting }

abbrev pub outputs_in : {N E F S : Type 0} → TraceStackValue N E F S → ℕ
outputs_in x = length x.stack.rows

-- the filters stay
pub set_filters : {N E F : Type 0} (place : ℕ) (setting : Setting) (rows : List (Lined N E F)) →
    filters_of (changed_at place (row_set setting) rows) ≡ filters_of rows
set_filters place setting [] = refl
set_filters zero setting (row ∷ rows) = refl
set_filters (suc place) setting (row ∷ rows) = ap (λ (fs : List _). row.output.filter ∷ fs) (set_filters place setting rows)

-- so a stack says what it said
pub set_word : {N E F S : Type 0} (g : FilterGhosts F) (x : TraceStackValue N E F S) (place : ℕ) (setting : Setting) →
    CacheIsValid g x.stack →
    CacheIsValid g (stack_set x place setting).stack
    × SameWord (λ m k. CommonInterest g m (filters_of x.stack.rows) k)
    (λ m k. CommonInterest g m (filters_of (stack_set x place setting).stack.rows) k)
    (common_hint g (Some 0) (filters_of x.stack.rows)) (common_hint g (Some 0) (filters_of (stack_set x place setting).stack.rows))
set_word {F = F} g x place setting valid =
    subst (λ (fs : List F). CacheIsValidFor g fs x.stack.interest_cache x.stack.hint × SameWord
    (λ m k. CommonInterest g m (filters_of x.stack.rows) k) (λ m k. CommonInterest g m fs k)
    (common_hint g (Some 0) (filters_of x.stack.rows)) (common_hint g (Some 0) fs))
    (sym (set_filters place setting x.stack.rows)) (valid, same)
  where
    same : SameWord (λ m k. CommonInterest g m (filters_of x.stack.rows) k) (λ m k. CommonInterest g m (filters_of x.stack.rows) k)
        (common_hint g (Some 0) (filters_of x.stack.rows)) (common_hint g (Some 0) (filters_of x.stack.rows))
    same = record { onward = λ m k said. said; back = λ m k said. said; same_hint = refl }

-- so does one whose outputs are the same
pub same_word : {N E F S : Type 0} (g : FilterGhosts F) (x y : TraceStackValue N E F S) → y.stack ≡ x.stack → CacheIsValid g x.stack →
    CacheIsValid g y.stack
    × SameWord (λ m k. CommonInterest g m (filters_of x.stack.rows) k) (λ m k. CommonInterest g m (filters_of y.stack.rows) k)
    (common_hint g (Some 0) (filters_of x.stack.rows)) (common_hint g (Some 0) (filters_of y.stack.rows))
same_word {N = N} {E = E} {F = F} g x y is valid =
    subst (λ (s : LinedStack N E F). CacheIsValid g s × SameWord
    (λ m k. CommonInterest g m (filters_of x.stack.rows) k) (λ m k. CommonInterest g m (filters_of s.rows) k)
    (common_hint g (Some 0) (filters_of x.stack.rows)) (common_hint g (Some 0) (filters_of s.rows)))
    (sym is) (valid, record { onward = λ m k said. said; back = λ m k said. said; same_hint = refl })
