-- A setting goes to an output and to the machine that it agrees with alike.
use Rattle.std.proofs.Common.{◌≡◌, ℕ, zero, suc, List, [], ◌∷◌, Option, Some, None, refl, sym, ap, subst, ◌∙◌}
use Rattle.std.specs.Prelude.{length, slice_get, slice_set}
use Rattle.tracing_core_fields.specs.requests.PlainRequests.{PlainEvent}
use Rattle.span_registry_layers_store.specs.Registries.{RegistryValue}
use Rattle.span_registry_layers_layers.specs.declared.filter.Filter.{Ghosts as FilterGhosts}
use Rattle.std.specs.Option.{option_map}
use Rattle.span_registry_layers.specs.CacheValidity.{CacheIsValidFor}
use Rattle.span_registry_layers.specs.Loans.{layer_of, layer_put, put_layer}
use Rattle.event_formatter_text.specs.declared.format_fields.FormatFields.{Ghosts}
use Rattle.event_formatter_text.specs.declared.settings.Settings.{Settings}
use Rattle.event_formatter.specs.formats.Contexts.{PlainContext}
use Rattle.span_tracing_outputs.specs.LayerAgreement.{Matches}
use Rattle.span_tracing_outputs.specs.OutputFolds.{EachAgrees, Numbered, RowAgrees}
use Rattle.span_tracing_outputs.specs.OutputSettings.{changed_at, config_set, layer_set, lined_set, out_set, outs_set, row_set, set_filters}
use Rattle.span_tracing_outputs.specs.OutputSettings.{stack_set}
use Rattle.span_tracing_outputs.specs.SinkLines.{NoLines}
use Rattle.span_tracing_outputs.specs.TraceFollows.{AreFirst, IsReady, numbers_in}
use Rattle.span_tracing_outputs.specs.TraceStacks.{IsAtRest, TraceStackValue}
use Rattle.span_tracing_outputs.specs.StackFollows.{LinedStack}
use Rattle.span_tracing_outputs.specs.Turns.{AreDistinct, Lined, Lines, keys_of, own}
use Rattle.span_tracing_skeleton.specs.declared.setting.Setting.{Setting}
use Rattle.span_tracing_skeleton.specs.declared.setting.Setting.TheVariants.{Ansi, SpanEvents}

-- where there is no value at the place nothing changes, and else that value does
pub none_set : {A : Type 0} (place : ℕ) (f : A → A) (xs : List A) → slice_get xs place ≡ None → changed_at place f xs ≡ xs
none_set place f [] gone = refl
none_set zero f (x ∷ xs) gone = absurd (cc)
none_set (suc place) f (x ∷ xs) gone = ap (λ (rest : List _). x ∷ rest) (none_set place f xs gone)

pub some_set : {A : Type 0} (place : ℕ) (f : A → A) (xs : List A) (x : A) → slice_get xs place ≡ Some x →
    slice_set xs place (f x) ≡ changed_at place f xs
some_set place f [] x there = absurd (cc)
some_set zero f (y ∷ xs) x there = let same : x ≡ y = cc in ap (λ z. f z ∷ xs) same
some_set (suc place) f (y ∷ xs) x there = ap (λ (rest : List _). y ∷ rest) (some_set place f xs x there)

pub count_set : {A : Type 0} (place : ℕ) (f : A → A) (xs : List A) → length (changed_at place f xs) ≡ length xs
count_set place f [] = refl
count_set zero f (x ∷ xs) = refl
count_set (suc place) f (x ∷ xs) = ap suc (count_set place f xs)

-- the layer at a place that a stack lends
pub lined_none : {N E F : Type 0} (s : LinedStack N E F) (place : ℕ) (setting : Setting) (o : Option (Lined N E F)) →
    slice_get s.rows place ≡ o → None ≡ option_map layer_of o → s ≡ lined_set s place setting
lined_none s place setting None there none = sym (ap (λ (rows : List _). record s { rows = rows })
    (none_set place (row_set setting) s.rows there))
lined_none s place setting (Some row) there none = absurd (cc)

pub lined_some : {N E F : Type 0} (s : LinedStack N E F) (place : ℕ) (setting : Setting) (layer : Lines N E) (o : Option (Lined N E F)) →
    slice_get s.rows place ≡ o → Some layer ≡ option_map layer_of o →
    put_layer place (layer_set setting layer) s ≡ lined_set s place setting
lined_some s place setting layer None there some = absurd (cc)
lined_some s place setting layer (Some row) there some =
    let own : layer ≡ row.output.layer = cc in
    ap (λ (l : Lines _ _). put_layer place (layer_set setting l) s) own
    ∙ ap (λ (o : Option (Lined _ _ _)). record s { rows = layer_put o place (layer_set setting row.output.layer) s.rows }) there
    ∙ ap (λ (rows : List _). record s { rows = rows }) (some_set place (row_set setting) s.rows row there)

module _ {N E F : Type 0} (n : Ghosts N) (line_of : E → Settings → PlainContext → PlainEvent → Option (List ℕ)) (g : FilterGhosts F) where
  matches_set : (setting : Setting) (layer : Lines N E) (o : Numbered N) → Matches n line_of own layer o.out →
      Matches n line_of own (layer_set setting layer) (out_set setting o).out
  matches_set setting layer o matches = record {
    config = ap (config_set setting) matches.config;
    format = matches.format;
    lanes = matches.lanes;
    longest = matches.longest;
    lines = matches.lines;
  }

  row_agrees : (x : RegistryValue) (setting : Setting) (row : Lined N E F) (o : Numbered N) → RowAgrees n line_of g x row o →
      RowAgrees n line_of g x (row_set setting row) (out_set setting o)
  row_agrees x (Ansi on) row o a = (a.0, (matches_set (Ansi on) row.output.layer o a.1.0, a.1.1))
  row_agrees x (SpanEvents moments) row o a = (a.0, (matches_set (SpanEvents moments) row.output.layer o a.1.0, a.1.1))

  pub each_agrees : (x : RegistryValue) (place : ℕ) (setting : Setting) (rows : List (Lined N E F)) (outs : List (Numbered N)) →
      EachAgrees n line_of g x rows outs →
      EachAgrees n line_of g x (changed_at place (row_set setting) rows) (outs_set place setting outs)
  each_agrees x place setting [] [] a = tt
  each_agrees x place setting [] (o ∷ outs) a = absurd a
  each_agrees x place setting (row ∷ rows) [] a = absurd a
  each_agrees x zero setting (row ∷ rows) (o ∷ outs) a = (row_agrees x setting row o a.0, a.1)
  each_agrees x (suc place) setting (row ∷ rows) (o ∷ outs) a = (a.0, each_agrees x place setting rows outs a.1)

-- the keys and the numbers stay, and no output keeps a line
keys_stay : {N E F : Type 0} (place : ℕ) (setting : Setting) (rows : List (Lined N E F)) →
    keys_of (changed_at place (row_set setting) rows) ≡ keys_of rows
keys_stay place setting [] = refl
keys_stay zero (Ansi on) (row ∷ rows) = refl
keys_stay zero (SpanEvents moments) (row ∷ rows) = refl
keys_stay (suc place) setting (row ∷ rows) = ap (λ (ks : List ℕ). row.output.layer.config.key.0 ∷ ks) (keys_stay place setting rows)

numbers_stay : {N E F : Type 0} (place : ℕ) (setting : Setting) (rows : List (Lined N E F)) →
    numbers_in (changed_at place (row_set setting) rows) ≡ numbers_in rows
numbers_stay place setting [] = refl
numbers_stay zero (Ansi on) (row ∷ rows) = refl
numbers_stay zero (SpanEvents moments) (row ∷ rows) = refl
numbers_stay (suc place) setting (row ∷ rows) = ap (λ (ns : List ℕ). row.id.index ∷ ns) (numbers_stay place setting rows)

no_lines_stay : {N E F : Type 0} (place : ℕ) (setting : Setting) (rows : List (Lined N E F)) → NoLines rows →
    NoLines (changed_at place (row_set setting) rows)
no_lines_stay place setting [] none = none
no_lines_stay zero setting (row ∷ rows) none = none
no_lines_stay (suc place) setting (row ∷ rows) none = (none.0, no_lines_stay place setting rows none.1)

pub at_rest_stays : {N E F S : Type 0} (s : LinedStack N E F) (sinks : List S) (place : ℕ) (setting : Setting) → IsAtRest s sinks →
    IsAtRest (lined_set s place setting) sinks
at_rest_stays s sinks place setting rest = (
  rest.0 ∙ sym (count_set place (row_set setting) s.rows),
  no_lines_stay place setting s.rows rest.1,
)

-- so a stack that is ready stays so
pub set_ready : {N E F S : Type 0} (g : FilterGhosts F) (x : TraceStackValue N E F S) (place : ℕ) (setting : Setting) → IsReady g x →
    IsReady g (stack_set x place setting)
set_ready {F = F} g x place setting ready = record {
  valid = subst (λ (fs : List F). CacheIsValidFor g fs x.stack.interest_cache x.stack.hint)
      (sym (set_filters place setting x.stack.rows)) ready.valid;
  sound = ready.sound;
  keys = subst AreDistinct (sym (keys_stay place setting x.stack.rows)) ready.keys;
  numbers = subst AreFirst (sym (numbers_stay place setting x.stack.rows)) ready.numbers;
  rest = at_rest_stays x.stack x.sinks place setting ready.rest;
}
