-- Outputs that go through their notices fold them.
use Rattle.std.proofs.Common.{◌≡◌, ℕ, List, [], ◌∷◌, map, Option, Some, refl, ap, sym, ◌∙◌, subst}
use Rattle.tracing_core_fields.specs.requests.PlainRequests.{PlainEvent}
use Rattle.tracing_core_moments.specs.declared.at.At.{At}
use Rattle.span_registry_layers_store.specs.SlotIndependence.{bare}
use Rattle.span_registry_layers_store.specs.Registries.{RegistryValue}
use Rattle.span_registry_layers_store.specs.declared.filter_map.FilterId.{FilterId}
use Rattle.span_registry_layers_layers.specs.declared.filter.Filter.{Ghosts as FilterGhosts}
use Rattle.span_registry_layers.specs.OutputSlots.{Afresh, AsksEventBy, EachBecomes}
use Rattle.event_formatter_text.specs.declared.format_fields.FormatFields.{Ghosts}
use Rattle.event_formatter_text.specs.declared.settings.Settings.{Settings}
use Rattle.event_formatter.specs.formats.Contexts.{PlainContext}
use Rattle.span_tracing_outputs.specs.LayerAgreement.{Agrees}
use Rattle.span_tracing_outputs.specs.OutputNotices.{Notice, event_told, heards}
use Rattle.span_tracing_outputs.specs.OutputMachines.{Fated, Heard, fates_of, heards_of, out_run, starved_by, with_fates}
use Rattle.span_tracing_outputs.specs.OutputFolds.{EachAgrees, FollowingFolds, Folds, Numbered, RowAgrees, RowGoes, call_lists, event_lists}
use Rattle.span_tracing_outputs.specs.OutputFolds.{out_told, outs_told}
use Rattle.span_tracing_outputs.specs.Turns.{EachFollows, Lined, RowFollows, own}

with_fates_of : (ts : List Fated) → with_fates (heards_of ts) (fates_of ts) ≡ ts
with_fates_of [] = refl
with_fates_of (t ∷ ts) = ap (λ (us : List Fated). t ∷ us) (with_fates_of ts)

refated : (ts : List Fated) (ns : List Notice) → heards_of ts ≡ heards ns → with_fates (heards ns) (fates_of ts) ≡ ts
refated ts ns told = ap (λ (hs : List Heard). with_fates hs (fates_of ts)) (sym told) ∙ with_fates_of ts

module _ {N E F : Type 0} (n : Ghosts N) (line_of : E → Settings → PlainContext → PlainEvent → Option (List ℕ)) (g : FilterGhosts F) where
  row_goes : (x y : RegistryValue) (row later : Lined N E F) (ns : List Notice) → (a : RowFollows n line_of g x row ns y later) →
      RowGoes n line_of g ns row (fates_of a.fated) later
  row_goes x y row later ns a = (
    a.filter,
    a.starved ∙ ap (λ (ts : List Fated). starved_by ts row.output.layer.output.starved)
        (sym (refated a.fated ns a.told)),
  )

  row_agrees : (x y : RegistryValue) (row later : Lined N E F) (ns : List Notice) (a : RowFollows n line_of g x row ns y later)
      (o : Numbered N) → RowAgrees n line_of g x row o →
      RowAgrees n line_of g y later (out_told n o ns (fates_of a.fated))
  row_agrees x y row later ns a o agrees =
      subst (λ (ts : List Fated). RowAgrees n line_of g y later (record o { out = out_run n o.out ts })) (sym (refated a.fated ns a.told)) (
        agrees.0 ∙ sym (ap (λ (id : FilterId). id.index) a.number),
        subst (λ (id : FilterId). Agrees n line_of own y (Some id.index) later.output.layer (out_run n o.out a.fated)) (sym a.number)
            (a.agreed o.out agrees.1),
      )

  folds_from : (ns : Lined N E F → List Notice) (x : RegistryValue) (rows : List (Lined N E F)) (y : RegistryValue)
      (later : List (Lined N E F)) →
      EachFollows n line_of g ns x rows y later → Folds n line_of g (map ns rows) x rows y later
  folds_from ns x [] y [] follows = record { fates = []; goes = tt; agreed = λ outs agrees. none outs agrees }
    where
      none : (outs : List (Numbered N)) → EachAgrees n line_of g x [] outs → EachAgrees n line_of g y [] (outs_told n [] outs [])
      none [] agrees = tt
      none (o ∷ outs) agrees = absurd agrees
  folds_from ns x [] y (m ∷ ms) follows = absurd follows
  folds_from ns x (l ∷ ls) y [] follows = absurd follows
  folds_from ns x (l ∷ ls) y (m ∷ ms) follows =
      let rest = folds_from ns x ls y ms follows.1 in record {
        fates = fates_of follows.0.fated ∷ rest.fates;
        goes = (row_goes x y l m (ns l) follows.0, rest.goes);
        agreed = λ outs agrees. more rest outs agrees;
      }
    where
      more : (rest : Folds n line_of g (map ns ls) x ls y ms) (outs : List (Numbered N)) → EachAgrees n line_of g x (l ∷ ls) outs →
          EachAgrees n line_of g y (m ∷ ms) (outs_told n (ns l ∷ map ns ls) outs (fates_of follows.0.fated ∷ rest.fates))
      more rest [] agrees = absurd agrees
      more rest (o ∷ outs) agrees = (row_agrees x y l m (ns l) follows.0 o agrees.0, rest.agreed outs agrees.1)

  lists_by_number : (ns : ℕ → List Notice) (x : RegistryValue) (rows : List (Lined N E F)) (outs : List (Numbered N)) →
      EachAgrees n line_of g x rows outs →
      map (λ row. ns row.id.index) rows ≡ call_lists ns outs
  lists_by_number ns x [] [] agrees = refl
  lists_by_number ns x [] (o ∷ outs) agrees = absurd agrees
  lists_by_number ns x (l ∷ ls) [] agrees = absurd agrees
  lists_by_number ns x (l ∷ ls) (o ∷ outs) agrees =
      ap (λ (number : ℕ). ns number ∷ map (λ (row : Lined N E F). ns row.id.index) ls) (sym agrees.0.0)
      ∙ ap (λ (nss : List (List Notice)). ns o.number ∷ nss) (lists_by_number ns x ls outs agrees.1)

  lists_by_mask : (k : RegistryValue) (at : At) (e : PlainEvent) (x : RegistryValue) (rows : List (Lined N E F))
      (outs : List (Numbered N)) → EachAgrees n line_of g x rows outs →
      map (λ row. event_told k at e row.told row.id.index) rows ≡ event_lists k at e (map (λ row. row.told) rows) outs
  lists_by_mask k at e x [] [] agrees = refl
  lists_by_mask k at e x [] (o ∷ outs) agrees = absurd agrees
  lists_by_mask k at e x (l ∷ ls) [] agrees = absurd agrees
  lists_by_mask k at e x (l ∷ ls) (o ∷ outs) agrees =
      ap (λ (number : ℕ). event_told k at e l.told number ∷ map (λ (row : Lined N E F). event_told k at e row.told row.id.index) ls)
      (sym agrees.0.0)
      ∙ ap (λ (nss : List (List Notice)). event_told k at e l.told o.number ∷ nss) (lists_by_mask k at e x ls outs agrees.1)

  -- who is asked keeps what it kept
  asked_agree : (e : PlainEvent) (at : At) (x y : RegistryValue) (rows asked : List (Lined N E F)) →
      EachBecomes (AsksEventBy g (Afresh g) e at y) rows asked →
      (outs : List (Numbered N)) → EachAgrees n line_of g x rows outs → EachAgrees n line_of g x asked outs
  asked_agree e at x y [] [] answers outs agrees = agrees
  asked_agree e at x y [] (m ∷ ms) answers outs agrees = absurd answers
  asked_agree e at x y (l ∷ ls) [] answers outs agrees = absurd answers
  asked_agree e at x y (l ∷ ls) (m ∷ ms) answers [] agrees = absurd agrees
  asked_agree e at x y (l ∷ ls) (m ∷ ms) answers (o ∷ outs) agrees = (
    subst (λ (row : Lined N E F). RowAgrees n line_of g x row o) (sym answers.0.2) agrees.0,
    asked_agree e at x y ls ms answers.1 outs
        agrees.1,
  )

  pub folded : FollowingFolds n line_of g
  folded =
      record {
        folds = folds_from;
        lists = lists_by_number;
        events = λ e at s t goes. record {
          asked = goes.0;
          answers = goes.1;
          folds = folds_from (λ (row : Lined N E F). event_told (bare s.registry) at e row.told row.id.index) s.registry goes.0 t.registry
              t.rows goes.2;
          agreed = asked_agree e at s.registry s.registry s.rows goes.0 goes.1;
          lists = lists_by_mask (bare s.registry) at e s.registry goes.0;
          marks = goes.4;
        };
      }
