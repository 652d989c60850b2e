-- Outputs whose lines are handed over: what the sinks take, and what is left.
use Rattle.std.proofs.Common.{◌≡◌, ℕ, List, [], ◌∷◌, map, Option, refl, ap, sym, ◌∙◌, subst}
use Rattle.tracing_core_fields.specs.requests.PlainRequests.{PlainEvent}
use Rattle.tracing_core_moments.specs.declared.at.At.{At}
use Rattle.span_registry_layers_store.specs.SlotIndependence.{bare}
use Rattle.span_registry_layers_store.specs.Registries.{RegistryValue}
use Rattle.span_registry_layers_layers.specs.declared.filter.Filter.{Ghosts as FilterGhosts}
use Rattle.span_registry_layers.specs.OutputSlots.{Afresh, AsksEventBy, EachBecomes, marks_of, with_layer}
use Rattle.event_formatter_text.specs.declared.format_fields.FormatFields.{Ghosts}
use Rattle.event_formatter_text.specs.declared.settings.Settings.{Settings}
use Rattle.event_formatter.specs.formats.Contexts.{PlainContext}
use Rattle.span_tracing_outputs.specs.SinkLines.{HandsOver, NoLines, TakesAll, TakesEach, TakesLists, cleared_row, lines_kept}
use Rattle.span_tracing_outputs.specs.OutputNotices.{Notice}
use Rattle.span_tracing_outputs.specs.OutputMachines.{PlainLine}
use Rattle.span_tracing_outputs.specs.OutputFolds.{EachAgrees, EachGoes, Fates, Numbered, RowAgrees, RowGoes, call_lists, event_lists}
use Rattle.span_tracing_outputs.specs.OutputFolds.{first_of, outs_told, rest_of}
use Rattle.span_tracing_outputs.specs.StackFollows.{EventGoes, Goes, LinedStack}
use Rattle.span_tracing_outputs.specs.TraceFollows.{EachAsked, EventTold, OutputsGo, StepGoes, at_rest, lines_offered, numbers_in}
use Rattle.span_tracing_outputs.specs.TraceStacks.{TraceStackValue}
use Rattle.span_tracing_outputs.specs.Turns.{Lined, keys_of}
use Rattle.span_tracing_outputs.proofs.MarkedRows.{marks_cleared}
use Rattle.span_tracing_outputs.proofs.OutputFolds.{folded}

module _ {N E F : Type 0} where
  pub none_kept : (rows : List (Lined N E F)) → NoLines (map cleared_row rows)
  none_kept [] = tt
  none_kept (row ∷ rows) = (refl, none_kept rows)

  pub keys_cleared : (rows : List (Lined N E F)) → keys_of (map cleared_row rows) ≡ keys_of rows
  keys_cleared [] = refl
  keys_cleared (row ∷ rows) = ap (λ (ks : List ℕ). row.output.layer.config.key.0 ∷ ks) (keys_cleared rows)

  -- who keeps no line stays
  pub cleared_same : (rows : List (Lined N E F)) → NoLines rows → map cleared_row rows ≡ rows
  cleared_same [] none = refl
  cleared_same (row ∷ rows) none =
      ap (λ (lines : List PlainLine). with_layer (record row.output.layer { output = record row.output.layer.output { maker = lines } })
      row ∷ map cleared_row rows) (sym none.0)
      ∙ ap (λ (ls : List (Lined N E F)). row ∷ ls) (cleared_same rows none.1)

module _ {N E F S : Type 0} (takes : S → At → PlainLine → S → Type 0) (at : At) where
  -- and nothing goes to its sink
  takes_none : (rows : List (Lined N E F)) (sinks sinks_after : List S) → NoLines rows → TakesEach takes at rows sinks sinks_after →
      sinks_after ≡ sinks
  takes_none [] [] [] none w = refl
  takes_none [] [] (t ∷ ts) none w = absurd w
  takes_none [] (k ∷ ks) [] none w = absurd w
  takes_none [] (k ∷ ks) (t ∷ ts) none w = absurd w
  takes_none (r ∷ rs) [] [] none w = absurd w
  takes_none (r ∷ rs) [] (t ∷ ts) none w = absurd w
  takes_none (r ∷ rs) (k ∷ ks) [] none w = absurd w
  takes_none (r ∷ rs) (k ∷ ks) (t ∷ ts) none w =
      let same : t ≡ k = subst (λ (lines : List PlainLine). TakesAll takes at lines k t) none.0 w.0 in
      ap (λ (s : S). s ∷ ts) same ∙ ap (λ (ss : List S). k ∷ ss) (takes_none rs ks ts none.1 w.1)

  hands_none : (s : LinedStack N E F) (sinks : List S) (t : LinedStack N E F) (sinks_after : List S) → NoLines s.rows →
      HandsOver takes at s sinks t sinks_after → (t ≡ s) × (sinks_after ≡ sinks)
  hands_none s sinks t sinks_after none over = (
    over.1 ∙ ap (λ (ls : List (Lined N E F)). record s { rows = ls }) (cleared_same s.rows none),
    takes_none s.rows sinks sinks_after none over.0,
  )

  -- a stack without lines that stays leaves all as it was
  pub hands_same : (x y : TraceStackValue N E F S) (mid : LinedStack N E F) → NoLines mid.rows →
      HandsOver takes at mid x.sinks y.stack y.sinks → (y.stack ≡ mid) × (y.sinks ≡ x.sinks)
  hands_same x y mid none over = hands_none mid x.sinks y.stack y.sinks none over

pub same_value : {N E F S : Type 0} (x y : TraceStackValue N E F S) → y.stack ≡ x.stack → y.sinks ≡ x.sinks → y ≡ x
same_value x y stack sinks = ap (λ (s : LinedStack _ _ _). record y { stack = s }) stack ∙
    ap (λ (ss : List _). record x { sinks = ss }) sinks

module _ {N E F : Type 0} (n : Ghosts N) (line_of : E → Settings → PlainContext → PlainEvent → Option (List ℕ)) (g : FilterGhosts F) where
  row_cleared : (x : RegistryValue) (row : Lined N E F) (o : Numbered N) → RowAgrees n line_of g x row o →
      RowAgrees n line_of g x (cleared_row row) (at_rest o)
  row_cleared x row o agrees =
      let same = agrees.1.0 in (
        agrees.0,
        (
          record { config = same.config; format = same.format; lanes = same.lanes; longest = same.longest; lines = refl },
          agrees.1.1,
        ),
      )

  agrees_cleared : (x : RegistryValue) (rows : List (Lined N E F)) (outs : List (Numbered N)) → EachAgrees n line_of g x rows outs →
      EachAgrees n line_of g x (map cleared_row rows) (map at_rest outs)
  agrees_cleared x [] [] agrees = tt
  agrees_cleared x [] (o ∷ outs) agrees = absurd agrees
  agrees_cleared x (row ∷ rows) [] agrees = absurd agrees
  agrees_cleared x (row ∷ rows) (o ∷ outs) agrees = (row_cleared x row o agrees.0, agrees_cleared x rows outs agrees.1)

  lines_agree : (x : RegistryValue) (rows : List (Lined N E F)) (outs : List (Numbered N)) → EachAgrees n line_of g x rows outs →
      lines_kept rows ≡ lines_offered outs
  lines_agree x [] [] agrees = refl
  lines_agree x [] (o ∷ outs) agrees = absurd agrees
  lines_agree x (row ∷ rows) [] agrees = absurd agrees
  lines_agree x (row ∷ rows) (o ∷ outs) agrees =
      ap (λ (lines : List PlainLine). lines ∷ lines_kept rows) agrees.0.1.0.lines ∙
      ap (λ (later : List (List PlainLine)). o.out.lines ∷ later) (lines_agree x rows outs agrees.1)

  pub numbers_agree : (x : RegistryValue) (rows : List (Lined N E F)) (outs : List (Numbered N)) → EachAgrees n line_of g x rows outs →
      map (λ o. o.number) outs ≡ numbers_in rows
  numbers_agree x [] [] agrees = refl
  numbers_agree x [] (o ∷ outs) agrees = absurd agrees
  numbers_agree x (row ∷ rows) [] agrees = absurd agrees
  numbers_agree x (row ∷ rows) (o ∷ outs) agrees =
      ap (λ (number : ℕ). number ∷ map (λ (p : Numbered N). p.number) outs) agrees.0.0 ∙
      ap (λ (later : List ℕ). row.id.index ∷ later) (numbers_agree x rows outs agrees.1)

  goes_cleared : (nss : List (List Notice)) (rows : List (Lined N E F)) (fates : Fates) (later : List (Lined N E F)) →
      EachGoes n line_of g nss rows fates later → EachGoes n line_of g nss rows fates (map cleared_row later)
  goes_cleared nss [] fates [] goes = tt
  goes_cleared nss [] fates (m ∷ ms) goes = absurd goes
  goes_cleared nss (l ∷ ls) fates [] goes = absurd goes
  goes_cleared nss (l ∷ ls) fates (m ∷ ms) goes = (goes.0, goes_cleared (rest_of nss) ls (rest_of fates) ms goes.1)

  goes_asked : (e : PlainEvent) (at : At) (x : RegistryValue) (nss : List (List Notice)) (rows asked : List (Lined N E F)) (fates : Fates)
      (later : List (Lined N E F)) → EachBecomes (AsksEventBy g (Afresh g) e at x) rows asked →
      EachGoes n line_of g nss asked fates later → EachGoes n line_of g nss rows fates later
  goes_asked e at x nss [] [] fates later answers goes = goes
  goes_asked e at x nss [] (a ∷ asked) fates later answers goes = absurd answers
  goes_asked e at x nss (l ∷ ls) [] fates later answers goes = absurd answers
  goes_asked e at x nss (l ∷ ls) (a ∷ asked) fates [] answers goes = absurd goes
  goes_asked e at x nss (l ∷ ls) (a ∷ asked) fates (m ∷ ms) answers goes = (
    subst (λ (row : Lined N E F). RowGoes n line_of g (first_of nss) row (first_of fates) m) answers.0.2 goes.0,
    goes_asked e at x (rest_of nss) ls asked (rest_of fates) ms answers.1 goes.1,
  )

  each_asked : (e : PlainEvent) (at : At) (x : RegistryValue) (rows asked : List (Lined N E F)) →
      EachBecomes (AsksEventBy g (Afresh g) e at x) rows asked →
      EachAsked g e at x rows (map (λ row. row.passed) asked) (map (λ row. row.told) asked)
  each_asked e at x [] [] answers = tt
  each_asked e at x [] (a ∷ asked) answers = absurd answers
  each_asked e at x (l ∷ ls) [] answers = absurd answers
  each_asked e at x (l ∷ ls) (a ∷ asked) answers = (answers.0.0, answers.0.1, each_asked e at x ls asked answers.1)

  module _ {S : Type 0} (takes : S → At → PlainLine → S → Type 0) (at : At) where
    -- what outputs made of what they were told, once their lines were handed over
    handed : (nss : List (List Notice)) (fates : Fates) (outs : List (Numbered N)) (x y : TraceStackValue N E F S)
        (mid : LinedStack N E F) → EachGoes n line_of g nss x.stack.rows fates mid.rows →
        EachAgrees n line_of g mid.registry mid.rows (outs_told n nss outs fates) → HandsOver takes at mid x.sinks y.stack y.sinks →
        OutputsGo n line_of g takes at nss fates outs x y
    handed nss fates outs x y mid goes agrees over = record {
      goes = subst (λ (s : LinedStack N E F). EachGoes n line_of g nss x.stack.rows fates s.rows) (sym over.1)
          (goes_cleared nss x.stack.rows fates mid.rows goes);
      agreed = subst (λ (s : LinedStack N E F). EachAgrees n line_of g s.registry s.rows (map at_rest (outs_told n nss outs fates)))
          (sym over.1) (agrees_cleared mid.registry mid.rows (outs_told n nss outs fates) agrees);
      sinks = subst (λ (lines : List (List PlainLine)). TakesLists takes at lines x.sinks y.sinks)
          (lines_agree mid.registry mid.rows (outs_told n nss outs fates) agrees) over.0;
    }

    -- a call that tells each output by its number
    pub step_goes : (ns : ℕ → List Notice) (left : RegistryValue) (x y : TraceStackValue N E F S) (mid : LinedStack N E F) →
        Goes n line_of g ns left x.stack mid →
        HandsOver takes at mid x.sinks y.stack y.sinks → StepGoes n line_of g takes at (call_lists ns) left x y
    step_goes ns left x y mid goes over =
        let all = folded n line_of g in
        let folds = all.folds (λ row. ns row.id.index) x.stack.registry x.stack.rows mid.registry mid.rows goes.0 in
        record {
          fates = folds.fates;
          skeleton = ap (λ (s : LinedStack N E F). bare s.registry) over.1 ∙ goes.1;
          outputs = λ outs agrees.
              let same = all.lists ns x.stack.registry x.stack.rows outs agrees in
              handed (call_lists ns outs) folds.fates outs x y mid
              (subst (λ (nss : List (List Notice)). EachGoes n line_of g nss x.stack.rows folds.fates mid.rows) same folds.goes)
              (subst (λ (nss : List (List Notice)). EachAgrees n line_of g mid.registry mid.rows (outs_told n nss outs folds.fates)) same
              (folds.agreed outs agrees)) over;
        }

    -- an event
    pub event_goes : (e : PlainEvent) (x y : TraceStackValue N E F S) (mid : LinedStack N E F) → EventGoes n line_of g e at x.stack mid →
        HandsOver takes at mid x.sinks y.stack y.sinks → EventTold n line_of g takes e at x y
    event_goes e x y mid goes over =
        let k = bare x.stack.registry in
        let event = (folded n line_of g).events e at x.stack mid goes in
        let told = map (λ (row : Lined N E F). row.told) event.asked in (
          map (λ (row : Lined N E F). row.passed) event.asked,
          told,
          each_asked e at x.stack.registry x.stack.rows event.asked event.answers,
          record {
            fates = event.folds.fates;
            skeleton = ap (λ (s : LinedStack N E F). bare s.registry) over.1 ∙ goes.3;
            outputs = λ outs agrees.
                let there = event.agreed outs agrees in
                let same = event.lists outs there in
                handed (event_lists k at e told outs) event.folds.fates outs x y mid
                (goes_asked e at x.stack.registry (event_lists k at e told outs) x.stack.rows event.asked event.folds.fates mid.rows
                event.answers
                (subst (λ (nss : List (List Notice)). EachGoes n line_of g nss event.asked event.folds.fates mid.rows) same
                event.folds.goes))
                (subst (λ (nss : List (List Notice)). EachAgrees n line_of g mid.registry mid.rows (outs_told n nss outs event.folds.fates))
                same (event.folds.agreed outs there)) over;
          },
          ap (λ (s : LinedStack N E F). marks_of s.rows) over.1 ∙ (marks_cleared mid.rows ∙ event.marks),
        )
