-- What a call of a stack with sinks makes of its outputs and sinks.
use Rattle.std.proofs.Common.{◌≡◌, ℕ, List, [], ◌∷◌, map, Bool, true, false, not, Option, Some, None, Result, Ok, Err, inl, inr, refl, ap}
use Rattle.std.proofs.Common.{sym, ◌∙◌, subst, true≢false}
use Rattle.tracing_core_fields.specs.requests.Calls.{Call, ReplyTo, DispatchRegistered, CallsiteRegistered, Asked, HintAsked, SpanMade}
use Rattle.tracing_core_fields.specs.requests.Calls.{Recorded, FollowsRecorded, EventAsked, EventDispatched, Entered, Exited, Cloned}
use Rattle.tracing_core_fields.specs.requests.Calls.{Dropped, CloseTried, CurrentAsked}
use Rattle.tracing_core_fields.specs.requests.PlainRequests.{PlainAttributes, PlainEvent, explicit_parent}
use Rattle.tracing_core_moments.specs.declared.at.At.{At}
use Rattle.tracing_core_fields.specs.declared.requests.refusal.RequestError.{RequestError}
use Rattle.tracing_core_fields.specs.declared.requests.refusal.RequestError.TheVariants.{UnknownParent}
use Rattle.span_registry_layers_store.specs.RegistryCalls.{GivesUnless, close_refusal, first, is_closed, open_refusal, span_refusal, when}
use Rattle.span_registry_layers_store.specs.SlotIndependence.{bare}
use Rattle.span_registry_layers_store.specs.Registries.{RegistryValue, knows, swept, under, with_entry, with_span, without_entry}
use Rattle.span_registry_layers_store.specs.Registries.{without_handle}
use Rattle.span_registry_layers_store.specs.Verdicts.{all_pass}
use Rattle.span_registry_layers_layers.specs.declared.filter.Filter.{Ghosts as FilterGhosts}
use Rattle.span_registry_layers_layers.specs.declared.layer.Layer.{Ghosts as LayerGhosts}
use Rattle.span_registry_layers.specs.Caches.{event_is_asked, passes_is_asked, question_is_asked, span_is_asked}
use Rattle.span_registry_layers.specs.Calls.{CloseUnless, SpanAfresh, SpanKnown}
use Rattle.span_registry_layers.specs.OutputSlots.{Afresh, marked, marks_of}
use Rattle.span_registry_layers.specs.Questions.{question_alike, question_passes}
use Rattle.span_registry_layers.specs.Stacks.{WhereKnown, cleared, is_refused}
use Rattle.event_formatter_text.specs.declared.format_fields.FormatFields.{Ghosts}
use Rattle.event_formatter_text.specs.declared.settings.Settings.{Settings}
use Rattle.event_formatter.specs.formats.Contexts.{PlainContext}
use Rattle.event_formatter.specs.fmt_layer.LayerNotices.{LayerTold}
use Rattle.span_registry_layers_layers.specs.Notices as notices
use Rattle.span_tracing_outputs.specs.SinkLines.{HandsOver, NoLines}
use Rattle.span_tracing_outputs.specs.OutputNotices.{Notice, close_told, enter_told, exit_told, span_told}
use Rattle.span_tracing_outputs.specs.OutputMachines as calls
use Rattle.span_tracing_outputs.specs.OutputMachines.{Made, PlainLine}
use Rattle.span_tracing_outputs.specs.BufferedLines.{TakesLine}
use Rattle.span_tracing_outputs.specs.OutputFolds.{EachAgrees, Numbered, call_lists}
use Rattle.span_tracing_outputs.specs.StackFollows.{CloseGoes, EventGoes, Goes, IfMade, IfTaken, LinedStack, StackFollows, made_in}
use Rattle.span_tracing_outputs.specs.StackFollows as stacks
use Rattle.span_tracing_outputs.specs.TraceFollows.{CloseIf, EventIf, IsReady, RefusedBy, Rests, NewSpanGoes, StepGoes, TakenUnless}
use Rattle.span_tracing_outputs.specs.TraceFollows.{TraceGoes, numbers_in, verdicts_from}
use Rattle.span_tracing_outputs.specs.TraceStacks.{TraceMoves, TraceStackValue}
use Rattle.span_tracing_outputs.specs.Turns.{Lined, Lines}
use Rattle.span_tracing_outputs.proofs.MarkedRows.{lines_marked, marks_answer, marks_cleared}
use Rattle.span_tracing_outputs.proofs.SeenSpans.{seen_made}
use Rattle.span_tracing_outputs.proofs.SpanAnswers.{asks_answer}
use Rattle.span_tracing_outputs.proofs.CallsWithoutNotices.{clones_agree, dispatch_same, follows_same}
use Rattle.span_tracing_outputs.proofs.HandedLines.{event_goes, hands_same, same_value, step_goes}

-- a parent that isn't open is the first reason to refuse a span
unknown_refused : (b : Bool) (o : Option RequestError) → b ≡ false → RefusedBy (first (when (not b) UnknownParent) o) UnknownParent
unknown_refused true o e = absurd (true≢false e)
unknown_refused false o e = refl

refused_by : {A : Type 0} (o : Option RequestError) (x y left : RegistryValue) (answer : A) (e : RequestError) →
    GivesUnless o x answer left (Err e) y → RefusedBy o e
refused_by None x y left answer e gives = gives.0
refused_by (Some refusal) x y left answer e gives = let same = gives.0 in cc

taken_by : {A : Type 0} (o : Option RequestError) (x y left : RegistryValue) (answer given : A) → GivesUnless o x answer left (Ok given) y →
    o ≡ None
taken_by None x y left answer given gives = refl
taken_by (Some refusal) x y left answer given gives = let same = gives.0 in absurd (cc)

marked_twice : {N E F : Type 0} (rows : List (Lined N E F)) → map (marked false) (map (marked false) rows) ≡ map (marked false) rows
marked_twice [] = refl
marked_twice (row ∷ rows) = ap (λ (ls : List (Lined _ _ _)). marked false row ∷ ls) (marked_twice rows)

module _ {N E F S : Type 0} (n : Ghosts N) (line_of : E → Settings → PlainContext → PlainEvent → Option (List ℕ)) (g : FilterGhosts F)
    (takes : S → At → PlainLine → S → Type 0) where
  agrees_marked : (x : RegistryValue) (rows : List (Lined N E F)) (outs : List (Numbered N)) → EachAgrees n line_of g x rows outs →
      EachAgrees n line_of g x (map (marked false) rows) outs
  agrees_marked x [] [] agrees = tt
  agrees_marked x [] (o ∷ outs) agrees = absurd agrees
  agrees_marked x (row ∷ rows) [] agrees = absurd agrees
  agrees_marked x (row ∷ rows) (o ∷ outs) agrees = (agrees.0, agrees_marked x rows outs agrees.1)

  agrees_unmarked : (x : RegistryValue) (rows : List (Lined N E F)) (outs : List (Numbered N)) →
      EachAgrees n line_of g x (map (marked false) rows) outs → EachAgrees n line_of g x rows outs
  agrees_unmarked x [] [] agrees = tt
  agrees_unmarked x [] (o ∷ outs) agrees = absurd agrees
  agrees_unmarked x (row ∷ rows) [] agrees = absurd agrees
  agrees_unmarked x (row ∷ rows) (o ∷ outs) agrees = (agrees.0, agrees_unmarked x rows outs agrees.1)

  -- a stack with other marks alone
  rests_alike : (x y : TraceStackValue N E F S) → cleared y.stack ≡ cleared x.stack → y.sinks ≡ x.sinks → Rests n line_of g takes x y
  rests_alike x y same sinks = record {
    sinks = sinks;
    rows = ap (λ (s : LinedStack N E F). s.rows) same;
    agreed = λ outs agrees. agrees_unmarked y.stack.registry y.stack.rows outs
        (subst (λ (s : LinedStack N E F). EachAgrees n line_of g s.registry s.rows outs) (sym same)
        (agrees_marked x.stack.registry x.stack.rows outs agrees));
  }

  -- a stack with another cache alone
  rests_by : (x y : TraceStackValue N E F S) → y.stack.registry ≡ x.stack.registry → y.stack.rows ≡ x.stack.rows → y.sinks ≡ x.sinks →
      Rests n line_of g takes x y
  rests_by x y registry rows sinks = record {
    sinks = sinks;
    rows = ap (λ (ls : List (Lined N E F)). map (marked false) ls) rows;
    agreed = λ outs agrees.
        subst (λ (ls : List (Lined N E F)). EachAgrees n line_of g y.stack.registry ls outs) (sym rows)
        (subst (λ (z : RegistryValue). EachAgrees n line_of g z x.stack.rows outs) (sym registry) agrees);
  }

  module _ (at : At) (x y : TraceStackValue N E F S) (mid : LinedStack N E F) (none : NoLines x.stack.rows)
      (over : HandsOver takes at mid x.sinks y.stack y.sinks) where
    stays : mid ≡ x.stack → y ≡ x
    stays same = let both = hands_same takes at x y mid (subst (λ (s : LinedStack N E F). NoLines s.rows) (sym same) none) over in
        same_value x y (both.0 ∙ same) both.1

    taken : {A : Type 0} (r : Result A RequestError) (ns : ℕ → List Notice) (left : RegistryValue) →
        IfTaken r x.stack (Goes n line_of g ns left x.stack mid) mid →
        IfTaken r x (StepGoes n line_of g takes at (call_lists ns) left x y) y
    taken (Ok done) ns left goes = step_goes n line_of g takes at ns left x y mid goes over
    taken (Err e) ns left same = stays same

    entered : {A : Type 0} (o : Option RequestError) (r : Result A RequestError) (ns : ℕ → List Notice)
        (left before after wide : RegistryValue) (answer : A) → GivesUnless o before answer wide r after →
        IfTaken r x.stack (Goes n line_of g ns left x.stack mid) mid →
        TakenUnless n line_of g takes o r x (StepGoes n line_of g takes at (call_lists ns) left x y) y
    entered o (Ok done) ns left before after wide answer gives goes =
        (taken_by o before after wide answer done gives, step_goes n line_of g takes at ns left x y mid goes over)
    entered o (Err e) ns left before after wide answer gives same = (refused_by o before after wide answer e gives, stays same)

    event_if : (b : Bool) (e : PlainEvent) (r : Result (Unit {0}) RequestError) →
        WhereKnown b x.stack (EventGoes n line_of g e at x.stack) r mid → EventIf n line_of g takes b e at x r y
    event_if true e r known = (known.0, event_goes n line_of g takes at e x y mid known.1 over)
    event_if false e r known = (known.0, stays known.1)

    module _ (h : LayerGhosts (Lines N E)) where
      close_if : (o : Option RequestError) (id : ℕ) (r : Bool) → CloseUnless g h o id at x.stack r mid →
          CloseGoes n line_of g o id at x.stack mid → CloseIf n line_of g takes o id at x r y
      close_if None id r gives goes =
          let k = bare x.stack.registry in (
            gives.0 ∙ ap (λ (s : LinedStack N E F). is_closed s.registry id) (sym over.1),
            step_goes n line_of g takes at (close_told k at id) (swept (without_handle k id)) x y mid goes over,
          )
      close_if (Some refusal) id r gives same = (gives.0, stays same)

      module _ (follow : StackFollows n line_of g h) (unnumbered : (layer : Lines N E) → h.numbers layer ≡ []) (ready : IsReady g x) where
        span_afresh : (a : PlainAttributes) (r : Result (Option ℕ) RequestError) →
            knows x.stack.registry (explicit_parent a.parent) ≡ true → SpanAfresh g h a at x.stack r mid →
            NewSpanGoes n line_of g takes h a at x r y
        span_afresh a r known (inl w) =
            let both = hands_same takes at x y mid
            (subst (λ (s : LinedStack N E F). NoLines s.rows) (sym w.2) (lines_marked x.stack.rows none)) over in
            let stack : y.stack ≡ cleared x.stack = both.0 ∙ w.2 in
            subst (λ (q : Result (Option ℕ) RequestError). NewSpanGoes n line_of g takes h a at x q y) (sym w.1) (
              known,
              w.0,
              stack,
              record {
                sinks = both.1;
                rows = ap (λ (s : LinedStack N E F). map (marked false) s.rows) stack ∙ marked_twice x.stack.rows;
                agreed = λ outs agrees. subst (λ (s : LinedStack N E F). EachAgrees n line_of g s.registry s.rows outs) (sym stack)
                    (agrees_marked x.stack.registry x.stack.rows outs agrees);
              },
            )
        span_afresh a r known (inr w) = made w.2
          where
            made : Rattle.span_registry_layers.specs.Calls.MakesSpan g h a at w.0 x.stack r mid → NewSpanGoes n line_of g takes h a at x r y
            made (Ok id, z, gives, rest) =
                let goes : stacks.SpanGoes n line_of g a at w.0 x.stack id mid =
                subst (λ (q : Result (Option ℕ) RequestError). IfMade q x.stack (λ id. stacks.SpanGoes n line_of g a at w.0 x.stack id mid)
                mid) rest.0 (follow.span x.stack mid a at w.0 r ready.keys w.2) in
                let answer = asks_answer g h unnumbered a.metadata at x.stack.registry all_pass false x.stack.rows w.0 true w.1 in
                let k = bare x.stack.registry in
                let passed = verdicts_from all_pass (numbers_in x.stack.rows) answer.0 in
                let wide = made_in n line_of g k a at passed in
                let goes_so = subst (λ (bs : List Bool). stacks.SpanGoes n line_of g a at bs x.stack id mid) answer.2 goes in
                let seen = seen_made n line_of g a at x.stack mid y.stack answer.0 (span_told wide at (Made a) k.next_id) id ready.numbers
                ready.sound answer.1 goes_so.1 goes_so.2 over.1 in
                subst (λ (q : Result (Option ℕ) RequestError). NewSpanGoes n line_of g takes h a at x q y) (sym rest.0) (
                  answer.0,
                  answer.1,
                  sym answer.3,
                  goes_so.0,
                  goes_so.1,
                  step_goes n line_of g takes at (span_told wide at (Made a) k.next_id) wide x y mid goes_so.2 over,
                  seen.0,
                  ap (λ (s : LinedStack N E F). marks_of s.rows) over.1 ∙ (marks_cleared mid.rows ∙ (goes_so.3 ∙ seen.1)),
                )
            made (Err e, z, gives, rest) =
                let answer = asks_answer g h unnumbered a.metadata at x.stack.registry all_pass false x.stack.rows w.0 true w.1 in
                subst (λ (q : Result (Option ℕ) RequestError). NewSpanGoes n line_of g takes h a at x q y) (sym rest.0) (
                  refused_by (span_refusal x.stack.registry a.parent) x.stack.registry z
                      (with_span x.stack.registry a.metadata (under x.stack.registry at.lane a.parent) w.0) x.stack.registry.next_id e
                      gives,
                  λ is. (answer.0, answer.1, sym answer.3),
                  stays rest.1,
                )

        span_by : (b : Bool) (a : PlainAttributes) (r : Result (Option ℕ) RequestError) →
            knows x.stack.registry (explicit_parent a.parent) ≡ b → SpanKnown g h b x.stack (SpanAfresh g h a at x.stack) r mid →
            NewSpanGoes n line_of g takes h a at x r y
        span_by true a r known gives = span_afresh a r known gives
        span_by false a r known gives =
            subst (λ (q : Result (Option ℕ) RequestError). NewSpanGoes n line_of g takes h a at x q y) (sym gives.0)
            (unknown_refused (knows x.stack.registry (explicit_parent a.parent)) _ known, λ is. absurd (cc), stays gives.1)

  module _ (h : LayerGhosts (Lines N E)) (follow : StackFollows n line_of g h)
      (says : (layer : Lines N E) (t : notices.Notice) (later : Lines N E) → h.told layer t later →
      LayerTold n line_of TakesLine layer t later)
      (unnumbered : (layer : Lines N E) → h.numbers layer ≡ []) where
    pub goes : (x : TraceStackValue N E F S) (c : Call) (r : ReplyTo c) (y : TraceStackValue N E F S) → IsReady g x →
        TraceMoves g h takes x c r y → TraceGoes n line_of g takes h x c r y
    goes x (DispatchRegistered dispatch) r y ready w = same_value x y (dispatch_same n line_of g h says dispatch x.stack y.stack w.0) w.1
    goes x (CallsiteRegistered m) r y ready w =
        (w.0.0, w.0.1, rests_by x y (ap (λ (s : LinedStack N E F). s.registry) w.0.1.1) (ap (λ (s : LinedStack N E F). s.rows) w.0.1.1) w.1)
    goes x (Asked m at) r y ready w =
        let refused = is_refused x.stack m in
        let asked = question_is_asked g m at x.stack r y.stack ready.valid w.0 in
        let same = question_alike g refused m at x.stack y.stack w.0.0 in (
          marks_answer g (Afresh g) m at x.stack.registry x.stack.rows y.stack.rows asked.0.0,
          asked.1,
          passes_is_asked g x.stack m at r ready.valid (question_passes g refused m at x.stack r y.stack w.0),
          same,
          rests_alike x y same w.1,
        )
    goes x HintAsked r y ready w = (
      w.0.0,
      w.0.1,
      rests_by x y (ap (λ (s : LinedStack N E F). s.registry) w.0.1)
          (ap (λ (s : LinedStack N E F). s.rows) w.0.1) w.1,
    )
    goes x (SpanMade a at) r y ready w =
        span_by at x y w.0 ready.rest.1 w.2 h follow unnumbered ready (knows x.stack.registry (explicit_parent a.parent)) a r refl
        (span_is_asked g h a at x.stack r w.0 ready.valid w.1)
    goes x (Recorded id values at) r y ready w =
        let k = bare x.stack.registry in (
          w.1.0,
          taken at x y w.0 ready.rest.1 w.2 r (span_told k at (calls.Recorded values) id) k
              (follow.values x.stack w.0 id values at r ready.keys w.1),
        )
    goes x (FollowsRecorded id follows at) r y ready w =
        (w.1.0, stays at x y w.0 ready.rest.1 w.2 (follows_same n line_of g h says id follows at x.stack w.0 r w.1.1))
    goes x (EventAsked e at) r y ready w = (w.0.0, same_value x y w.0.1 w.1)
    goes x (EventDispatched e at) r y ready w =
        event_if at x y w.0 ready.rest.1 w.2 (knows x.stack.registry (explicit_parent e.parent)) e r
        (follow.event x.stack w.0 e at r ready.keys (event_is_asked g h e at x.stack r w.0 ready.valid w.1))
    goes x (Entered id at) r y ready w =
        let k = bare x.stack.registry in
        entered at x y w.0 ready.rest.1 w.2 (open_refusal x.stack.registry id) r (enter_told k at id) (with_entry k at.lane id)
        x.stack.registry w.1.0 (with_entry x.stack.registry at.lane id) tt w.1.1 (follow.entry x.stack w.0 id at r ready.keys w.1)
    goes x (Exited id at) r y ready w =
        let k = bare x.stack.registry in
        step_goes n line_of g takes at (exit_told k at id) (swept (without_entry k at.lane id)) x y w.0
        (follow.exit x.stack w.0 id at ready.sound ready.keys w.1) w.2
    goes x (Cloned id at) r y ready w = (
      w.0.0,
      w.0.1,
      record {
        sinks = w.1;
        rows = ap (λ (s : LinedStack N E F). map (marked false) s.rows) w.0.1;
        agreed =
            λ outs agrees. clones_agree n line_of g id x.stack y.stack r w.0 outs agrees;
      },
    )
    goes x (Dropped id at) r y ready w = (
      w.1.0,
      close_if at x y w.0 ready.rest.1 w.2 h (close_refusal x.stack.registry id) id w.1.0 w.1.1
          (follow.close x.stack w.0 id at w.1.0 ready.sound ready.keys w.1.1),
    )
    goes x (CloseTried id at) r y ready w =
        close_if at x y w.0 ready.rest.1 w.2 h (close_refusal x.stack.registry id) id r w.1
        (follow.close x.stack w.0 id at r ready.sound ready.keys w.1)
    goes x (CurrentAsked at) r y ready w = (w.0.0, same_value x y w.0.1 w.1)
