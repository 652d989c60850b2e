-- Outputs that are told in turn: each goes through its own notices, whatever the others write.
use Rattle.std.proofs.Common.{◌≡◌, ℕ, ◌==◌, ◌||◌, List, [], ◌∷◌, ◌++◌, filter, Bool, true, false, if◌then◌else◌, Option, Some, None, refl}
use Rattle.std.proofs.Common.{ap, sym, ◌∙◌, subst, arith}
use Rattle.std.specs.Option.{option_map}
use Rattle.std.proofs.lemmas.List.{map-append}
use Rattle.std.proofs.lemmas.Bool.Decides.{nat_tests}
use Rattle.tracing_core_fields.specs.requests.PlainRequests.{PlainEvent}
use Rattle.tracing_core_moments.specs.declared.at.At.{At}
use Rattle.span_registry_layers_store.specs.SlotIndependence.{SameButKeys, bare, own_slots, under_key}
use Rattle.span_registry_layers_store.specs.Registries.{PlainSpan, RegistryValue}
use Rattle.span_registry_layers_store.specs.Slots.{PlainPlace, is_at, slot_at}
use Rattle.span_registry_layers_store.specs.Spans.{is_member}
use Rattle.span_registry_layers_store.specs.Views.{seen}
use Rattle.span_registry_layers_store.specs.declared.filter_map.FilterId.{FilterId}
use Rattle.span_registry_layers_store.specs.declared.slot.Tag.{Tag}
use Rattle.span_registry_layers_store.specs.declared.slot.Tag.TheVariants as tag
use Rattle.span_registry_layers_layers.specs.Several.{EachInTurn}
use Rattle.span_registry_layers_layers.specs.declared.filter.Filter.{Ghosts as FilterGhosts}
use Rattle.span_registry_layers.specs.SpanNotices.{with_output}
use Rattle.span_registry_layers.specs.OutputSlots.{view_of}
use Rattle.event_formatter_text.specs.declared.format_fields.FormatFields.{Ghosts}
use Rattle.event_formatter_text.specs.declared.settings.Settings.{Settings}
use Rattle.event_formatter_lines.specs.slots.FieldsAndTimings.{kept_at}
use Rattle.event_formatter.specs.formats.Contexts.{PlainContext}
use Rattle.event_formatter.specs.declared.fmt_layer.layer.Config.{Config}
use Rattle.span_tracing_outputs.specs.LayerAgreement.{Agrees, AgreesBut, FollowsBut, KeptBut, none_excepted}
use Rattle.span_tracing_outputs.specs.OutputNotices.{Notice, heards}
use Rattle.span_tracing_outputs.specs.OutputMachines.{Fated, Heard, KeptSpan, PlainOut, heards_of, kept_found, out_after, out_run}
use Rattle.span_tracing_outputs.specs.OutputMachines.{starved_by}
use Rattle.span_tracing_outputs.specs.Turns.{AreDistinct, EachFollows, EachFollowsBut, FilterHears, Lined, Lines, RowFollows, RowFollowsBut}
use Rattle.span_tracing_outputs.specs.Turns.{filter_after, hook_of, keys_of, own}
use Rattle.span_tracing_outputs.proofs.Slotless.{seen_slotted}

starved_then : (ts us : List Fated) (count : ℕ) → starved_by us (starved_by ts count) ≡ starved_by (ts ++ us) count
starved_then [] us count = refl
starved_then (t ∷ ts) us count = starved_then ts us _

away : (a b : ℕ) → (a == b) ≡ false → (b == a) ≡ false
away a b not = grind (arith, nat_tests, not)

neither : (a b : Bool) → (a || b) ≡ false → (a ≡ false) × (b ≡ false)
neither true b e = absurd (cc)
neither false b e = (refl, e)

-- under a key stands what is read there
slot_under : (ps : List PlainPlace) (key : ℕ) (t : Tag) → slot_at (filter (λ (p : PlainPlace). p.key == key) ps) key t ≡ slot_at ps key t
slot_under [] key t = refl
slot_under (p ∷ ps) key t = under_by (p.key == key) refl (slot_under ps key t)
  where
    under_by : (b : Bool) → (p.key == key) ≡ b → slot_at (filter (λ (q : PlainPlace). q.key == key) ps) key t ≡ slot_at ps key t →
        slot_at (if b then p ∷ filter (λ (q : PlainPlace). q.key == key) ps else filter (λ (q : PlainPlace). q.key == key) ps) key
        t ≡ slot_at (p ∷ ps) key t
    under_by true e later = ap (λ o. if is_at key t p then Some p.slot else o) later
    under_by false e later = rw e later

kept_under : (ps : List PlainPlace) (key : ℕ) → kept_at key (filter (λ (p : PlainPlace). p.key == key) ps) ≡ kept_at key ps
kept_under ps key =
    let text = slot_under ps key tag.Text in
    let words = slot_under ps key tag.Words in
    let number = slot_under ps key tag.Number in
    let timings = slot_under ps key tag.Timings in
    cc

some_own : (key : ℕ) (o : Option PlainSpan) (s : PlainSpan) → o ≡ Some s → option_map (own_slots key) o ≡ Some (own_slots key s)
some_own key o s e = rw e refl

unown : (key : ℕ) (o : Option PlainSpan) (s : PlainSpan) → option_map (own_slots key) o ≡ Some s → (t : PlainSpan) × (o ≡ Some t) ×
    (s ≡ own_slots key t)
unown key None s e = absurd (cc)
unown key (Some t) s e = (t, refl, cc)

-- two registries that are the same under the output's key keep the same
kept_stays : (x y : RegistryValue) (mask : Option ℕ) (key : ℕ) (kept : List KeptSpan) (but : ℕ → Bool) → under_key key y ≡ under_key key x →
    KeptBut but x mask key kept → KeptBut but y mask key kept
kept_stays x y mask key kept but same are id s not is =
    let there : option_map (own_slots key) (seen x mask id) ≡ Some (own_slots key s) =
    sym (seen_slotted (λ ps. filter (λ (p : PlainPlace). p.key == key) ps) x mask id)
    ∙ ap (λ (z : RegistryValue). seen z mask id) (sym same)
    ∙ seen_slotted (λ ps. filter (λ (p : PlainPlace). p.key == key) ps) y mask id
    ∙ some_own key (seen y mask id) s is in
    let it = unown key (seen x mask id) (own_slots key s) there in
    sym (kept_under s.slots key)
    ∙ ap (λ (z : PlainSpan). kept_at key z.slots) it.2
    ∙ kept_under it.0.slots key
    ∙ are id it.0 not it.1
    ∙ ap (λ (z : PlainSpan). kept_found kept z.kin.id) (sym it.2)

run_then : {N : Type 0} (n : Ghosts N) (o : PlainOut N) (ts us : List Fated) → out_run n o (ts ++ us) ≡ out_run n (out_run n o ts) us
run_then n o [] us = refl
run_then n o (t ∷ ts) us = run_then n (out_after n o t.heard t.fate) ts us

module _ {N E F : Type 0} (n : Ghosts N) (line_of : E → Settings → PlainContext → PlainEvent → Option (List ℕ)) (g : FilterGhosts F) where
  -- agreement under an output's own key
  agrees_moved : (but : ℕ → Bool) (x y : RegistryValue) (mask : Option ℕ) (layer : Lines N E) (o : PlainOut N) →
      under_key layer.config.key.0 y ≡ under_key layer.config.key.0 x →
      AgreesBut n line_of own but x mask layer o → AgreesBut n line_of own but y mask layer o
  agrees_moved but x y mask layer o same agrees = (agrees.0, kept_stays x y mask layer.config.key.0 o.kept but same agrees.1)

  -- an output that is told nothing
  pub row_stays : (x y : RegistryValue) (row later : Lined N E F) → later ≡ row → y ≡ x → RowFollows n line_of g x row [] y later
  row_stays x y row later is same =
      subst (λ (m : Lined N E F). RowFollows n line_of g x row [] y m) (sym is)
      (subst (λ (z : RegistryValue). RowFollows n line_of g x row [] z row) (sym same)
      (record { fated = []; told = refl; number = refl; config = refl; starved = refl; filter = refl; agreed = λ o agrees. agrees }))

  hears_then : (number : ℕ) (f h k : F) (ns ms : List Notice) → FilterHears n line_of g number f ns h →
      FilterHears n line_of g number h ms k → FilterHears n line_of g number f (ns ++ ms) k
  hears_then number f h k [] ms a b = subst (λ (z : F). FilterHears n line_of g number z ms k) a b
  hears_then number f h k (t ∷ ts) ms a b =
      (a.0, a.1, a.2, a.3, hears_then number (filter_after n line_of g f (hook_of t.heard.said a.0)) h k ts ms a.4 b)

  -- some notices, and then some more
  pub row_then : (x z y : RegistryValue) (row mid later : Lined N E F) (ns ms : List Notice) → RowFollows n line_of g x row ns z mid →
      RowFollows n line_of g z mid ms y later → RowFollows n line_of g x row (ns ++ ms) y later
  row_then x z y row mid later ns ms a b = record {
    fated = a.fated ++ b.fated;
    told = map-append (λ (t : Fated). t.heard) a.fated b.fated ∙ ap (λ (hs : List Heard). hs ++ heards_of b.fated) a.told ∙
        ap (λ (hs : List Heard). heards ns ++ hs) b.told ∙ sym (map-append (λ (t : Notice). t.heard) ns ms);
    number = b.number ∙ a.number;
    config = b.config ∙ a.config;
    starved = b.starved ∙ ap (starved_by b.fated) a.starved ∙ starved_then a.fated b.fated row.output.layer.output.starved;
    filter = hears_then row.id.index row.output.filter mid.output.filter later.output.filter ns ms a.filter
        (subst (λ (id : FilterId). FilterHears n line_of g id.index mid.output.filter ms later.output.filter) a.number b.filter);
    agreed = λ o agrees.
        subst (λ (p : PlainOut N). Agrees n line_of own y (Some row.id.index) later.output.layer p) (sym (run_then n o a.fated b.fated))
        (subst (λ (id : FilterId). Agrees n line_of own y (Some id.index) later.output.layer (out_run n (out_run n o a.fated) b.fated))
        a.number
        (b.agreed (out_run n o a.fated)
        (subst (λ (id : FilterId). Agrees n line_of own z (Some id.index) mid.output.layer (out_run n o a.fated)) (sym a.number)
        (a.agreed o agrees))));
  }

  -- registries that are the same under the output's key serve as well
  pub row_moved : (but : ℕ → Bool) (x w y z : RegistryValue) (row later : Lined N E F) (ns : List Notice) →
      under_key row.output.layer.config.key.0 x ≡ under_key row.output.layer.config.key.0 w →
      under_key row.output.layer.config.key.0 z ≡ under_key row.output.layer.config.key.0 y →
      RowFollowsBut n line_of g but x row ns y later → RowFollowsBut n line_of g but w row ns z later
  row_moved but x w y z row later ns before after a = record {
    fated = a.fated;
    told = a.told;
    number = a.number;
    config = a.config;
    starved = a.starved;
    filter = a.filter;
    agreed = λ o agrees.
        agrees_moved none_excepted y z (Some row.id.index) later.output.layer (out_run n o a.fated)
        (subst (λ (c : Config N). under_key c.key.0 z ≡ under_key c.key.0 y) (sym a.config) after)
        (a.agreed o (agrees_moved but w x (Some row.id.index) row.output.layer o before agrees));
  }

  -- one notice that is a step
  pub row_one : (but : ℕ → Bool) (x y : RegistryValue) (at : At) (row : Lined N E F) (f : F) (layer : Lines N E) (h : Heard) → h.at ≡ at →
      layer.config ≡ row.output.layer.config →
      FollowsBut n line_of own but row.output.layer (view_of at x row) h y layer →
      f ≡ filter_after n line_of g row.output.filter (hook_of h.said (view_of at x row)) →
      RowFollowsBut n line_of g but x row ((record { heard = h; within = bare x }) ∷ []) y (with_output f layer row)
  row_one but x y at row f layer h there config follows filter = record {
    fated = (record { heard = h; fate = follows.fate }) ∷ [];
    told = refl;
    number = refl;
    config = config;
    starved = follows.starved;
    filter = (view_of at x row, sym there, refl, refl, filter);
    agreed = λ o agrees. follows.agreed o agrees;
  }

  -- turns in which each output follows its notices and writes under its own key
  module _ (but : ℕ → Bool) (R : RegistryValue → Lined N E F → RegistryValue → Lined N E F → Type 0) (k : RegistryValue) (ns : Lined N E F →
      List Notice)
      (one : (x : RegistryValue) (row : Lined N E F) (y : RegistryValue) (later : Lined N E F) → bare x ≡ k → R x row y later →
      RowFollowsBut n line_of g but x row (ns row) y later)
      (wrote : (x : RegistryValue) (row : Lined N E F) (y : RegistryValue) (later : Lined N E F) → R x row y later →
      SameButKeys (λ key. key == row.output.layer.config.key.0) x y) where
    others_keep : (x : RegistryValue) (rows : List (Lined N E F)) (y : RegistryValue) (later : List (Lined N E F)) (key : ℕ) →
        is_member (keys_of rows) key ≡ false → EachInTurn R x rows y later → under_key key y ≡ under_key key x
    others_keep x [] y [] key not turns = ap (under_key key) turns
    others_keep x [] y (m ∷ ms) key not turns = absurd turns
    others_keep x (l ∷ ls) y [] key not turns = absurd turns
    others_keep x (l ∷ ls) y (m ∷ ms) key not (z, first, rest) =
        let parts = neither (l.output.layer.config.key.0 == key) (is_member (keys_of ls) key) not in
        others_keep z ls y ms key parts.1 rest ∙ (wrote x l z m first).1 key (away l.output.layer.config.key.0 key parts.0)

    pub turns_bare : (x : RegistryValue) (rows : List (Lined N E F)) (y : RegistryValue) (later : List (Lined N E F)) →
        EachInTurn R x rows y later → bare y ≡ bare x
    turns_bare x [] y [] turns = ap bare turns
    turns_bare x [] y (m ∷ ms) turns = absurd turns
    turns_bare x (l ∷ ls) y [] turns = absurd turns
    turns_bare x (l ∷ ls) y (m ∷ ms) (z, first, rest) = turns_bare z ls y ms rest ∙ (wrote x l z m first).0

    -- what others wrote before doesn't matter
    each_from : (x z y : RegistryValue) (key : ℕ) (rows later : List (Lined N E F)) → is_member (keys_of rows) key ≡ false →
        SameButKeys (λ k. k == key) x z →
        EachFollowsBut n line_of g but ns z rows y later → EachFollowsBut n line_of g but ns x rows y later
    each_from x z y key [] [] not same follows = tt
    each_from x z y key [] (m ∷ ms) not same follows = absurd follows
    each_from x z y key (l ∷ ls) [] not same follows = absurd follows
    each_from x z y key (l ∷ ls) (m ∷ ms) not same follows =
        let parts = neither (l.output.layer.config.key.0 == key) (is_member (keys_of ls) key) not in (
          row_moved but z x y y l m (ns l) (same.1 l.output.layer.config.key.0 parts.0) refl follows.0,
          each_from x z y key ls ms parts.1 same follows.1,
        )

    pub turns_follow : (x : RegistryValue) (rows : List (Lined N E F)) (y : RegistryValue) (later : List (Lined N E F)) → bare x ≡ k →
        AreDistinct (keys_of rows) → EachInTurn R x rows y later →
        EachFollowsBut n line_of g but ns x rows y later
    turns_follow x [] y [] is distinct turns = tt
    turns_follow x [] y (m ∷ ms) is distinct turns = absurd turns
    turns_follow x (l ∷ ls) y [] is distinct turns = absurd turns
    turns_follow x (l ∷ ls) y (m ∷ ms) is distinct (z, first, rest) =
        let mine = wrote x l z m first in (
          row_moved but x x z y l m (ns l) refl (others_keep z ls y ms l.output.layer.config.key.0 distinct.0 rest) (one x l z m is first),
          each_from x z y l.output.layer.config.key.0 ls ms distinct.0 mine (turns_follow z ls y ms (mine.0 ∙ is) distinct.1 rest),
        )

  -- keys stay
  pub keys_stay : (but : ℕ → Bool) (ns : Lined N E F → List Notice) (x y : RegistryValue) (rows later : List (Lined N E F)) →
      EachFollowsBut n line_of g but ns x rows y later → keys_of later ≡ keys_of rows
  keys_stay but ns x y [] [] follows = refl
  keys_stay but ns x y [] (m ∷ ms) follows = absurd follows
  keys_stay but ns x y (l ∷ ls) [] follows = absurd follows
  keys_stay but ns x y (l ∷ ls) (m ∷ ms) follows = ap (λ (c : Config N). c.key.0 ∷ keys_of ms) follows.0.config ∙
      ap (λ (ks : List ℕ). l.output.layer.config.key.0 ∷ ks) (keys_stay but ns x y ls ms follows.1)

  pub each_then : (ns ms : ℕ → List Notice) (x z y : RegistryValue) (rows mids laters : List (Lined N E F)) →
      EachFollows n line_of g (λ row. ns row.id.index) x rows z mids →
      EachFollows n line_of g (λ row. ms row.id.index) z mids y laters → EachFollows n line_of g (λ row. ns row.id.index ++ ms row.id.index)
      x rows y laters
  each_then ns ms x z y [] [] [] a b = tt
  each_then ns ms x z y [] [] (l ∷ ls) a b = absurd b
  each_then ns ms x z y [] (m ∷ mids) laters a b = absurd a
  each_then ns ms x z y (r ∷ rows) [] laters a b = absurd a
  each_then ns ms x z y (r ∷ rows) (m ∷ mids) [] a b = absurd b
  each_then ns ms x z y (r ∷ rows) (m ∷ mids) (l ∷ laters) a b = (
    row_then x z y r m l (ns r.id.index) (ms r.id.index) a.0
        (subst (λ (id : FilterId). RowFollows n line_of g z m (ms id.index) y l) a.0.number b.0),
    each_then ns ms x z y rows mids laters a.1 b.1,
  )

  -- each is told nothing, and what it sees stays
  pub each_stays : (ns : Lined N E F → List Notice) (x y : RegistryValue) (rows later : List (Lined N E F)) →
      ((row : Lined N E F) → ns row ≡ []) → y ≡ x → later ≡ rows → EachFollows n line_of g ns x rows y later
  each_stays ns x y rows later none same is = subst (λ (ms : List (Lined N E F)). EachFollows n line_of g ns x rows y ms) (sym is)
      (all rows)
    where
      all : (ls : List (Lined N E F)) → EachFollows n line_of g ns x ls y ls
      all [] = tt
      all (l ∷ ls) = (subst (λ (hs : List Notice). RowFollows n line_of g x l hs y l) (sym (none l)) (row_stays x y l l refl same), all ls)
