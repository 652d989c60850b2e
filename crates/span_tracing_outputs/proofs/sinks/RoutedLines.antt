-- Lines that go to sinks by a route.
use Rattle.std.proofs.Common.{◌≡◌, ◌+◌, ◌==◌, ◌||◌, ℕ, zero, suc, Bool, true, false, List, [], ◌∷◌, ◌++◌, length, take, drop, get_or, set}
use Rattle.std.proofs.Common.{None, Some, slice_get, refl, ap, ◌∙◌, subst, add-one, arith, ◌<◌, ◌≤◌}
use Rattle.std.proofs.lemmas.List.Folds.{list_any-append}
use Rattle.tracing_core_moments.specs.declared.at.At.{At}
use Rattle.event_formatter_text.specs.makers.Routes.{has_sink}
use Rattle.event_formatter_text.specs.declared.makers.route.Route.{Route}
use Rattle.span_tracing_outputs.specs.OutputMachines.{PlainLine}
use Rattle.span_tracing_outputs.specs.sinks.Routed.{EachFrom, Routed, RoutedTakeTheirs, TakesIf, TakesRouted, TakesSent, goes_to, sent_if}
use Rattle.span_tracing_outputs.specs.sinks.Routed.{sent_to}
use Rattle.span_tracing_outputs.specs.sinks.Runs.{TakesRun}

pub has_sink_of_both : (place : ℕ) (first second : List ℕ) → has_sink place (first ++ second) ≡ has_sink place first ||
    has_sink place second
has_sink_of_both place first second = list_any-append (λ other. other == place) first second

module _ {S : Type 0} (becomes : ℕ → S → S → Type 0) where
  pub length_stays : (first : ℕ) (olds news : List S) → EachFrom becomes first olds news → length news ≡ length olds
  length_stays first [] [] each = refl
  length_stays first [] (new ∷ news) each = absurd each
  length_stays first (old ∷ olds) [] each = absurd each
  length_stays first (old ∷ olds) (new ∷ news) each = let later = length_stays (first + 1) olds news each.1 in cc

  abbrev BecameAt : ℕ → List S → ℕ → S → Type 0
  BecameAt number news place sink = (taken : S) × (slice_get news place ≡ Some taken) × becomes number sink taken

  at_place : (first place : ℕ) (olds news : List S) (sink : S) → EachFrom becomes first olds news → slice_get olds place ≡ Some sink →
      BecameAt (first + place) news place sink
  at_place first place [] news sink each is = let no : None ≡ Some sink = is in cc
  at_place first place (old ∷ olds) [] sink each is = absurd each
  at_place first zero (old ∷ olds) (new ∷ news) sink each is =
      let same : old ≡ sink = cc in
      let number : first ≡ first + 0 = omega arith in
      (new, refl, subst (λ (n : ℕ). becomes n sink new) number (subst (λ (s : S). becomes first s new) same each.0))
  at_place first (suc place) (old ∷ olds) (new ∷ news) sink each is =
      let number : first + 1 + place ≡ first + suc place = omega arith in
      subst (λ (n : ℕ). BecameAt n news place sink) number (at_place (first + 1) place olds news sink each.1 is)

  heads : (x y : S) (xs ys : List S) → x ∷ xs ≡ y ∷ ys → x ≡ y
  heads x y xs ys e = cc

  tails : (x y : S) (xs ys : List S) → x ∷ xs ≡ y ∷ ys → xs ≡ ys
  tails x y xs ys e = cc

  abbrev Turned : ℕ → List S → List S → ℕ → Type 0
  Turned first olds news i = EachFrom becomes first (take i olds) (take i news) × (drop i news ≡ drop i olds)

  turn : (first : ℕ) (olds cur : List S) (i : ℕ) (d y : S) → i < length olds → i < length cur → Turned first olds cur i →
      becomes (first + i) (get_or cur i d) y → Turned first olds (set cur i y) (suc i)
  turn first [] cur i d y inside within done became = absurd (omega arith)
  turn first (x ∷ xs) [] i d y inside within done became = absurd (omega arith)
  turn first (x ∷ xs) (z ∷ zs) zero d y inside within done became =
      let number : first + 0 ≡ first = omega arith in (
        (subst (λ (n : ℕ). becomes n x y) number (subst (λ (a : S). becomes (first + 0) a y) (heads z x zs xs done.1) became), tt),
        tails z x zs xs done.1,
      )
  turn first (x ∷ xs) (z ∷ zs) (suc i) d y inside within done became =
      let number : first + suc i ≡ first + 1 + i = omega arith in
      let later = turn (first + 1) xs zs i d y (omega arith) (omega arith) (done.0.1, done.1)
      (subst (λ (n : ℕ). becomes n (get_or zs i d) y) number became) in
      ((done.0.0, later.0), later.1)

  pub next_turn : (olds cur : List S) (i : ℕ) (d y : S) → i < length olds → i < length cur → Turned 0 olds cur i →
      becomes i (get_or cur i d) y → Turned 0 olds (set cur i y) (i + 1)
  next_turn olds cur i d y inside within done became =
      let number : i ≡ 0 + i = omega arith in
      rw add-one (turn 0 olds cur i d y inside within done (subst (λ (n : ℕ). becomes n (get_or cur i d) y) number became))

  all_turned : (first : ℕ) (olds cur : List S) (i : ℕ) → length olds ≤ i → length cur ≤ i →
      EachFrom becomes first (take i olds) (take i cur) → EachFrom becomes first olds cur
  all_turned first [] [] i past over done = tt
  all_turned first [] (z ∷ zs) zero past over done = absurd (omega arith)
  all_turned first [] (z ∷ zs) (suc i) past over done = done
  all_turned first (x ∷ xs) cur zero past over done = absurd (omega arith)
  all_turned first (x ∷ xs) [] (suc i) past over done = done
  all_turned first (x ∷ xs) (z ∷ zs) (suc i) past over done = (done.0, all_turned (first + 1) xs zs i (omega arith) (omega arith) done.1)

  pub turns_end : (olds cur : List S) (i : ℕ) → length olds ≤ i → length cur ≤ i → Turned 0 olds cur i → EachFrom becomes 0 olds cur
  turns_end olds cur i past over done = all_turned 0 olds cur i past over done.0

module _ {S : Type 0} (takes : S → At → PlainLine → S → Type 0) where
  abbrev RunAt : List (At × PlainLine) → List S → ℕ → S → Type 0
  RunAt lines news place sink = (taken : S) × (slice_get news place ≡ Some taken) × TakesRun takes lines sink taken

  -- the line at the head of a run, and then the later ones
  one_more : (goes : Bool) (x : At × PlainLine) (sent : List (At × PlainLine)) (sink mid : S) (news : List S) (place : ℕ) →
      TakesIf takes goes sink x.0 x.1 mid → RunAt sent news place mid → RunAt (sent_if goes x sent) news place sink
  one_more true x sent sink mid news place took later = (later.0, later.1, (mid, took, later.2))
  one_more false x sent sink mid news place took later = (later.0, later.1, subst (λ (s : S). TakesRun takes sent s later.0) took later.2)

  theirs : (lines : List (At × PlainLine)) (old new : Routed S) → TakesRun (TakesRouted takes) lines old new → (place : ℕ) (sink : S) →
      slice_get old.sinks place ≡ Some sink → RunAt (sent_to old.route place lines) new.sinks place sink
  theirs [] old new same place sink is = (sink, ap (λ (r : Routed S). slice_get r.sinks place) same ∙ is, refl)
  theirs (x ∷ xs) old new (mid, took, rest) place sink is =
      let number : 0 + place ≡ place = omega arith in
      let one : BecameAt (TakesSent takes old.route x.0 x.1) place mid.sinks place sink =
      subst (λ (n : ℕ). BecameAt (TakesSent takes old.route x.0 x.1) n mid.sinks place sink) number
      (at_place (TakesSent takes old.route x.0 x.1) 0 place old.sinks mid.sinks sink took.1 is) in
      let later = theirs xs mid new rest place one.0 one.1 in
      one_more (goes_to old.route x.1.level place) x (sent_to old.route place xs) sink one.0 new.sinks place one.2
      (subst (λ (r : Route). RunAt (sent_to r place xs) new.sinks place one.0) took.0 later)

  route_stays : (lines : List (At × PlainLine)) (old new : Routed S) → TakesRun (TakesRouted takes) lines old new → new.route ≡ old.route
  route_stays [] old new same = ap (λ (r : Routed S). r.route) same
  route_stays (x ∷ xs) old new (mid, took, rest) = route_stays xs mid new rest ∙ took.0

  pub routed_take_theirs : RoutedTakeTheirs takes
  routed_take_theirs lines old new run = record { route = route_stays lines old new run; sinks = theirs lines old new run }
