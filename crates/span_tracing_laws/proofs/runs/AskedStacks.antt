-- What asking all stacks of callsites and for their hints leaves of each.
use Rattle.std.proofs.Common.{◌≡◌, inl, inr, ◌==◌, ℕ, Bool, true, false, List, [], ◌∷◌, ◌++◌, Option, Some, None, refl, sym, ap, ◌∙◌, subst}
use Rattle.std.specs.Prelude.{if◌then◌else◌}
use Rattle.std.specs.Cmp.{unsigned_Decides}
use Rattle.tracing_core_fields.specs.PlainMetadata.{PlainMetadata}
use Rattle.tracing_core_fields.specs.requests.Calls.{CallsiteRegistered, HintAsked}
use Rattle.tracing_core_fields.specs.requests.Interests.{PlainInterest}
use Rattle.tracing_core_fields.specs.declared.requests.callsite.Callsite.{Ghosts as SiteGhosts}
use Rattle.tracing_core_fields.specs.declared.requests.subscriber.Subscriber.{Ghosts}
use Rattle.tracing_core.specs.CacheRefresh.{Formed}
use Rattle.tracing_core.specs.Commands.{living}
use Rattle.tracing_core.specs.Handles.{is_of, subscriber_with}
use Rattle.tracing_core.specs.HubInvariant.{Ascends, serials}
use Rattle.tracing_core.specs.InterestsAndHints.{Each, Gives, GivesHint, Joins, Raises, RowAsked}
use Rattle.tracing_core.specs.Table.{Table}
use Rattle.tracing_core.specs.TableRows.{KeptCallsite, KeptSubscriber}
use Rattle.tracing_core.proofs.SubscriberNumbers.{absent_above, entry_last}
use Rattle.span_tracing_laws.proofs.runs.HubStacks.{kept_value, with_number}

module _ {T : Type 0} where
  other_if : (b : Bool) (e : KeptSubscriber T) (o p : Option (KeptSubscriber T)) →
      kept_value o ≡ kept_value p → kept_value (if b then Some e else o) ≡ kept_value (if b then Some e else p)
  other_if true e o p later = refl
  other_if false e o p later = later

  last_if : (b : Bool) (d : KeptSubscriber T) → b ≡ false → kept_value (if b then Some d else None) ≡ None
  last_if true d away = absurd (cc)
  last_if false d away = refl

  -- one more leaves the others
  pub appended_other : (m : ℕ) (es : List (KeptSubscriber T)) (d : KeptSubscriber T) → is_of m d ≡ false →
      with_number m (es ++ d ∷ []) ≡ with_number m es
  appended_other m [] d away = last_if (is_of m d) d away
  appended_other m (e ∷ es) d away = other_if (is_of m e) e (subscriber_with m (es ++ d ∷ [])) (subscriber_with m es)
      (appended_other m es d away)

  -- and is found by its number
  pub appended_own : (next : ℕ) (es : List (KeptSubscriber T)) (z : T) → Ascends 0 (serials es) next →
      with_number next (es ++ living next z ∷ []) ≡ Some z
  appended_own next es z up =
      ap kept_value (entry_last next es (living next z) (absent_above 0 next es up) ((unsigned_Decides next next).1 refl))

module _ {T : Type 0} (Ready : T → Type 0) (Kept : T → T → Type 0) where
  abbrev pub Pair : KeptSubscriber T → KeptSubscriber T → Type 0
  Pair e f = (f.serial ≡ e.serial) × (f.handles ≡ e.handles) × (Ready e.subscriber → Kept e.subscriber f.subscriber)

  abbrev pub Pairs : List (KeptSubscriber T) → List (KeptSubscriber T) → Type 0
  Pairs [] [] = Unit {0}
  Pairs [] (f ∷ fs) = ⊥
  Pairs (e ∷ es) [] = ⊥
  Pairs (e ∷ es) (f ∷ fs) = Pair e f × Pairs es fs

  -- what is left of a stack that is ready
  abbrev pub Alike : Option T → Option T → Type 0
  Alike None None = Unit {0}
  Alike None (Some y) = ⊥
  Alike (Some x) None = ⊥
  Alike (Some x) (Some y) = Ready x → Kept x y

  alike_if : (b c : Bool) (e f : KeptSubscriber T) (o p : Option (KeptSubscriber T)) → b ≡ c → Pair e f →
      Alike (kept_value o) (kept_value p) → Alike (kept_value (if b then Some e else o)) (kept_value (if c then Some f else p))
  alike_if true true e f o p is pair later = pair.2
  alike_if true false e f o p is pair later = absurd (cc)
  alike_if false true e f o p is pair later = absurd (cc)
  alike_if false false e f o p is pair later = later

  -- by its number
  pub pairs_at : (m : ℕ) (es fs : List (KeptSubscriber T)) → Pairs es fs → Alike (with_number m es) (with_number m fs)
  pairs_at m [] [] pairs = tt
  pairs_at m [] (f ∷ fs) pairs = absurd pairs
  pairs_at m (e ∷ es) [] pairs = absurd pairs
  pairs_at m (e ∷ es) (f ∷ fs) pairs = alike_if (is_of m e) (is_of m f) e f (subscriber_with m es) (subscriber_with m fs)
      (ap (λ k. k == m) (sym pairs.0.0)) pairs.0 (pairs_at m es fs pairs.1)

module _ {T C : Type 0} (g : Ghosts T) (h : SiteGhosts C) (Ready : T → Type 0) (Kept : T → T → Type 0)
    (same : (x : T) → Ready x → Kept x x) (ready : (x y : T) → Kept x y → Ready y)
    (onward : (x y z : T) → Kept x y → Kept y z → Kept x z)
    (asked : (x : T) (m : PlainMetadata) (k : PlainInterest) (y : T) → Ready x → g.moves x (CallsiteRegistered m) k y → Kept x y)
    (hinted : (x y : T) (hint : Option ℕ) → Ready x → g.moves x HintAsked hint y → Kept x y) where
  pair_same : (e : KeptSubscriber T) → Pair Ready Kept e e
  pair_same e = (refl, refl, λ is. same e.subscriber is)

  pair_then : (e f d : KeptSubscriber T) → Pair Ready Kept e f → Pair Ready Kept f d → Pair Ready Kept e d
  pair_then e f d one two = (
    two.0 ∙ one.0,
    two.1 ∙ one.1,
    λ is.
        let first = one.2 is in
        onward e.subscriber f.subscriber d.subscriber first (two.2 (ready e.subscriber f.subscriber first)),
  )

  pairs_then : (es fs ds : List (KeptSubscriber T)) → Pairs Ready Kept es fs → Pairs Ready Kept fs ds → Pairs Ready Kept es ds
  pairs_then [] [] ds one two = two
  pairs_then [] (f ∷ fs) ds one two = absurd one
  pairs_then (e ∷ es) [] ds one two = absurd one
  pairs_then (e ∷ es) (f ∷ fs) [] one two = absurd two
  pairs_then (e ∷ es) (f ∷ fs) (d ∷ ds) one two = (pair_then e f d one.0 two.0, pairs_then es fs ds one.1 two.1)

  given_pair : (all : Bool) (m : PlainMetadata) (i : ℕ) (k : PlainInterest) (e f : KeptSubscriber T) → Gives g all m i k e f →
      Pair Ready Kept e f
  given_pair true m i k e f a = (
    ap (λ (d : KeptSubscriber T). d.serial) a.2,
    ap (λ
        (d : KeptSubscriber T). d.handles) a.2,
    λ is. asked e.subscriber m k f.subscriber is a.1,
  )
  given_pair false m i k e f (inl a) = (
    ap (λ (d : KeptSubscriber T). d.serial) a.2,
    ap (λ
        (d : KeptSubscriber T). d.handles) a.2,
    λ is. asked e.subscriber m k f.subscriber is a.1,
  )
  given_pair false m i k e f (inr a) = subst (Pair Ready Kept e) (sym a.1) (pair_same e)

  hinted_pair : (all : Bool) (top : Option ℕ) (e f : KeptSubscriber T) → GivesHint g all top e f → Pair Ready Kept e f
  hinted_pair true top e f a = (
    ap (λ (d : KeptSubscriber T). d.serial) a.2,
    ap (λ (d : KeptSubscriber T). d.handles) a.2,
    λ is. hinted e.subscriber f.subscriber (g.hint e.subscriber) is a.1,
  )
  hinted_pair false top e f (inl a) = (
    ap (λ (d : KeptSubscriber T). d.serial) a.2,
    ap (λ (d : KeptSubscriber T). d.handles) a.2,
    λ is. hinted e.subscriber f.subscriber (g.hint e.subscriber) is a.1,
  )
  hinted_pair false top e f (inr a) = subst (Pair Ready Kept e) (sym a.1) (pair_same e)

  -- all were asked of a callsite
  pub joined_pairs : (all : Bool) (m : PlainMetadata) (i : ℕ) (k last : Option PlainInterest) (es fs : List (KeptSubscriber T)) →
      Each (Joins g all m i) k es fs last → Pairs Ready Kept es fs
  joined_pairs all m i k last [] [] each = tt
  joined_pairs all m i k last [] (f ∷ fs) each = absurd each
  joined_pairs all m i k last (e ∷ es) [] each = absurd each
  joined_pairs all m i k last (e ∷ es) (f ∷ fs) each =
      (given_pair all m i each.1.0 e f each.1.1, joined_pairs all m i each.0 last es fs each.2)

  raised_pairs : (all : Bool) (k last : ℕ) (es fs : List (KeptSubscriber T)) → Each (Raises g all) k es fs last → Pairs Ready Kept es fs
  raised_pairs all k last [] [] each = tt
  raised_pairs all k last [] (f ∷ fs) each = absurd each
  raised_pairs all k last (e ∷ es) [] each = absurd each
  raised_pairs all k last (e ∷ es) (f ∷ fs) each =
      (hinted_pair all each.1.0 e f each.1.1, raised_pairs all each.0 last es fs each.2)

  pairs_same : (es : List (KeptSubscriber T)) → Pairs Ready Kept es es
  pairs_same [] = tt
  pairs_same (e ∷ es) = (pair_same e, pairs_same es)

  rows_pairs : (all : Bool) (before after : ℕ × List (KeptSubscriber T)) (rows laters : List (KeptCallsite C)) →
      Each (RowAsked g h all) before rows laters after → Pairs Ready Kept before.1 after.1
  rows_pairs all before after [] [] each =
      subst (λ (p : ℕ × List (KeptSubscriber T)). Pairs Ready Kept before.1 p.1) (sym each) (pairs_same before.1)
  rows_pairs all before after [] (later ∷ laters) each = absurd each
  rows_pairs all before after (row ∷ rows) [] each = absurd each
  rows_pairs all before after (row ∷ rows) (later ∷ laters) each =
      pairs_then before.1 each.0.1 after.1
      (joined_pairs all (h.metadata_of row.callsite) before.0 None each.1.1.0.0 before.1 each.0.1 each.1.1.0.1)
      (rows_pairs all each.0 after rows laters each.2)

  -- all were asked of each callsite, and then for their hints
  pub formed_pairs : (all : Bool) (t u : Table T C) → Formed g h all t u → Pairs Ready Kept t.subscribers u.subscribers
  formed_pairs all t u r =
      pairs_then t.subscribers r.asked u.subscribers
      (rows_pairs all (0, t.subscribers) (r.callsites.0, r.asked) t.callsites u.callsites r.callsites.1)
      (raised_pairs all 0 u.greatest r.asked u.subscribers r.hints)
