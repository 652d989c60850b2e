-- What is true of every hub.
use Rattle.std.specs.Prelude.{◌≡◌, ◌≤◌, ◌+◌, ℕ, List, [], ◌∷◌, map}
use Rattle.tracing_core_fields.specs.requests.Lists.{Every}
use Rattle.tracing_core.specs.ValidCaches.{IsTrueCallsite}
use Rattle.tracing_core.specs.Table.{Table}
use Rattle.tracing_core_fields.specs.declared.requests.callsite.Callsite.{Ghosts as SiteGhosts}
use Rattle.tracing_core.specs.TableRows.{KeptCallsite, KeptSubscriber}

-- numbers that ascend from the least on, all of them below the end
abbrev pub Ascends : ℕ → List ℕ → ℕ → Type 0
Ascends least [] end = least ≤ end
Ascends least (n ∷ ns) end = (least ≤ n) × Ascends (n + 1) ns end

-- no number stands twice
abbrev pub AreDistinct : List ℕ → Type 0
AreDistinct [] = Unit {0}
AreDistinct (n ∷ ns) = Every (λ m. ¬ (m ≡ n)) ns × AreDistinct ns

-- the numbers of the subscribers
abbrev pub serials : {S : Type 0} → List (KeptSubscriber S) → List ℕ
serials {S = S} es = map (λ (e : KeptSubscriber S). e.serial) es

-- the identifiers of the callsites
abbrev pub identifiers : {C : Type 0} → List (KeptCallsite C) → List ℕ
identifiers {C = C} callsites = map (λ (row : KeptCallsite C). row.identifier) callsites

pub record IsSound {S C : Type 0} (h : SiteGhosts C) (t : Table S C) : Type 0 where
  -- the numbers of subscribers differ, and are below the next one
  pub numbers : Ascends 0 (serials t.subscribers) t.next
  -- the identifiers of callsites differ
  pub apart : AreDistinct (identifiers t.callsites)
  -- the identifier and the level that are kept are the callsite's
  pub sites : Every (IsTrueCallsite h) t.callsites
