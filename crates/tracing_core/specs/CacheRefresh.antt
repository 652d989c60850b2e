-- Forming anew what is kept of callsites, and the greatest level.
use Rattle.std.specs.Prelude.{◌≡◌, Bool, true, false, List}
use Rattle.tracing_core.specs.InterestsAndHints.{CallsitesAsked, Each, Raises}
use Rattle.tracing_core.specs.Table.{Table}
use Rattle.tracing_core_fields.specs.declared.requests.callsite.Callsite.{Ghosts as SiteGhosts}
use Rattle.tracing_core.specs.TableRows.{KeptSubscriber}
use Rattle.tracing_core_fields.specs.declared.requests.subscriber.Subscriber.{Ghosts}

module _ {S C : Type 0} (g : Ghosts S) (h : SiteGhosts C) where
  -- by whether all are asked: all gave their answers of each callsite, and then their hints
  pub record Formed (all : Bool) (t u : Table S C) : Type 0 where
    pub asked : List (KeptSubscriber S)
    pub callsites : CallsitesAsked g h all t.subscribers t.callsites u.callsites asked
    pub hints : Each (Raises g all) 0 asked u.subscribers u.greatest
    pub rest : u ≡ record t { subscribers = u.subscribers; callsites = u.callsites; greatest = u.greatest }

  -- all were asked of each callsite, and then for their hints
  abbrev pub Rebuilt : Table S C → Table S C → Type 0
  Rebuilt t u = Formed true t u

  -- each subscriber was asked of each callsite and for its hint, or it was asked before and not lent since:
  -- then its kept answers count
  abbrev pub Refreshed : Table S C → Table S C → Type 0
  Refreshed t u = Formed false t u
