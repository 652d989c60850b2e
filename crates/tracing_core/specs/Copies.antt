-- A copy of what a hub keeps.
use Rattle.std.specs.Prelude.{◌≡◌, map}
use Rattle.tracing_core.specs.Table.{Table}
use Rattle.tracing_core.specs.TableRows.{KeptCallsite, KeptSubscriber}
use Rattle.tracing_core.specs.declared.hub.table.HandleCount.{HandleCount}
use Rattle.tracing_core.specs.declared.hub.table.HubTable.{HubTable}
use Rattle.tracing_core.specs.declared.hub.table.KeptInterest.{KeptInterest}

abbrev pub handles_of : {S : Type 0} → KeptSubscriber S → HandleCount
handles_of e = record { serial = e.serial; handles = e.handles }

abbrev pub kept_of : {C : Type 0} → KeptCallsite C → KeptInterest
kept_of row = record { identifier = record { 0 = row.identifier }; interest = row.interest }

-- each subscriber with its count, the defaults, each callsite with its interest, and the greatest level, in order
pub record CopyOf {S C : Type 0} (t : Table S C) (copy : HubTable) : Type 0 where
  pub handles : copy.handles.items ≡ map handles_of t.subscribers
  pub global : copy.global ≡ t.global
  pub lanes : copy.lanes.items ≡ t.lanes
  pub callsites : copy.callsites.items ≡ map kept_of t.callsites
  pub greatest : copy.greatest ≡ t.greatest
