use Rattle.span_registry_layers_store.specs.References.{plain_ref}
use Rattle.span_registry_layers_layers.specs.FilterViews.{view}
use Rattle.event_formatter.proofs.formats.Scopes.{lane_seen}
use Rattle.event_formatter.proofs.formats.scope.fill_from_lane.Goals as goal

pub fill_from-requires-clause-seen : goal.fill_from-requires-clause-seen
fill_from-requires-clause-seen c = lane_seen (view c.args.context.now) (plain_ref c.in-Some.span) c.in-Some.ensures
