use Rattle.span_registry_layers_store.specs.Lanes.{plain_lanes}
use Rattle.span_registry_layers_store.proofs.EntryCounts.{pushed_counted}
use Rattle.span_registry_layers_store.proofs.lanes.Lanes.push.Goals as goal

pub invariant_of-self-2 : goal.invariant_of-self-2
invariant_of-self-2 c =
    pushed_counted (plain_lanes c.self.inside.lanes.items) (plain_lanes c.push_entry.new.lanes.items) c.self.inside.counts.items
    c.make_counts.new.counts.items c.count_more.new.counts.items c.args.lane c.args.id c.in_ok-push_entry.ensures.ok c.self.invariant
    c.make_counts.ensures.same c.make_counts.ensures.all c.count_more.ensures.more c.count_more.ensures.len
