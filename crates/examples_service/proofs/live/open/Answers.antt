use Rattle.examples_service.proofs.live.open.Goals as goal

pub returns : goal.returns
returns g c = c.in_ok-sites.ensures (c.in_ok-add_lanes.ensures (c.in_ok-trace.ensures.ready (c.leveled_outputs_are_honest.ensures _)))
