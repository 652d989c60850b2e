use Rattle.std.proofs.Common.{arith, ◌-◌, ◌∙◌, sym}
use Rattle.span_registry_layers_store.specs.Lanes.{plain_lanes}
use Rattle.span_registry_layers_store.specs.Places.{kin_of}
use Rattle.span_registry_layers_store.proofs.ClosedSpans.{closes_at, settled_end, settled_turn}
use Rattle.span_registry_layers_store.proofs.tests.plain.closing.Goals as goal

pub loop-rest-init : goal.loop-rest-init
loop-rest-init c = record { within = omega arith; settled = settled_end kin_of (plain_lanes c.args.lanes.now) c.args.spans.now }

pub returns-then-not-stays : goal.returns-then-not-stays
returns-then-not-stays c =
    closes_at kin_of (plain_lanes c.args.lanes.now) c.args.spans.now (c.loop-rest.rest - 1) c.loop-rest.rest c.index-spans-rest.result
    (omega arith) c.loop-rest.invariant.within c.index-spans-rest.is c.loop-rest.invariant.settled
    (rw (c.later_than.ensures) at (sym c.stays.ensures ∙ c.if-not-stays.true))

pub loop-rest-preserved : goal.loop-rest-preserved
loop-rest-preserved c = record {
  within = omega arith;
  settled = settled_turn kin_of (plain_lanes c.args.lanes.now) c.args.spans.now (c.loop-rest.rest - 1) c.loop-rest.rest
      c.index-spans-rest.result (omega arith) c.loop-rest.invariant.within c.index-spans-rest.is c.loop-rest.invariant.settled
      (rw (c.later_than.ensures) at (sym c.stays.ensures ∙ c.if-not-stays.false));
}
