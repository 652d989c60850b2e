use Rattle.std.proofs.Common.{arith, sym, ◌∙◌, ◌-◌}
use Rattle.span_registry_layers_store.proofs.ClosingSlots.{closes_here, none_keeps, stay_end, stay_next}
use Rattle.span_registry_layers_store.proofs.spans.closing.Goals as goal

pub loop-rest-init : goal.loop-rest-init
loop-rest-init c = record { within = omega arith; settled = stay_end c.args.lanes.now c.args.slots.now c.args.index.now }

pub returns-then-goes : goal.returns-then-goes
returns-then-goes c =
    let going = sym c.goes.ensures ∙ c.if-goes.true in (
      closes_here c.args.lanes.now c.args.slots.now c.args.index.now (c.loop-rest.rest - 1) c.loop-rest.rest
          c.index-index-rest.result (omega arith) c.loop-rest.invariant.within c.index-index-rest.is c.requires.rise c.requires.children
          going c.loop-rest.invariant.settled,
      none_keeps c.args.lanes.now c.args.slots.now c.args.index.now c.index-index-rest.result c.requires.rise c.requires.indexed
          c.requires.children going,
    )

pub loop-rest-preserved : goal.loop-rest-preserved
loop-rest-preserved c = record {
  within = omega arith;
  settled = stay_next c.args.lanes.now c.args.slots.now c.args.index.now (c.loop-rest.rest - 1) c.loop-rest.rest
      c.index-index-rest.result (omega arith) c.loop-rest.invariant.within c.index-index-rest.is c.requires.children
      (sym c.goes.ensures ∙ c.if-goes.false) c.loop-rest.invariant.settled;
}
