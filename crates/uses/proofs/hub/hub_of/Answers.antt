use Rattle.uses.proofs.hub.hub_of.Goals as goal

pub returns-in-Ok-clause-right : goal.returns-in-Ok-clause-right
returns-in-Ok-clause-right g c = λ steady. c.in-Ok.ensures.right c.new-hub.ensures.sound steady
