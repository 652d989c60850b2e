use Rattle.std.proofs.Common.{subst}
use Rattle.span_registry_layers_layers.specs.Trees.{AttachGives}
use Rattle.span_registry_layers_layers.proofs.FurtherLayer.{joins}
use Rattle.span_registry_layers_layers.proofs.layer.ext.Layered+M+Registry.with.Goals as goal

pub returns-in-Ok : goal.returns-in-Ok
returns-in-Ok g c =
    joins g.L.Layer g.M.Layer c.args.layer c.args.self c.in-Ok.field-0 c.new.result c.new-in-Ok.result
    (subst (AttachGives g.L.Layer c.args.layer c.args.self.inner) c.in-Ok.is c.attach.ensures)
    c.new.ensures.0 c.new.ensures.1 c.new-in-Ok.ensures.0 c.new-in-Ok.ensures.1
