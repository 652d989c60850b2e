use Rattle.span_registry_layers.specs.Stacks.{plain_stack}
use Rattle.span_registry_layers.proofs.parts.StackParts+Filtered+L+F.tell.Goals as goal

pub returns : goal.returns
returns g c = (plain_stack c.ask_event.new.self, c.ask_event.ensures, c.tell_event.ensures)
