-- A listener as a layer.
use Rattle.std.specs.Prelude.{◌≡◌}
use Rattle.span_registry_layers_layers.specs.Notices.{Attached, Called, Dispatched, Notice}
use Rattle.span_registry_layers_layers.specs.declared.layer.listening.Listener.{Ghosts}
use Rattle.span_registry_layers_layers.specs.declared.layer.listening.Listening.{Listening}

module _ {T : Type 0} (g : Ghosts T) where
  -- the listener hears of spans and events alone
  abbrev pub Listens : Listening T → Notice → Listening T → Type 0
  Listens x (Called said v left) y = g.heard x.listener (Called said v left) y.listener
  Listens x (Dispatched handle) y = y ≡ x
  Listens x (Attached r) y = y ≡ x
