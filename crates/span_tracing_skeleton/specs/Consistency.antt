-- A subscriber that answers as it did.
use Rattle.tracing_core_fields.specs.requests.Steady.{SameWord}
use Rattle.tracing_core_fields.specs.declared.requests.subscriber.Subscriber.{Ghosts}

-- the later value is consistent where the earlier one is, and says the same of its interests, and of its hint
abbrev pub StaysConsistent : {T : Type 0} → Ghosts T → T → T → Type 0
StaysConsistent g x y = g.steady x → g.steady y × SameWord (g.says x) (g.says y) (g.hint x) (g.hint y)
