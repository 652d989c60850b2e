use Rattle.std.specs.Prelude.{◌≡◌, map, true, [], List, ℕ, Vec}
use Rattle.std.specs.declared.alloc.Global.{Global}
use Rattle.tracing_appender_queue.specs.declared.queued.waiting.Waiting.TheInside.{Inside}
use Rattle.tracing_appender_queue.specs.queued.LineFates.{WaitingLines}

abbrev pub bytes_of : List (Vec ℕ Global) → List (List ℕ)
bytes_of lines = map (λ (l : Vec ℕ Global). l.items) lines

abbrev pub waiting_of : Inside → WaitingLines
waiting_of s = record { queue = s.queue; held = bytes_of s.held.items; lost = s.lost; missed = s.missed }

-- a lossy queue holds no line
abbrev pub IsWaiting : Inside → Type 0
IsWaiting s = s.queue.lossy ≡ true → s.held.items ≡ []
