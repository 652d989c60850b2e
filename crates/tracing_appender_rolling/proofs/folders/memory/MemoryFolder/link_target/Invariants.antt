use Rattle.std.proofs.Common.{◌≡◌, drop, map}
use Rattle.tracing_appender_rolling.specs.folders.Memory.{link_of, target_at}
use Rattle.tracing_appender_rolling.proofs.folders.memory.MemoryFolder.link_target.Given as goal

abbrev pub invariant-loop-link : goal.invariant-loop-link
invariant-loop-link l = target_at (map link_of (drop l.link-index l.self.links.items)) l.name ≡ target_at (map link_of l.self.links.items)
    l.name
