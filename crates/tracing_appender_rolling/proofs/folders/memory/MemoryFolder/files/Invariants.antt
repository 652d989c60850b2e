use Rattle.tracing_appender_rolling.proofs.folders.SortedEntries.{Listed}
use Rattle.tracing_appender_rolling.proofs.folders.memory.MemoryFolder.files.Given as goal

abbrev pub invariant-loop-file : goal.invariant-loop-file
invariant-loop-file l = Listed l.self.files.items l.file-index l.entries.items
