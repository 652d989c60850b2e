use Rattle.std.proofs.Common.{◌≡◌, map, take, ◌++◌}
use Rattle.std.specs.List.{filter}
use Rattle.tracing_appender_rolling.specs.folders.Contents.{begins_with}
use Rattle.tracing_appender_rolling.specs.folders.ListedEntries.{listed_of}
use Rattle.tracing_appender_rolling.specs.folders.Memory.{files_listed, links_listed}
use Rattle.tracing_appender_rolling.proofs.folders.memory.MemoryFolder.entries.Given as goal

abbrev pub invariant-loop-file : goal.invariant-loop-file
invariant-loop-file l = map listed_of l.all.items ≡ filter (begins_with l.prefix) (files_listed (take l.file-index l.self.files.items))

abbrev pub invariant-loop-link : goal.invariant-loop-link
invariant-loop-link l = map listed_of l.all.items ≡ filter (begins_with l.prefix) (files_listed l.self.files.items ++
    links_listed (take l.link-index l.self.links.items))
