-- Entries as contracts see them.
use Rattle.std.specs.Prelude.{List, map, string_bytes, Result, Ok, Err, Vec}
use Rattle.std.specs.declared.alloc.Global.{Global}
use Rattle.tracing_appender_rolling.specs.declared.folders.fault.Entry.{Entry}
use Rattle.tracing_appender_rolling.specs.declared.folders.fault.FolderError.{FolderError}
use Rattle.tracing_appender_rolling.specs.folders.Contents.{Listed}

abbrev pub listed_of : Entry → Listed
listed_of e = record { name = string_bytes e.name; plain = e.plain; created = e.created }

abbrev pub listed_all : Result (Vec Entry Global) FolderError → Result (List Listed) FolderError
listed_all (Ok v) = Ok (map listed_of v.items)
listed_all (Err e) = Err e
