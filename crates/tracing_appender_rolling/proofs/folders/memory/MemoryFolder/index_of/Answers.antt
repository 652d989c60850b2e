use Rattle.std.proofs.Common.{rules, tests, ◌∙◌, sym, Bool}
use Rattle.tracing_appender_rolling.specs.declared.folders.memory.MemoryFile.{MemoryFile}
use Rattle.tracing_appender_rolling.specs.folders.Contents.{has_name}
use Rattle.tracing_appender_rolling.specs.folders.Memory.{kept_of}
use Rattle.std.proofs.lemmas.Iterator.{YieldsList-from_slice}
use Rattle.std.proofs.lemmas.Iterator.Search.{position_from_yields_List}
use Rattle.std.proofs.lemmas.Iterator.Adapters.{position_from-zero}
use Rattle.tracing_appender_rolling.proofs.folders.FilesByName.{file_named-memory}
use Rattle.tracing_appender_rolling.proofs.folders.memory.MemoryFolder.index_of.Goals as goal

pub returns-clause-first : goal.returns-clause-first
returns-clause-first c =
    let files = c.args.self.now.files.items in
    let test : MemoryFile → Bool = λ m. has_name c.args.name.now (kept_of m) in
    position_from_yields_List test _ _ c.position.result c.position.ensures.ran
    (YieldsList-from_slice files (c.iter.ensures.rest ∙ c.deref.ensures.value)) (λ x b q k. search (rules, tests))
    ∙ position_from-zero test files ∙ sym (file_named-memory c.args.name.now files)
