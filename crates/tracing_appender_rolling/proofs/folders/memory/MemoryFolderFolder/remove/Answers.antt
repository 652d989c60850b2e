use Rattle.std.proofs.Common.{ap, refl, Some, List}
use Rattle.tracing_appender_rolling.specs.folders.Memory.{memory_contents}
use Rattle.tracing_appender_rolling.specs.folders.Contents.{StoredFile}
use Rattle.tracing_appender_rolling.proofs.folders.FilesByName.{unnamed-kept}
use Rattle.tracing_appender_rolling.proofs.folders.memory.MemoryFolderFolder.remove.Goals as goal

pub returns-in-Some-clause-gives : goal.returns-in-Some-clause-gives
returns-in-Some-clause-gives c =
    let before = memory_contents c.args.self.now in
    rw (← c.in-Some.ensures.first) (
      refl,
      ap (λ (fs : List StoredFile). Some (record before { files = fs }))
          (unnamed-kept c.args.self.now.files.items c.in-Some.index c.index_mut.result.now _ c.in-Some.ensures.within
          c.index_mut.ensures.value refl),
    )
