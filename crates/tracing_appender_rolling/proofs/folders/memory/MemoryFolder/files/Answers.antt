use Rattle.std.proofs.Common.{◌<◌, length, arith, ap}
use Rattle.tracing_appender_rolling.proofs.folders.SortedEntries.{listed_none, listed_skip, listed_add}
use Rattle.tracing_appender_rolling.proofs.folders.memory.MemoryFolder.files.Goals as goal
use Rattle.tracing_appender_rolling.proofs.folders.memory.MemoryFolder.files.Goals.{then-file+in_ok-add_entry, else-file}

pub loop-file-init : goal.loop-file-init
loop-file-init c = rw c.new-entries.ensures.items (listed_none c.args.self.now.files.items)

pub loop-file-preserved : goal.loop-file-preserved
loop-file-preserved c =
    let files = c.args.self.now.files.items in
    let same = c.deref-file-items.ensures.value in
    let lt : c.loop-file.file-index < length files = omega (arith, ap length same) in
    let item = rw same at c.file-item.is in
    elim c.if-file.branch [
      | then-file+in_ok-add_entry w ↦ rw w.entries-is
          (listed_add files c.loop-file.file-index c.loop-file.entries.items _ c.file-item.result _ c.loop-file.invariant lt item
          w.if-file.true w.as_str.ensures.value w.as_slice.ensures.value w.in_ok-add_entry.ensures)
      | else-file w ↦ rw w.entries-is (listed_skip files c.loop-file.file-index c.loop-file.entries.items c.file-item.result
          c.loop-file.invariant lt item w.if-file.false)
    ]
