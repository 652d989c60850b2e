use Rattle.std.proofs.Common.{◌≡◌, ◌∙◌, sym, ap, true, false, refl, Some, List, ℕ, ◌==◌}
use Rattle.std.specs.Prelude.{is_some}
use Rattle.tracing_appender_rolling.specs.folders.Contents.{is_open, close_plain}
use Rattle.tracing_appender_rolling.specs.folders.Memory.{memory_contents}
use Rattle.tracing_appender_rolling.proofs.FaultlessFolder.{removed_first, passes, done_open, not_open}
use Rattle.tracing_appender_rolling.proofs.folders.memory.MemoryFolderFolder.close_file.Goals as goal

pub returns-in-Some-clause-gives : goal.returns-in-Some-clause-gives
returns-in-Some-clause-gives c =
    let before = memory_contents c.args.self.now in
    let file = c.args.file in
    let numbers = before.open_files in
    let is : is_open file before ≡ true = passes (λ m. m == file.index) numbers 0 ∙ ap is_some (sym c.in-Some.ensures.first) in
    rw (done_open before file (close_plain file before) (λ n. refl) is) (
      refl,
      ap (λ (ns : List ℕ). Some (record before { open_files = ns })) (c.remove.ensures.items ∙
          removed_first (λ m. m == file.index) numbers c.in-Some.place (sym c.in-Some.ensures.first)),
    )

pub returns-in-None-clause-gives : goal.returns-in-None-clause-gives
returns-in-None-clause-gives c =
    let before = memory_contents c.args.self.now in
    let file = c.args.file in
    let shut : is_open file before ≡ false = passes (λ m. m == file.index) before.open_files 0 ∙ ap is_some (sym c.in-None.ensures.first) in
    rw (c.refuse.ensures.result, not_open before file (close_plain file before) (λ n. refl) shut) (refl, ap Some c.refuse.ensures.same)
