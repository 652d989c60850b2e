use Rattle.std.proofs.Common.{sym, ◌∙◌, arith, ap, refl, Some, List}
use Rattle.std.proofs.lemmas.List.{length-map}
use Rattle.tracing_appender_rolling.specs.folders.Contents.{StoredFile}
use Rattle.tracing_appender_rolling.specs.folders.Memory.{memory_contents}
use Rattle.std.proofs.lemmas.Result.{err_from_is_err_and}
use Rattle.tracing_appender_rolling.proofs.FaultlessFolder.{written_open}
use Rattle.tracing_appender_rolling.proofs.folders.FilesByName.{appended-kept, appended_past, kept-set}
use Rattle.tracing_appender_rolling.proofs.folders.memory.MemoryFolderFolder.write.Goals as goal

pub returns-in_err-extend_from_slice-clause-gives : goal.returns-in_err-extend_from_slice-clause-gives
returns-in_err-extend_from_slice-clause-gives c =
    let p = err_from_is_err_and c.from_residual.result c.from_residual.ensures.1 in
    let before = memory_contents c.args.self.now in
    rw (p.1, p.2) (ap (λ (fs : List StoredFile). Some (record before { files = fs }))
    (kept-set c.args.self.now.files.items c.args.file.index c.index_mut.result.now _ (omega arith) c.index_mut.ensures.value
    (rw c.in_err-extend_from_slice.ensures.items)))

pub returns-in_ok-extend_from_slice-clause-gives : goal.returns-in_ok-extend_from_slice-clause-gives
returns-in_ok-extend_from_slice-clause-gives c =
    let before = memory_contents c.args.self.now in
    rw (written_open before c.args.file c.args.bytes.now (λ n. refl) (sym c.is_open.ensures ∙ c.if-not-is_open.false)) (
      refl,
      ap (λ (fs : List StoredFile). Some (record before { files = fs }))
          (appended-kept c.args.self.now.files.items c.args.file.index c.index_mut.result.now _ _ (omega arith) c.index_mut.ensures.value
          (rw c.in_ok-extend_from_slice.ensures.items refl)),
    )

pub returns-else-file-len-clause-gives : goal.returns-else-file-len-clause-gives
returns-else-file-len-clause-gives c =
    let before = memory_contents c.args.self.now in
    rw (written_open before c.args.file c.args.bytes.now (λ n. refl) (sym c.is_open.ensures ∙ c.if-not-is_open.false))
    (refl, ap (λ (fs : List StoredFile). Some (record before { files = fs })) (sym (appended_past _ _ _ (rw length-map (omega arith)))))
