use Rattle.std.proofs.Common.{◌≡◌, ◌∙◌, sym, subst, length, take, ℕ, Some, rules}
use Rattle.tracing_appender_rolling.specs.folders.Contents.{Answer, Gives, is_open, on_file, taken, write_plain, written}
use Rattle.tracing_appender_rolling.specs.folders.Faulty.{faulty_contents, plan_of, number_after}
use Rattle.tracing_appender_rolling.specs.folders.Memory.{memory_contents}
use Rattle.tracing_appender_rolling.proofs.folders.FaultPlans.{file_gives, write_ignores, taken_free, part_written}
use Rattle.tracing_appender_rolling.proofs.folders.faulty.FaultyFolderFolder.write.Goals as goal

pub returns-clause-gives : goal.returns-clause-gives
returns-clause-gives c =
    let folder = c.args.self.now in
    let file = c.args.file in
    let bytes = c.args.bytes.now in
    let before = faulty_contents folder in
    let inner = memory_contents folder.inner in
    let left = memory_contents c.make.new.self.inner in
    let part = take (taken (on_file file before 0) (length bytes)) bytes in
    file_gives file (write_plain file part) (write_ignores file part) c.make.ensures.made (λ free called.
    let is : taken (before.coming 0) (length bytes) ≡ c.taken_of.result =
    taken_free (plan_of folder) (number_after folder.calls 0) (length bytes) free ∙ sym c.taken_of.ensures in
    let gives : Gives (λ x. written x file (take c.taken_of.result bytes)) (Some inner) c.make.result (Some left) = search rules in
    subst (λ (a : Answer ℕ). Gives (λ _. a) (Some inner) c.make.result (Some left))
    (part_written inner file bytes (before.coming 0) c.taken_of.result (is_open file inner) is) gives)
