use Rattle.std.proofs.Common.{ap, sym, ◌∙◌, map, List, ℕ, ◌≡◌, false, set, string_bytes}
use Rattle.std.specs.Prelude.{is_some}
use Rattle.std.proofs.lemmas.List.{map-set}
use Rattle.tracing_appender_rolling.specs.folders.Contents.{file_named}
use Rattle.tracing_appender_rolling.specs.folders.Memory.{kept_of, link_of, memory_contents}
use Rattle.tracing_appender_rolling.proofs.folders.FaultPlans.{linked_over}
use Rattle.tracing_appender_rolling.proofs.folders.memory.MemoryFolderFolder.link.Goals as goal

pub returns-in-Some-clause-gives : goal.returns-in-Some-clause-gives
returns-in-Some-clause-gives c =
    let links = c.args.self.now.links.items in
    let free : is_some (file_named c.args.name.now (map kept_of c.args.self.now.files.items)) ≡ false =
    ap is_some (sym c.index_of.ensures.first) ∙ sym c.is_some.ensures ∙ c.if-is_some.false in
    linked_over (memory_contents c.args.self.now) _ c.args.name.now c.args.target.now c.in-Some.index free c.in-Some.ensures.first
    (map-set link_of links c.in-Some.index _ ∙
    ap (λ (n : List ℕ). set (map link_of links) c.in-Some.index (n, string_bytes c.in_ok-from_str-2.field-0))
    c.in_ok-from_str.ensures.ok ∙ ap (λ (t : List ℕ). set (map link_of links) c.in-Some.index (c.args.name.now, t))
    c.in_ok-from_str-2.ensures.ok)
