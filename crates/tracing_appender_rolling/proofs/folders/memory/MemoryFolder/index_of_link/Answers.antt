use Rattle.std.proofs.Common.{rules, tests, ◌∙◌, sym, Bool, string_bytes}
use Rattle.std.specs.Str.{bytes_eq}
use Rattle.tracing_appender_rolling.specs.declared.folders.memory.MemoryLink.{MemoryLink}
use Rattle.std.proofs.lemmas.Iterator.{YieldsList-from_slice}
use Rattle.std.proofs.lemmas.Iterator.Search.{position_from_yields_List}
use Rattle.std.proofs.lemmas.Iterator.Adapters.{position_from-zero}
use Rattle.tracing_appender_rolling.proofs.folders.FilesByName.{link_place-memory}
use Rattle.tracing_appender_rolling.proofs.folders.memory.MemoryFolder.index_of_link.Goals as goal

pub returns-clause-first : goal.returns-clause-first
returns-clause-first c =
    let links = c.args.self.now.links.items in
    let test : MemoryLink → Bool = λ m. bytes_eq (string_bytes m.name) c.args.name.now in
    position_from_yields_List test _ _ c.position.result c.position.ensures.ran
    (YieldsList-from_slice links (c.iter.ensures.rest ∙ c.deref.ensures.value)) (λ x b q k. search (rules, tests))
    ∙ position_from-zero test links ∙ sym (link_place-memory c.args.name.now links)
