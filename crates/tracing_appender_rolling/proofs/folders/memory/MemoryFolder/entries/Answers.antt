use Rattle.std.proofs.Common.{◌<◌, ◌≤◌, ◌++◌, sym, ap, ◌∙◌, length, arith, true, false, List, [], ◌∷◌}
use Rattle.std.specs.List.{filter}
use Rattle.std.proofs.lemmas.List.{take_all, append-nil}
use Rattle.tracing_appender_rolling.specs.folders.Contents.{Listed, listed_file, listed_link, begins_with}
use Rattle.tracing_appender_rolling.specs.folders.Memory.{kept_of, link_of, files_listed, links_listed}
use Rattle.tracing_appender_rolling.proofs.folders.FilesByName.{some_files_more, some_links_more, listing_is}
use Rattle.tracing_appender_rolling.proofs.folders.memory.MemoryFolder.entries.Goals as goal
use Rattle.tracing_appender_rolling.proofs.folders.memory.MemoryFolder.entries.Goals.{then-file+in_ok-add_listed, else-file}

pub loop-file-preserved : goal.loop-file-preserved
loop-file-preserved c =
    let files = c.args.self.now.files.items in
    let same = c.deref-file-items.ensures.value in
    let lt : c.loop-file.file-index < length files = omega (arith, ap length same) in
    let item = rw same at c.file-item.is in
    let more = some_files_more (begins_with c.args.prefix.now) files c.loop-file.file-index c.file-item.result in
    elim c.if-file.branch [
      | then-file+in_ok-add_listed w ↦ rw w.all-is (w.in_ok-add_listed.ensures
          ∙ ap (λ (xs : List Listed). xs ++ filter (begins_with c.args.prefix.now) (listed_file (kept_of c.file-item.result) ∷ []))
          c.loop-file.invariant
          ∙ sym (more true lt item w.if-file.true))
      | else-file w ↦ rw w.all-is (c.loop-file.invariant ∙ sym (more false lt item w.if-file.false ∙ append-nil _))
    ]

pub loop-link-preserved : goal.loop-link-preserved
loop-link-preserved c =
    let links = c.args.self.now.links.items in
    let same = c.deref-link-items.ensures.value in
    let lt : c.loop-link.link-index < length links = omega (arith, ap length same) in
    let item = rw same at c.link-item.is in
    c.in_ok-add_listed-2.ensures
    ∙ ap (λ (xs : List Listed). xs ++ filter (begins_with c.args.prefix.now) (listed_link (link_of c.link-item.result) ∷ []))
    c.loop-link.invariant
    ∙ sym (some_links_more (begins_with c.args.prefix.now) (files_listed c.args.self.now.files.items) links c.loop-link.link-index
    c.link-item.result lt item)

pub returns : goal.returns
returns c =
    let le : length c.args.self.now.links.items ≤ c.loop-link.link-index = omega (arith, ap length c.deref-link-items.ensures.value) in
    c.loop-link.invariant
    ∙ ap (λ ls. filter (begins_with c.args.prefix.now) (files_listed c.args.self.now.files.items ++ links_listed ls))
    (take_all c.loop-link.link-index c.args.self.now.links.items le)
    ∙ ap (filter (begins_with c.args.prefix.now)) (sym (listing_is c.args.self.now))
