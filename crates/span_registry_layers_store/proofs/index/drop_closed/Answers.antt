use Rattle.std.proofs.Common.{rules, ap, ◌∙◌, subst, sym}
use Rattle.std.proofs.lemmas.Fn.{filter_same}
use Rattle.span_registry_layers_store.specs.SpanSlots.{AreIndexed, entry_kin, leads, standing}
use Rattle.span_registry_layers_store.specs.Spans.{Rises}
use Rattle.span_registry_layers_store.proofs.IndexedSlots.{kept_indexed}
use Rattle.span_registry_layers_store.proofs.KeptEntries.{kept_rise, kept_standing}
use Rattle.span_registry_layers_store.proofs.index.drop_closed.Goals as goal

pub returns-clause-same : goal.returns-clause-same
returns-clause-same c =
    let is = filter_same _ (leads c.args.slots.now) _ (λ x b g called. search rules) _ _ c.retain.ensures.filtered in
    ap (standing c.args.slots.now) is ∙ kept_standing c.args.slots.now c.args.index.now.items

pub returns-clause-rise : goal.returns-clause-rise
returns-clause-rise c =
    let is = filter_same _ (leads c.args.slots.now) _ (λ x b g called. search rules) _ _ c.retain.ensures.filtered in
    subst (λ es. Rises entry_kin 0 es) (sym is) (kept_rise (leads c.args.slots.now) 0 c.args.index.now.items c.requires.rise)

pub returns-clause-indexed : goal.returns-clause-indexed
returns-clause-indexed c =
    let is = filter_same _ (leads c.args.slots.now) _ (λ x b g called. search rules) _ _ c.retain.ensures.filtered in
    subst (λ es. AreIndexed c.args.slots.now es) (sym is) (kept_indexed c.args.slots.now c.args.index.now.items c.requires.indexed)
