use Rattle.std.proofs.Common.{ap, sym, subst, ◌∙◌, arith, List}
use Rattle.std.proofs.lemmas.List.{with_items_is}
use Rattle.tracing_core.specs.InterestsAndHints.{Each, RowAsked}
use Rattle.tracing_core.specs.Indices.{index_among}
use Rattle.tracing_core.specs.HubInvariant.{AreDistinct, identifiers}
use Rattle.tracing_core.specs.TableRows.{KeptCallsite}
use Rattle.tracing_core.proofs.Callsites.{asked_identifiers}
use Rattle.tracing_core.proofs.hub.callsites.Callsites.ask_each.Goals as goal

pub invariant_of-self : goal.invariant_of-self
invariant_of-self g c =
    let whole = with_items_is c.self.inside.callsites c.ask_callsites.new.callsites (omega arith) in
    let asked = asked_identifiers g.S.Subscriber g.C.Callsite c.args.all _ _ _ _ c.ask_callsites.ensures.1 in
    let same =
    ap (λ (callsites : List (KeptCallsite g.row.C.Denot)). identifiers callsites) (sym c.deref_mut.ensures.value) ∙ sym asked
    ∙ ap (λ (callsites : List (KeptCallsite g.row.C.Denot)). identifiers callsites) (sym whole) in
    (λ n. c.self.invariant.0 n ∙ ap (index_among n) same, subst AreDistinct same c.self.invariant.1)

pub returns : goal.returns
returns g c =
    let whole = with_items_is c.self.inside.callsites c.ask_callsites.new.callsites (omega arith) in
    let count = c.ask_callsites.ensures.0 in
    let asked = Each (RowAsked g.S.Subscriber g.C.Callsite c.args.all) (0, c.args.subscribers.now) in (
      count,
      subst (λ (later : List (KeptCallsite g.row.C.Denot)). asked c.args.self.now later (count, c.ask_callsites.new.subscribers)) (sym whole)
          (subst (λ (before : List (KeptCallsite g.row.C.Denot)). asked before c.ask_callsites.new.callsites
          (count, c.ask_callsites.new.subscribers)) (c.deref_mut.ensures.value ∙ c.self.view_is) c.ask_callsites.ensures.1),
    )
