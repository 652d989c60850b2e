use Rattle.std.proofs.Common.{◌≡◌, List, Some, set, ap, sym, ◌∙◌, refl}
use Rattle.tracing_core.specs.TableRows.{KeptSubscriber}
use Rattle.tracing_core.specs.Handles.{one_less}
use Rattle.tracing_core.proofs.Subscribers.{entry_at, changed_at, without_at, absent_at, absent_given, last_given, more_given, pair_is}
use Rattle.tracing_core.proofs.Subscribers.{found_at, same_read}
use Rattle.tracing_core.proofs.hub.subscribers.give_back.Goals as goal

pub returns-in_default-index_of : goal.returns-in_default-index_of
returns-in_default-index_of g c =
    sym (absent_given c.args.serial c.in-Some.serial c.args.subscribers.now.items c.in-Some.is
    (absent_at c.in-Some.serial c.deref.result.now c.args.subscribers.now.items c.deref.ensures.value c.in_default-index_of.ensures))

pub returns-then-has_last_handle : goal.returns-then-has_last_handle
returns-then-has_last_handle g c =
    let es : List (KeptSubscriber g.row.S.Denot) = c.args.subscribers.now.items in
    let e = c.remove.result in
    let i = c.in-Some-index_of.index in
    let s = c.in-Some.serial in
    let at = found_at s c.deref.result.now es i e c.deref.ensures.value c.in-Some-index_of.ensures in
    let gone = without_at s es i e at.0 at.1 at.2 in
    let here = found_at s c.deref.result.now es i c.index.result.now c.deref.ensures.value c.in-Some-index_of.ensures in
    let same = entry_at s es i c.index.result.now here.0 here.1 here.2 in
    let last = last_given c.args.serial s es c.in-Some.is c.index.result.now (same ∙ ap Some (sym c.index.ensures))
    (sym c.has_last_handle.ensures ∙ c.if-has_last_handle.true) in
    let taken : e ≡ c.index.result.now = c.remove.ensures.value ∙ same_read es i e c.index.result.now at.0 ∙ sym c.index.ensures in
    pair_is _ _ _ _ (ap (λ (s : g.row.S.Denot). Some s) c.into_subscriber.ensures ∙
    ap (λ (x : KeptSubscriber g.row.S.Denot). Some x.subscriber) taken) (c.remove.ensures.items ∙ sym gone) ∙ sym last

pub returns : goal.returns
returns g c =
    let es : List (KeptSubscriber g.row.S.Denot) = c.args.subscribers.now.items in
    let e = c.index_mut.result.now in
    let i = c.in-Some-index_of.index in
    let s = c.in-Some.serial in
    let at = found_at s c.deref.result.now es i e c.deref.ensures.value c.in-Some-index_of.ensures in
    let fewer = changed_at s one_less es i e at.0 at.1 at.2 in
    let here = found_at s c.deref.result.now es i c.index.result.now c.deref.ensures.value c.in-Some-index_of.ensures in
    let same = entry_at s es i c.index.result.now here.0 here.1 here.2 in
    let more = more_given c.args.serial s es c.in-Some.is c.index.result.now (same ∙ ap Some (sym c.index.ensures))
    (sym c.has_last_handle.ensures ∙ c.if-has_last_handle.false) in
    pair_is _ _ _ _ refl (ap (λ (x : KeptSubscriber g.row.S.Denot). set es i x) c.drop_handle.ensures ∙
    ap (λ (x : KeptSubscriber g.row.S.Denot). set es i (one_less x)) c.index_mut.ensures.value ∙ sym fewer) ∙ sym more
