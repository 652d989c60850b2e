use Rattle.std.proofs.Common.{ap, sym, refl, ◌∙◌, ◌==◌, set, arith}
use Rattle.tracing_core.specs.TableRows.{KeptSubscriber}
use Rattle.tracing_core.specs.Handles.{most, one_more}
use Rattle.tracing_core.proofs.Subscribers.{entry_at, changed_at, entry_absent, absent_refusal, full_refusal, no_refusal, same_read}
use Rattle.tracing_core.proofs.hub.subscribers.take_handle.Goals as goal

pub returns-in_default-index_of-clause-answer : goal.returns-in_default-index_of-clause-answer
returns-in_default-index_of-clause-answer g c =
    rw (absent_refusal c.args.serial c.in-Some.serial c.args.subscribers.now c.in-Some.is
    (entry_absent c.in-Some.serial c.args.subscribers.now c.in_default-index_of.ensures)) refl

pub returns-in_default-index_of-clause-subscribers : goal.returns-in_default-index_of-clause-subscribers
returns-in_default-index_of-clause-subscribers g c =
    rw (absent_refusal c.args.serial c.in-Some.serial c.args.subscribers.now c.in-Some.is
    (entry_absent c.in-Some.serial c.args.subscribers.now c.in_default-index_of.ensures)) refl

pub returns-then-is_full-clause-answer : goal.returns-then-is_full-clause-answer
returns-then-is_full-clause-answer g c =
    let at = c.in-Some-index_of.ensures in
    let i = c.in-Some-index_of.index in
    let d = c.index-subscribers-index.result in
    let there = entry_at c.in-Some.serial c.args.subscribers.now i d at.0 (at.1 _) (λ k h. at.2 k _ (omega arith) h) in
    rw (full_refusal c.args.serial c.in-Some.serial c.args.subscribers.now c.in-Some.is _ there (sym c.is_full.ensures ∙ c.if-is_full.true))
    refl

pub returns-then-is_full-clause-subscribers : goal.returns-then-is_full-clause-subscribers
returns-then-is_full-clause-subscribers g c =
    let at = c.in-Some-index_of.ensures in
    let i = c.in-Some-index_of.index in
    let d = c.index-subscribers-index.result in
    let there = entry_at c.in-Some.serial c.args.subscribers.now i d at.0 (at.1 _) (λ k h. at.2 k _ (omega arith) h) in
    rw (full_refusal c.args.serial c.in-Some.serial c.args.subscribers.now c.in-Some.is _ there (sym c.is_full.ensures ∙ c.if-is_full.true))
    refl

pub returns-clause-answer : goal.returns-clause-answer
returns-clause-answer g c =
    let at = c.in-Some-index_of.ensures in
    let i = c.in-Some-index_of.index in
    let d = c.index-subscribers-index.result in
    let there = entry_at c.in-Some.serial c.args.subscribers.now i d at.0 (at.1 _) (λ k h. at.2 k _ (omega arith) h) in
    rw (no_refusal c.args.serial c.in-Some.serial c.args.subscribers.now c.in-Some.is _ there (sym c.is_full.ensures ∙ c.if-is_full.false))
    refl

pub returns-clause-subscribers : goal.returns-clause-subscribers
returns-clause-subscribers g c =
    let at = c.in-Some-index_of.ensures in
    let i = c.in-Some-index_of.index in
    let d = c.index-subscribers-index.result in
    let there = entry_at c.in-Some.serial c.args.subscribers.now i d at.0 (at.1 _) (λ k h. at.2 k _ (omega arith) h) in
    let more = changed_at c.in-Some.serial one_more c.args.subscribers.now i d at.0 (at.1 _) (λ k h. at.2 k _ (omega arith) h) in
    let after = c.add_handle.ensures ∙ ap one_more (same_read c.args.subscribers.now i c.index-subscribers-index-2.result d at.0) in
    rw (
      no_refusal c.args.serial c.in-Some.serial c.args.subscribers.now c.in-Some.is _ there (sym c.is_full.ensures ∙ c.if-is_full.false),
      c.in-Some.is,
    ) (ap (λ (e : KeptSubscriber g.row.S.Denot). set c.args.subscribers.now i e) after ∙ sym more)

pub add_handle-requires : goal.add_handle-requires
add_handle-requires g c = λ full.
    let i = c.in-Some-index_of.index in
    let d = c.index-subscribers-index.result in
    let same = same_read c.args.subscribers.now i c.index-subscribers-index-2.result d c.in-Some-index_of.ensures.0 in
    let room = ap (λ (e : KeptSubscriber g.row.S.Denot). e.handles == most) same ∙ sym c.is_full.ensures ∙ c.if-is_full.false in
    grind arith
