use Rattle.std.proofs.Common.{ap, sym, ◌∙◌, refl, arith, set, length}
use Rattle.std.proofs.lemmas.Option.{slice_get_past, get_or_from_slice_get}
use Rattle.tracing_core.specs.TableRows.{KeptSubscriber}
use Rattle.tracing_core.proofs.Subscribers.{changed_at, changed_absent, inside_none, place_is, absent_at}
use Rattle.tracing_core.proofs.hub.lending.index_or_end.Goals as goal

pub returns-in-None : goal.returns-in-None
returns-in-None g c =
    let es = c.args.subscribers.now in
    let past = slice_get_past es (length es) (omega arith) in (
      past ∙ sym (rw c.in-Some.is (absent_at c.in-Some.serial es es refl c.in-None.ensures)),
      λ f none. rw c.in-Some.is (changed_absent c.in-Some.serial f es c.in-None.ensures),
      λ f e there. absurd (cc),
    )

pub returns-in-Some-index_of : goal.returns-in-Some-index_of
returns-in-Some-index_of g c =
    let es = c.args.subscribers.now in
    let i = c.in-Some-index_of.index in
    let found = c.in-Some-index_of.ensures in (
      place_is c.in-Some.serial es i found ∙ sym (rw c.in-Some.is refl),
      λ f none. absurd (inside_none es i found.0 none),
      λ f e there. rw c.in-Some.is (changed_at c.in-Some.serial f es i e found.0 (found.1 e) (λ k h. found.2 k e (omega arith) h) ∙
          ap (λ (x : KeptSubscriber g.row.S.Denot). set es i (f x)) (get_or_from_slice_get es i e e there)),
    )
