use Rattle.std.proofs.Common.{◌≡◌, ◌++◌, ◌∷◌, [], ap, arith, ◌∙◌}
use Rattle.span_tracing_skeleton.specs.PlainData.{any_step}
use Rattle.span_tracing_shared.specs.Entries.{plain_journal}
use Rattle.span_tracing_shared.proofs.Journals.{entered, entry, replays_more}
use Rattle.span_tracing_shared.proofs.book.Book.perform.Goals as goal

pub invariant_of-self-2 : goal.invariant_of-self-2
invariant_of-self-2 g c =
    let did = c.carry_out-reply in
    let e = entry c.args.seat.now.lane (any_step c.args.step.now) did.result.0 did.result.1 in
    let longer : plain_journal c.push_reserved.new.self.items ≡ plain_journal c.self.inside.journal.items ++ e ∷ [] =
    entered c.self.inside.journal.items c.reserve.new.self.items c.push_reserved.new.self.items _ (any_step c.args.step.now)
    did.result.0 c.push_reserved.ensures.items c.reserve.ensures.items (ap any_step c.in_ok-kept.ensures.ok ∙ c.in_ok-copy.ensures.cases) c.again.ensures in
    let added = c.add.ensures.total in
    let pushed = c.push_reserved.ensures.len in
    let reserved = c.reserve.ensures.len in
    let counted = c.self.invariant.2 in (
      rw longer (
          replays_more (g.T.CarriesOut.skeleton c.self.inside.trace) (g.T.CarriesOut.skeleton did.new.self)
          (g.T.CarriesOut.copied c.self.inside.start) (plain_journal c.self.inside.journal.items) e c.self.invariant.0
          did.ensures.skeleton did.ensures.reply),
      did.ensures.ready,
      omega arith,
      c.self.invariant.3,
      c.self.invariant.4,
    )

pub returns-clause-did : goal.returns-clause-did
returns-clause-did g c =
    let did = c.carry_out-reply in
    rw (← c.self.view_is) (
      did.result.1,
      entered c.self.inside.journal.items c.reserve.new.self.items c.push_reserved.new.self.items _ (any_step c.args.step.now)
          did.result.0 c.push_reserved.ensures.items c.reserve.ensures.items (ap any_step c.in_ok-kept.ensures.ok ∙ c.in_ok-copy.ensures.cases) c.again.ensures,
      did.ensures.gives,
      did.ensures.skeleton,
      did.ensures.reply,
    )
