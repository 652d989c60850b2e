use Rattle.std.proofs.Common.{◌<◌, ◌≤◌, arith, refl, subst, vec_len}
use Rattle.span_tracing_outputs.specs.sinks.AnySinks.{CallsAny}
use Rattle.span_tracing_outputs.proofs.CalledSinks.{reached, unreached}
use Rattle.span_tracing_outputs.proofs.sinks.routed.RoutedSinks+AnySink+D+Q.drive.Goals as goal

pub returns-then-number-len : goal.returns-then-number-len
returns-then-number-len g c =
    let inside : c.args.number < vec_len c.self.inside.sinks = subst (λ k. c.args.number < k) c.len.ensures c.if-number-len.true in
    rw (← c.self.view_is) (
      refl,
      reached (λ s r t. CallsAny g.D.Folder.contents g.D.Folder.failed s c.args.call r t) c.args.number c.self.inside.sinks.items
          c.index_mut.result.now
          c.drive.new.self c.drive.result (omega (arith, inside))
          (subst (λ s. CallsAny g.D.Folder.contents g.D.Folder.failed s c.args.call c.drive.result c.drive.new.self)
          c.index_mut.ensures.value c.drive.ensures),
    )

pub returns-else-number-len : goal.returns-else-number-len
returns-else-number-len g c =
    let past : vec_len c.self.inside.sinks ≤ c.args.number = subst (λ k. k ≤ c.args.number) c.len.ensures c.if-number-len.false in
    rw (← c.self.view_is) (
      refl,
      unreached (λ s r t. CallsAny g.D.Folder.contents g.D.Folder.failed s c.args.call r t) c.args.number c.self.inside.sinks.items
          (omega (arith, past)),
    )
