use Rattle.std.proofs.Common.{sym, subst}
use Rattle.span_tracing_skeleton.specs.PlainData.{any_step}
use Rattle.span_tracing_laws.specs.runs.StepFollows.{skeleton_of}
use Rattle.span_tracing.specs.CarriedSteps.{IsMaskOf}
use Rattle.span_tracing.proofs.CarriedSteps.{Carried, any_carried, any_masked, mask_is}
use Rattle.span_tracing.proofs.carries_out.TraceTraceStackRoutedSinksAnySinkCarriesOut.carry_out.Goals as goal

pub returns-clause-gives : goal.returns-clause-gives
returns-clause-gives g c =
    let same = mask_is _ _ c.args.self.now c.step-reply.new.self (any_step c.args.step.now) c.step-reply.result c.asked_by-asked.result
    c.mask_of-mask.result (c.step-reply.ensures.follows c.requires).1 c.asked_by-asked.ensures c.mask_of-mask.ensures in (
      c.step-reply.ensures,
      same,
      subst (λ mask. IsMaskOf g.F.Filter c.args.self.now (any_step c.args.step.now) c.step-reply.result mask) (sym same)
          (any_masked _ _ _ _ _ _ _ _ c.plain_steps_follow.ensures c.args.self.now c.step-reply.new.self (any_step c.args.step.now)
          c.step-reply.result c.requires c.step-reply.ensures.gives),
    )

pub returns-clause-skeleton : goal.returns-clause-skeleton
returns-clause-skeleton g c =
    (subst (λ mask. Carried (skeleton_of c.args.self.now) (any_step c.args.step.now) c.step-reply.result mask
    (skeleton_of c.step-reply.new.self))
    (sym (mask_is _ _ c.args.self.now c.step-reply.new.self (any_step c.args.step.now) c.step-reply.result c.asked_by-asked.result
    c.mask_of-mask.result (c.step-reply.ensures.follows c.requires).1 c.asked_by-asked.ensures c.mask_of-mask.ensures))
    (any_carried _ _ _ _ _ _ _ _ c.plain_steps_follow.ensures c.args.self.now c.step-reply.new.self (any_step c.args.step.now)
    c.step-reply.result c.requires c.step-reply.ensures.gives (c.step-reply.ensures.follows c.requires).0)).left

pub returns-clause-reply : goal.returns-clause-reply
returns-clause-reply g c =
    (subst (λ mask. Carried (skeleton_of c.args.self.now) (any_step c.args.step.now) c.step-reply.result mask
    (skeleton_of c.step-reply.new.self))
    (sym (mask_is _ _ c.args.self.now c.step-reply.new.self (any_step c.args.step.now) c.step-reply.result c.asked_by-asked.result
    c.mask_of-mask.result (c.step-reply.ensures.follows c.requires).1 c.asked_by-asked.ensures c.mask_of-mask.ensures))
    (any_carried _ _ _ _ _ _ _ _ c.plain_steps_follow.ensures c.args.self.now c.step-reply.new.self (any_step c.args.step.now)
    c.step-reply.result c.requires c.step-reply.ensures.gives (c.step-reply.ensures.follows c.requires).0)).replied
