use Rattle.std.proofs.Common.{Result, Ok, Err, ap, subst}
use Rattle.tracing_core_fields.specs.Metadata.{plain_metadata}
use Rattle.tracing_core_fields.specs.requests.Interests.{PlainInterest}
use Rattle.tracing_core.specs.declared.refusal.RegisterError.{RegisterError}
use Rattle.span_tracing_skeleton.specs.declared.refusal.Refusal.{Refusal}
use Rattle.span_tracing_steps.specs.Setup.{RegisterGives, own_at}
use Rattle.span_tracing_steps.specs.States.{value_in}
use Rattle.span_tracing_steps.specs.declared.callsite.TraceCallsite.{TraceCallsite}
use Rattle.span_tracing_steps.proofs.Registration.{register_sound, registers, told}
use Rattle.span_tracing_steps.proofs.parts.TraceParts.register.Goals as goal

pub returns-in-Ok-register-clause-sound : goal.returns-in-Ok-register-clause-sound
returns-in-Ok-register-clause-sound g c =
    register_sound g.T.Subscriber c.args.self.now c.register.new.self c.in-Ok.callsite (Ok c.in-Ok-register.interest) c.requires
    c.in-Ok-register.ensures.gives c.in-Ok-register.ensures.keeps

pub returns-in-Ok-register-clause-gives : goal.returns-in-Ok-register-clause-gives
returns-in-Ok-register-clause-gives g c =
    registers g.T.Subscriber (value_in c.args.self.now) c.register.new.self c.in-Ok.callsite
    (own_at c.args.identifier.0 (plain_metadata c.args.metadata.now)) (Ok c.in-Ok-register.interest) c.in-Ok.ensures
    c.in-Ok-register.ensures.gives

pub returns-in-Err-Taken-clause-sound : goal.returns-in-Err-Taken-clause-sound
returns-in-Err-Taken-clause-sound g c =
    register_sound g.T.Subscriber c.args.self.now c.register.new.self c.in-Ok.callsite (Err c.in-Err-Taken.field-0) c.requires
    c.in-Err-Taken.ensures.gives c.in-Err-Taken.ensures.keeps

pub returns-in-Err-Taken-clause-gives : goal.returns-in-Err-Taken-clause-gives
returns-in-Err-Taken-clause-gives g c =
    subst (λ (r : Result PlainInterest Refusal). RegisterGives g.T.Subscriber (value_in c.args.self.now)
    (own_at c.args.identifier.0 (plain_metadata c.args.metadata.now)) r (record (value_in c.args.self.now) { hub = c.register.new.self }))
    (ap (λ (e : RegisterError TraceCallsite). told (Err e)) c.in-Err-Taken.field-0-is)
    (registers g.T.Subscriber (value_in c.args.self.now) c.register.new.self c.in-Ok.callsite
    (own_at c.args.identifier.0 (plain_metadata c.args.metadata.now)) (Err c.in-Err-Taken.field-0) c.in-Ok.ensures
    c.in-Err-Taken.ensures.gives)

pub returns-clause-sound : goal.returns-clause-sound
returns-clause-sound g c =
    register_sound g.T.Subscriber c.args.self.now c.register.new.self c.in-Ok.callsite (Err c.in-Err-OutOfMemory.field-0) c.requires
    c.in-Err-OutOfMemory.ensures.gives c.in-Err-OutOfMemory.ensures.keeps

pub returns-clause-gives : goal.returns-clause-gives
returns-clause-gives g c =
    subst (λ (r : Result PlainInterest Refusal). RegisterGives g.T.Subscriber (value_in c.args.self.now)
    (own_at c.args.identifier.0 (plain_metadata c.args.metadata.now)) r (record (value_in c.args.self.now) { hub = c.register.new.self }))
    (ap (λ (e : RegisterError TraceCallsite). told (Err e)) c.in-Err-OutOfMemory.field-0-is)
    (registers g.T.Subscriber (value_in c.args.self.now) c.register.new.self c.in-Ok.callsite
    (own_at c.args.identifier.0 (plain_metadata c.args.metadata.now)) (Err c.in-Err-OutOfMemory.field-0) c.in-Ok.ensures
    c.in-Err-OutOfMemory.ensures.gives)
