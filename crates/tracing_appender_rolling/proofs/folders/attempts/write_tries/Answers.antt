use Rattle.std.proofs.Common.{◌≡◌, ◌+◌, ◌-◌, suc, Ok, Err, refl, subst, arith}
use Rattle.tracing_appender_rolling.specs.declared.folders.attempts.Attempt.TheVariants.{Took, Failed}
use Rattle.tracing_appender_rolling.proofs.folders.InterruptedAttempts.{TriesLeft, all_left, one_less, decides, none_left}
use Rattle.tracing_appender_rolling.proofs.folders.attempts.write_tries.Goals as goal

pub loop-init : goal.loop-init
loop-init g c = all_left 1001 c.args.bytes.now (g.A.Attempts.coming c.args.file.now)

pub returns-in-Took-clause-first : goal.returns-in-Took-clause-first
returns-in-Took-clause-first g c =
    let start = g.A.Attempts.coming c.args.file.now in
    let now = g.A.Attempts.coming c.loop.file in
    let one : 1001 - c.loop.counter ≡ suc (1001 - (c.loop.counter + 1)) = omega (arith, c.loop-test.true) in
    decides 1001 c.args.bytes.now (1001 - (c.loop.counter + 1)) start now _ (Took c.in-Took.taken) (Ok c.in-Took.taken)
    (λ coming more. refl)
    (subst (λ n. TriesLeft 1001 n c.args.bytes.now start now) one c.loop.invariant) c.in-Took.ensures.gives

pub returns-in-Failed-clause-first : goal.returns-in-Failed-clause-first
returns-in-Failed-clause-first g c =
    let start = g.A.Attempts.coming c.args.file.now in
    let now = g.A.Attempts.coming c.loop.file in
    let one : 1001 - c.loop.counter ≡ suc (1001 - (c.loop.counter + 1)) = omega (arith, c.loop-test.true) in
    decides 1001 c.args.bytes.now (1001 - (c.loop.counter + 1)) start now _ (Failed c.in-Failed.error) (Err c.in-Failed.error)
    (λ coming more. refl)
    (subst (λ n. TriesLeft 1001 n c.args.bytes.now start now) one c.loop.invariant) c.in-Failed.ensures.gives

pub loop-preserved : goal.loop-preserved
loop-preserved g c =
    let start = g.A.Attempts.coming c.args.file.now in
    let now = g.A.Attempts.coming c.loop.file in
    let one : 1001 - c.loop.counter ≡ suc (1001 - (c.loop.counter + 1)) = omega (arith, c.loop-test.true) in
    one_less 1001 c.args.bytes.now (1001 - (c.loop.counter + 1)) start now _
    (subst (λ n. TriesLeft 1001 n c.args.bytes.now start now) one c.loop.invariant) c.in-Interrupted.ensures.gives

pub returns-clause-first : goal.returns-clause-first
returns-clause-first g c =
    let start = g.A.Attempts.coming c.args.file.now in
    let now = g.A.Attempts.coming c.loop.file in
    let none : 1001 - c.loop.counter ≡ 0 = omega (arith, c.loop-test.false) in
    none_left 1001 c.args.bytes.now start now (subst (λ n. TriesLeft 1001 n c.args.bytes.now start now) none c.loop.invariant)
