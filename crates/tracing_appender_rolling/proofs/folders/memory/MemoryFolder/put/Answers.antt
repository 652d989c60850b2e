use Rattle.std.proofs.Common.{refl}
use Rattle.tracing_appender_rolling.proofs.folders.Puts.{put_over, put_new, placed_over}
use Rattle.tracing_appender_rolling.proofs.folders.memory.MemoryFolder.put.Goals as goal

pub returns-in-Some-clause-ok : goal.returns-in-Some-clause-ok
returns-in-Some-clause-ok c =
    put_over c.args.self.now.files.items c.in-Some.index _ c.args.name.now c.args.bytes.now
    (record { named = c.in_ok-from_str.ensures.ok; stands = refl; filled = c.in_ok-from_slice.ensures.items }) c.in-Some.ensures.first

pub returns-in-Some-clause-place : goal.returns-in-Some-clause-place
returns-in-Some-clause-place c =
    placed_over c.args.self.now.files.items c.in-Some.index _ c.args.name.now c.args.bytes.now
    (record { named = c.in_ok-from_str.ensures.ok; stands = refl; filled = c.in_ok-from_slice.ensures.items }) c.in-Some.ensures.first

pub returns-in_ok-push-in-None-clause-ok : goal.returns-in_ok-push-in-None-clause-ok
returns-in_ok-push-in-None-clause-ok c = λ q.
    rw c.in_ok-push-in-None.ensures.items
    (put_new c.args.self.now.files.items _ c.args.name.now c.args.bytes.now
    (record { named = c.in_ok-from_str.ensures.ok; stands = refl; filled = c.in_ok-from_slice.ensures.items }) c.in-None.ensures.first
    q)
