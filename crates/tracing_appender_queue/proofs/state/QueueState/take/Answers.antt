use Rattle.std.proofs.Common.{◌≡◌, ◌<◌, ◌%◌, ℕ, List, length, sym, ap, ◌∙◌, refl, map, Vec, false}
use Rattle.std.proofs.Math.Nat.{mod-eq_of_lt}
use Rattle.std.proofs.lemmas.List.{length-map}
use Rattle.std.proofs.Common.{rules}
use Rattle.std.specs.declared.alloc.Global.{Global}
use Rattle.std.proofs.lemmas.Grind.{common_steps}
use Rattle.std.proofs.Common.{arith}
use Rattle.tracing_appender_queue.specs.Queue.{closed, mark_next, modulus}
use Rattle.tracing_appender_queue.specs.View.{queue_of}
use Rattle.tracing_appender_queue.proofs.Reached.{reached_close, reached_take}
use Rattle.tracing_appender_queue.proofs.state.QueueState.take.Goals as goal

pub returns-clause-taken : goal.returns-clause-taken
returns-clause-taken c =
    let s = c.self.inside in
    let none : mark_next (queue_of s) ≡ false = sym c.at_head.ensures ∙ c.if-at_head.false in
    let rest = map (λ (l : Vec ℕ Global). l.items) c.pop_front.new.self.items in
    rw (← c.self.view_is) (
      none,
      refl,
      (
        rest,
        ap (map (λ (l : Vec ℕ Global). l.items)) c.in_ok-line.ensures.items,
        rw c.one_less-self-inside.ensures refl,
      ),
    )

pub invariant_of-self : goal.invariant_of-self
invariant_of-self c =
    let s = c.self.inside in
    let lines = map (λ (l : Vec ℕ Global). l.items) in
    let wide = length-map s.lines.items (λ (l : Vec ℕ Global). l.items) in
    let fits : length (lines s.lines.items) < modulus = grind (arith, common_steps, wide) in
    let whole : c.len.result ≡ length (lines s.lines.items) = omega (arith, c.len.ensures, wide) in
    let count : c.len.result ≡ length (lines s.lines.items) % modulus = whole ∙ sym (mod-eq_of_lt fits) in
    record {
      room = grind (arith, common_steps);
      mark_in = tt;
      mark_sent = tt;
      none_left = search rules;
      reached =
          reached_close (queue_of s) _ (search rules)
          (ap (λ (ls : List (List ℕ)). record (closed (queue_of s)) { queued = ls; left = c.len.result }) (ap lines c.clear.ensures.items)
          ∙ ap (λ (n : ℕ). record (closed (queue_of s)) { left = n }) count) c.self.invariant.reached;
    }

pub invariant_of-self-2 : goal.invariant_of-self-2
invariant_of-self-2 c =
    let s = c.self.inside in
    let rest = map (λ (l : Vec ℕ Global). l.items) c.pop_front.new.self.items in
    record {
      room = grind (arith, common_steps);
      mark_in = grind (arith, common_steps);
      mark_sent = grind (arith, common_steps);
      none_left = c.self.invariant.none_left;
      reached =
          reached_take (queue_of s) _ c.in_ok-line.line.items rest (sym c.at_head.ensures ∙ c.if-at_head.false)
          (ap (map (λ (l : Vec ℕ Global). l.items)) c.in_ok-line.ensures.items) (rw c.one_less-self-inside.ensures refl)
          c.self.invariant.reached;
    }
