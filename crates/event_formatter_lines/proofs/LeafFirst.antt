-- Lines of spans, from the last span down.
use Rattle.std.proofs.Common.{arith, ◌≡◌, ◌<◌, ◌≤◌, ◌+◌, ◌-◌, ℕ, Bool, List, ◌++◌, append_assoc, ap, sym, ◌∙◌, drop, length}
use Rattle.std.proofs.lemmas.List.{append-nil, at_drop_all, at_drop_more}
use Rattle.event_formatter_lines.specs.Pretty.{from_leaf, span_line}
use Rattle.event_formatter_lines.specs.Shown.{PlainShown, nothing_shown, span_at}

-- before the first turn nothing was appended
pub begun : (shows_target : Bool) (spans : List PlainShown) (count : ℕ) (old : List ℕ) → count ≡ length spans → old ≡ old ++
    from_leaf shows_target (drop count spans)
unfolding from_leaf
begun shows_target spans count old e =
    sym (ap (λ (t : List ℕ). old ++ t) (at_drop_all (from_leaf shows_target) spans count (omega arith)) ∙ append-nil old)

-- a turn appends the line of the span before
pub turned : (shows_target : Bool) (spans : List PlainShown) (index : ℕ) (old mid new : List ℕ) → 0 < index → index ≤ length spans →
    mid ≡ old ++ from_leaf shows_target (drop index spans) → new ≡ mid ++ span_line shows_target (span_at spans (index - 1)) → new ≡ old ++
    from_leaf shows_target (drop (index - 1) spans)
unfolding from_leaf
turned shows_target spans index old mid new above below m n =
    let line = span_line shows_target (span_at spans (index - 1)) in
    let after : index - 1 + 1 ≡ index = omega arith in
    let step : from_leaf shows_target (drop (index - 1) spans) ≡ from_leaf shows_target (drop index spans) ++ line
    = at_drop_more (from_leaf shows_target) spans (index - 1) nothing_shown (omega arith) ∙
    ap (λ (j : ℕ). from_leaf shows_target (drop j spans) ++ line) after in
    n ∙ ap (λ (t : List ℕ). t ++ line) m ∙ append_assoc old (from_leaf shows_target (drop index spans)) line ∙
    ap (λ (t : List ℕ). old ++ t) (sym step)
