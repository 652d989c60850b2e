-- Lines that are sent one after another.
use Rattle.std.proofs.Common.{◌≡◌, ◌∙◌, refl, sym, ap, subst, ℕ, ◌+◌, ◌-◌, ◌≤◌, ◌<◌, if◌then◌else◌, List, [], ◌∷◌, length, take, drop, map}
use Rattle.std.proofs.Common.{get_or, Vec, arith}
use Rattle.std.proofs.Math.Seq.{take-length}
use Rattle.std.specs.declared.alloc.Global.{Global}
use Rattle.tracing_appender_queue.specs.Queue.{Queue}
use Rattle.tracing_appender_queue.specs.declared.queued.fate.Fate.{Fate}
use Rattle.tracing_appender_queue.specs.declared.queued.fate.Fate.TheVariants.{Queued, Dropped, Held, Lost, Missed}
use Rattle.tracing_appender_queue.specs.queued.LineFates.{is_lost, is_missed, lost_in, missed_in}
use Rattle.tracing_appender.specs.background.Sending.{SendsLine, SendsAll}

abbrev pub sent_bytes : List (Vec ℕ Global) → List (List ℕ)
sent_bytes lines = map (λ (line : Vec ℕ Global). line.items) lines

-- however the rest comes out, all comes out so, with these counts before it
abbrev pub SoFar : Queue → List (Vec ℕ Global) → Queue → List (Vec ℕ Global) → ℕ → ℕ → Type 0
SoFar start lines q rest lost missed = (fates : List Fate) (later : Queue) → SendsAll q (sent_bytes rest) fates later →
    (all : List Fate) × SendsAll start (sent_bytes lines) all later × (lost + lost_in fates ≡ lost_in all) ×
    (missed + missed_in fates ≡ missed_in all)

opened : (xs : List (Vec ℕ Global)) (x : Vec ℕ Global) → 1 ≤ length xs → x ≡ get_or xs 0 x → xs ≡ x ∷ take (length xs - 1) (drop 1 xs)
opened [] x h e = absurd (omega (arith, h))
opened (y ∷ ys) x h e =
    let same : length (y ∷ ys) - 1 ≡ length ys = omega arith in
    ap (λ z. z ∷ ys) (sym e) ∙ ap (λ zs. x ∷ zs) (sym (take-length ys) ∙ ap (λ (n : ℕ). take n ys) (sym same))

-- no line is both lost and missed
one_at_most : (fate : Fate) → (if is_lost fate then 1 else 0) + (if is_missed fate then 1 else 0) ≤ 1
one_at_most Queued = omega arith
one_at_most Dropped = omega arith
one_at_most Held = omega arith
one_at_most Lost = omega arith
one_at_most Missed = omega arith

pub shorter : (xs : List (Vec ℕ Global)) (fate : Fate) (lost missed a b n : ℕ) → 1 ≤ length xs →
    a ≡ (if is_lost fate then 1 else 0) → b ≡ (if is_missed fate then 1 else 0) → lost + missed + length xs ≤ n →
    (lost + a) + (missed + b) + length (take (length xs - 1) (drop 1 xs)) ≤ n
shorter [] fate lost missed a b n some one other within = absurd (omega (arith, some))
shorter (y ∷ ys) fate lost missed a b n some one other within =
    let same : length (y ∷ ys) - 1 ≡ length ys = omega arith in
    let left : length (take (length (y ∷ ys) - 1) ys) ≡ length ys = ap (λ (k : ℕ). length (take k ys)) same ∙ ap length (take-length ys) in
    omega (arith, left, one, other, one_at_most fate, within)

pub turned : (start q new : Queue) (lines rest : List (Vec ℕ Global)) (line : Vec ℕ Global) (fate : Fate) (lost missed a b : ℕ) →
    1 ≤ length rest → line ≡ get_or rest 0 line → SendsLine q line.items fate new →
    a ≡ (if is_lost fate then 1 else 0) → b ≡ (if is_missed fate then 1 else 0) → SoFar start lines q rest lost missed →
    SoFar start lines new (take (length rest - 1) (drop 1 rest)) (lost + a) (missed + b)
turned start q new lines rest line fate lost missed a b some is sends one other so = λ fates later behind.
    let (all, sent, losts, misses) = so (fate ∷ fates) later
    (subst (λ (xs : List (Vec ℕ Global)). SendsAll q (sent_bytes xs) (fate ∷ fates) later) (sym (opened rest line some is))
    (new, sends, behind)) in
    (all, sent, omega (arith, losts, one), omega (arith, misses, other))

pub ended : (start q : Queue) (lines rest : List (Vec ℕ Global)) (lost missed : ℕ) → length rest < 1 →
    SoFar start lines q rest lost missed →
    (all : List Fate) × SendsAll start (sent_bytes lines) all q × (lost ≡ lost_in all) × (missed ≡ missed_in all)
ended start q lines [] lost missed none so =
    let (all, sent, losts, misses) = so [] q refl in
    (all, sent, omega (arith, losts), omega (arith, misses))
ended start q lines (x ∷ xs) lost missed none so = absurd (omega (arith, none))
