-- Lines of a request, one after another.
use Rattle.std.proofs.Common.{◌≡◌, ◌∙◌, refl, sym, ap, subst, ℕ, ◌+◌, ◌-◌, ◌≤◌, ◌<◌, if◌then◌else◌, List, [], ◌∷◌, length, take, drop}
use Rattle.std.proofs.Common.{get_or, Vec, arith}
use Rattle.std.proofs.Math.Seq.{take-length}
use Rattle.std.specs.declared.alloc.Global.{Global}
use Rattle.tracing_appender_queue.specs.declared.queued.fate.Fate.{Fate}
use Rattle.tracing_appender_queue.specs.queued.WaitingView.{bytes_of}
use Rattle.tracing_appender_queue.specs.queued.LineFates.{WaitingLines, SettlesLine, SettlesAll, settled_as, is_lost, is_missed, lost_in}
use Rattle.tracing_appender_queue.specs.queued.LineFates.{missed_in}

-- however the rest comes out, all comes out so, with these counts before it
abbrev pub SoFar : WaitingLines → List (Vec ℕ Global) → WaitingLines → List (Vec ℕ Global) → ℕ → ℕ → Type 0
SoFar start lines w rest lost missed = (fates : List Fate) (later : WaitingLines) → SettlesAll w (bytes_of rest) fates later →
    (all : List Fate) × SettlesAll start (bytes_of lines) all later × (lost + lost_in fates ≡ lost_in all) ×
    (missed + missed_in fates ≡ missed_in all)

opened : (xs : List (Vec ℕ Global)) (x : Vec ℕ Global) → 1 ≤ length xs → x ≡ get_or xs 0 x → xs ≡ x ∷ take (length xs - 1) (drop 1 xs)
opened [] x h e = absurd (omega (arith, h))
opened (y ∷ ys) x h e =
    let same : length (y ∷ ys) - 1 ≡ length ys = omega arith in
    ap (λ z. z ∷ ys) (sym e) ∙ ap (λ zs. x ∷ zs) (sym (take-length ys) ∙ ap (λ (n : ℕ). take n ys) (sym same))

pub shorter : (xs : List (Vec ℕ Global)) (count more n : ℕ) → 1 ≤ length xs → more ≤ 1 → count + length xs ≤ n →
    count + more + length (take (length xs - 1) (drop 1 xs)) ≤ n
shorter [] count more n some few within = absurd (omega (arith, some))
shorter (y ∷ ys) count more n some few within =
    let same : length (y ∷ ys) - 1 ≡ length ys = omega arith in
    let left : length (take (length (y ∷ ys) - 1) ys) ≡ length ys = ap (λ (k : ℕ). length (take k ys)) same ∙ ap length (take-length ys) in
    omega (arith, left, few, within)

pub turned : (start w new : WaitingLines) (lines rest : List (Vec ℕ Global)) (line : Vec ℕ Global) (fate : Fate) (lost missed a b : ℕ) →
    1 ≤ length rest → line ≡ get_or rest 0 line →
    SettlesLine w line.items fate new → a ≡ (if is_lost fate then 1 else 0) → b ≡ (if is_missed fate then 1 else 0) →
    SoFar start lines w rest lost missed →
    SoFar start lines new (take (length rest - 1) (drop 1 rest)) (lost + a) (missed + b)
turned start w new lines rest line fate lost missed a b some is settles one other so = λ fates later behind.
    let left = take (length rest - 1) (drop 1 rest) in
    let split = opened rest line some is in
    let next : SettlesAll (settled_as fate line.items w) (bytes_of left) fates later =
    subst (λ (x : WaitingLines). SettlesAll x (bytes_of left) fates later) settles.left behind in
    let (all, settled, losts, misses) = so (fate ∷ fates) later
    (subst (λ (xs : List (Vec ℕ Global)). SettlesAll w (bytes_of xs) (fate ∷ fates) later) (sym split) (settles.came, next)) in
    (all, settled, omega (arith, losts, one), omega (arith, misses, other))

pub ended : (start w : WaitingLines) (lines rest : List (Vec ℕ Global)) (lost missed : ℕ) → length rest < 1 →
    SoFar start lines w rest lost missed →
    (all : List Fate) × SettlesAll start (bytes_of lines) all w × (lost ≡ lost_in all) × (missed ≡ missed_in all)
ended start w lines [] lost missed none so =
    let (all, settled, losts, misses) = so [] w refl in
    (all, settled, omega (arith, losts), omega (arith, misses))
ended start w lines (x ∷ xs) lost missed none so = absurd (omega (arith, none))
