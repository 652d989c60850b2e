-- Lists of lines that settle, and what is counted.
use Rattle.std.proofs.Common.{◌≡◌, ◌∙◌, refl, sym, ap, subst, ℕ, ◌+◌, ◌-◌, ◌^◌, ◌≤◌, Bool, true, false, if◌then◌else◌, List, [], ◌∷◌, ◌++◌}
use Rattle.std.proofs.Common.{inl, inr, arith}
use Rattle.std.proofs.lemmas.Bool.{false≢true}
use Rattle.tracing_appender_queue.specs.Queue.{Queue, accepts}
use Rattle.tracing_appender_queue.specs.declared.queued.fate.Fate.{Fate}
use Rattle.tracing_appender_queue.specs.declared.queued.fate.Fate.TheVariants.{Queued, Dropped, Held, Lost, Missed}
use Rattle.tracing_appender_queue.specs.queued.LineFates.{WaitingLines, SettlesAll, ComesTo, fate_of, fate_behind, settled_as, queue_as}
use Rattle.tracing_appender_queue.specs.queued.LineFates.{held_as, more, more_if, is_lost, is_missed, is_dropped, lost_in, missed_in}
use Rattle.tracing_appender_queue.specs.queued.LineFates.{dropped_in}
use Rattle.tracing_appender_queue.specs.queued.ExactCounts.{SettlesCompose, DropsAreExact}

appended : (w mid new : WaitingLines) (one two : List (List ℕ)) (fates later : List Fate) → SettlesAll w one fates mid →
    SettlesAll mid two later new → SettlesAll w (one ++ two) (fates ++ later) new
appended w mid new [] two [] later is second = subst (λ (x : WaitingLines). SettlesAll x two later new) is second
appended w mid new [] two (f ∷ fs) later is second = absurd is
appended w mid new (l ∷ ls) two [] later is second = absurd is
appended w mid new (l ∷ ls) two (f ∷ fs) later (came, rest) second = (came, appended (settled_as f l w) mid new ls two fs later rest second)

parted : (w new : WaitingLines) (one two : List (List ℕ)) (fates : List Fate) → SettlesAll w (one ++ two) fates new →
    (first later : List Fate) × (mid : WaitingLines) × (fates ≡ first ++ later) × SettlesAll w one first mid × SettlesAll mid two later new
parted w new [] two fates all = ([], fates, w, refl, refl, all)
parted w new (l ∷ ls) two [] all = absurd all
parted w new (l ∷ ls) two (f ∷ fs) (came, rest) =
    let (first, later, mid, are, one, other) = parted (settled_as f l w) new ls two fs rest in
    (f ∷ first, later, mid, ap (λ (xs : List Fate). f ∷ xs) are, (came, one), other)

pub compose : SettlesCompose
compose = record { append = appended; split = parted }

-- counts
more_none : (x : ℕ) → x ≤ 2 ^ 64 - 1 → x ≡ more x 0
more_none x few = omega (arith, few)

more_few : (x a : ℕ) → more x a ≤ 2 ^ 64 - 1
more_few x a = omega arith

pub more_more : (x a b : ℕ) → more (more x a) b ≡ more x (a + b)
more_more x a b = omega arith

counted : (b : Bool) (x : ℕ) → x ≤ 2 ^ 64 - 1 → more_if b x ≡ more x (if b then 1 else 0)
counted true x few = refl
counted false x few = more_none x few

dropped_as : (fate : Fate) (line : List ℕ) (q : Queue) → q.dropped ≤ 2 ^ 64 - 1 →
    (queue_as fate line q).dropped ≡ more q.dropped (if is_dropped fate then 1 else 0)
dropped_as Queued line q few = more_none q.dropped few
dropped_as Dropped line q few = refl
dropped_as Held line q few = more_none q.dropped few
dropped_as Lost line q few = more_none q.dropped few
dropped_as Missed line q few = more_none q.dropped few

lossy_as : (fate : Fate) (line : List ℕ) (q : Queue) → (queue_as fate line q).lossy ≡ q.lossy
lossy_as Queued line q = refl
lossy_as Dropped line q = refl
lossy_as Held line q = refl
lossy_as Lost line q = refl
lossy_as Missed line q = refl

-- one count after another
along : (old mid new a b : ℕ) → mid ≡ more old a → (mid ≤ 2 ^ 64 - 1 → new ≡ more mid b) → new ≡ more old (a + b)
along old mid new a b first next =
    let few : mid ≤ 2 ^ 64 - 1 = subst (λ n. n ≤ 2 ^ 64 - 1) (sym first) (more_few old a) in
    next few ∙ ap (λ n. more n b) first ∙ more_more old a b

all_lossy : (w new : WaitingLines) (lines : List (List ℕ)) (fates : List Fate) → SettlesAll w lines fates new →
    new.queue.lossy ≡ w.queue.lossy
all_lossy w new [] [] is = ap (λ (x : WaitingLines). x.queue.lossy) is
all_lossy w new [] (f ∷ fs) is = absurd is
all_lossy w new (l ∷ ls) [] is = absurd is
all_lossy w new (l ∷ ls) (f ∷ fs) (came, rest) = all_lossy (settled_as f l w) new ls fs rest ∙ lossy_as f l w.queue

all_dropped : (w new : WaitingLines) (lines : List (List ℕ)) (fates : List Fate) → SettlesAll w lines fates new →
    w.queue.dropped ≤ 2 ^ 64 - 1 → new.queue.dropped ≡ more w.queue.dropped (dropped_in fates)
all_dropped w new [] [] is few = ap (λ (x : WaitingLines). x.queue.dropped) is ∙ more_none w.queue.dropped few
all_dropped w new [] (f ∷ fs) is few = absurd is
all_dropped w new (l ∷ ls) [] is few = absurd is
all_dropped w new (l ∷ ls) (f ∷ fs) (came, rest) few =
    along w.queue.dropped (queue_as f l w.queue).dropped new.queue.dropped (if is_dropped f then 1 else 0) (dropped_in fs)
    (dropped_as f l w.queue few) (all_dropped (settled_as f l w) new ls fs rest)

all_lost : (w new : WaitingLines) (lines : List (List ℕ)) (fates : List Fate) → SettlesAll w lines fates new → w.lost ≤ 2 ^ 64 - 1 →
    new.lost ≡ more w.lost (lost_in fates)
all_lost w new [] [] is few = ap (λ (x : WaitingLines). x.lost) is ∙ more_none w.lost few
all_lost w new [] (f ∷ fs) is few = absurd is
all_lost w new (l ∷ ls) [] is few = absurd is
all_lost w new (l ∷ ls) (f ∷ fs) (came, rest) few =
    along w.lost (more_if (is_lost f) w.lost) new.lost (if is_lost f then 1 else 0) (lost_in fs) (counted (is_lost f) w.lost few)
    (all_lost (settled_as f l w) new ls fs rest)

all_missed : (w new : WaitingLines) (lines : List (List ℕ)) (fates : List Fate) → SettlesAll w lines fates new → w.missed ≤ 2 ^ 64 - 1 →
    new.missed ≡ more w.missed (missed_in fates)
all_missed w new [] [] is few = ap (λ (x : WaitingLines). x.missed) is ∙ more_none w.missed few
all_missed w new [] (f ∷ fs) is few = absurd is
all_missed w new (l ∷ ls) [] is few = absurd is
all_missed w new (l ∷ ls) (f ∷ fs) (came, rest) few =
    along w.missed (more_if (is_missed f) w.missed) new.missed (if is_missed f then 1 else 0) (missed_in fs)
    (counted (is_missed f) w.missed few) (all_missed (settled_as f l w) new ls fs rest)

-- a waiting queue drops none
due_waiting : (a l c : Bool) → l ≡ false → is_dropped (if a then Queued else (if l then Dropped else (if c then Held else Lost))) ≡ false
due_waiting true l c is = refl
due_waiting false true c is = absurd (false≢true (sym is))
due_waiting false false true is = refl
due_waiting false false false is = refl

behind_waiting : (held : List (List ℕ)) (q : Queue) → q.lossy ≡ false → is_dropped (fate_behind held q) ≡ false
behind_waiting [] q is = due_waiting (accepts q) q.lossy q.accepting is
behind_waiting (x ∷ xs) q is = refl

none_dropped : (due fate : Fate) → is_dropped due ≡ false → ComesTo due fate → is_dropped fate ≡ false
none_dropped due fate clear (inl same) = ap is_dropped same ∙ clear
none_dropped due fate clear (inr (missed, kept)) = ap is_dropped missed

all_waiting : (w new : WaitingLines) (lines : List (List ℕ)) (fates : List Fate) → SettlesAll w lines fates new → w.queue.lossy ≡ false →
    dropped_in fates ≡ 0
all_waiting w new [] [] is waiting = refl
all_waiting w new [] (f ∷ fs) is waiting = absurd is
all_waiting w new (l ∷ ls) [] is waiting = absurd is
all_waiting w new (l ∷ ls) (f ∷ fs) (came, rest) waiting =
    let none = none_dropped (fate_of w) f (behind_waiting w.held w.queue waiting) came in
    ap (λ (b : Bool). (if b then 1 else 0) + dropped_in fs) none ∙
    ap (λ n. 0 + n) (all_waiting (settled_as f l w) new ls fs rest (lossy_as f l w.queue ∙ waiting))

-- a lossy queue holds none and loses none
abbrev stays : Fate → Bool
stays Queued = true
stays Dropped = true
stays Held = false
stays Lost = false
stays Missed = true

due_lossy : (a l c : Bool) → l ≡ true → stays (if a then Queued else (if l then Dropped else (if c then Held else Lost))) ≡ true
due_lossy true l c is = refl
due_lossy false true c is = refl
due_lossy false false c is = absurd (false≢true is)

came_lossy : (due fate : Fate) → stays due ≡ true → ComesTo due fate → stays fate ≡ true
came_lossy due fate is (inl same) = ap stays same ∙ is
came_lossy due fate is (inr (missed, kept)) = ap stays missed

stays_held : (fate : Fate) (line : List ℕ) (held : List (List ℕ)) → stays fate ≡ true → held_as fate line held ≡ held
stays_held Queued line held is = refl
stays_held Dropped line held is = refl
stays_held Held line held is = absurd (false≢true is)
stays_held Lost line held is = refl
stays_held Missed line held is = refl

stays_kept : (fate : Fate) → stays fate ≡ true → is_lost fate ≡ false
stays_kept Queued is = refl
stays_kept Dropped is = refl
stays_kept Held is = refl
stays_kept Lost is = absurd (false≢true is)
stays_kept Missed is = refl

due_empty : (held : List (List ℕ)) (q : Queue) → q.lossy ≡ true → held ≡ [] → stays (fate_behind held q) ≡ true
due_empty held q is none = ap (λ (xs : List (List ℕ)). stays (fate_behind xs q)) none ∙ due_lossy (accepts q) q.lossy q.accepting is

all_held : (w new : WaitingLines) (lines : List (List ℕ)) (fates : List Fate) → SettlesAll w lines fates new → w.queue.lossy ≡ true →
    w.held ≡ [] → (new.held ≡ []) × (lost_in fates ≡ 0)
all_held w new [] [] is lossy none = (ap (λ (x : WaitingLines). x.held) is ∙ none, refl)
all_held w new [] (f ∷ fs) is lossy none = absurd is
all_held w new (l ∷ ls) [] is lossy none = absurd is
all_held w new (l ∷ ls) (f ∷ fs) (came, rest) lossy none =
    let stay = came_lossy (fate_of w) f (due_empty w.held w.queue lossy none) came in
    let next = all_held (settled_as f l w) new ls fs rest (lossy_as f l w.queue ∙ lossy) (stays_held f l w.held stay ∙ none) in
    (next.0, ap (λ (b : Bool). (if b then 1 else 0) + lost_in fs) (stays_kept f stay) ∙ ap (λ n. 0 + n) next.1)

pub exact : DropsAreExact
exact w new lines fates all = record {
  lossy = all_lossy w new lines fates all;
  dropped = all_dropped w new lines fates all;
  lost = all_lost w new lines fates all;
  missed = all_missed w new lines fates all;
  waiting = all_waiting w new lines fates all;
  none_held = all_held w new lines fates all;
}
