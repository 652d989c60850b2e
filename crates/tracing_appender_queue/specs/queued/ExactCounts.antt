-- Lists of lines that settle, and what is counted.
use Rattle.std.specs.Prelude.{◌≡◌, ℕ, ◌≤◌, ◌^◌, ◌-◌, true, false, List, [], ◌++◌}
use Rattle.tracing_appender_queue.specs.declared.queued.fate.Fate.{Fate}
use Rattle.tracing_appender_queue.specs.queued.LineFates.{WaitingLines, SettlesAll, more, lost_in, missed_in, dropped_in}

-- two lists make a longer one, and each cut of a longer one makes two
pub record SettlesCompose : Type 0 where
  pub append : (w mid new : WaitingLines) (one two : List (List ℕ)) (fates later : List Fate) → SettlesAll w one fates mid →
      SettlesAll mid two later new → SettlesAll w (one ++ two) (fates ++ later) new
  pub split : (w new : WaitingLines) (one two : List (List ℕ)) (fates : List Fate) → SettlesAll w (one ++ two) fates new →
      (first later : List Fate) × (mid : WaitingLines) × (fates ≡ first ++ later) × SettlesAll w one first mid ×
      SettlesAll mid two later new

-- what a list of lines left of the counts
pub record DropsExact (w : WaitingLines) (fates : List Fate) (new : WaitingLines) : Type 0 where
  pub lossy : new.queue.lossy ≡ w.queue.lossy
  pub dropped : w.queue.dropped ≤ 2 ^ 64 - 1 → new.queue.dropped ≡ more w.queue.dropped (dropped_in fates)
  pub lost : w.lost ≤ 2 ^ 64 - 1 → new.lost ≡ more w.lost (lost_in fates)
  pub missed : w.missed ≤ 2 ^ 64 - 1 → new.missed ≡ more w.missed (missed_in fates)
  -- a waiting queue drops none
  pub waiting : w.queue.lossy ≡ false → dropped_in fates ≡ 0
  -- a lossy one that holds no line holds none, and loses none
  pub none_held : w.queue.lossy ≡ true → w.held ≡ [] → (new.held ≡ []) × (lost_in fates ≡ 0)

abbrev pub DropsAreExact : Type 0
DropsAreExact = (w new : WaitingLines) (lines : List (List ℕ)) (fates : List Fate) → SettlesAll w lines fates new → DropsExact w fates new
