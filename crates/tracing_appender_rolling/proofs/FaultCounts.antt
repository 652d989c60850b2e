-- Counts of faults over calls in turn.
use Rattle.std.proofs.Common.{◌≡◌, ℕ, zero, suc, ◌+◌, ◌-◌, ◌^◌, refl, ap, sym, ◌∙◌, arith}
use Rattle.std.specs.Prelude.{min}
use Rattle.tracing_appender_rolling.specs.declared.folders.fault.FolderFault.{FolderFault}
use Rattle.tracing_appender_rolling.specs.declared.faults.Faults.{Faults}
use Rattle.tracing_appender_rolling.specs.Faults.{after_retention, after_switch}
use Rattle.tracing_appender_rolling.specs.FaultReports.{DoesNotFall, Rises, RoseBy, CountsFaults, CountsOnly, failed_more}

rose_none : (x : ℕ) → RoseBy 0 x x
rose_none x = (omega arith, omega arith)

rose_one : (x : ℕ) → RoseBy 1 x (min (x + 1) (2 ^ 64 - 1))
rose_one x = (omega arith, omega arith)

rose_then : (s t x y z : ℕ) → RoseBy s x y → RoseBy t y z → RoseBy (s + t) x z
rose_then s t x y z a b = (omega (arith, a.0, b.0), omega (arith, a.1, b.1))

pub faults_kept : (n m : ℕ) (f : Faults) → DoesNotFall n m → CountsFaults 0 0 n f f m
faults_kept n m f kept = record {
  switches_rose = rose_none f.switches;
  retentions_rose = rose_none f.retentions;
  writes_stay = refl;
  none_changed = λ e. refl;
  folder_rose = omega (arith, kept);
}

pub faults_then : (s t r q n m k : ℕ) (f g h : Faults) → CountsFaults s r n f g m → CountsFaults t q m g h k →
    CountsFaults (s + t) (r + q) n f h k
faults_then s t r q n m k f g h a b = record {
  switches_rose = rose_then s t f.switches g.switches h.switches a.switches_rose b.switches_rose;
  retentions_rose = rose_then r q f.retentions g.retentions h.retentions a.retentions_rose b.retentions_rose;
  writes_stay = b.writes_stay ∙ a.writes_stay;
  none_changed = λ e. b.none_changed (omega (arith, e)) ∙ a.none_changed (omega (arith, e));
  folder_rose = omega (arith, a.folder_rose, b.folder_rose);
}

-- retention alone
pub only_kept : (n m : ℕ) (f : Faults) → m ≡ n → CountsOnly n f f m
only_kept n m f same = (0, faults_kept n m f (omega (arith, same)), same)

pub only_one : (n m : ℕ) (f : Faults) (fault : FolderFault) → m ≡ min (n + 1) (2 ^ 64 - 1) → CountsOnly n f (after_retention f fault) m
only_one n m f fault rose = (
  1,
  record {
    switches_rose = rose_none f.switches;
    retentions_rose = rose_one f.retentions;
    writes_stay = refl;
    none_changed =
        λ e. absurd (omega (arith, e));
    folder_rose = omega (arith, rose);
  },
  rose,
)

more_both : (j k n : ℕ) → failed_more (j + k) n ≡ failed_more k (failed_more j n)
more_both zero k n = ap (λ i. failed_more i n) (let e : 0 + k ≡ k = omega arith in e)
more_both (suc j) k n = ap (λ i. failed_more i n) (let e : suc j + k ≡ suc (j + k) = omega arith in e) ∙
    more_both j k (min (n + 1) (2 ^ 64 - 1))

pub only_then : (n m k : ℕ) (f g h : Faults) → CountsOnly n f g m → CountsOnly m g h k → CountsOnly n f h k
only_then n m k f g h a b = (
  a.0 + b.0,
  faults_then 0 0 a.0 b.0 n m k f g h a.1 b.1,
  b.2 ∙ ap (failed_more b.0) a.2 ∙
      sym (more_both a.0 b.0 n),
)

-- and the opening behind it
pub switch_failed : (r n m k : ℕ) (f g : Faults) (fault : FolderFault) → CountsFaults 0 r n f g m → Rises m k →
    CountsFaults 1 r n f (after_switch g fault) k
switch_failed r n m k f g fault a rose = record {
  switches_rose = rose_then 0 1 f.switches g.switches (after_switch g fault).switches a.switches_rose (rose_one g.switches);
  retentions_rose = a.retentions_rose;
  writes_stay = a.writes_stay;
  none_changed = λ e. absurd (omega (arith, e));
  folder_rose = omega (arith, a.folder_rose, rose);
}
