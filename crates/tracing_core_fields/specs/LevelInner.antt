-- The ranks of levels, and of OFF: a more verbose level has a larger one.
use Rattle.std.specs.Prelude.{◌≡◌, ℕ, if◌then◌else◌, ◌==◌, refl}
use Rattle.tracing_core_fields.specs.declared.rank.LevelInner.{LevelInner}
use Rattle.tracing_core_fields.specs.declared.rank.LevelInner.TheVariants.{Off, Error, Warn, Info, Debug, Trace}

abbrev pub rank_of : LevelInner → ℕ
rank_of Off = 0
rank_of Error = 1
rank_of Warn = 2
rank_of Info = 3
rank_of Debug = 4
rank_of Trace = 5

-- what has a rank from 0 to 5
abbrev pub inner_of : ℕ → LevelInner
inner_of rank =
    if rank == 0 then Off else if rank == 1 then Error else if rank == 2 then Warn else if rank == 3 then Info else if rank ==
    4 then Debug else Trace

pub inner_of-rank_of : (inner : LevelInner) → inner_of (rank_of inner) ≡ inner
inner_of-rank_of Off = refl
inner_of-rank_of Error = refl
inner_of-rank_of Warn = refl
inner_of-rank_of Info = refl
inner_of-rank_of Debug = refl
inner_of-rank_of Trace = refl
