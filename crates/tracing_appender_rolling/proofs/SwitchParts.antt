-- A switch is retention, a try and a close.
use Rattle.std.proofs.Common.{◌≡◌, ◌≢◌, ℕ, ℤ, List, refl, ap, subst, sym, Option, Some, None, Result, Ok, Err}
use Rattle.std.specs.Prelude.{IfErr}
use Rattle.tracing_appender_rolling.specs.declared.folders.fault.FolderError.TheVariants.{OutOfMemory}
use Rattle.tracing_core_moments.specs.declared.moment.Moment.{Moment}
use Rattle.tracing_appender_rolling.specs.declared.faults.Faults.{Faults}
use Rattle.tracing_appender_rolling.specs.declared.folders.fault.FileNumber.{FileNumber}
use Rattle.tracing_appender_rolling.specs.declared.folders.fault.FolderError.{FolderError}
use Rattle.tracing_appender_rolling.specs.Names.{FileNames}
use Rattle.tracing_appender_rolling.specs.folders.Contents.{Contents, Gives, closed}
use Rattle.tracing_appender_rolling.specs.RetentionRemovals.{Prunes, pruned}
use Rattle.tracing_appender_rolling.specs.Tries.{Tried, TriesFile}
use Rattle.tracing_appender_rolling.specs.Looks.{Held, IsHeld, Switches, tried, try_at, name_at, end_at}
use Rattle.tracing_appender_rolling.proofs.FaultlessFolder.{fed_leaves, stays_unknown}

tried_ok : (h : Held) (t : Tried) (file : FileNumber) → t.0 ≡ Ok file →
    tried h t ≡ record h { current = file; contents = (closed t.1 h.current).1 }
tried_ok h (Ok f, c) file e = let same : f ≡ file = cc in
    ap (λ (x : FileNumber). record h { current = x; contents = (closed c h.current).1 }) same
tried_ok h (Err f, c) file e = cc

module _ (E : Type 0) (names : FileNames) (m : Moment) (boundary : Option ℤ) (current file : FileNumber) (f l : Faults) (name : List ℕ)
    (is : name ≡ name_at names m) (end : Option ℤ) (ends : end ≡ end_at names m) where
  held_by : (d : Contents) (after left : Option Contents) → TriesFile names.latest name (Some d) (Ok file) after →
      (r : Result (Unit {0}) FolderError) → IfErr r (λ e. e ≢ OutOfMemory) → Gives (λ x. closed x current) after r left →
      IsHeld left end file l (tried (record { boundary = end_at names m; current = current; faults = l; contents = d }) (try_at names m d))
  held_by d after left tries r fed closes =
      let at = (subst (λ (n : List ℕ). TriesFile names.latest n (Some d) (Ok file) after) is tries) in
      let gone = fed_leaves (λ x. closed x current) (try_at names m d).1 r left fed
      (subst (λ (o : Option Contents). Gives (λ x. closed x current) o r left) at.1 closes) in
      subst (λ (h : Held). IsHeld left end file l h)
      (sym (tried_ok (record { boundary = end_at names m; current = current; faults = l; contents = d }) (try_at names m d) file at.0))
      (record { folder = gone; until = ends; open_file = refl; counts = refl })

  pub switch_opens : (known middle after left : Option Contents) (r : Result (Unit {0}) FolderError) →
      Prunes {E = E} names f known (Ok tt) l middle → TriesFile names.latest name middle (Ok file) after → IfErr r (λ e. e ≢ OutOfMemory) →
      Gives (λ x. closed x current) after r left → Switches {E = E} names m boundary current f known (Ok tt) end file l left
  switch_opens None middle after left r gone tries fed closes =
      let none = (subst (λ (o : Option Contents). TriesFile names.latest name o (Ok file) after) gone tries) in
      stays_unknown (λ x. closed x current) r left (subst (λ (o : Option Contents). Gives (λ x. closed x current) o r left) none closes)
  switch_opens (Some c) middle after left r (counts, there) tries fed closes =
      let at = pruned names f c in
      subst (λ (x : Faults). IsHeld left end file l
      (tried (record { boundary = end_at names m; current = current; faults = x; contents = at.1 }) (try_at names m at.1))) counts
      (held_by at.1 after left (subst (λ (o : Option Contents). TriesFile names.latest name o (Ok file) after) there tries) r fed closes)
