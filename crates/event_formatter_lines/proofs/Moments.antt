-- The text of a set of moments.
use Rattle.std.proofs.Common.{◌≡◌, Bool, true, false, ◌&&◌, ◌||◌, not, ◌++◌, codes, refl}
use Rattle.event_formatter_lines.specs.FmtSpans.{debug_text, name_behind}

-- the names of the moments, one after the other, where there are any
pub shown : (new enter exit close : Bool) → (new || (enter || (exit || close))) ≡ true →
    name_behind true new (codes "FmtSpan::NEW") ++
    (name_behind (not new) enter (codes "FmtSpan::ENTER") ++
    (name_behind (not new && not enter) exit (codes "FmtSpan::EXIT") ++ name_behind (not new && (not enter && not exit)) close
    (codes "FmtSpan::CLOSE")))
    ≡ debug_text record { new = new; enter = enter; exit = exit; close = close }
shown false false false false some = absurd (cc)
shown false false false true some = refl
shown false false true false some = refl
shown false false true true some = refl
shown false true false false some = refl
shown false true false true some = refl
shown false true true false some = refl
shown false true true true some = refl
shown true false false false some = refl
shown true false false true some = refl
shown true false true false some = refl
shown true false true true some = refl
shown true true false false some = refl
shown true true false true some = refl
shown true true true false some = refl
shown true true true true some = refl
