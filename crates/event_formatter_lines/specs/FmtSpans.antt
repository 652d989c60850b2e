-- Sets of the moments of a span at which an event is written for it.
use Rattle.std.specs.Prelude.{◌≡◌, ℕ, Bool, true, false, ◌&&◌, ◌||◌, not, List, [], ◌∷◌, ◌++◌, codes}
use Rattle.std.specs.List.{join_by}
use Rattle.event_formatter_lines.specs.declared.fmt_span.FmtSpan.{FmtSpan}

-- the set of the moments that are given so
abbrev pub set_of : Bool → Bool → Bool → Bool → FmtSpan
set_of new enter exit close = record { new = new; enter = enter; exit = exit; close = close }

-- each of the four moments is in the result just where the operator says so of both sets
pub record IsByMoment (operator : Bool → Bool → Bool) (a b result : FmtSpan) : Type 0 where
  pub new : result.new ≡ operator a.new b.new
  pub enter : result.enter ≡ operator a.enter b.enter
  pub exit : result.exit ≡ operator a.exit b.exit
  pub close : result.close ≡ operator a.close b.close

-- what is in one of them, in both, and in just one
abbrev pub either : Bool → Bool → Bool
either x y = x || y

abbrev pub both : Bool → Bool → Bool
both x y = x && y

abbrev pub just_one : Bool → Bool → Bool
just_one true y = not y
just_one false y = y

-- a moment that is in the other is in the set
abbrev pub holds_where : Bool → Bool → Bool
holds_where other set = not other || set

-- whether each of the four moments that is in the other is in the set
abbrev pub contains : FmtSpan → FmtSpan → Bool
contains set other =
    holds_where other.new set.new && (holds_where other.enter set.enter
    && (holds_where other.exit set.exit && holds_where other.close set.close))

-- a name behind a bar, unless it is the first; nothing of a moment that isn't in the set
abbrev pub name_behind : Bool → Bool → List ℕ → List ℕ
name_behind is_first false name = []
name_behind true true name = name
name_behind false true name = codes " | " ++ name

abbrev pub name_if : Bool → List ℕ → List (List ℕ)
name_if false name = []
name_if true name = name ∷ []

-- the names of the moments in the set
abbrev pub names_of : FmtSpan → List (List ℕ)
names_of set =
    name_if set.new (codes "FmtSpan::NEW") ++ (name_if set.enter (codes "FmtSpan::ENTER")
    ++ (name_if set.exit (codes "FmtSpan::EXIT") ++ name_if set.close (codes "FmtSpan::CLOSE")))

-- names with a bar between each two; an empty set has a name of its own
abbrev pub names_text : List (List ℕ) → List ℕ
names_text [] = codes "FmtSpan::NONE"
names_text (name ∷ names) = join_by (λ n. n) (codes " | ") (name ∷ names)

abbrev pub debug_text : FmtSpan → List ℕ
debug_text set = names_text (names_of set)
