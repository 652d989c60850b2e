-- Lines don't steer a terminal, where their parts don't.
use Rattle.std.proofs.Common.{arith, ◌≡◌, ◌<◌, ◌-◌, ◌^◌, ℕ, zero, suc, Bool, true, false, ◌||◌, List, [], ◌∷◌, ◌++◌, codes, Option, Some}
use Rattle.std.proofs.Common.{None, IfSome, refl, sym, subst, slice_get, unwrap_or}
use Rattle.std.specs.Fmt.{decimal}
use Rattle.std.specs.List.{AllByRecursion, flat_map}
use Rattle.std.specs.Option.{is_some}
use Rattle.tracing_core_fields.specs.Level.{level_name, level_names}
use Rattle.event_formatter_text.proofs.HarmlessTexts.{decimal_passes}
use Rattle.event_formatter_text.proofs.TerminalControls.{Passes, both_pass, harmless_pass}
use Rattle.event_formatter_text.proofs.TerminalSafeFields.{unstyled}
use Rattle.event_formatter_text.specs.Styles.{bold, dimmed, styled}
use Rattle.event_formatter_text.specs.TerminalControls.{AreHarmless}
use Rattle.event_formatter_text.specs.declared.settings.Settings.{Settings}
use Rattle.event_formatter_lines.specs.Compact.{behind_space, compact_head, compact_tail, file_text, line_text, name_piece, names_text}
use Rattle.event_formatter_lines.specs.Compact.{places_text, shows_place, space_if, text_piece, with_colon}
use Rattle.event_formatter_lines.specs.Frames.{framed_text}
use Rattle.event_formatter_lines.specs.Full.{braced, file_piece, full_head, line_piece, space_unless, span_piece, spans_text, target_piece}
use Rattle.event_formatter_lines.specs.HarmlessLines.{CompactLinesAreHarmless, FullLinesAreHarmless, IsTameHead, IsTamePlace, IsTameSpan}
use Rattle.event_formatter_lines.specs.HarmlessLines.{IsTameThread, PrettyLinesAreHarmless}
use Rattle.event_formatter_lines.specs.Heads.{PlainHead, in_five_places, level_piece, level_start, plain_piece, time_piece}
use Rattle.event_formatter_lines.specs.Pretty.{PlainPlace, PlainThread, file_part, from_leaf, id_part, level_part, line_part, name_part}
use Rattle.event_formatter_lines.specs.Pretty.{newline_if, number_part, path_part, place_text, pretty_head, pretty_tail}
use Rattle.event_formatter_lines.specs.Pretty.{space_before_id, span_line, target_part, thread_part, thread_start, with_part}
use Rattle.event_formatter_lines.specs.Shown.{PlainShown, name_in_chain}

framed_passes : (front back : List ℕ) → Passes front → Passes back → (text : Option (List ℕ)) → IfSome text Passes →
    IfSome (framed_text front text back) Passes
framed_passes front back before behind None inner = tt
framed_passes front back before behind (Some text) inner =
    both_pass front (text ++ back) before (both_pass text back inner behind)

nothing : Passes []
nothing rest = refl

space : Passes (codes " ")
space = harmless_pass (codes " ") refl

colon : Passes (codes ":")
colon = harmless_pass (codes ":") refl

newline : Passes (codes "\n")
newline = harmless_pass (codes "\n") refl

-- a level's name in five places
picked : (names : List (List ℕ)) → AllByRecursion (λ name. Passes (in_five_places name)) names → Passes (in_five_places []) → (i : ℕ) →
    Passes (in_five_places (unwrap_or (slice_get names i) []))
picked [] all none i = none
picked (n ∷ ns) all none zero = all.0
picked (n ∷ ns) all none (suc i) = picked ns all.1 none i

names_pass : AllByRecursion (λ name. Passes (in_five_places name)) level_names
unfolding in_five_places
names_pass = (
  harmless_pass (codes "ERROR") refl,
  (
    harmless_pass (codes " WARN") refl,
    (
      harmless_pass (codes " INFO") refl,
      (
        harmless_pass (codes "DEBUG") refl,
        (harmless_pass (codes "TRACE") refl, tt),
      ),
    ),
  ),
)

no_name_passes : Passes (in_five_places [])
unfolding in_five_places
no_name_passes rest = refl

five_pass : (level : ℕ) → Passes (in_five_places (level_name level))
five_pass level = picked level_names names_pass no_name_passes (level - 1)

plain_passes : (text : Option (List ℕ)) → IfSome text Passes → Passes (plain_piece text)
plain_passes None tame = nothing
plain_passes (Some text) tame = both_pass text (codes " ") tame space

number_passes : (n : ℕ) → n < 2 ^ 32 → Passes (decimal n)
number_passes n below = decimal_passes n (omega arith)

-- pieces in styles, where styles are off
module _ (settings : Settings) (harmless : AreHarmless settings) where
  styled_passes : (start text : List ℕ) → Passes text → Passes (styled settings start text)
  styled_passes start text passes = subst Passes (sym (unstyled settings harmless.0 start text)) passes

  dimmed_passes : (text : List ℕ) → Passes text → Passes (dimmed settings text)
  dimmed_passes text passes = styled_passes (27 ∷ codes "[2m") text passes

  bold_passes : (text : List ℕ) → Passes text → Passes (bold settings text)
  bold_passes text passes = styled_passes (27 ∷ codes "[1m") text passes

  dim_colon : Passes (dimmed settings (codes ":"))
  dim_colon = dimmed_passes (codes ":") colon

  time_passes : (time : Option (List ℕ)) → IfSome time Passes → Passes (time_piece settings time)
  time_passes None tame = nothing
  time_passes (Some time) tame = both_pass (dimmed settings time) (codes " ") (dimmed_passes time tame) space

  level_passes : (level : Option ℕ) → Passes (level_piece settings level)
  level_passes None = nothing
  level_passes (Some level) =
      both_pass (styled settings (level_start (level_name level)) (in_five_places (level_name level))) (codes " ")
      (styled_passes (level_start (level_name level)) (in_five_places (level_name level)) (five_pass level)) space

  -- what both formats begin with
  abbrev first_parts : PlainHead → List ℕ
  first_parts head =
      time_piece settings head.time ++ level_piece settings head.level ++ plain_piece head.thread_name ++ plain_piece head.thread_id

  first_parts_pass : (head : PlainHead) → IsTameHead head → Passes (first_parts head)
  first_parts_pass head tame =
      let two : List ℕ = time_piece settings head.time ++ level_piece settings head.level in
      let two_pass : Passes two = both_pass (time_piece settings head.time) (level_piece settings head.level)
      (time_passes head.time tame.time) (level_passes head.level) in
      both_pass (two ++ plain_piece head.thread_name) (plain_piece head.thread_id)
      (both_pass two (plain_piece head.thread_name) two_pass (plain_passes head.thread_name tame.thread_name))
      (plain_passes head.thread_id tame.thread_id)

  -- a span's name in a chain of spans
  chain_name_passes : (span : PlainShown) → IsTameSpan span → Passes (name_in_chain settings span)
  chain_name_passes span tame = bold_passes span.name tame.name

  -- the full format
  braced_passes : (text : List ℕ) → Passes text → Passes (braced settings text)
  braced_passes [] tame = nothing
  braced_passes (b ∷ bs) tame =
      both_pass (bold settings (codes "{") ++ (b ∷ bs)) (bold settings (codes "}"))
      (both_pass (bold settings (codes "{")) (b ∷ bs) (bold_passes (codes "{") (harmless_pass (codes "{") refl)) tame)
      (bold_passes (codes "}") (harmless_pass (codes "}") refl))

  span_passes : (span : PlainShown) → IsTameSpan span → Passes (span_piece settings span)
  unfolding span_piece
  span_passes span tame =
      both_pass (name_in_chain settings span ++ braced settings span.text) (dimmed settings (codes ":"))
      (both_pass (name_in_chain settings span) (braced settings span.text) (chain_name_passes span tame)
      (braced_passes span.text tame.text)) dim_colon

  each_passes : (piece : PlainShown → List ℕ) → ((span : PlainShown) → IsTameSpan span → Passes (piece span)) →
      (spans : List PlainShown) → AllByRecursion IsTameSpan spans → Passes (flat_map piece spans)
  each_passes piece one [] tame = nothing
  each_passes piece one (span ∷ spans) tame =
      both_pass (piece span) (flat_map piece spans) (one span tame.0) (each_passes piece one spans tame.1)

  spans_pass : (spans : List PlainShown) → AllByRecursion IsTameSpan spans → Passes (spans_text settings spans)
  spans_pass [] tame = nothing
  spans_pass (span ∷ spans) tame =
      both_pass (flat_map (span_piece settings) (span ∷ spans)) (codes " ")
      (each_passes (span_piece settings) span_passes (span ∷ spans) tame) space

  target_passes : (target : Option (List ℕ)) → IfSome target Passes → Passes (target_piece settings target)
  target_passes None tame = nothing
  target_passes (Some target) tame =
      both_pass (dimmed settings target ++ dimmed settings (codes ":")) (codes " ")
      (both_pass (dimmed settings target) (dimmed settings (codes ":")) (dimmed_passes target tame) dim_colon) space

  unless_passes : (has_line : Bool) → Passes (space_unless has_line)
  unless_passes true = nothing
  unless_passes false = space

  file_passes : (has_line : Bool) (file : Option (List ℕ)) → IfSome file Passes → Passes (file_piece settings has_line file)
  file_passes has_line None tame = nothing
  file_passes has_line (Some file) tame =
      both_pass (dimmed settings file ++ dimmed settings (codes ":")) (space_unless has_line)
      (both_pass (dimmed settings file) (dimmed settings (codes ":")) (dimmed_passes file tame) dim_colon) (unless_passes has_line)

  line_passes : (line : Option ℕ) → IfSome line (λ n. n < 2 ^ 32) → Passes (line_piece settings line)
  line_passes None tame = nothing
  line_passes (Some line) tame =
      both_pass (dimmed settings (decimal line ++ codes ":")) (codes " ")
      (dimmed_passes (decimal line ++ codes ":") (both_pass (decimal line) (codes ":") (number_passes line tame) colon)) space

  full_head_passes : (head : PlainHead) → IsTameHead head → (spans : List PlainShown) → AllByRecursion IsTameSpan spans →
      Passes (full_head settings head spans)
  full_head_passes head tame spans all =
      let a : List ℕ = first_parts head ++ spans_text settings spans in
      let a_pass : Passes a = both_pass (first_parts head) (spans_text settings spans) (first_parts_pass head tame)
      (spans_pass spans all) in
      let b : List ℕ = a ++ target_piece settings head.target in
      let b_pass : Passes b = both_pass a (target_piece settings head.target) a_pass (target_passes head.target tame.target) in
      both_pass (b ++ file_piece settings (is_some head.line) head.file) (line_piece settings head.line)
      (both_pass b (file_piece settings (is_some head.line) head.file) b_pass (file_passes (is_some head.line) head.file tame.file))
      (line_passes head.line tame.line)

  -- the compact format
  name_passes : (span : PlainShown) → IsTameSpan span → Passes (name_piece settings span)
  unfolding name_piece
  name_passes span tame = both_pass (name_in_chain settings span) (codes ":") (chain_name_passes span tame) colon

  names_in_line_pass : (spans : List PlainShown) → AllByRecursion IsTameSpan spans → Passes (names_text settings spans)
  names_in_line_pass [] tame = nothing
  names_in_line_pass (span ∷ spans) tame =
      both_pass (flat_map (name_piece settings) (span ∷ spans)) (codes " ")
      (each_passes (name_piece settings) name_passes (span ∷ spans) tame) space

  colon_passes : (text : Option (List ℕ)) → IfSome text Passes → Passes (with_colon settings text)
  colon_passes None tame = nothing
  colon_passes (Some text) tame =
      both_pass (dimmed settings text) (dimmed settings (codes ":")) (dimmed_passes text tame) dim_colon

  if_passes : (test : Bool) → Passes (space_if test)
  if_passes true = space
  if_passes false = nothing

  file_text_passes : (has_target : Bool) (file : Option (List ℕ)) → IfSome file Passes → Passes (file_text settings has_target file)
  file_text_passes has_target None tame = nothing
  file_text_passes has_target (Some file) tame =
      both_pass (space_if has_target) (with_colon settings (Some file)) (if_passes has_target) (colon_passes (Some file) tame)

  line_text_passes : (line : Option ℕ) → IfSome line (λ n. n < 2 ^ 32) → Passes (line_text settings line)
  line_text_passes None tame = nothing
  line_text_passes (Some line) tame =
      both_pass (dimmed settings (decimal line)) (dimmed settings (codes ":"))
      (dimmed_passes (decimal line) (number_passes line tame)) dim_colon

  places_pass : (head : PlainHead) → IsTameHead head → Passes (places_text settings head)
  unfolding places_text
  places_pass head tame =
      let a : List ℕ = with_colon settings head.target ++ file_text settings (is_some head.target) head.file in
      let a_pass : Passes a = both_pass (with_colon settings head.target) (file_text settings (is_some head.target) head.file)
      (colon_passes head.target tame.target) (file_text_passes (is_some head.target) head.file tame.file) in
      both_pass (a ++ line_text settings head.line) (space_if (shows_place head))
      (both_pass a (line_text settings head.line) a_pass (line_text_passes head.line tame.line)) (if_passes (shows_place head))

  compact_head_passes : (head : PlainHead) → IsTameHead head → (spans : List PlainShown) → AllByRecursion IsTameSpan spans →
      Passes (compact_head settings head spans)
  compact_head_passes head tame spans all =
      both_pass (first_parts head ++ names_text settings spans) (places_text settings head)
      (both_pass (first_parts head) (names_text settings spans) (first_parts_pass head tame) (names_in_line_pass spans all))
      (places_pass head tame)

  behind_passes : (text : List ℕ) → Passes text → Passes (behind_space settings text)
  behind_passes [] tame = nothing
  behind_passes (b ∷ bs) tame = both_pass (codes " ") (dimmed settings (b ∷ bs)) space (dimmed_passes (b ∷ bs) tame)

  text_passes : (span : PlainShown) → IsTameSpan span → Passes (text_piece settings span)
  unfolding text_piece
  text_passes span tame = behind_passes span.text tame.text

  compact_tail_passes : (spans : List PlainShown) → AllByRecursion IsTameSpan spans → Passes (compact_tail settings spans)
  compact_tail_passes spans all =
      both_pass (flat_map (text_piece settings) spans) (codes "\n") (each_passes (text_piece settings) text_passes spans all) newline

pub full_lines_are : FullLinesAreHarmless
full_lines_are settings harmless head tame spans all fields inner =
    framed_passes (full_head settings head spans) (codes "\n") (full_head_passes settings harmless head tame spans all) newline fields inner

pub compact_lines_are : CompactLinesAreHarmless
compact_lines_are settings harmless head tame loose strict all_loose all_strict fields inner =
    framed_passes (compact_head settings head loose) (compact_tail settings strict)
    (compact_head_passes settings harmless head tame loose all_loose) (compact_tail_passes settings harmless strict all_strict) fields inner

-- the pretty format
level_part_passes : (level : Option ℕ) → Passes (level_part level)
level_part_passes None = nothing
level_part_passes (Some level) = both_pass (in_five_places (level_name level)) (codes " ") (five_pass level) space

target_part_passes : (target : Option (List ℕ)) → IfSome target Passes → Passes (target_part target)
target_part_passes None tame = nothing
target_part_passes (Some target) tame = both_pass target (codes ":") tame colon

number_part_passes : (line : Option ℕ) → IfSome line (λ n. n < 2 ^ 32) → Passes (number_part line)
number_part_passes None tame = nothing
number_part_passes (Some line) tame = both_pass (decimal line) (codes ":") (number_passes line tame) colon

pretty_head_passes : (head : PlainHead) → IsTameHead head → Passes (pretty_head head)
pretty_head_passes head tame =
    let a : List ℕ = codes "  " ++ plain_piece head.time in
    let a_pass : Passes a = both_pass (codes "  ") (plain_piece head.time) (harmless_pass (codes "  ") refl)
    (plain_passes head.time tame.time) in
    let b : List ℕ = a ++ level_part head.level in
    let b_pass : Passes b = both_pass a (level_part head.level) a_pass (level_part_passes head.level) in
    let d : List ℕ = b ++ target_part head.target in
    let d_pass : Passes d = both_pass b (target_part head.target) b_pass (target_part_passes head.target tame.target) in
    both_pass (d ++ number_part head.line) (codes " ")
    (both_pass d (number_part head.line) d_pass (number_part_passes head.line tame.line)) space

line_part_passes : (line : Option ℕ) → IfSome line (λ n. n < 2 ^ 32) → Passes (line_part line)
line_part_passes None tame = nothing
line_part_passes (Some line) tame = both_pass (codes ":") (decimal line) colon (number_passes line tame)

file_part_passes : (file : Option (List ℕ)) (line : Option ℕ) → IfSome file Passes → IfSome line (λ n. n < 2 ^ 32) →
    Passes (file_part file line)
file_part_passes None line tame number = nothing
file_part_passes (Some file) line tame number =
    both_pass (codes "    at " ++ file) (line_part line)
    (both_pass (codes "    at ") file (harmless_pass (codes "    at ") refl) tame) (line_part_passes line number)

start_passes : (has_file : Bool) → Passes (thread_start has_file)
start_passes true = harmless_pass (codes " on ") refl
start_passes false = harmless_pass (codes "    on ") refl

before_id_passes : (has_id : Bool) → Passes (space_before_id has_id)
before_id_passes true = space
before_id_passes false = nothing

name_part_passes : (has_id : Bool) (name : Option (List ℕ)) → IfSome name Passes → Passes (name_part has_id name)
name_part_passes has_id None tame = nothing
name_part_passes has_id (Some name) tame = both_pass name (space_before_id has_id) tame (before_id_passes has_id)

id_part_passes : (id : Option (List ℕ)) → IfSome id Passes → Passes (id_part id)
id_part_passes None tame = nothing
id_part_passes (Some id) tame = tame

thread_part_passes : (has_file : Bool) (thread : Option PlainThread) → IfSome thread IsTameThread → Passes (thread_part has_file thread)
thread_part_passes has_file None tame = nothing
thread_part_passes has_file (Some thread) tame =
    both_pass (thread_start has_file ++ name_part (is_some thread.id) thread.name) (id_part thread.id)
    (both_pass (thread_start has_file) (name_part (is_some thread.id) thread.name) (start_passes has_file)
    (name_part_passes (is_some thread.id) thread.name tame.0)) (id_part_passes thread.id tame.1)

newline_if_passes : (test : Bool) → Passes (newline_if test)
newline_if_passes true = newline
newline_if_passes false = nothing

place_passes : (place : PlainPlace) → IsTamePlace place → Passes (place_text place)
place_passes place tame =
    both_pass (file_part place.file place.line ++ thread_part (is_some place.file) place.thread)
    (newline_if (is_some place.file || is_some place.thread))
    (both_pass (file_part place.file place.line) (thread_part (is_some place.file) place.thread)
    (file_part_passes place.file place.line tame.file tame.line)
    (thread_part_passes (is_some place.file) place.thread tame.thread))
    (newline_if_passes (is_some place.file || is_some place.thread))

path_passes : (shows_target : Bool) (target : List ℕ) → Passes target → Passes (path_part shows_target target)
path_passes true target tame = both_pass target (codes "::") tame (harmless_pass (codes "::") refl)
path_passes false target tame = nothing

with_passes : (text : List ℕ) → Passes text → Passes (with_part text)
with_passes [] tame = nothing
with_passes (b ∷ bs) tame = both_pass (codes " with ") (b ∷ bs) (harmless_pass (codes " with ") refl) tame

span_line_passes : (shows_target : Bool) (span : PlainShown) → IsTameSpan span → Passes (span_line shows_target span)
unfolding span_line
span_line_passes shows_target span tame =
    let a : List ℕ = codes "    in " ++ path_part shows_target span.target in
    let a_pass : Passes a = both_pass (codes "    in ") (path_part shows_target span.target) (harmless_pass (codes "    in ") refl)
    (path_passes shows_target span.target tame.target) in
    both_pass (a ++ span.name ++ with_part span.text) (codes "\n")
    (both_pass (a ++ span.name) (with_part span.text) (both_pass a span.name a_pass tame.name) (with_passes span.text tame.text)) newline

from_leaf_passes : (shows_target : Bool) (spans : List PlainShown) → AllByRecursion IsTameSpan spans → Passes (from_leaf shows_target spans)
unfolding from_leaf
from_leaf_passes shows_target [] tame = nothing
from_leaf_passes shows_target (span ∷ spans) tame =
    both_pass (from_leaf shows_target spans) (span_line shows_target span) (from_leaf_passes shows_target spans tame.1)
    (span_line_passes shows_target span tame.0)

pretty_tail_passes : (place : PlainPlace) → IsTamePlace place → (shows_target : Bool) (spans : List PlainShown) →
    AllByRecursion IsTameSpan spans → Passes (pretty_tail place shows_target spans)
pretty_tail_passes place tame shows_target spans all =
    both_pass (codes "\n" ++ place_text place ++ from_leaf shows_target spans) (codes "\n")
    (both_pass (codes "\n" ++ place_text place) (from_leaf shows_target spans)
    (both_pass (codes "\n") (place_text place) newline (place_passes place tame)) (from_leaf_passes shows_target spans all)) newline

pub pretty_lines_are : PrettyLinesAreHarmless
pretty_lines_are head tame place tame_place shows_target loose all fields inner =
    framed_passes (pretty_head head) (pretty_tail place shows_target loose) (pretty_head_passes head tame)
    (pretty_tail_passes place tame_place shows_target loose all) fields inner
