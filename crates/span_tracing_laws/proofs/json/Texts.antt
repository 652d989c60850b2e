-- Texts, and files, that hold one object of JSON on each line.
use Rattle.std.proofs.Common.{◌≡◌, ◌≤◌, ◌<◌, ◌==◌, ◌-◌, ℕ, false, if◌then◌else◌, List, [], ◌∷◌, ◌++◌}
use Rattle.std.proofs.Common.{length, get_or, take, codes, refl, sym, ap, subst, ◌∙◌, append_assoc}
use Rattle.std.proofs.Common.{arith}
use Rattle.std.proofs.lemmas.Bool.Decides.{nat_tests}
use Rattle.std.proofs.lemmas.Grind.{flat_map-append}
use Rattle.std.proofs.lemmas.List.{append-nil, length-append}
use Rattle.std.proofs.lemmas.List.Elements.{All-cons, All-nil}
use Rattle.std.proofs.Math.Seq.{get_or-append_seam}
use Rattle.std.proofs.lemmas.List.Splits.{length-slice_split, slice_split_at}
use Rattle.std.specs.List.{All, AllByRecursion, flat_map, slice_split}
use Rattle.std.specs.Str.Lines.{lines, lines_of_parts, strip_carriage_return}
use Rattle.event_formatter_text.specs.IsJson.{IsJson, Value}
use Rattle.event_formatter_lines.specs.JsonLaws.{IsObjectLine, JsonIsPrinted}
use Rattle.span_tracing_laws.specs.json.Texts.{FilesHoldObjects, HoldsObjects, IsJsonObject, IsObjectLines}
use Rattle.span_tracing_laws.specs.json.Texts.{LinesGiveObjects}
use Rattle.span_tracing_laws.proofs.machines.Files.{files_keep}

-- a byte that is printed is no newline
no_newline : (b : ℕ) → 32 ≤ b → (b == 10) ≡ false
no_newline b e = grind (arith, nat_tests, e)

none_ends : (front : List ℕ) → AllByRecursion (λ b. 32 ≤ b) front → All (λ b. (b == 10) ≡ false) front
none_ends [] printed = All-nil (λ b. (b == 10) ≡ false)
none_ends (b ∷ bs) printed = All-cons (λ c. (c == 10) ≡ false) b bs (no_newline b printed.0) (none_ends bs printed.1)

abbrev object_of : List ℕ → List ℕ
object_of inner = 123 ∷ (inner ++ codes "}")

before_last : (inner : List ℕ) → length (object_of inner) - 1 ≡ length (123 ∷ inner)
before_last inner = omega (arith, length-append inner (codes "}"))

last_byte : (inner : List ℕ) → get_or (object_of inner) (length (object_of inner) - 1) 0 ≡ 125
last_byte inner = ap (λ i. get_or (object_of inner) i 0) (before_last inner) ∙ get_or-append_seam (123 ∷ inner) 125 [] 0

-- an object has no carriage return at its end
unstripped : (inner : List ℕ) → strip_carriage_return (object_of inner) ≡ object_of inner
unstripped inner = ap (λ (b : ℕ). if b == 13 then take (length (object_of inner) - 1) (object_of inner) else object_of inner)
    (last_byte inner)

abbrev parts : List ℕ → List (List ℕ)
parts text = slice_split (λ b. b == 10) text

-- a part before others is a line, without the carriage return at its end
before_parts : (x : List ℕ) (ps : List (List ℕ)) → 0 < length ps → lines_of_parts (x ∷ ps) ≡ strip_carriage_return x ∷ lines_of_parts ps
before_parts x [] some = absurd (omega arith)
before_parts x (p ∷ ps) some = refl

some_part : (text : List ℕ) → 0 < length (parts text)
some_part text = omega (arith, length-slice_split (λ b. b == 10) text)

first_line : (front rest : List ℕ) → AllByRecursion (λ b. 32 ≤ b) front → lines (front ++ 10 ∷ rest) ≡ strip_carriage_return front ∷ lines
    rest
first_line front rest printed = ap lines_of_parts (slice_split_at (λ b. b == 10) front 10 rest (none_ends front printed) refl) ∙
    before_parts front (parts rest) (some_part rest)

-- objects, each on its line
abbrev joined : List (List ℕ) → List ℕ
joined each = flat_map (λ line. line) each

module _ (printed : JsonIsPrinted) where
  one_more : (inner text : List ℕ) → IsJson Value (object_of inner) → HoldsObjects text → HoldsObjects (object_of inner ++ 10 ∷ text)
  one_more inner text is later =
      let object = object_of inner in
      let cut : lines (object ++ 10 ∷ text) ≡ object ∷ lines text = first_line object text (printed Value object is) ∙
      ap (λ (line : List ℕ). line ∷ lines text) (unstripped inner) in
      record {
        objects = subst (AllByRecursion IsJsonObject) (sym cut) ((inner, is, refl), later.objects);
        ended = ap (λ (rest : List ℕ). object ++ 10 ∷ rest) later.ended
            ∙ sym (append_assoc object (codes "\n") (flat_map (λ line. line ++ codes "\n") (lines text)))
            ∙ ap (λ (ls : List (List ℕ)). flat_map (λ line. line ++ codes "\n") ls) (sym cut);
      }

  line_before : (line text : List ℕ) → IsObjectLine line → HoldsObjects text → HoldsObjects (line ++ text)
  line_before line text (inner, is, same) later =
      let ends : line ≡ object_of inner ++ 10 ∷ [] = same ∙
      ap (λ (t : List ℕ). 123 ∷ t) (sym (append_assoc inner (codes "}") (codes "\n"))) in
      subst HoldsObjects (sym (ap (λ (l : List ℕ). l ++ text) ends ∙ append_assoc (object_of inner) (codes "\n") text))
      (one_more inner text is later)

  each_on_its_line : (each : List (List ℕ)) → AllByRecursion IsObjectLine each → HoldsObjects (joined each)
  each_on_its_line [] all = record { objects = tt; ended = refl }
  each_on_its_line (line ∷ each) all = line_before line (joined each) all.0 (each_on_its_line each all.1)

  pub lines_give : LinesGiveObjects
  lines_give text (each, all, same) = subst HoldsObjects (sym same) (each_on_its_line each all)

-- texts of objects, one behind the other
none_at_all : IsObjectLines []
none_at_all = ([], tt, refl)

all_behind : (one two : List (List ℕ)) → AllByRecursion IsObjectLine one → AllByRecursion IsObjectLine two →
    AllByRecursion IsObjectLine (one ++ two)
all_behind [] two a b = b
all_behind (line ∷ one) two a b = (a.0, all_behind one two a.1 b)

behind : (one two : List ℕ) → IsObjectLines one → IsObjectLines two → IsObjectLines (one ++ two)
behind one two (ones, a, first) (twos, b, second) = (
  ones ++ twos,
  all_behind ones twos a b,
  ap (λ (t : List ℕ). t ++ two) first ∙ ap (λ (t : List ℕ). joined ones ++ t) second ∙
      sym (flat_map-append (λ line. line) ones twos),
)

-- so are files
pub files_hold : FilesHoldObjects
files_hold =
    files_keep IsObjectLine IsObjectLines none_at_all behind
    (λ line is. (line ∷ [], (is, tt), sym (append-nil line)))
