-- The texts of lists of values, and what writes them piece by piece.
use Rattle.std.specs.Prelude.{◌≡◌, ℕ, Bool, true, false, List, [], ◌++◌, if◌then◌else◌, Option, Some, None, is_none, Result, Ok, Err, OnOk}
use Rattle.std.specs.Prelude.{slice_index_or}
use Rattle.std.specs.List.{filter_map, flat_map, join_by, list_any}
use Rattle.std.specs.Option.{option_map}
use Rattle.tracing_core_fields.specs.PlainValue.{PlainValue}
use Rattle.tracing_core_fields.specs.requests.PlainRequests.{PlainValues}
use Rattle.event_formatter_text.specs.declared.error.FormatError.{FormatError}
use Rattle.event_formatter_text.specs.declared.error.FormatError.TheVariants.{Failed, OutOfMemory}

-- a piece, behind the separator unless it is the first
abbrev pub further : List ℕ → Bool → List ℕ → List ℕ
further separator true piece = piece
further separator false piece = separator ++ piece

-- the piece of an entry over these names
abbrev pub entry_piece : (List ℕ → PlainValue → Option (List ℕ)) → List (List ℕ) → ℕ × PlainValue → Option (List ℕ)
entry_piece piece names entry = piece (slice_index_or names entry.0 []) entry.1

-- pieces with a separator between each two, and before the first one too where something stands before them
abbrev pub joined : List ℕ → Bool → List (List ℕ) → List ℕ
joined separator true pieces = join_by (λ p. p) separator pieces
joined separator false pieces = flat_map (λ p. separator ++ p) pieces

abbrev pub joined_unless : List ℕ → Bool → Bool → List (List ℕ) → Option (List ℕ)
joined_unless separator is_first fails pieces = if fails then None else Some (joined separator is_first pieces)

-- the pieces of all entries; none where one can't be formatted
abbrev pub pieces_text : List ℕ → (List ℕ → PlainValue → Option (List ℕ)) → Bool → List (List ℕ) → List (ℕ × PlainValue) → Option (List ℕ)
pieces_text separator piece is_first names entries =
    joined_unless separator is_first (list_any (λ e. is_none (entry_piece piece names e)) entries)
    (filter_map (entry_piece piece names) entries)

-- the text of a list of values
abbrev pub list_text : List ℕ → (List ℕ → PlainValue → Option (List ℕ)) → PlainValues → Option (List ℕ)
list_text separator piece values = pieces_text separator piece true values.names values.entries

-- The text was appended, or it can't be formatted. Out of memory says nothing of what was appended.
abbrev pub Formats : Option (List ℕ) → List ℕ → Result (Unit {0}) FormatError → List ℕ → Type 0
Formats (Some text) old (Ok done) new = new ≡ old ++ text
Formats None old (Ok done) new = ⊥
Formats (Some text) old (Err Failed) new = ⊥
Formats None old (Err Failed) new = Unit {0}
Formats text old (Err OutOfMemory) new = Unit {0}

-- One piece was appended. A piece that can't be formatted is told as that, never as out of memory, and nothing is appended.
abbrev pub FormatsOne : Option (List ℕ) → List ℕ → Result (Unit {0}) FormatError → List ℕ → Type 0
FormatsOne (Some text) old (Ok done) new = new ≡ old ++ text
FormatsOne None old (Ok done) new = ⊥
FormatsOne (Some text) old (Err Failed) new = ⊥
FormatsOne None old (Err Failed) new = new ≡ old
FormatsOne (Some text) old (Err OutOfMemory) new = Unit {0}
FormatsOne None old (Err OutOfMemory) new = ⊥

-- A call of a visitor appended its piece, behind the separator unless it is the first; `frame` is what stays.
abbrev pub WrotePiece : {V S : Type 0} → (V → List ℕ) → (V → Bool) → (V → S) → List ℕ → V → Option (List ℕ) →
    Result (Unit {0}) FormatError → V → Type 0
WrotePiece text is_first frame separator before piece answer after =
    (frame after ≡ frame before) × OnOk answer (is_first after ≡ false)
    × Formats (option_map (further separator (is_first before)) piece) (text before) answer (text after)

-- The same of a visitor that writes a field by itself: a piece that can't be formatted is told as that, and nothing is appended.
abbrev pub WroteField : {V S : Type 0} → (V → List ℕ) → (V → Bool) → (V → S) → List ℕ → V → Option (List ℕ) →
    Result (Unit {0}) FormatError → V → Type 0
WroteField text is_first frame separator before piece answer after =
    (frame after ≡ frame before) × OnOk answer (is_first after ≡ false)
    × FormatsOne (option_map (further separator (is_first before)) piece) (text before) answer (text after)
