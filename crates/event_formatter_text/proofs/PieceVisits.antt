-- A visit by a visitor that writes pieces writes the text of the list.
use Rattle.std.proofs.Common.{◌≡◌, ℕ, Bool, true, false, ◌||◌, List, [], ◌∷◌, ◌++◌, Option, Some, None, is_none, Result, Ok, Err}
use Rattle.std.proofs.Common.{slice_index_or, refl, sym, ap, subst, ◌∙◌, append_assoc}
use Rattle.std.proofs.lemmas.List.{append-nil}
use Rattle.std.specs.List.{cons_option, filter_map, flat_map, list_any}
use Rattle.std.specs.Option.{option_map}
use Rattle.tracing_core_fields.specs.PlainField.{PlainField}
use Rattle.tracing_core_fields.specs.PlainValue.{PlainValue}
use Rattle.tracing_core_fields.specs.Visits.{Visits, all_taken, refused, taken}
use Rattle.event_formatter_text.specs.Lists.{Formats, FormatsOne, WroteField, WrotePiece, entry_piece, further, joined, joined_unless}
use Rattle.event_formatter_text.specs.Lists.{pieces_text}
use Rattle.event_formatter_text.specs.declared.error.FormatError.{FormatError}
use Rattle.event_formatter_text.specs.declared.error.FormatError.TheVariants.{Failed, OutOfMemory}

nothing : (separator old : List ℕ) (is_first : Bool) → old ≡ old ++ joined separator is_first []
nothing separator old true = sym (append-nil old)
nothing separator old false = sym (append-nil old)

-- a piece, and then the rest
one_more : (separator p : List ℕ) (rest : List (List ℕ)) (is_first : Bool) (old mid new : List ℕ) → mid ≡ old ++
    further separator is_first p → new ≡ mid ++ flat_map (λ q. separator ++ q) rest →
    new ≡ old ++ joined separator is_first (p ∷ rest)
one_more separator p rest true old mid new m n = n ∙ ap (λ (t : List ℕ). t ++ flat_map (λ q. separator ++ q) rest) m ∙
    append_assoc old p (flat_map (λ q. separator ++ q) rest)
one_more separator p rest false old mid new m n = n ∙ ap (λ (t : List ℕ). t ++ flat_map (λ q. separator ++ q) rest) m ∙
    append_assoc old (separator ++ p) (flat_map (λ q. separator ++ q) rest)

piece_then : (separator p : List ℕ) (fails is_first : Bool) (rest : List (List ℕ)) (old mid new : List ℕ)
    (answer : Result (Unit {0}) FormatError) → mid ≡ old ++ further separator is_first p →
    Formats (joined_unless separator false fails rest) mid answer new → Formats (joined_unless separator is_first fails (p ∷ rest)) old
    answer new
piece_then separator p false is_first rest old mid new (Ok x) m f = one_more separator p rest is_first old mid new m f
piece_then separator p true is_first rest old mid new (Ok x) m f = absurd f
piece_then separator p false is_first rest old mid new (Err Failed) m f = absurd f
piece_then separator p true is_first rest old mid new (Err Failed) m f = tt
piece_then separator p false is_first rest old mid new (Err OutOfMemory) m f = tt
piece_then separator p true is_first rest old mid new (Err OutOfMemory) m f = tt

taken_then : (separator : List ℕ) (o : Option (List ℕ)) (fails is_first : Bool) (rest : List (List ℕ)) (old mid new : List ℕ)
    (answer : Result (Unit {0}) FormatError) →
    Formats (option_map (further separator is_first) o) old (Ok tt) mid →
    Formats (joined_unless separator false fails rest) mid answer new →
    Formats (joined_unless separator is_first (is_none o || fails) (cons_option o rest)) old answer new
taken_then separator None fails is_first rest old mid new answer w f = absurd w
taken_then separator (Some p) fails is_first rest old mid new answer w f = piece_then separator p fails is_first rest old mid new answer w f

refused_at : (separator : List ℕ) (o : Option (List ℕ)) (fails is_first : Bool) (rest : List (List ℕ)) (old new : List ℕ)
    (error : FormatError) →
    Formats (option_map (further separator is_first) o) old (Err error) new →
    Formats (joined_unless separator is_first (is_none o || fails) (cons_option o rest)) old (Err error) new
refused_at separator None fails is_first rest old new Failed w = tt
refused_at separator (Some p) fails is_first rest old new Failed w = absurd w
refused_at separator None fails is_first rest old new OutOfMemory w = tt
refused_at separator (Some p) false is_first rest old new OutOfMemory w = tt
refused_at separator (Some p) true is_first rest old new OutOfMemory w = tt

-- one piece was written as a text of pieces is
one_formatted : (o : Option (List ℕ)) (old new : List ℕ) (answer : Result (Unit {0}) FormatError) → FormatsOne o old answer new →
    Formats o old answer new
one_formatted None old new (Ok x) w = absurd w
one_formatted (Some p) old new (Ok x) w = w
one_formatted None old new (Err Failed) w = tt
one_formatted (Some p) old new (Err Failed) w = absurd w
one_formatted None old new (Err OutOfMemory) w = absurd w
one_formatted (Some p) old new (Err OutOfMemory) w = tt

-- the separator may be one that stays of the visitor
module _ {V S : Type 0} (text : V → List ℕ) (is_first : V → Bool) (frame : V → S) (separator : S → List ℕ) (piece : S → List ℕ →
    PlainValue → Option (List ℕ)) where
  abbrev pub TakesPieces : V → PlainField → PlainValue → Result (Unit {0}) FormatError → V → Type 0
  TakesPieces before field value answer after = WrotePiece text is_first frame (separator (frame before)) before
      (piece (frame before) field.name value) answer after

  module _ {callsite : ℕ} {names : List (List ℕ)} where
    -- what stays, and the text of the entries
    pub visited : {entries : List (ℕ × PlainValue)} {before after : V} {answer : Result (Unit {0}) FormatError} →
        Visits TakesPieces callsite names entries before answer after →
        (frame after ≡ frame before) × Formats (pieces_text (separator (frame before)) (piece (frame before)) (is_first before) names
        entries) (text before) answer (text after)
    visited {before = before} all_taken = (refl, nothing (separator (frame before)) (text before) (is_first before))
    visited {before = before} {after = after} (refused {place = place} {value = value} {entries = es} {error = error} field is t) =
        let s = frame before in (
          t.0,
          refused_at (separator s) (piece s (slice_index_or names place []) value)
              (list_any (λ e. is_none (entry_piece (piece s) names e)) es) (is_first before) (filter_map (entry_piece (piece s) names) es)
              (text before) (text after) error
              (subst (λ (n : List ℕ). Formats (option_map (further (separator s) (is_first before)) (piece s n value)) (text before)
              (Err error) (text after)) is.is_named t.2),
        )
    visited {before = before} {after = after} {answer = answer} (taken {place = place} {value = value} {entries = es} {next = next} field is
        t more) =
        let s = frame before in
        let rest = visited more in
        let later : Formats (pieces_text (separator s) (piece s) false names es) (text next) answer (text after) =
        subst (λ (r : S). Formats (pieces_text (separator r) (piece r) false names es) (text next) answer (text after)) t.0
        (subst (λ (b : Bool). Formats (pieces_text (separator (frame next)) (piece (frame next)) b names es) (text next) answer
        (text after)) t.1 rest.1) in (
          rest.0 ∙ t.0,
          taken_then (separator s) (piece s (slice_index_or names place []) value)
              (list_any (λ e. is_none (entry_piece (piece s) names e)) es) (is_first before) (filter_map (entry_piece (piece s) names) es)
              (text before) (text next) (text after) answer
              (subst (λ (n : List ℕ). Formats (option_map (further (separator s) (is_first before)) (piece s n value)) (text before) (Ok tt)
              (text next)) is.is_named t.2) later,
        )

  -- the same of a visitor that writes fields by itself
  abbrev pub TakesFields : V → PlainField → PlainValue → Result (Unit {0}) FormatError → V → Type 0
  TakesFields before field value answer after = WroteField text is_first frame (separator (frame before)) before
      (piece (frame before) field.name value) answer after

  as_piece : (before : V) (field : PlainField) (value : PlainValue) (answer : Result (Unit {0}) FormatError) (after : V) →
      TakesFields before field value answer after → TakesPieces before field value answer after
  as_piece before field value answer after t = (
    t.0,
    t.1,
    one_formatted (option_map (further (separator (frame before)) (is_first before)) (piece (frame before) field.name value)) (text before)
        (text after) answer t.2,
  )

  module _ {callsite : ℕ} {names : List (List ℕ)} where
    as_pieces : {entries : List (ℕ × PlainValue)} {before after : V} {answer : Result (Unit {0}) FormatError} →
        Visits TakesFields callsite names entries before answer after → Visits TakesPieces callsite names entries before answer after
    as_pieces all_taken = all_taken
    as_pieces {before = before} {after = after} {answer = answer} (refused {value = value} field is t) =
        refused field is (as_piece before field value answer after t)
    as_pieces {before = before} (taken {value = value} {next = next} field is t more) =
        taken field is (as_piece before field value (Ok tt) next t) (as_pieces more)

    -- what stays, and the text of the entries
    pub fields_visited : {entries : List (ℕ × PlainValue)} {before after : V} {answer : Result (Unit {0}) FormatError} →
        Visits TakesFields callsite names entries before answer after →
        (frame after ≡ frame before) × Formats (pieces_text (separator (frame before)) (piece (frame before)) (is_first before) names
        entries) (text before) answer (text after)
    fields_visited v = visited (as_pieces v)
