-- A line that is put together from its pieces.
use Rattle.std.proofs.Common.{◌≡◌, ℕ, List, [], ◌++◌, Option, Some, None, Result, Ok, Err, refl, sym, ap, ◌∙◌, append_assoc}
use Rattle.std.proofs.lemmas.List.{append-nil}
use Rattle.std.specs.Option.{option_map}
use Rattle.event_formatter_lines.specs.Frames.{framed_text}
use Rattle.event_formatter_text.specs.Lists.{Formats}
use Rattle.event_formatter_text.specs.declared.error.FormatError.{FormatError}
use Rattle.event_formatter_text.specs.declared.error.FormatError.TheVariants.{Failed, OutOfMemory}

-- a piece was appended behind those before it
then : (old front piece mid new : List ℕ) → mid ≡ old ++ front → new ≡ mid ++ piece → new ≡ old ++ (front ++ piece)
then old front piece mid new m n = n ∙ ap (λ (l : List ℕ). l ++ piece) m ∙ append_assoc old front piece

-- what stands before the fields of a usual line was appended in three calls
pub in_turn : (old time level spans target levelled spanned new : List ℕ) → levelled ≡ old ++ (time ++ level) →
    spanned ≡ levelled ++ spans → new ≡ spanned ++ target →
    new ≡ old ++ (((((((time ++ level) ++ []) ++ []) ++ spans) ++ target) ++ []) ++ [])
in_turn old time level spans target levelled spanned new l s n =
    let front = time ++ level in
    let placed = (front ++ []) ++ [] in
    let led = (placed ++ spans) ++ target in
    then old (front ++ spans) target spanned new (then old front spans levelled spanned l s) n
    ∙ ap (λ (t : List ℕ). old ++ t)
    (sym (append-nil (led ++ []) ∙ append-nil led
    ∙ ap (λ (f : List ℕ). (f ++ spans) ++ target) (append-nil (front ++ []) ∙ append-nil front)))

-- the fields and the line's end were appended behind it
pub behind : (front : List ℕ) (text : Option (List ℕ)) (back old mid new : List ℕ) (answer : Result (Unit {0}) FormatError) → mid ≡ old ++
    front →
    Formats (option_map (λ (inner : List ℕ). inner ++ back) text) mid answer new → Formats (framed_text front text back) old answer new
behind front None back old mid new (Ok done) m f = absurd f
behind front (Some text) back old mid new (Ok done) m f =
    f ∙ ap (λ (t : List ℕ). t ++ (text ++ back)) m ∙ append_assoc old front (text ++ back)
behind front None back old mid new (Err Failed) m f = tt
behind front (Some text) back old mid new (Err Failed) m f = absurd f
behind front None back old mid new (Err OutOfMemory) m f = tt
behind front (Some text) back old mid new (Err OutOfMemory) m f = tt
