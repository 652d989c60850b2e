-- A text that was formatted between two others.
use Rattle.std.proofs.Common.{◌≡◌, ℕ, List, ◌++◌, Option, Some, None, Ok, Err, ap, ◌∙◌, append_assoc}
use Rattle.event_formatter_lines.specs.Frames.{framed_text}
use Rattle.event_formatter_text.specs.Lists.{Formats}
use Rattle.event_formatter_text.specs.declared.error.FormatError.{FormatError}
use Rattle.event_formatter_text.specs.declared.error.FormatError.TheVariants.{Failed, OutOfMemory}

pub framed : (front : List ℕ) (text : Option (List ℕ)) (back old mid inner new : List ℕ) → mid ≡ old ++ front →
    Formats text mid (Ok tt) inner → new ≡ inner ++ back → Formats (framed_text front text back) old (Ok tt) new
framed front None back old mid inner new m f n = absurd f
framed front (Some text) back old mid inner new m f n =
    n ∙ ap (λ (t : List ℕ). t ++ back) (f ∙ ap (λ (t : List ℕ). t ++ text) m) ∙ append_assoc (old ++ front) text back ∙
    append_assoc old front (text ++ back)

pub refused : (front : List ℕ) (text : Option (List ℕ)) (back old mid inner new : List ℕ) (error : FormatError) →
    Formats text mid (Err error) inner → Formats (framed_text front text back) old (Err error) new
refused front None back old mid inner new Failed f = tt
refused front (Some text) back old mid inner new Failed f = absurd f
refused front None back old mid inner new OutOfMemory f = tt
refused front (Some text) back old mid inner new OutOfMemory f = tt
