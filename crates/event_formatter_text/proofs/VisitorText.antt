-- What a visitor wrote to the text that was lent to it.
use Rattle.std.proofs.Common.{◌≡◌, List, ℕ, Option, Result, Bool, String, Global, true, string_bytes, sym, ◌∙◌, ap, subst}
use Rattle.event_formatter_text.specs.Lists.{Formats}
use Rattle.event_formatter_text.specs.Visitors.{frame_of}
use Rattle.event_formatter_text.specs.Writers.{written}
use Rattle.event_formatter_text.specs.declared.error.FormatError.{FormatError}
use Rattle.event_formatter_text.specs.declared.settings.Settings.{Settings}
use Rattle.event_formatter_text.specs.declared.writer.Writer.{Writer}

-- the text ends as the visitor's writer left it, whose text is the lent one
pub wrote_text : (text_of : Settings → Bool → Option (List ℕ)) (given before after : Writer) (is_first : Bool)
    (answer : Result (Unit {0}) FormatError) (final : String Global) → before ≡ given → is_first ≡ true →
    (given.out.ghost_name ≡ after.out.ghost_name → final ≡ after.out.now) → frame_of after ≡ frame_of before →
    Formats (text_of (frame_of before).settings is_first) (written before) answer (written after) →
    Formats (text_of given.settings true) (written given) answer (string_bytes final)
wrote_text text_of given before after is_first answer final begun first tie same wrote =
    let ended : final ≡ after.out.now = tie (sym (ap (λ f. f.text) same ∙ ap (λ w. w.out.ghost_name) begun)) in
    subst (λ (t : String Global). Formats (text_of given.settings true) (written given) answer (string_bytes t)) (sym ended)
    (subst (λ (b : Bool). Formats (text_of given.settings b) (written given) answer (written after)) first
    (subst (λ (w : Writer). Formats (text_of w.settings is_first) (written w) answer (written after)) begun wrote))
