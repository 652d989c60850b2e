-- What a visitor wrote behind the text that was lent to its writer.
use Rattle.std.proofs.Common.{◌≡◌, ℕ, Bool, List, Option, Result, String, Global, string_bytes, sym, ◌∙◌, ap, subst}
use base.Fml.{GName}
use Rattle.event_formatter_text.specs.Lists.{Formats}
use Rattle.event_formatter_text.specs.Visitors.{frame_of}
use Rattle.event_formatter_text.specs.Writers.{plainly, settings_of, without_styles, written}
use Rattle.event_formatter_text.specs.declared.error.FormatError.{FormatError}
use Rattle.event_formatter_text.specs.declared.settings.Settings.{Settings}
use Rattle.event_formatter_text.specs.declared.writer.Writer.{Writer}

-- the text ends as the visitor's writer left it, which began behind the lent one and writes without styles
pub wrote_behind : (text_of : Settings → Bool → Option (List ℕ)) (lent before after : Writer) (settings : Settings)
    (old : List ℕ) (first is_first : Bool) (answer : Result (Unit {0}) FormatError) (final : String Global) (name : GName) →
    lent.out.ghost_name ≡ name → written lent ≡ old → settings_of lent ≡ settings → before ≡ plainly lent → first ≡ is_first →
    (name ≡ after.out.ghost_name → final ≡ after.out.now) → frame_of after ≡ frame_of before →
    Formats (text_of (frame_of before).settings first) (written before) answer (written after) →
    Formats (text_of (without_styles settings) is_first) old answer (string_bytes final)
wrote_behind text_of lent before after settings old first is_first answer final name named text set begun is tie same wrote =
    let ended : final ≡ after.out.now =
    tie (sym (ap (λ f. f.text) same ∙ ap (λ (w : Writer). w.out.ghost_name) begun ∙ named)) in
    subst (λ (t : String Global). Formats (text_of (without_styles settings) is_first) old answer (string_bytes t)) (sym ended)
    (subst (λ (o : List ℕ). Formats (text_of (without_styles settings) is_first) o answer (written after)) text
    (subst (λ (s : Settings). Formats (text_of (without_styles s) is_first) (written lent) answer (written after)) set
    (subst (λ (b : Bool). Formats (text_of (without_styles (settings_of lent)) b) (written lent) answer (written after)) is
    (subst (λ (w : Writer). Formats (text_of w.settings first) (written w) answer (written after)) begun wrote))))
