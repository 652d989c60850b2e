-- The names of levels as members behind another one.
use Rattle.std.proofs.Common.{◌≡◌, ℕ, List, ◌++◌, Result, Ok, Err, if◌then◌else◌, codes, refl, ap, ◌∙◌}
use Rattle.std.specs.Prelude.{OnOk}
use Rattle.std.specs.Result.{is_ok}
use Rattle.std.specs.Str.{chars}
use lib.Utf8.{encode}
use Rattle.tracing_core_fields.specs.Level.{level_name}
use Rattle.event_formatter_text.specs.Escapes.{escaped, json_char, json_string}
use Rattle.event_formatter_lines.specs.Json.{key_text}

level_member : ℕ → List ℕ
level_member level = codes "," ++ (key_text (codes "level") ++ json_string (level_name level))

info_text : level_member 3 ≡ codes ",\"level\":\"INFO\""
unfolding level_member key_text json_string escaped json_char encode chars
info_text = refl

warn_text : level_member 2 ≡ codes ",\"level\":\"WARN\""
unfolding level_member key_text json_string escaped json_char encode chars
warn_text = refl

error_text : level_member 1 ≡ codes ",\"level\":\"ERROR\""
unfolding level_member key_text json_string escaped json_char encode chars
error_text = refl

debug_text : level_member 4 ≡ codes ",\"level\":\"DEBUG\""
unfolding level_member key_text json_string escaped json_char encode chars
debug_text = refl

pub info : (level : ℕ) → level ≡ 3 → codes "," ++ (key_text (codes "level") ++ json_string (level_name level)) ≡ codes ",\"level\":\"INFO\""
unfolding level_member
info level is = ap level_member is ∙ info_text

pub warn : (level : ℕ) → level ≡ 2 → codes "," ++ (key_text (codes "level") ++ json_string (level_name level)) ≡ codes ",\"level\":\"WARN\""
unfolding level_member
warn level is = ap level_member is ∙ warn_text

pub error : (level : ℕ) → level ≡ 1 → codes "," ++ (key_text (codes "level") ++ json_string (level_name level)) ≡ codes
    ",\"level\":\"ERROR\""
unfolding level_member
error level is = ap level_member is ∙ error_text

pub debug : (level : ℕ) → level ≡ 4 → codes "," ++ (key_text (codes "level") ++ json_string (level_name level)) ≡ codes
    ",\"level\":\"DEBUG\""
unfolding level_member
debug level is = ap level_member is ∙ debug_text

-- what a push of a text leaves, as a clause says it
pub appended : {E : Type 0} (r : Result (Unit {0}) E) (old text new : List ℕ) → new ≡ (if is_ok r then old ++ text else old) →
    OnOk r (new ≡ old ++ text)
appended (Ok done) old text new e = e
appended (Err error) old text new e = tt
