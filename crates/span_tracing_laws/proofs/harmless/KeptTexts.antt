-- What formatters of fields write for people, and keep of spans, doesn't steer a terminal.
use Rattle.std.proofs.Common.{ℕ, Bool, true, false, ◌==◌, if◌then◌else◌, List, [], ◌∷◌, ◌++◌, codes, length, Option, Some, None, IfSome}
use Rattle.std.proofs.Common.{is_none, ◌≡◌, ◌||◌, refl, slice_index_or, subst}
use Rattle.std.proofs.lemmas.List.{append-nil}
use Rattle.std.specs.List.{AllByRecursion, cons_option, filter_map, flat_map, list_any}
use Rattle.std.specs.Option.{option_map}
use Rattle.tracing_core_fields.specs.PlainValue.{PlainValue, debug_of}
use Rattle.tracing_core_fields.specs.requests.PlainRequests.{PlainValues}
use Rattle.event_formatter_text.specs.FieldTexts.{plain_name}
use Rattle.event_formatter_text.specs.HarmlessTexts.{AreTame, IsTame, LetsPass, ListsAreHarmless}
use Rattle.event_formatter_text.specs.Lists.{entry_piece, joined, pieces_text}
use Rattle.event_formatter_text.specs.SpanFields.{PlainFields, behind_space, no_fields, space_behind}
use Rattle.event_formatter_text.specs.TerminalControls.{AreHarmless, steers}
use Rattle.event_formatter_text.specs.Visitors.{default_text, pretty_piece, pretty_text}
use Rattle.event_formatter_text.specs.Writers.{without_styles}
use Rattle.event_formatter_text.specs.declared.settings.Settings.{Settings}
use Rattle.event_formatter_text.proofs.TerminalControls.{both_pass, harmless_pass}
use Rattle.event_formatter.specs.formats.FieldFormats.{added, behind_comma, started_text, text_of}
use Rattle.event_formatter.specs.declared.formats.fields.Fields.{Fields}
use Rattle.event_formatter.specs.declared.formats.fields.Fields.TheVariants as fields
use Rattle.span_tracing_laws.specs.harmless.Kept.{IsForPeople, IsHarmlessKept}
use Rattle.span_tracing_laws.proofs.harmless.Texts.{nothing, space}

comma : LetsPass (codes ", ")
comma = harmless_pass (codes ", ") refl

-- pieces, a comma and a space before each
later_join : (pieces : List (List ℕ)) → AllByRecursion LetsPass pieces → LetsPass (flat_map (λ p. codes ", " ++ p) pieces)
later_join [] all = nothing
later_join (p ∷ ps) all =
    both_pass (codes ", " ++ p) (flat_map (λ q. codes ", " ++ q) ps) (both_pass (codes ", ") p comma all.0) (later_join ps all.1)

join_passes : (is_first : Bool) (pieces : List (List ℕ)) → AllByRecursion LetsPass pieces → LetsPass (joined (codes ", ") is_first pieces)
join_passes false pieces all = later_join pieces all
join_passes true [] all = nothing
join_passes true (p ∷ ps) all = both_pass p (flat_map (λ q. codes ", " ++ q) ps) all.0 (later_join ps all.1)

unless_passes : (fails is_first : Bool) (pieces : List (List ℕ)) → AllByRecursion LetsPass pieces →
    IfSome (if fails then None else Some (joined (codes ", ") is_first pieces)) LetsPass
unless_passes true is_first pieces all = tt
unless_passes false is_first pieces all = join_passes is_first pieces all

cons_passes : (piece : Option (List ℕ)) (more : List (List ℕ)) → IfSome piece LetsPass → AllByRecursion LetsPass more →
    AllByRecursion LetsPass (cons_option piece more)
cons_passes None more passes rest = rest
cons_passes (Some piece) more passes rest = (passes, rest)

-- one more list behind what is kept
behind_nothing : (text : List ℕ) → LetsPass (space_behind text)
behind_nothing [] = nothing
behind_nothing (b ∷ bs) = space

behind_a_space : (kept : PlainFields) (more : Option (List ℕ)) → IsHarmlessKept kept → IfSome more LetsPass →
    IfSome (behind_space more kept) IsHarmlessKept
behind_a_space kept None is passes = tt
behind_a_space kept (Some text) is passes = record {
  text = both_pass kept.text (space_behind kept.text ++ text) is.text
      (both_pass (space_behind kept.text) text (behind_nothing kept.text) passes);
  settings = is.settings;
}

-- the text of a list of one field
one_passes : (piece : Option (List ℕ)) →
    IfSome (if is_none piece || false then None else Some (joined (codes ", ") true (cons_option piece []))) LetsPass →
    IfSome piece LetsPass
one_passes None passes = tt
one_passes (Some text) passes = subst LetsPass (append-nil text) passes

module _ (lists_are : ListsAreHarmless) where
  module _ (settings : Settings) (harmless : AreHarmless settings) (names : List (List ℕ)) where
    pieces_pass : (entries : List (ℕ × PlainValue)) →
        AllByRecursion (λ e. (steers (plain_name (slice_index_or names e.0 [])) ≡ false)
        × IsTame (slice_index_or names e.0 []) (debug_of e.1)) entries →
        AllByRecursion LetsPass (filter_map (entry_piece (pretty_piece (without_styles settings)) names) entries)
    pieces_pass [] tame = tt
    pieces_pass (e ∷ es) tame =
        cons_passes (entry_piece (pretty_piece (without_styles settings)) names e)
        (filter_map (entry_piece (pretty_piece (without_styles settings)) names) es)
        (one_passes (entry_piece (pretty_piece (without_styles settings)) names e)
        (lists_are settings harmless (record { callsite = 0; names = names; entries = e ∷ [] }) (tame.0, tt)).1)
        (pieces_pass es tame.1)

  behind_a_comma : (kept : PlainFields) (values : PlainValues) → AreTame values → IsHarmlessKept kept →
      IfSome (behind_comma kept values) IsHarmlessKept
  behind_a_comma kept values tame is =
      let piece = pretty_piece (without_styles kept.settings) in
      by_text (pieces_text (codes ", ") piece (length kept.text == 0) values.names values.entries)
      (unless_passes (list_any (λ e. is_none (entry_piece piece values.names e)) values.entries) (length kept.text == 0)
      (filter_map (entry_piece piece values.names) values.entries)
      (pieces_pass kept.settings is.settings values.names values.entries tame))
    where
      by_text : (more : Option (List ℕ)) → IfSome more LetsPass →
          IfSome (option_map (λ text. record kept { text = kept.text ++ text }) more) IsHarmlessKept
      by_text None passes = tt
      by_text (Some text) passes = record { text = both_pass kept.text text is.text passes; settings = is.settings }

  pub texts_pass : (formatter : Fields) → IsForPeople formatter → (settings : Settings) → AreHarmless settings → (values : PlainValues) →
      AreTame values → IfSome (text_of formatter settings values) LetsPass
  texts_pass fields.Default is settings harmless values tame = (lists_are settings harmless values tame).0
  texts_pass fields.Pretty is settings harmless values tame = (lists_are settings harmless values tame).1
  texts_pass fields.PrettyFields is settings harmless values tame = (lists_are settings harmless values tame).1
  texts_pass fields.Json is settings harmless values tame = absurd is

  pub started_passes : (formatter : Fields) → IsForPeople formatter → (settings : Settings) → AreHarmless settings →
      IsHarmlessKept (record (no_fields settings) { text = started_text formatter })
  started_passes fields.Default is settings harmless = record { text = nothing; settings = harmless }
  started_passes fields.Pretty is settings harmless = record { text = nothing; settings = harmless }
  started_passes fields.PrettyFields is settings harmless = record { text = nothing; settings = harmless }
  started_passes fields.Json is settings harmless = absurd is

  pub added_passes : (formatter : Fields) → IsForPeople formatter → (kept : PlainFields) (values : PlainValues) → AreTame values →
      IsHarmlessKept kept → IfSome (added formatter kept values) IsHarmlessKept
  added_passes fields.Default people kept values tame is =
      behind_a_space kept (default_text kept.settings values) is (lists_are kept.settings is.settings values tame).0
  added_passes fields.Pretty people kept values tame is = behind_a_comma kept values tame is
  added_passes fields.PrettyFields people kept values tame is =
      behind_a_space kept (pretty_text kept.settings values) is (lists_are kept.settings is.settings values tame).1
  added_passes fields.Json people kept values tame is = absurd people
