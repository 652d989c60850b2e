-- The JSON format writes objects, and its formatter of fields keeps them.
use Rattle.std.proofs.Common.{◌≡◌, ◌<◌, ◌^◌, ℕ, ℤ, Bool, true, false, List, Option, Some, None, codes, IfSome, IsSome, refl, sym, ap, subst}
use Rattle.std.proofs.Common.{◌∙◌}
use Rattle.std.specs.List.{AllByRecursion}
use Rattle.std.specs.Option.{option_map}
use Rattle.tracing_core_fields.specs.requests.PlainRequests.{PlainEvent, PlainValues}
use Rattle.event_formatter_text.specs.MemberChains.{members_of}
use Rattle.event_formatter_text.specs.declared.format_fields.FormatFields.{Ghosts}
use Rattle.event_formatter_text.specs.declared.settings.Settings.{Settings}
use Rattle.event_formatter_lines.specs.Json.{field_members, first_members, last_members, member_if, object_line, object_of}
use Rattle.event_formatter_lines.specs.JsonLaws.{IsKeptWell, IsObjectLine, LinesAreJson}
use Rattle.event_formatter.specs.formats.Contexts.{PlainContext}
use Rattle.event_formatter.specs.formats.Lines.{asked, head_of, line_in, with_styles}
use Rattle.event_formatter.specs.declared.formats.fields.Fields.{Fields}
use Rattle.event_formatter.specs.declared.formats.fields.Fields.TheVariants as fields
use Rattle.event_formatter.specs.declared.formats.format.Format.{Format}
use Rattle.event_formatter.specs.declared.formats.line_format.Json.{Json}
use Rattle.event_formatter.specs.declared.formats.line_format.LineFormat.{LineFormat}
use Rattle.event_formatter.specs.declared.formats.line_format.LineFormat.TheVariants as format
use Rattle.event_formatter.specs.declared.formats.parts.Parts.{Parts}
use Rattle.span_tracing_outputs.specs.OutputMachines.{PlainOut}
use Rattle.span_tracing_laws.specs.json.Formats.{JsonFormatWritesObjects, WritesIn}
use Rattle.span_tracing_laws.specs.json.Objects.{CanBeFormatted, IsEventInRange, KeepsObjectsOf}

number_below : (is_asked : Bool) (line : Option ℕ) → IfSome line (λ n. n < 2 ^ 32) → IfSome (asked is_asked line) (λ n. n < 2 ^ 32)
number_below true line below = below
number_below false line below = tt

object_is_there : (before behind : List (List ℕ)) (members : Option (List (List ℕ))) → IsSome members →
    IsSome (object_line before members behind)
object_is_there before behind None there = absurd (cc)
object_is_there before behind (Some members) there = refl

fields_are_there : (flat : Bool) (values : PlainValues) → IsSome (members_of values) → IsSome (field_members flat values)
fields_are_there true values there = there
fields_are_there false values there = by_members (members_of values) there
  where
    by_members : (members : Option (List (List ℕ))) → IsSome members →
        IsSome (option_map (λ texts. member_if (codes "fields") (Some (object_of texts))) members)
    by_members None there = absurd (cc)
    by_members (Some members) there = refl

module _ (lines_are : LinesAreJson) (json : Json) (parts : Parts) (time : PlainContext → Option (List ℕ)) where
  in_json : (settings : Settings) (c : PlainContext) (e : PlainEvent) → AllByRecursion IsKeptWell c.loose → IsEventInRange e →
      IfSome (line_in (format.Json json) parts settings (time c) c e) IsObjectLine
  in_json settings c e well range =
      lines_are json.shape (head_of false parts (time c) c.thread e.metadata) c.loose e.values
      (number_below parts.line_number e.metadata.line range.0) well range.1

  each_in_json : (settings : Settings) (c : PlainContext) (e : PlainEvent) → CanBeFormatted e →
      IsSome (line_in (format.Json json) parts settings (time c) c e)
  each_in_json settings c e there =
      object_is_there (first_members (head_of false parts (time c) c.thread e.metadata))
      (last_members json.shape (head_of false parts (time c) c.thread e.metadata) c.loose)
      (field_members json.shape.flatten_event e.values)
      (fields_are_there json.shape.flatten_event e.values there)

module _ {T : Type 0} (n : Ghosts Fields) (line_of : Format LineFormat T → Settings → PlainContext → PlainEvent → Option (List ℕ))
    (text_at : T → ℤ → ℕ → Option (List ℕ)) (lines_are : LinesAreJson) (keeps : KeepsObjectsOf n fields.Json)
    (writes : (layout : Format LineFormat T) (settings : Settings) (c : PlainContext) (e : PlainEvent) →
    line_of layout settings c e ≡ line_in layout.shape layout.parts (with_styles layout.ansi settings)
    (text_at layout.timer c.seconds c.nanoseconds) c e) where
  abbrev time_of : Format LineFormat T → PlainContext → Option (List ℕ)
  time_of layout c = text_at layout.timer c.seconds c.nanoseconds

  same_line : (o : PlainOut Fields) (layout : Format LineFormat T) (json : Json) → layout.shape ≡ format.Json json →
      WritesIn line_of o layout → (settings : Settings) (c : PlainContext) (e : PlainEvent) →
      line_in (format.Json json) layout.parts (with_styles layout.ansi settings) (time_of layout c) c e ≡ o.line_of settings c e
  same_line o layout json shape same settings c e =
      ap (λ (s : LineFormat). line_in s layout.parts (with_styles layout.ansi settings) (time_of layout c) c e) (sym shape) ∙
      sym (writes layout settings c e) ∙ same settings c e

  pub json_format : JsonFormatWritesObjects n line_of
  json_format o layout json shape same is_json kept = (
    record {
      format = λ settings c e well range.
          subst (λ (line : Option (List ℕ)). IfSome line IsObjectLine) (same_line o layout json shape same settings c e)
          (in_json lines_are json layout.parts (time_of layout) (with_styles layout.ansi settings) c e well range);
      fields = subst (λ (f : Fields). KeepsObjectsOf n f) (sym is_json) keeps;
      kept = kept;
    },
    λ settings c e there.
        subst (λ (line : Option (List ℕ)). IsSome line) (same_line o layout json shape same settings c e)
        (each_in_json lines_are json layout.parts (time_of layout) (with_styles layout.ansi settings) c e there),
  )
