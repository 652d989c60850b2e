-- Spans of which objects are kept, as lines show them.
use Rattle.std.proofs.Common.{inl, inr, ℕ, List, [], ◌∷◌, map, Option, Some, None, IfSome, unwrap_or, refl}
use Rattle.std.specs.List.{AllByRecursion}
use Rattle.std.specs.Option.{option_map}
use Rattle.event_formatter_text.specs.SpanFields.{PlainFields}
use Rattle.event_formatter_lines.specs.JsonLaws.{IsKeptWell, IsObject, ObjectsAreKept}
use Rattle.span_tracing_outputs.specs.OutputMachines.{KeptSpan, Seen, kept_found, shown_with}
use Rattle.span_tracing_laws.specs.json.Objects.{KeepsJsonOf}
use Rattle.span_tracing_laws.proofs.machines.Machine.{found_is}

module _ (objects : ObjectsAreKept) where
  shown_well : (name target : List ℕ) (fields : Option PlainFields) → IfSome fields IsObject →
      IsKeptWell (record { name = name; target = target; text = unwrap_or (option_map (λ (kept : PlainFields). kept.text) fields) [] })
  shown_well name target None is = inr refl
  shown_well name target (Some fields) is = inl (objects fields (record { name = name; target = target; text = fields.text }) is refl)

  pub spans_well : (ks : List KeptSpan) (spans : List Seen) → AllByRecursion KeepsJsonOf ks →
      AllByRecursion IsKeptWell (map (shown_with ks) spans)
  spans_well ks [] all = tt
  spans_well ks (s ∷ spans) all =
      (shown_well s.name s.target (kept_found ks s.id).fields (found_is IsObject ks s.id all), spans_well ks spans all)
