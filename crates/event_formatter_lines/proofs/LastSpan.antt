-- The members of the spans, of which the last one comes by itself.
use Rattle.std.proofs.Common.{arith, ◌≡◌, ◌<◌, ◌+◌, ℕ, Bool, List, [], ◌∷◌, ◌++◌, length, get_or, codes, None, Some, refl, sym, ap, ◌∙◌}
use Rattle.std.specs.List.{join_by, last_or}
use Rattle.event_formatter_text.specs.MemberChains.{Extends}
use Rattle.event_formatter_lines.proofs.Separators.{last_at}
use Rattle.event_formatter_lines.proofs.Members.{chained}
use Rattle.event_formatter_lines.specs.Json.{member_if, span_array, span_members, span_object, where_asked}
use Rattle.event_formatter_lines.specs.Shown.{PlainShown, nothing_shown}
use Rattle.event_formatter_lines.specs.declared.json.JsonShape.{JsonShape}

abbrev array_of : List PlainShown → List ℕ
array_of spans = codes "[" ++ join_by span_object (codes ",") spans ++ codes "]"

array_is : (spans : List PlainShown) → 0 < length spans → span_array spans ≡ Some (array_of spans)
array_is [] some = absurd (omega arith)
array_is (span ∷ spans) some = refl

pub both : (shape : JsonShape) (spans : List PlainShown) (place : ℕ) (last : PlainShown) (f g h : Bool) (old mid new : List ℕ) →
    place + 1 ≡ length spans → last ≡ get_or spans place nothing_shown →
    Extends (member_if (codes "span") (where_asked shape.current_span (Some (span_object last)))) f old g mid →
    Extends (member_if (codes "spans") (where_asked shape.span_list (Some (array_of spans)))) g mid h new →
    Extends (span_members shape spans) f old h new
both shape spans place last f g h old mid new count is x y =
    let at_end : last_or None spans ≡ Some last =
    last_at spans (place + 1) nothing_shown count (omega arith) ∙ ap (λ (j : ℕ). Some (get_or spans j nothing_shown)) (omega arith) ∙
    ap (λ (s : PlainShown). Some s) (sym is) in
    rw at_end (rw (array_is spans (omega arith)) (chained x y))
