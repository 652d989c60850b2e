-- What the calls of a registry answer and leave.
use Rattle.std.specs.Prelude.{◌≡◌, ◌<◌, ◌≤◌, ◌+◌, ℕ, ◌==◌, nat_lt, List, [], ◌∷◌, Bool, true, false, not, if◌then◌else◌, length, Option}
use Rattle.std.specs.Prelude.{Some, None, Result, Ok, Err}
use Rattle.tracing_core_fields.specs.requests.Refusals.{or_refused, or_same}
use Rattle.tracing_core_fields.specs.declared.requests.arguments.parent.Parent.{Parent}
use Rattle.tracing_core_fields.specs.PlainMetadata.{PlainMetadata}
use Rattle.tracing_core_fields.specs.requests.PlainRequests.{explicit_parent}
use Rattle.tracing_core_fields.specs.declared.requests.refusal.RequestError.{RequestError}
use Rattle.tracing_core_fields.specs.declared.requests.refusal.RequestError.TheVariants.{OutOfMemory, UnknownSpan, UnknownParent, IdsSpent}
use Rattle.tracing_core_fields.specs.declared.requests.refusal.RequestError.TheVariants.{TooManyHandles}
use Rattle.span_registry_layers_store.specs.declared.filter_map.FilterId.{FilterId}
use Rattle.span_registry_layers_store.specs.declared.filter_map.TooManyFilters.{TooManyFilters}
use Rattle.span_registry_layers_store.specs.Registries.{PlainSpan, RegistryValue, closing_in, kin_in, knows, one_less, one_more, swept}
use Rattle.span_registry_layers_store.specs.Registries.{under, with_entry, with_handle, with_span, without_handle}
use Rattle.span_registry_layers_store.specs.IdOrder.{IsRising}
use Rattle.span_registry_layers_store.specs.Spans.{changed, closed_of, handles_of, is_open, keeps, open_of, parent_of}

-- the greatest id, and the greatest number of handles
abbrev pub most : ℕ
most = 18446744073709551615

abbrev pub when : {E : Type 0} → Bool → E → Option E
when true refusal = Some refusal
when false refusal = None

-- the first refusal of two
abbrev pub first : {E : Type 0} → Option E → Option E → Option E
first None later = later
first (Some refusal) later = Some refusal

-- a new span's parent, where one is named, is open, and an id is left
abbrev pub span_refusal : RegistryValue → Parent → Option RequestError
span_refusal x parent = first (when (not (knows x (explicit_parent parent))) UnknownParent) (when (nat_lt most x.next_id) IdsSpent)

-- what is refused changes nothing; what isn't may find no memory, and then changes nothing either
abbrev pub GivesUnless : {A : Type 0} → Option RequestError → RegistryValue → A → RegistryValue → Result A RequestError → RegistryValue →
    Type 0
GivesUnless (Some refusal) x answer left r y = (r ≡ Err refusal) × (y ≡ x)
GivesUnless None x answer left (Ok given) y = (given ≡ answer) × (y ≡ left)
GivesUnless None x answer left (Err e) y = (e ≡ OutOfMemory) × (y ≡ x)

-- a new span has the next id, and one handle
abbrev pub SpanGives : RegistryValue → PlainMetadata → Parent → ℕ → List Bool → Result ℕ RequestError → RegistryValue → Type 0
SpanGives x metadata parent lane passed r y =
    GivesUnless (span_refusal x parent) x x.next_id (with_span x metadata (under x lane parent) passed) r y

abbrev pub open_refusal : RegistryValue → ℕ → Option RequestError
open_refusal x id = when (not (is_open kin_in x.spans id)) UnknownSpan

-- an open span is entered
abbrev pub EntryGives : RegistryValue → ℕ → ℕ → Result (Unit {0}) RequestError → RegistryValue → Type 0
EntryGives x lane id r y = GivesUnless (open_refusal x id) x tt (with_entry x lane id) r y

abbrev pub follow_refusal : RegistryValue → ℕ → ℕ → Option RequestError
follow_refusal x id follows = first (open_refusal x id) (open_refusal x follows)

-- one more is counted, up to 64
abbrev pub CountGives : ℕ → Result FilterId TooManyFilters → ℕ → Type 0
CountGives count (Ok filter) later = (filter.index ≡ count) × (count < 64) × (later ≡ count + 1)
CountGives count (Err refusal) later = (64 ≤ count) × (later ≡ count)

-- filters are numbered in order, and there are at most 64
abbrev pub FilterGives : RegistryValue → Result FilterId TooManyFilters → RegistryValue → Type 0
FilterGives x (Ok filter) y = (filter.index ≡ x.filters) × (x.filters < 64) × (y ≡ record x { filters = x.filters + 1 })
FilterGives x (Err refusal) y = (64 ≤ x.filters) × (y ≡ x)

-- an open span has at most so many handles
abbrev pub clone_refusal : RegistryValue → ℕ → Option RequestError
clone_refusal x id = first (open_refusal x id) (when (handles_of kin_in x.spans id == most) TooManyHandles)

abbrev pub clone_gives : RegistryValue → ℕ → Result ℕ RequestError × RegistryValue
clone_gives x id = (or_refused (clone_refusal x id) id, or_same (clone_refusal x id) x (with_handle x id))

-- a handle is given up where there is one
abbrev pub close_refusal : RegistryValue → ℕ → Option RequestError
close_refusal x id = when (handles_of kin_in x.spans id == 0) UnknownSpan

abbrev pub give_up_gives : RegistryValue → ℕ → Result (Unit {0}) RequestError × RegistryValue
give_up_gives x id = (or_refused (close_refusal x id) tt, or_same (close_refusal x id) x (without_handle x id))

-- whether the span is not open any more
abbrev pub is_closed : RegistryValue → ℕ → Bool
is_closed x id = not (is_open kin_in x.spans id)

abbrev pub close_gives : RegistryValue → ℕ → Result Bool RequestError × RegistryValue
close_gives x id = (
  or_refused (close_refusal x id) (is_closed (swept (without_handle x id)) id),
  or_same (close_refusal x id) x (swept (without_handle x id)),
)

-- one handle more of a span, among these
abbrev pub handle_taken : List PlainSpan → ℕ → Result ℕ RequestError × List PlainSpan
handle_taken ss id =
    let refusal : Option RequestError = first (when (not (is_open kin_in ss id)) UnknownSpan)
    (when (handles_of kin_in ss id == most) TooManyHandles) in
    (or_refused refusal id, or_same refusal ss (changed kin_in one_more ss id))

-- and one less
abbrev pub handle_given_up : List PlainSpan → ℕ → Result (Unit {0}) RequestError × List PlainSpan
handle_given_up ss id =
    let refusal : Option RequestError = when (handles_of kin_in ss id == 0) UnknownSpan in
    (or_refused refusal tt, or_same refusal ss (changed kin_in one_less ss id))

-- nothing closes
abbrev pub IsSettled : RegistryValue → Type 0
IsSettled x = (closing_in x ≡ []) × (swept x ≡ x)

-- the span of the id closes next
abbrev pub IsNext : RegistryValue → ℕ → Type 0
IsNext x id = (s : PlainSpan) × (later : List PlainSpan) × (s.kin.id ≡ id) × (closing_in x ≡ s ∷ later)

-- without the first span of an id
abbrev pub dropped : List PlainSpan → ℕ → List PlainSpan
dropped [] id = []
dropped (s ∷ ss) id = if s.kin.id == id then ss else s ∷ dropped ss id

-- the span of the id goes, unless it stays; its parent is answered
abbrev pub GoesUnlessKept : List (List ℕ) → List PlainSpan → ℕ → Option (Option ℕ) → List PlainSpan → Type 0
GoesUnlessKept lanes ss id None left = (keeps kin_in lanes ss id ≡ true) × (left ≡ ss)
GoesUnlessKept lanes ss id (Some parent) left =
    (keeps kin_in lanes ss id ≡ false) × (parent ≡ parent_of kin_in ss id) × (left ≡ dropped ss id)

-- the span of the id closes first, and leaves these
pub record ClosesTo (lanes : List (List ℕ)) (ss others : List PlainSpan) (id : ℕ) : Type 0 where
  pub span : PlainSpan
  pub same : span.kin.id ≡ id
  pub closed : closed_of kin_in lanes ss ≡ span ∷ closed_of kin_in lanes others
  pub left : open_of kin_in lanes others ≡ open_of kin_in lanes ss
  pub fewer : length others < length ss

abbrev pub ClosesFirst : List (List ℕ) → List PlainSpan → ℕ → Type 0
ClosesFirst lanes ss id = ClosesTo lanes ss (dropped ss id) id

-- the span of the id closed, and then the others close that did before; where ids rise, it alone is gone
abbrev pub ClosesNext : RegistryValue → ℕ → RegistryValue → Type 0
ClosesNext x id y =
    (s : PlainSpan) × (s.kin.id ≡ id) × (closing_in x ≡ s ∷ closing_in y) × (swept y ≡ swept x) × (y ≡ record x { spans = y.spans })
    × (IsRising x → y.spans ≡ dropped x.spans s.kin.id)

abbrev pub ForgetGives : RegistryValue → Option ℕ → RegistryValue → Type 0
ForgetGives x None y = IsSettled x × (y ≡ x)
ForgetGives x (Some id) y = ClosesNext x id y
