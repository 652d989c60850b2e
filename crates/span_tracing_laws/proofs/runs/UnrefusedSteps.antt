-- What a step that reading doesn't refuse finds.
use Rattle.std.proofs.Common.{◌≡◌, ℕ, Bool, true, false, not, ◌==◌, nat_lt, List, [], ◌∷◌, map, Option, Some, None, refl, sym, ap, ◌∙◌}
use Rattle.std.proofs.Common.{subst}
use Rattle.std.specs.Cmp.{unsigned_Decides}
use Rattle.std.specs.Prelude.{if◌then◌else◌, ◌||◌}
use Rattle.std.specs.Option.{option_map}
use Rattle.std.proofs.lemmas.Bool.{not-false}
use Rattle.tracing_core_fields.specs.requests.PlainRequests.{explicit_parent}
use Rattle.tracing_core_fields.specs.declared.requests.refusal.RequestError.{RequestError}
use Rattle.tracing_core_fields.specs.declared.requests.refusal.RequestError.TheVariants as errors
use Rattle.span_registry_layers_store.specs.SlotIndependence.{bare, bare_span}
use Rattle.span_registry_layers_store.specs.RegistryCalls as gives
use Rattle.span_registry_layers_store.specs.Registries.{PlainSpan, RegistryValue, kin_in, knows, one_more, with_handle}
use Rattle.span_registry_layers_store.specs.Spans.{changed, found, handles_of, is_open}
use Rattle.span_registry_layers_store.specs.Spans as spans
use Rattle.span_tracing_skeleton.specs.Acting.{told_parent}
use Rattle.span_tracing_skeleton.specs.Looking.{handles_in, has_open, is_held, leads_to, reach, reached, registry_at}
use Rattle.span_tracing_skeleton.specs.Order.{call_refusal, follows_refusal, pair_refusal}
use Rattle.span_tracing_skeleton.specs.Refusing.{closed_refusal, first, foreign_refusal, ids_refusal, lane_refusal, life_refusal}
use Rattle.span_tracing_skeleton.specs.Refusing.{living_refusal}
use Rattle.span_tracing_skeleton.specs.Refusing.{moment_refusal, named_refusal, number_refusal, open_refusal, parent_refusal, span_refusal}
use Rattle.span_tracing_skeleton.specs.Refusing.{when}
use Rattle.span_tracing_skeleton.specs.Skeleton.{Skeleton}
use Rattle.span_tracing_skeleton.specs.declared.call.FollowsCall.{FollowsCall}
use Rattle.span_tracing_skeleton.specs.declared.call.Parent.{Parent}
use Rattle.span_tracing_skeleton.specs.declared.call.Parent.TheVariants.{Contextual, Root, Explicit}
use Rattle.span_tracing_skeleton.specs.declared.call.SpanCall.{SpanCall}
use Rattle.span_tracing_skeleton.specs.declared.call.SpanName.{SpanName}
use Rattle.span_tracing_skeleton.specs.declared.refusal.Refusal.{Refusal}
use Rattle.span_tracing_skeleton.specs.declared.refusal.Refusal.TheVariants.{ForeignParent, IdsSpent, ReleasedStack, TooManyHandles}
use Rattle.span_tracing_skeleton.specs.declared.refusal.Refusal.TheVariants.{UnknownSpan}

pub first_none : (a b : Option Refusal) → first a b ≡ None → a ≡ None
first_none None b none = refl
first_none (Some refusal) b none = absurd (cc)

pub second_none : (a b : Option Refusal) → first a b ≡ None → b ≡ None
second_none None b none = none
second_none (Some refusal) b none = absurd (cc)

pub when_none : (test : Bool) (refusal : Refusal) → when test refusal ≡ None → test ≡ false
when_none true refusal none = absurd (cc)
when_none false refusal none = refl

-- a condition of what is not open
pub open_by : (b : Bool) (refusal : Refusal) → when (not b) refusal ≡ None → b ≡ true
open_by b refusal passes = not-false b (when_none (not b) refusal passes)

-- a registry without slots has the same spans open
pub open_bare : (ss : List PlainSpan) (id : ℕ) → is_open kin_in (map bare_span ss) id ≡ is_open kin_in ss id
open_bare [] id = refl
open_bare (s ∷ ss) id = ap (λ b. (s.kin.id == id) || b) (open_bare ss id)

found_if : (b : Bool) (s : PlainSpan) (x y : Option PlainSpan) → x ≡ option_map bare_span y →
    (if b then Some (bare_span s) else x) ≡ option_map bare_span (if b then Some s else y)
found_if true s x y e = refl
found_if false s x y e = e

found_bare : (ss : List PlainSpan) (id : ℕ) → found kin_in (map bare_span ss) id ≡ option_map bare_span (found kin_in ss id)
found_bare [] id = refl
found_bare (s ∷ ss) id = found_if (s.kin.id == id) s (found kin_in (map bare_span ss) id) (found kin_in ss id) (found_bare ss id)

handles_one : (o : Option PlainSpan) → spans.handles_in kin_in (option_map bare_span o) ≡ spans.handles_in kin_in o
handles_one None = refl
handles_one (Some s) = refl

pub handles_bare : (ss : List PlainSpan) (id : ℕ) → handles_of kin_in (map bare_span ss) id ≡ handles_of kin_in ss id
handles_bare ss id = ap (spans.handles_in kin_in) (found_bare ss id) ∙ handles_one (found kin_in ss id)

-- one handle more, without slots
more_if : (b : Bool) (s : PlainSpan) (xs ys ss : List PlainSpan) → xs ≡ map bare_span ys →
    (if b then one_more (bare_span s) ∷ map bare_span ss else bare_span s ∷ xs) ≡ map bare_span (if b then one_more s ∷ ss else s ∷ ys)
more_if true s xs ys ss e = refl
more_if false s xs ys ss e = ap (λ (rest : List PlainSpan). bare_span s ∷ rest) e

more_bare : (ss : List PlainSpan) (id : ℕ) → changed kin_in one_more (map bare_span ss) id ≡ map bare_span (changed kin_in one_more ss id)
more_bare [] id = refl
more_bare (s ∷ ss) id = more_if (s.kin.id == id) s (changed kin_in one_more (map bare_span ss) id) (changed kin_in one_more ss id) ss
    (more_bare ss id)

pub handle_bare : (x : RegistryValue) (id : ℕ) → bare (with_handle x id) ≡ with_handle (bare x) id
handle_bare x id = ap (λ (ss : List PlainSpan). record x { spans = ss }) (sym (more_bare x.spans id))

-- the parent of a request that is not refused is open
pub parent_known : (s : Skeleton) (x : RegistryValue) (lane stack : ℕ) (parent : Parent) → reach s lane ≡ Some stack →
    registry_at s stack ≡ bare x → parent_refusal s lane parent ≡ None → knows x (explicit_parent (told_parent parent)) ≡ true
parent_known s x lane stack Contextual at is passes = refl
parent_known s x lane stack Root at is passes = refl
parent_known s x lane stack (Explicit name) at is passes =
    let lives : Option Refusal = life_refusal s name.stack in
    let at_home : Option Refusal = when (not (leads_to (reach s lane) name.stack)) ForeignParent in
    let at_open : Option Refusal = closed_refusal s name in
    let both = second_none lives (first at_home at_open)
    (second_none (number_refusal s name.stack) (first lives (first at_home at_open)) passes) in
    let leads : leads_to (Some stack) name.stack ≡ true = subst (λ (o : Option ℕ). leads_to o name.stack ≡ true) at
    (open_by (leads_to (reach s lane) name.stack) ForeignParent (first_none at_home at_open both)) in
    let home : name.stack ≡ stack = (unsigned_Decides name.stack stack).0 leads in
    sym (open_bare x.spans name.id.value) ∙
    ap (λ (y : RegistryValue). is_open kin_in y.spans name.id.value) (sym (ap (registry_at s) home ∙ is)) ∙
    open_by (has_open s name) UnknownSpan (second_none at_home at_open both)

-- the span of a call that is not refused, where it names one
named_passes : (s : Skeleton) (call : SpanCall) (name : SpanName) → call.span ≡ Some name → call_refusal s call ≡ None →
    span_refusal s (Some name) ≡ None
named_passes s call name named passes = ap (span_refusal s) (sym named) ∙
    second_none (moment_refusal call.moment) (span_refusal s call.span)
    (second_none (lane_refusal s call.lane) (first (moment_refusal call.moment) (span_refusal s call.span)) passes)

-- its stack is held, and the span is open
lives_open : (s : Skeleton) (name : SpanName) → span_refusal s (Some name) ≡ None →
    first (life_refusal s name.stack) (closed_refusal s name) ≡ None
lives_open s name passes = second_none (number_refusal s name.stack) (first (life_refusal s name.stack) (closed_refusal s name)) passes

pub call_held : (s : Skeleton) (call : SpanCall) (name : SpanName) → call.span ≡ Some name → call_refusal s call ≡ None →
    is_held s name.stack ≡ true
call_held s call name named passes = open_by (is_held s name.stack) ReleasedStack
    (first_none (life_refusal s name.stack) (closed_refusal s name) (lives_open s name (named_passes s call name named passes)))

span_open : (s : Skeleton) (name : SpanName) → span_refusal s (Some name) ≡ None → has_open s name ≡ true
span_open s name passes = open_by (has_open s name) UnknownSpan
    (second_none (life_refusal s name.stack) (closed_refusal s name) (lives_open s name passes))

-- so is the stack of a span that follows another one
pub follows_held : (s : Skeleton) (call : FollowsCall) (name : SpanName) → call.span ≡ Some name →
    follows_refusal s call ≡ None → is_held s name.stack ≡ true
follows_held s call name named passes =
    let span = call.span in
    let other = call.follows in
    let opened : Option Refusal = first (open_refusal s span) (open_refusal s other) in
    let home : Option Refusal = first (foreign_refusal span other) opened in
    let lives : Option Refusal = first (living_refusal s other) home in
    let pair = second_none (moment_refusal call.moment) (pair_refusal s span other)
    (second_none (lane_refusal s call.lane) (first (moment_refusal call.moment) (pair_refusal s span other)) passes) in
    let both = second_none (named_refusal s other) (first (living_refusal s span) lives)
    (second_none (named_refusal s span) (first (named_refusal s other) (first (living_refusal s span) lives)) pair) in
    open_by (is_held s name.stack) ReleasedStack (ap (living_refusal s) (sym named) ∙ first_none (living_refusal s span) lives both)

pub call_open : (s : Skeleton) (x : RegistryValue) (call : SpanCall) (name : SpanName) → registry_at s name.stack ≡ bare x →
    call.span ≡ Some name → call_refusal s call ≡ None → gives.open_refusal x name.id.value ≡ None
call_open s x call name is named passes =
    ap (λ (b : Bool). gives.when (not b) errors.UnknownSpan) (sym (open_bare x.spans name.id.value) ∙
    ap (λ (y : RegistryValue). is_open kin_in y.spans name.id.value) (sym is) ∙ span_open s name (named_passes s call name named passes))

-- ids are left where the stack is reached
pub ids_left : (s : Skeleton) (lane : ℕ) → ids_refusal s lane ≡ None → nat_lt gives.most (reached s lane).next_id ≡ false
ids_left s lane passes = when_none (nat_lt gives.most (reached s lane).next_id) IdsSpent passes

-- a handle that is not refused
pub clone_none : (s : Skeleton) (x : RegistryValue) (name : SpanName) → registry_at s name.stack ≡ bare x →
    gives.open_refusal x name.id.value ≡ None → when (handles_in s name == 18446744073709551615) TooManyHandles ≡ None →
    gives.clone_refusal x name.id.value ≡ None
clone_none s x name is opened passes =
    let same : handles_in s name ≡ handles_of kin_in x.spans name.id.value = ap (λ
    (y : RegistryValue). handles_of kin_in y.spans name.id.value) is ∙
    handles_bare x.spans name.id.value in
    ap (λ (o : Option RequestError). gives.first o (gives.when
    (handles_of kin_in x.spans name.id.value == gives.most) errors.TooManyHandles))
    opened
    ∙ ap (λ (b : Bool). gives.when b errors.TooManyHandles) (ap (λ (k : ℕ). k == 18446744073709551615) (sym same) ∙
    when_none (handles_in s name == 18446744073709551615) TooManyHandles passes)

pub close_none : (s : Skeleton) (x : RegistryValue) (name : SpanName) → registry_at s name.stack ≡ bare x →
    when (handles_in s name == 0) UnknownSpan ≡ None → gives.close_refusal x name.id.value ≡ None
close_none s x name is passes =
    let same : handles_in s name ≡ handles_of kin_in x.spans name.id.value = ap (λ
    (y : RegistryValue). handles_of kin_in y.spans name.id.value) is ∙
    handles_bare x.spans name.id.value in
    ap (λ (b : Bool). gives.when b errors.UnknownSpan) (ap (λ (k : ℕ). k == 0) (sym same) ∙
    when_none (handles_in s name == 0) UnknownSpan passes)
