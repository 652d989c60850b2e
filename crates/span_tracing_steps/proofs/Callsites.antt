-- Where the callsite with an identifier stands.
use Rattle.std.proofs.Common.{◌≡◌, ℕ, suc, Bool, true, false, ◌==◌, List, [], ◌∷◌, Option, Some, None, is_some, refl, ap, ◌∙◌}
use Rattle.std.specs.Prelude.{if◌then◌else◌, slice_get}
use Rattle.std.specs.Option.{option_map}
use Rattle.tracing_core_fields.specs.PlainMetadata.{PlainMetadata}
use Rattle.tracing_core_fields.specs.requests.Lists.{Every}
use Rattle.tracing_core.specs.Indices.{index_of_callsite}
use Rattle.tracing_core.specs.TableRows.{KeptCallsite}
use Rattle.tracing_core.specs.ValidCaches.{IsTrueCallsite}
use Rattle.tracing_core.specs.declared.hub.index.CallsiteIndex.{CallsiteIndex}
use Rattle.span_tracing_skeleton.specs.Looking.{named}
use Rattle.span_tracing_steps.specs.Callsites.{own_metadata}
use Rattle.span_tracing_steps.specs.States.{at_index, callsites_of}
use Rattle.span_tracing_steps.specs.contracts.callsite.TraceCallsiteCallsite.TheImpl.{ghosts}
use Rattle.span_tracing_steps.specs.declared.callsite.TraceCallsite.{TraceCallsite}

-- the metadata at the place that was found
abbrev at_place : List PlainMetadata → Option ℕ → Option PlainMetadata
at_place ms None = None
at_place ms (Some n) = slice_get ms n

past : (m : PlainMetadata) (ms : List PlainMetadata) (o : Option ℕ) → at_place (m ∷ ms) (option_map suc o) ≡ at_place ms o
past m ms None = refl
past m ms (Some n) = refl

one : (b : Bool) (m : PlainMetadata) (ms : List PlainMetadata) (o : Option ℕ) (later : Option PlainMetadata) → at_place ms o ≡ later →
    at_place (m ∷ ms) (if b then Some 0 else option_map suc o) ≡ (if b then Some m else later)
one true m ms o later e = refl
one false m ms o later e = past m ms o ∙ e

place_names : (rows : List (KeptCallsite TraceCallsite)) (n : ℕ) → Every (IsTrueCallsite ghosts) rows →
    at_place (callsites_of rows) (index_of_callsite n rows) ≡ named (callsites_of rows) n
place_names [] n w = refl
place_names (row ∷ rows) n w =
    one (row.identifier == n) (own_metadata row.callsite) (callsites_of rows) (index_of_callsite n rows) (named (callsites_of rows) n)
    (place_names rows n w.1)
    ∙ ap (λ (k : ℕ). if k == n then Some (own_metadata row.callsite) else named (callsites_of rows) n) w.0.2

by_index : (ms : List PlainMetadata) (o : Option CallsiteIndex) →
    at_index ms o ≡ at_place ms (option_map (λ (index : CallsiteIndex). index.0) o)
by_index ms None = refl
by_index ms (Some index) = refl

pub index_names : (rows : List (KeptCallsite TraceCallsite)) (n : ℕ) (o : Option CallsiteIndex) → Every (IsTrueCallsite ghosts) rows →
    option_map (λ (index : CallsiteIndex). index.0) o ≡ index_of_callsite n rows →
    at_index (callsites_of rows) o ≡ named (callsites_of rows) n
index_names rows n o w e = by_index (callsites_of rows) o ∙ ap (at_place (callsites_of rows)) e ∙ place_names rows n w

some_suc : (o : Option ℕ) → is_some (option_map suc o) ≡ is_some o
some_suc None = refl
some_suc (Some n) = refl

there_if : (b : Bool) (o : Option ℕ) (m : PlainMetadata) (later : Option PlainMetadata) → is_some o ≡ is_some later →
    is_some (if b then Some 0 else option_map suc o) ≡ is_some (if b then Some m else later)
there_if true o m later e = refl
there_if false o m later e = some_suc o ∙ e

place_there : (rows : List (KeptCallsite TraceCallsite)) (n : ℕ) → Every (IsTrueCallsite ghosts) rows →
    is_some (index_of_callsite n rows) ≡ is_some (named (callsites_of rows) n)
place_there [] n w = refl
place_there (row ∷ rows) n w =
    there_if (row.identifier == n) (index_of_callsite n rows) (own_metadata row.callsite) (named (callsites_of rows) n)
    (place_there rows n w.1)
    ∙ ap (λ (k : ℕ). is_some (if k == n then Some (own_metadata row.callsite) else named (callsites_of rows) n)) w.0.2

some_index : (o : Option CallsiteIndex) → is_some o ≡ is_some (option_map (λ (index : CallsiteIndex). index.0) o)
some_index None = refl
some_index (Some index) = refl

pub index_there : (rows : List (KeptCallsite TraceCallsite)) (n : ℕ) (o : Option CallsiteIndex) → Every (IsTrueCallsite ghosts) rows →
    option_map (λ (index : CallsiteIndex). index.0) o ≡ index_of_callsite n rows → is_some o ≡ is_some (named (callsites_of rows) n)
index_there rows n o w e = some_index o ∙ ap is_some e ∙ place_there rows n w
