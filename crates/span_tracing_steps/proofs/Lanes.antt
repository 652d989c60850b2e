-- Lanes and their threads.
use Rattle.std.proofs.Common.{◌≡◌, suc, List, [], ◌∷◌, length, map, refl, sym, ap, ◌∙◌}
use Rattle.span_registry_layers_store.specs.Registries.{RegistryValue}
use Rattle.span_tracing_steps.specs.States.{lane_default, skeleton_of, value_in}
use Rattle.span_tracing_steps.specs.TraceInvariant.{IsSound}
use Rattle.span_tracing_steps.specs.declared.parts.TraceParts.{TraceParts}

pub length_map : {A B : Type 0} (f : A → B) (xs : List A) → length (map f xs) ≡ length xs
length_map f [] = refl
length_map f (x ∷ xs) = ap suc (length_map f xs)

-- there are as many lanes as threads
pub lanes_alike : {T : Type 0} (registry_of : T → RegistryValue) (p : TraceParts T) → IsSound p →
    length (skeleton_of registry_of (value_in p)).lanes ≡ length p.threads.items
lanes_alike registry_of p sound = length_map lane_default p.hub.lanes ∙ sym sound.lanes
