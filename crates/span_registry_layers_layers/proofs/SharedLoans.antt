-- What a layer is told over a loan that others had before it.
use Rattle.std.proofs.Common.{◌≡◌, ap, ◌∙◌, subst}
use Rattle.span_registry_layers_store.specs.Registries.{RegistryValue}
use Rattle.span_registry_layers_store.specs.Views.{mask_of}
use Rattle.span_registry_layers_layers.specs.FilterViews.{SameLoan, View, left, seeing, view}
use Rattle.span_registry_layers_layers.specs.Notices.{Notice}
use Rattle.span_registry_layers_layers.specs.Several.{TellsOne}
use Rattle.span_registry_layers_layers.specs.declared.context.Context.{Context}
use Rattle.span_registry_layers_layers.specs.declared.layer.Layer.{Ghosts}

-- it shows what the first one does, over the registry as it is then
pub same_sight : (c d : Context) → SameLoan c d → view d ≡ seeing (left d) (view c)
same_sight c d same =
    ap (λ at. record (view d) { at = at }) same.1 ∙ ap (λ filter. record (seeing (left d) (view c)) { mask = mask_of filter }) same.2

pub told_on : {L : Type 0} (g : Ghosts L) (n : View → RegistryValue → Notice) (c d : Context) (l : L) (y : RegistryValue) (m : L) →
    SameLoan c d → g.told l (n (view d) y) m → TellsOne g n (view c) (left d) l y m
told_on g n c d l y m same told = subst (λ v. g.told l (n v y) m) (same_sight c d same) told

-- over a registry that is the same, it shows the same
pub same_view : (c d : Context) → SameLoan c d → left d ≡ left c → view d ≡ view c
same_view c d lent same = same_sight c d lent ∙ ap (λ (x : RegistryValue). seeing x (view c)) same
