-- What stands in place of an event that can't be formatted doesn't steer a terminal.
use Rattle.std.proofs.Common.{ℕ, Bool, true, false, List, [], ◌∷◌, ◌++◌, codes, Option, Some, None, IfSome, refl}
use Rattle.std.specs.List.{AllByRecursion}
use Rattle.tracing_core_fields.specs.PlainMetadata.{PlainMetadata}
use Rattle.event_formatter_text.specs.HarmlessTexts.{LetsPass}
use Rattle.event_formatter_text.proofs.TerminalControls.{both_pass, harmless_pass}
use Rattle.event_formatter.specs.fmt_layer.Lines.{before_fields, before_name, fault_if, fault_text, later_names}
use Rattle.event_formatter.specs.fmt_layer.Lines.{line_or_fault, names_inside}
use Rattle.span_tracing_laws.specs.harmless.Lines.{IsTameMetadata}
use Rattle.span_tracing_laws.proofs.harmless.Texts.{nothing}

later_pass : (names : List (List ℕ)) → AllByRecursion LetsPass names → LetsPass (later_names names)
later_pass [] all = nothing
later_pass (name ∷ names) all =
    both_pass (codes ", " ++ name) (later_names names) (both_pass (codes ", ") name (harmless_pass (codes ", ") refl) all.0)
    (later_pass names all.1)

names_pass : (names : List (List ℕ)) → AllByRecursion LetsPass names → LetsPass (names_inside names)
names_pass [] all = nothing
names_pass (name ∷ names) all = both_pass name (later_names names) all.0 (later_pass names all.1)

before_name_passes : LetsPass before_name
unfolding before_name
before_name_passes = harmless_pass (codes "Unable to format the following event. Name: ") refl

before_fields_passes : LetsPass before_fields
unfolding before_fields
before_fields_passes = harmless_pass (codes "; Fields: [") refl

fault_passes : (m : PlainMetadata) → IsTameMetadata m → LetsPass (fault_text m)
fault_passes m tame =
    let named : List ℕ = before_name ++ m.name in
    let listed : List ℕ = named ++ before_fields in
    both_pass (listed ++ names_inside m.field_names) (codes "]\n")
    (both_pass listed (names_inside m.field_names)
    (both_pass named before_fields (both_pass before_name m.name before_name_passes tame.name) before_fields_passes)
    (names_pass m.field_names tame.field_names))
    (harmless_pass (codes "]\n") refl)

fault_if_passes : (tells_faults : Bool) (m : PlainMetadata) → IsTameMetadata m → IfSome (fault_if tells_faults m) LetsPass
fault_if_passes true m tame = fault_passes m tame
fault_if_passes false m tame = tt

pub line_or_fault_passes : (tells_faults : Bool) (m : PlainMetadata) (line : Option (List ℕ)) → IsTameMetadata m → IfSome line LetsPass →
    IfSome (line_or_fault tells_faults m line) LetsPass
line_or_fault_passes tells_faults m None tame passes = fault_if_passes tells_faults m tame
line_or_fault_passes tells_faults m (Some line) tame passes = passes
