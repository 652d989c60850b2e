-- The events of spans themselves are tame, and the texts of durations don't steer a terminal.
use Rattle.std.proofs.Common.{arith, ◌≡◌, ◌*◌, ◌/◌, ◌%◌, ℕ, false, nat_lt, if◌then◌else◌, List, ◌++◌, codes}
use Rattle.std.proofs.Common.{Option, Some, None, refl}
use Rattle.std.specs.Fmt.{decimal}
use Rattle.tracing_core_moments.specs.Calendar.{two_digits}
use Rattle.tracing_core_fields.specs.PlainMetadata.{PlainMetadata}
use Rattle.span_registry_layers_store.specs.declared.slot.Timings.{Timings}
use Rattle.event_formatter_text.specs.FieldTexts.{plain_name}
use Rattle.event_formatter_text.specs.HarmlessTexts.{LetsPass}
use Rattle.event_formatter_text.specs.TerminalControls.{steers}
use Rattle.event_formatter_text.specs.declared.format_fields.FormatFields.{Ghosts}
use Rattle.event_formatter_text.proofs.TerminalControls.{both_pass, harmless_pass}
use Rattle.event_formatter_lines.specs.times.Digits.{digit}
use Rattle.event_formatter_lines.specs.times.Durations.{duration_text, hundredths_text, in_unit, micro, rounded, tenths_text}
use Rattle.span_tracing_outputs.specs.OutputMachines.{close_event, message_event}
use Rattle.span_tracing_laws.specs.harmless.Lines.{IsTameEvent, IsTameMetadata}
use Rattle.span_tracing_laws.proofs.harmless.Texts.{decimal_passes, either_is, one_passes, two_pass}

point : LetsPass (codes ".")
point = harmless_pass (codes ".") refl

hundredths_pass : (n : ℕ) → LetsPass (hundredths_text n)
hundredths_pass n =
    both_pass (decimal (n / 100)) (codes "." ++ two_digits (n % 100)) (decimal_passes (n / 100))
    (both_pass (codes ".") (two_digits (n % 100)) point (two_pass (n % 100) (omega arith)))

tenths_pass : (n : ℕ) → LetsPass (tenths_text n)
tenths_pass n =
    both_pass (decimal (n / 10)) (codes "." ++ digit (n % 10)) (decimal_passes (n / 10))
    (both_pass (codes ".") (digit (n % 10)) point (one_passes (n % 10) (omega arith)))

unit_passes : (ns size : ℕ) (unit : List ℕ) → LetsPass unit → LetsPass (in_unit ns size unit)
unit_passes ns size unit passes =
    let hundredths = hundredths_text (rounded (100 * ns) size) in
    let tenths = tenths_text (rounded (10 * ns) size) in
    let whole = decimal (rounded ns size) in
    either_is LetsPass (nat_lt ns (10 * size)) (hundredths ++ unit) (if nat_lt ns (100 * size) then tenths ++ unit else whole ++ unit)
    (both_pass hundredths unit (hundredths_pass (rounded (100 * ns) size)) passes)
    (either_is LetsPass (nat_lt ns (100 * size)) (tenths ++ unit) (whole ++ unit)
    (both_pass tenths unit (tenths_pass (rounded (10 * ns) size)) passes) (both_pass whole unit (decimal_passes (rounded ns size)) passes))

micro_passes : LetsPass micro
micro_passes rest = refl

duration_passes : (ns : ℕ) → LetsPass (duration_text ns)
duration_passes ns =
    let seconds = in_unit ns 1000000000 (codes "s") in
    let millis = in_unit ns 1000000 (codes "ms") in
    let micros = in_unit ns 1000 micro in
    let long = if nat_lt ns 1000000000 then millis else seconds in
    either_is LetsPass (nat_lt ns 1000) (in_unit ns 1 (codes "ns")) (if nat_lt ns 1000000 then micros else long)
    (unit_passes ns 1 (codes "ns") (harmless_pass (codes "ns") refl))
    (either_is LetsPass (nat_lt ns 1000000) micros long (unit_passes ns 1000 micro micro_passes)
    (either_is LetsPass (nat_lt ns 1000000000) millis seconds (unit_passes ns 1000000 (codes "ms") (harmless_pass (codes "ms") refl))
    (unit_passes ns 1000000000 (codes "s") (harmless_pass (codes "s") refl))))

-- the names of their fields
message_name : steers (plain_name (codes "message")) ≡ false
unfolding plain_name
message_name = refl

busy_name : steers (plain_name (codes "time.busy")) ≡ false
unfolding plain_name
busy_name = refl

idle_name : steers (plain_name (codes "time.idle")) ≡ false
unfolding plain_name
idle_name = refl

module _ {N : Type 0} (n : Ghosts N) where
  pub message_is_tame : (m : PlainMetadata) (id : ℕ) (message : List ℕ) → IsTameMetadata m → IsTameEvent (message_event n m id message)
  message_is_tame m id message tame = (tame, ((message_name, tt), tt))

  pub close_is_tame : (m : PlainMetadata) (id : ℕ) (timings : Option Timings) → IsTameMetadata m → IsTameEvent (close_event n m id timings)
  close_is_tame m id None tame = (tame, ((message_name, tt), tt))
  close_is_tame m id (Some timings) tame = (
    tame,
    (
      (message_name, tt),
      ((busy_name, λ other. duration_passes timings.busy), ((idle_name, λ other. duration_passes timings.idle), tt)),
    ),
  )
