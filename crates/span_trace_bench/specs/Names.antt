-- Benches by their names, and the words that ask for one.
use Rattle.std.specs.Prelude.{ℕ, List, [], ◌∷◌, Bool, true, false, ◌&&◌, codes, is_some, Option, Some, None, if◌then◌else◌}
use Rattle.std.specs.Str.{bytes_eq}
use Rattle.span_trace_bench.specs.declared.bench.Bench.{Bench}
use Rattle.span_trace_bench.specs.declared.bench.Bench.TheVariants.{DirectMemory, EventText, DirectFile, TwoOutputs, JsonMemory, Queued}
use Rattle.span_trace_bench.specs.declared.bench.Bench.TheVariants.{Live, LiveAll, Shared}
use Rattle.span_trace_bench.specs.declared.bench.Bench.TheVariants.{Never, NeverSkipped}
use Rattle.span_trace_bench.specs.declared.bench.Bench.TheVariants.{Refused, Depth64, Open10k, Callsites1k, SpanCycle, SpanCycle10k}
use Rattle.span_trace_bench.specs.declared.bench.Bench.TheVariants.{CloseOldest10k, Entered64, Open, FormatFull, FormatCompact}
use Rattle.span_trace_bench.specs.declared.bench.Bench.TheVariants.{FormatPretty, FormatJson}

abbrev pub name_of : Bench → List ℕ
name_of DirectMemory = codes "direct_memory"
name_of EventText = codes "event_text"
name_of DirectFile = codes "direct_file"
name_of Live = codes "live"
name_of LiveAll = codes "live_all"
name_of Shared = codes "shared"
name_of TwoOutputs = codes "two_outputs"
name_of JsonMemory = codes "json_memory"
name_of Queued = codes "queued"
name_of Never = codes "never"
name_of NeverSkipped = codes "never_skipped"
name_of Refused = codes "refused"
name_of Depth64 = codes "depth64"
name_of Open10k = codes "open10k"
name_of Callsites1k = codes "callsites1k"
name_of SpanCycle = codes "span_cycle"
name_of SpanCycle10k = codes "span_cycle10k"
name_of CloseOldest10k = codes "close_oldest10k"
name_of Entered64 = codes "entered64"
name_of Open = codes "open"
name_of FormatFull = codes "format_full"
name_of FormatCompact = codes "format_compact"
name_of FormatPretty = codes "format_pretty"
name_of FormatJson = codes "format_json"

abbrev pub all_benches : List Bench
all_benches = DirectMemory ∷ EventText ∷ DirectFile ∷ Live ∷ LiveAll ∷ Shared ∷ TwoOutputs ∷ JsonMemory ∷ Queued ∷
    Never ∷ NeverSkipped ∷ Refused ∷ Depth64 ∷ Open10k ∷ Callsites1k ∷ SpanCycle ∷ SpanCycle10k ∷ CloseOldest10k ∷ Entered64 ∷ Open ∷
    FormatFull ∷ FormatCompact ∷ FormatPretty ∷ FormatJson ∷ []

abbrev pub named_in : List Bench → List ℕ → Option Bench
named_in [] name = None
named_in (bench ∷ more) name = if bytes_eq name (name_of bench) then Some bench else named_in more name

-- the bench of that name
abbrev pub bench_named : List ℕ → Option Bench
bench_named name = named_in all_benches name

-- whether the words ask for all sums, or name a bench, a count and a file
abbrev pub asks_bench : List (List ℕ) → Bool
asks_bench [] = true
asks_bench (word ∷ name ∷ count ∷ file ∷ []) = bytes_eq word (codes "bench") && is_some (bench_named name)
asks_bench other = false
