-- A count of what found no memory that doesn't rise.
use Rattle.std.proofs.Common.{◌≡◌, ◌≤◌, ◌<◌, ◌∙◌, ℕ, Bool, true, false, List, [], ◌∷◌, ◌++◌, arith, refl, sym, ap}
use Rattle.event_formatter_lines.specs.slots.FieldsAndTimings.{is_whole}
use Rattle.event_formatter_lines.specs.declared.slots.first_text.FirstText.{FirstText}
use Rattle.event_formatter_lines.specs.declared.slots.first_text.FirstText.TheVariants as texts
use Rattle.span_tracing_outputs.specs.OutputMachines.{Fate, Fated, Heard, all_whole, missed_after, starved_after, starved_by, with_fates}

-- a count after one text or line: it is no less, and still at most the greatest number
missed_rises : (b : Bool) (c : ℕ) → c ≤ 18446744073709551615 → (c ≤ missed_after b c) × (missed_after b c ≤ 18446744073709551615)
missed_rises true c few = (omega arith, few)
missed_rises false c few = (omega (arith, few), omega (arith, few))

missed_stays : (b : Bool) (c : ℕ) → c < 18446744073709551615 → missed_after b c ≤ c → b ≡ true
missed_stays true c below stays = refl
missed_stays false c below stays = absurd (omega (arith, below, stays))

pub rises : (ts : List Fated) (c : ℕ) → c ≤ 18446744073709551615 → c ≤ starved_by ts c
rises [] c few = omega arith
rises (t ∷ ts) c few =
    let text = missed_rises (is_whole t.fate.text) c few in
    let line = missed_rises t.fate.line (missed_after (is_whole t.fate.text) c) text.1 in
    let later = rises ts (starved_after t.fate c) line.1 in
    omega (arith, text.0, line.0, later)

pub both_starved : (ts us : List Fated) (c : ℕ) → starved_by (ts ++ us) c ≡ starved_by us (starved_by ts c)
both_starved [] us c = refl
both_starved (t ∷ ts) us c = both_starved ts us (starved_after t.fate c)

-- all found memory
abbrev pub AllWhole : List Fated → Type 0
AllWhole [] = Unit {0}
AllWhole (t ∷ ts) = (t.fate ≡ all_whole) × AllWhole ts

whole_text : (text : FirstText) → is_whole text ≡ true → text ≡ texts.Whole
whole_text texts.Whole is = refl
whole_text texts.Started is = absurd (cc)
whole_text texts.Nothing is = absurd (cc)

whole_fate : (f : Fate) → f.text ≡ texts.Whole → f.line ≡ true → f ≡ all_whole
whole_fate f text line = ap (λ (t : FirstText). record f { text = t }) text ∙ ap (λ (b : Bool). record all_whole { line = b }) line

pub all_stay : (ts : List Fated) (c : ℕ) → c < 18446744073709551615 → starved_by ts c ≡ c → AllWhole ts
all_stay [] c below stays = tt
all_stay (t ∷ ts) c below stays =
    let mid = missed_after (is_whole t.fate.text) c in
    let text = missed_rises (is_whole t.fate.text) c (omega (arith, below)) in
    let line = missed_rises t.fate.line mid text.1 in
    let later = rises ts (starved_after t.fate c) line.1 in
    let same : starved_after t.fate c ≡ c = omega (arith, text.0, line.0, later, stays) in
    let text_whole = missed_stays (is_whole t.fate.text) c below (omega (arith, text.0, line.0, same)) in
    let line_whole = missed_stays t.fate.line mid (omega (arith, text.0, line.0, same, below)) (omega (arith, text.0, line.0, same)) in (
      whole_fate t.fate (whole_text t.fate.text text_whole) line_whole,
      all_stay ts c below (ap (starved_by ts) (sym same) ∙ stays),
    )

pub split_whole : (ts us : List Fated) → AllWhole (ts ++ us) → AllWhole ts × AllWhole us
split_whole [] us all = (tt, all)
split_whole (t ∷ ts) us (is, all) = let later = split_whole ts us all in ((is, later.0), later.1)

abbrev fated : Heard → Fate → Fated
fated h f = record { heard = h; fate = f }

pub with_whole : (hs : List Heard) (fates : List Fate) → AllWhole (with_fates hs fates) → with_fates hs fates ≡ with_fates hs []
with_whole [] fates all = refl
with_whole (h ∷ hs) [] all = refl
with_whole (h ∷ hs) (f ∷ fates) (is, all) =
    ap (λ (x : Fate). fated h x ∷ with_fates hs fates) is ∙ ap (λ (ts : List Fated). fated h all_whole ∷ ts) (with_whole hs fates all)
