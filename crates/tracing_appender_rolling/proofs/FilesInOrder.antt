-- Files that are read in byte order of their names.
use Rattle.std.proofs.Common.{◌≡◌, ℕ, ℤ, ◌≤ℤ◌, ◌<ℤ◌, List, [], ◌∷◌, ◌++◌, Bool, true, false, ◌||◌, cond, Option, Some, unwrap_or, refl, sym}
use Rattle.std.proofs.Common.{ap, ◌∙◌, append_assoc, arith, inl, inr, Ordering}
use Rattle.std.specs.Prelude.{◌⊎◌, int_le}
use Rattle.std.specs.List.{filter, flat_map, list_any, AllByRecursion}
use Rattle.std.specs.List.Sorted.{IsStrictlySortedBy}
use Rattle.std.specs.Cmp.Lexicographic.{slice_cmp}
use Rattle.std.specs.Ordering.{nat_cmp, is_eq}
use Rattle.std.specs.Str.{bytes_eq}
use Rattle.std.specs.declared.cmp.Ordering.TheVariants.{Less}
use Rattle.std.proofs.lemmas.Cmp.{nat_list_cmp_total}
use Rattle.std.proofs.lemmas.Map.Text.{is_eq-slice_cmp}
use Rattle.std.proofs.lemmas.Slice.Eq.{bytes_eq-Decides}
use Rattle.std.proofs.lemmas.Bool.{false≢true, false_from_ne_true}
use Rattle.jiff_core.proofs.SignedLemmas.{signed_arith}
use Rattle.tracing_core_moments.specs.declared.period.PeriodKind.{PeriodKind}
use Rattle.tracing_core_moments.specs.declared.period.PeriodKind.TheVariants.{Minute, Hour, Day, Week, Whole}
use Rattle.tracing_core_moments.specs.Days.{is_second}
use Rattle.tracing_core_moments.specs.Periods.{period_of, first_second}
use Rattle.tracing_core_moments.specs.Stamps.{stamp, or_itself}
use Rattle.tracing_core_moments.proofs.Order.{rise}
use Rattle.tracing_core_moments.specs.declared.moment.Moment.{Moment}
use Rattle.tracing_core_moments.specs.Moments.{is_moment, is_earlier, latest_of, period_at}
use Rattle.tracing_appender_rolling.specs.Names.{FileNames, joined, file_name}
use Rattle.tracing_appender_rolling.specs.Sinks.{Handed, Placed, PlainSink, placed, placed_lines, period_in, period_name, lies_in}
use Rattle.tracing_appender_rolling.specs.Sinks.{was_opened, file_text}
use Rattle.tracing_appender_rolling.specs.FilesInOrder.{IsAmong, FilesReadInOrder, OwnFilesReadInOrder}
use Rattle.tracing_appender_rolling.proofs.Files.{filter_none}
use Rattle.tracing_appender_rolling.proofs.PeriodFacts.{moment_second, earlier_seconds}
use Rattle.tracing_appender_rolling.proofs.ByPeriod.{later_is}
use Rattle.tracing_appender_rolling.proofs.LinePlace.{opened_at}

abbrev pub order : List ℕ → List ℕ → Ordering
order = slice_cmp nat_cmp

abbrev pub line_in : Placed → List ℕ
line_in x = x.line

pub not_below_self : (n : List ℕ) → order n n ≡ Less → ⊥
not_below_self n less = false≢true (ap is_eq (sym less) ∙ is_eq-slice_cmp n n ∙ (bytes_eq-Decides n n).1 refl)

-- the same or later in byte order
abbrev pub NotAfter : List ℕ → List ℕ → Type 0
NotAfter n m = (n ≡ m) ⊎ (order n m ≡ Less)

differs : (n m : List ℕ) → (n ≡ m → ⊥) → bytes_eq n m ≡ false
differs n m apart = false_from_ne_true (bytes_eq n m) (λ e. apart ((bytes_eq-Decides n m).0 e))

module _ (key : Placed → List ℕ) where
  abbrev pub has : List ℕ → Placed → Bool
  has n x = bytes_eq (key x) n

  abbrev pub text_at : List Placed → List ℕ → List ℕ
  text_at xs n = flat_map line_in (filter (has n) xs)

  abbrev Rising : List Placed → Type 0
  Rising [] = Unit {0}
  Rising (x ∷ xs) = AllByRecursion (λ y. NotAfter (key x) (key y)) xs × Rising xs

  abbrev AllAmong : List (List ℕ) → List Placed → Type 0
  AllAmong names xs = AllByRecursion (λ x. IsAmong (key x) names) xs

  -- no line lies in a file before those of all lines
  none_before : (n k : List ℕ) (xs : List Placed) → order n k ≡ Less → AllByRecursion (λ y. NotAfter k (key y)) xs → filter (has n) xs ≡ []
  none_before n k [] less all = refl
  none_before n k (y ∷ ys) less all = ap (λ b. cond b (y ∷ filter (has n) ys) (filter (has n) ys)) (miss all.0) ∙
      none_before n k ys less all.1
    where
      miss : NotAfter k (key y) → has n y ≡ false
      miss (inl e) = differs (key y) n (λ same. not_below_self n (ap (order n) (sym same ∙ sym e) ∙ less))
      miss (inr more) = differs (key y) n (λ same. not_below_self n (nat_list_cmp_total.trans n k n less (ap (order k) (sym same) ∙ more)))

  -- a line behind others' names
  skip : (x : Placed) (xs : List Placed) (n : List ℕ) → (key x ≡ n → ⊥) → text_at (x ∷ xs) n ≡ text_at xs n
  skip x xs n apart = ap (λ b. flat_map line_in (cond b (x ∷ filter (has n) xs) (filter (has n) xs))) (differs (key x) n apart)

  others : (x : Placed) (xs : List Placed) (n : List ℕ) (ns : List (List ℕ)) → n ≡ key x → AllByRecursion (λ m. order n m ≡ Less) ns →
      flat_map (text_at (x ∷ xs)) ns ≡ flat_map (text_at xs) ns
  others x xs n [] is all = refl
  others x xs n (m ∷ ms) is all =
      ap (λ t. t ++ flat_map (text_at (x ∷ xs)) ms) (skip x xs m (λ same. not_below_self n (ap (order n) (is ∙ same) ∙ all.0)))
      ∙ ap (λ t. text_at xs m ++ t) (others x xs n ms is all.1)

  below_among : (n k : List ℕ) (ns : List (List ℕ)) → AllByRecursion (λ m. order n m ≡ Less) ns → IsAmong k ns → order n k ≡ Less
  below_among n k [] all there = absurd there
  below_among n k (m ∷ ms) all (inl e) = ap (order n) (sym e) ∙ all.0
  below_among n k (m ∷ ms) all (inr there) = below_among n k ms all.1 there

  insert : (x : Placed) (xs : List Placed) (names : List (List ℕ)) → IsStrictlySortedBy order names → IsAmong (key x) names →
      AllByRecursion (λ y. NotAfter (key x) (key y)) xs → flat_map (text_at (x ∷ xs)) names ≡ x.line ++ flat_map (text_at xs) names
  unfolding IsStrictlySortedBy
  insert x xs [] up there all = absurd there
  insert x xs (n ∷ ns) up (inl e) all =
      ap (λ b. flat_map line_in (cond b (x ∷ filter (has n) xs) (filter (has n) xs)) ++ flat_map (text_at (x ∷ xs)) ns)
      ((bytes_eq-Decides (key x) n).1 (sym e))
      ∙ ap (λ t. (x.line ++ text_at xs n) ++ t) (others x xs n ns e up.0)
      ∙ append_assoc x.line (text_at xs n) (flat_map (text_at xs) ns)
  insert x xs (n ∷ ns) up (inr there) all =
      let less = below_among n (key x) ns up.0 there in
      let none : text_at xs n ≡ [] = ap (flat_map line_in) (none_before n (key x) xs less all) in
      ap (λ t. t ++ flat_map (text_at (x ∷ xs)) ns) (skip x xs n (λ same. not_below_self n (ap (order n) (sym same) ∙ less)) ∙ none)
      ∙ insert x xs ns up.1 there all
      ∙ sym (ap (λ t. x.line ++ (t ++ flat_map (text_at xs) ns)) none)

  no_lines : (names : List (List ℕ)) → flat_map (text_at []) names ≡ []
  no_lines [] = refl
  no_lines (n ∷ ns) = no_lines ns

  pub read_all : (xs : List Placed) (names : List (List ℕ)) → IsStrictlySortedBy order names → Rising xs → AllAmong names xs →
      flat_map (text_at xs) names ≡ flat_map line_in xs
  read_all [] names up rising all = no_lines names
  read_all (x ∷ xs) names up rising all = insert x xs names up all.0 rising.0 ∙ ap (λ t. x.line ++ t) (read_all xs names up rising.1 all.1)

-- running moments never fall, and names rise with them
pub monotone : (kind : PeriodKind) (s t : ℤ) → s ≤ℤ t → period_of kind s ≤ℤ period_of kind t
monotone Minute s t le = omega (arith, signed_arith, le)
monotone Hour s t le = omega (arith, signed_arith, le)
monotone Day s t le = omega (arith, signed_arith, le)
monotone Week s t le = omega (arith, signed_arith, le)
monotone Whole s t le = omega (arith, signed_arith)

less_by_kind : (kind : PeriodKind) (prefix suffix : Option (List ℕ)) (opened s t : ℤ) → is_second s ≡ true → is_second t ≡ true →
    period_of kind s <ℤ period_of kind t →
    order (joined kind prefix (stamp kind (or_itself (first_second kind (period_of kind s)) opened)) suffix)
    (joined kind prefix (stamp kind (or_itself (first_second kind (period_of kind t)) opened)) suffix) ≡ Less
less_by_kind Minute prefix suffix opened s t is_s is_t lt = rise Minute prefix suffix s t is_s is_t lt
less_by_kind Hour prefix suffix opened s t is_s is_t lt = rise Hour prefix suffix s t is_s is_t lt
less_by_kind Day prefix suffix opened s t is_s is_t lt = rise Day prefix suffix s t is_s is_t lt
less_by_kind Week prefix suffix opened s t is_s is_t lt = rise Week prefix suffix s t is_s is_t lt
less_by_kind Whole prefix suffix opened s t is_s is_t lt = absurd (omega (arith, signed_arith, lt))

pub not_after : (names : FileNames) (opened : ℤ) (a b : Moment) → is_moment a ≡ true → is_moment b ≡ true → a.seconds ≤ℤ b.seconds →
    NotAfter (file_name names opened (period_at names.kind a)) (file_name names opened (period_at names.kind b))
unfolding file_name
not_after names opened a b is_a is_b le = by_case (int_le (period_at names.kind b) (period_at names.kind a)) refl
  where
    more : period_at names.kind a ≤ℤ period_at names.kind b
    more = monotone names.kind a.seconds b.seconds le

    by_case : (t : Bool) → int_le (period_at names.kind b) (period_at names.kind a) ≡ t →
        NotAfter (file_name names opened (period_at names.kind a)) (file_name names opened (period_at names.kind b))
    by_case true e = inl (ap (file_name names opened) (omega (arith, signed_arith, e, more)))
    by_case false e = inr (less_by_kind names.kind names.prefix names.suffix opened a.seconds b.seconds (moment_second a is_a)
        (moment_second b is_b) (omega (arith, signed_arith, e)))

pub later_seconds : (a b : Moment) → a.seconds ≤ℤ (latest_of a b).seconds
later_seconds a b = by_case (is_earlier a b) refl
  where
    by_case : (t : Bool) → is_earlier a b ≡ t → a.seconds ≤ℤ (cond t b a).seconds
    by_case true e = earlier_seconds a b e
    by_case false e = omega (arith, signed_arith)

abbrev IsLater : ℤ → Placed → Type 0
IsLater low x = (low ≤ℤ x.running.seconds) × (is_moment x.running ≡ true)

all_later : (low : ℤ) (seen : Moment) (hs : List Handed) → low ≤ℤ seen.seconds → is_moment seen ≡ true →
    AllByRecursion (λ (h : Handed). is_moment h.moment ≡ true) hs → AllByRecursion (IsLater low) (placed seen hs)
all_later low seen [] le is all = tt
all_later low seen (h ∷ hs) le is all =
    let next = later_is seen h.moment (is_earlier seen h.moment) is all.0 in
    let more : low ≤ℤ (latest_of seen h.moment).seconds = omega (arith, signed_arith, le, later_seconds seen h.moment) in
    ((more, next), all_later low (latest_of seen h.moment) hs more next all.1)

abbrev pub key_in : FileNames → Moment → Placed → List ℕ
key_in names opened x = file_name names opened.seconds (period_at names.kind x.running)

names_after : (names : FileNames) (opened r : Moment) (xs : List Placed) → is_moment r ≡ true → AllByRecursion (IsLater r.seconds) xs →
    AllByRecursion (λ y. NotAfter (file_name names opened.seconds (period_at names.kind r)) (key_in names opened y)) xs
names_after names opened r [] is all = tt
names_after names opened r (y ∷ ys) is all =
    (not_after names opened.seconds r y.running is all.0.1 all.0.0, names_after names opened r ys is all.1)

pub rising : (names : FileNames) (opened seen : Moment) (hs : List Handed) → is_moment seen ≡ true →
    AllByRecursion (λ (h : Handed). is_moment h.moment ≡ true) hs → Rising (key_in names opened) (placed seen hs)
rising names opened seen [] is all = tt
rising names opened seen (h ∷ hs) is all =
    let r = latest_of seen h.moment in
    let next = later_is seen h.moment (is_earlier seen h.moment) is all.0 in
    let le : r.seconds ≤ℤ r.seconds = omega (arith, signed_arith) in
    (names_after names opened r (placed r hs) next (all_later r.seconds r hs le next all.1), rising names opened r hs next all.1)

-- each line's file is among the names
pub all_among : (s : PlainSink) (names : List (List ℕ)) → ((name : List ℕ) → was_opened s name ≡ true → IsAmong name names) →
    (before xs : List Placed) → placed_lines s ≡ before ++ xs → AllByRecursion (λ x. IsAmong (key_in s.names s.opened x) names) xs
all_among s names covers before [] e = tt
all_among s names covers before (x ∷ xs) e = (
  covers (key_in s.names s.opened x) (opened_at s before xs x e),
  all_among s names covers (before ++ x ∷ []) xs
      (e ∙ sym (append_assoc before (x ∷ []) xs)),
)

-- what is read from one file
second_false : (a b : Bool) → (a || b) ≡ false → b ≡ false
second_false true b e = cc
second_false false b e = e

pub read_one : (s : PlainSink) (name : List ℕ) → unwrap_or (s.found name) [] ≡ [] →
    unwrap_or (file_text s name) [] ≡ flat_map line_in (filter (lies_in s.names s.opened name) (placed_lines s))
unfolding file_text
read_one s name empty = by_case (was_opened s name) refl
  where
    text : List ℕ
    text = flat_map line_in (filter (lies_in s.names s.opened name) (placed_lines s))

    by_case : (b : Bool) → was_opened s name ≡ b →
        unwrap_or (cond b (Some (unwrap_or (s.found name) [] ++ flat_map line_in (filter (lies_in s.names s.opened name) (placed_lines s))))
        (s.found name)) [] ≡ flat_map line_in (filter (lies_in s.names s.opened name) (placed_lines s))
    by_case true e = ap (λ t. t ++ flat_map line_in (filter (lies_in s.names s.opened name) (placed_lines s))) empty
    by_case false e =
        empty ∙ sym (ap (flat_map line_in)
        (filter_none (lies_in s.names s.opened name) (placed_lines s)
        (second_false (bytes_eq (period_name s (period_in s s.opened)) name) (list_any (lies_in s.names s.opened name) (placed_lines s))
        e)))

pub read_each : (f g : List ℕ → List ℕ) (names : List (List ℕ)) → ((n : List ℕ) → IsAmong n names → f n ≡ g n) →
    flat_map f names ≡ flat_map g names
read_each f g [] same = refl
read_each f g (n ∷ ns) same = ap (λ t. t ++ flat_map f ns) (same n (inl refl)) ∙
    ap (λ t. g n ++ t) (read_each f g ns (λ m there. same m (inr there)))

pub all_lines : (seen : Moment) (hs : List Handed) → flat_map line_in (placed seen hs) ≡ flat_map (λ (h : Handed). h.line) hs
all_lines seen [] = refl
all_lines seen (h ∷ hs) = ap (λ t. h.line ++ t) (all_lines (latest_of seen h.moment) hs)

pub in_order : FilesReadInOrder
in_order s names is_o all empty up covers =
    read_each (λ (name : List ℕ). unwrap_or (file_text s name) [])
    (λ (name : List ℕ). flat_map line_in (filter (lies_in s.names s.opened name) (placed_lines s))) names
    (λ name there. read_one s name (empty name there))
    ∙ read_all (key_in s.names s.opened) (placed_lines s) names up (rising s.names s.opened s.opened s.handed is_o all)
    (all_among s names covers [] (placed_lines s) refl)
    ∙ all_lines s.opened s.handed

pub own_in_order : OwnFilesReadInOrder
own_in_order s names is_o all empty up covers own = in_order s names is_o all (λ name there. empty name (own name there)) up covers
