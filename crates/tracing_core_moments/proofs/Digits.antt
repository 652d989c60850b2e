-- Two digits, and the fields of a date.
use Rattle.std.proofs.Common.{arith, ◌≡◌, refl, ◌<◌, ◌+◌, ◌/◌, ◌%◌, ℕ, List, ◌∷◌, ◌++◌}
use Rattle.tracing_core_moments.specs.Calendar.{Civil, two_digits, civil_text}
use Rattle.tracing_core_moments.specs.Stamps.{hour_text}

head_same : (a b : ℕ) (xs ys : List ℕ) → (a ∷ xs) ≡ (b ∷ ys) → (a ≡ b) × (xs ≡ ys)
head_same a b xs ys e = let h : a ≡ b = cc in let t : xs ≡ ys = cc in (h, t)

pub two_same : (n m : ℕ) (xs ys : List ℕ) → n < 100 → m < 100 → two_digits n ++ xs ≡ two_digits m ++ ys → (n ≡ m) × (xs ≡ ys)
two_same n m xs ys lt lu e =
    let first = head_same (48 + n / 10) (48 + m / 10) ((48 + n % 10) ∷ xs) ((48 + m % 10) ∷ ys) e in
    let second = head_same (48 + n % 10) (48 + m % 10) xs ys first.1 in
    (omega (arith, first.0, second.0), second.1)

pub field_same : (n m : ℕ) (xs ys : List ℕ) → n < 100 → m < 100 → hour_text n ++ xs ≡ hour_text m ++ ys → (n ≡ m) × (xs ≡ ys)
field_same n m xs ys lt lu e = two_same n m xs ys lt lu (head_same 45 45 (two_digits n ++ xs) (two_digits m ++ ys) e).1

-- the text of a date, field by field
pub fields : (c : Civil) (rest : List ℕ) → civil_text c ++ rest ≡ two_digits (c.year / 100) ++
    (two_digits (c.year % 100) ++ (hour_text c.month ++ (hour_text c.day ++ rest)))
fields c rest = refl

pub record IsSmall (c : Civil) : Type 0 where
  pub year : c.year < 10000
  pub month : c.month < 100
  pub day : c.day < 100

pub record SameFields (a b : Civil) : Type 0 where
  pub year : a.year ≡ b.year
  pub month : a.month ≡ b.month
  pub day : a.day ≡ b.day

-- a text has one date
pub civil_same : (a b : Civil) (xs ys : List ℕ) → IsSmall a → IsSmall b → civil_text a ++ xs ≡ civil_text b ++ ys → SameFields a b ×
    (xs ≡ ys)
civil_same a b xs ys is_a is_b e =
    let low_a : a.year / 100 < 100 = omega (arith, is_a.year) in
    let low_b : b.year / 100 < 100 = omega (arith, is_b.year) in
    let rem_a : a.year % 100 < 100 = omega arith in
    let rem_b : b.year % 100 < 100 = omega arith in
    let first = two_same (a.year / 100) (b.year / 100) (two_digits (a.year % 100) ++ (hour_text a.month ++ (hour_text a.day ++ xs)))
    (two_digits (b.year % 100) ++ (hour_text b.month ++ (hour_text b.day ++ ys))) low_a low_b e in
    let second = two_same (a.year % 100) (b.year % 100) (hour_text a.month ++ (hour_text a.day ++ xs))
    (hour_text b.month ++ (hour_text b.day ++ ys)) rem_a rem_b first.1 in
    let third = field_same a.month b.month (hour_text a.day ++ xs) (hour_text b.day ++ ys) is_a.month is_b.month second.1 in
    let last = field_same a.day b.day xs ys is_a.day is_b.day third.1 in
    (record { year = omega (arith, first.0, second.0); month = third.0; day = last.0 }, last.1)
