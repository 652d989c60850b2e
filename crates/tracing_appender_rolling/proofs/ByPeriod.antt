-- A file's test by name is the test by period.
use Rattle.std.proofs.Common.{◌≡◌, ℤ, List, [], ◌∷◌, ◌++◌, Bool, true, false, ◌||◌, if◌then◌else◌, Some, unwrap_or, refl, sym, ap, ◌∙◌}
use Rattle.std.specs.List.{filter, flat_map, list_any, AllByRecursion}
use Rattle.std.specs.Ordering.{int_eq}
use Rattle.std.specs.Str.{bytes_eq}
use Rattle.std.proofs.lemmas.Bool.Decides.{Decides-int_eq}
use Rattle.std.proofs.lemmas.Slice.Eq.{bytes_eq-Decides}
use Rattle.tracing_core_moments.specs.declared.moment.Moment.{Moment}
use Rattle.tracing_core_moments.specs.Moments.{is_moment, is_earlier, latest_of, period_at}
use Rattle.tracing_appender_rolling.specs.Names.{FileNames, file_name}
use Rattle.tracing_appender_rolling.specs.Sinks.{Handed, Placed, placed, lies_in, is_in, period_in, period_name, period_text, PlainSink}
use Rattle.tracing_appender_rolling.specs.Sinks.{file_text}
use Rattle.tracing_appender_rolling.proofs.DistinctNames.{names_apart}

same_bool : (a b : Bool) → (a ≡ true → b ≡ true) → (b ≡ true → a ≡ true) → a ≡ b
same_bool true b f g = sym (f refl)
same_bool false true f g = g refl
same_bool false false f g = refl

same_test : (names : FileNames) (opened : ℤ) (x m : Moment) → is_moment x ≡ true → is_moment m ≡ true →
    bytes_eq (file_name names opened (period_at names.kind x)) (file_name names opened (period_at names.kind m)) ≡ int_eq
    (period_at names.kind x) (period_at names.kind m)
same_test names opened x m is_x is_m =
    let p = period_at names.kind x in
    let q = period_at names.kind m in
    same_bool (bytes_eq (file_name names opened p) (file_name names opened q)) (int_eq p q)
    (λ e. (Decides-int_eq p q).1 (names_apart names opened x m is_x is_m
    ((bytes_eq-Decides (file_name names opened p) (file_name names opened q)).0 e)))
    (λ e. (bytes_eq-Decides (file_name names opened p) (file_name names opened q)).1
    (ap (file_name names opened) ((Decides-int_eq p q).0 e)))

any_same : (f g : Placed → Bool) (P : Placed → Type 0) → ((x : Placed) → P x → f x ≡ g x) → (xs : List Placed) → AllByRecursion P xs →
    list_any f xs ≡ list_any g xs
any_same f g P e [] a = refl
any_same f g P e (x ∷ xs) a = rw (e x a.0, any_same f g P e xs a.1) refl

filter_same : (f g : Placed → Bool) (P : Placed → Type 0) → ((x : Placed) → P x → f x ≡ g x) → (xs : List Placed) → AllByRecursion P xs →
    filter f xs ≡ filter g xs
filter_same f g P e [] a = refl
filter_same f g P e (x ∷ xs) a = rw (e x a.0, filter_same f g P e xs a.1) refl

pub later_is : (a b : Moment) (t : Bool) → is_moment a ≡ true → is_moment b ≡ true → is_moment (if t then b else a) ≡ true
later_is a b true is_a is_b = is_b
later_is a b false is_a is_b = is_a

abbrev LiesInRange : Placed → Type 0
LiesInRange x = is_moment x.running ≡ true

all_placed : (seen : Moment) (hs : List Handed) → is_moment seen ≡ true → AllByRecursion (λ (h : Handed). is_moment h.moment ≡ true) hs →
    AllByRecursion LiesInRange (placed seen hs)
all_placed seen [] is all = tt
all_placed seen (h ∷ hs) is all =
    let next = later_is seen h.moment (is_earlier seen h.moment) is all.0 in
    (next, all_placed (latest_of seen h.moment) hs next all.1)

pub by_period : (s : PlainSink) (m : Moment) → is_moment m ≡ true → is_moment s.opened ≡ true →
    AllByRecursion (λ (h : Handed). is_moment h.moment ≡ true) s.handed →
    file_text s (period_name s (period_in s m)) ≡ period_text s (period_in s m) (s.found (period_name s (period_in s m)))
unfolding file_text
by_period s m is_m is_o all =
    let p = period_in s m in
    let name = period_name s p in
    let lies = lies_in s.names s.opened name in
    let falls = is_in s.names.kind p in
    let xs = placed s.opened s.handed in
    let each = λ (x : Placed) (rx : LiesInRange x). same_test s.names s.opened.seconds x.running m rx is_m in
    let start = same_test s.names s.opened.seconds s.opened m is_o is_m in
    let lie = all_placed s.opened s.handed is_o all in
    let any = any_same lies falls LiesInRange each xs lie in
    let some = filter_same lies falls LiesInRange each xs lie in
    ap (λ b. if b || list_any lies xs then Some (unwrap_or (s.found name) [] ++ flat_map (λ (x : Placed). x.line) (filter lies xs))
    else s.found name) start
    ∙ ap (λ b. if int_eq (period_in s s.opened) p ||
    b then Some (unwrap_or (s.found name) [] ++ flat_map (λ (x : Placed). x.line) (filter lies xs)) else s.found name) any
    ∙ ap (λ (ys : List Placed). if int_eq (period_in s s.opened) p ||
    list_any falls xs then Some (unwrap_or (s.found name) [] ++ flat_map (λ (x : Placed). x.line) ys) else s.found name) some
