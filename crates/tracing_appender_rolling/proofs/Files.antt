-- One more handed line.
use Rattle.std.proofs.Common.{◌≡◌, ℕ, List, [], ◌∷◌, ◌++◌, Bool, true, false, ◌||◌, Option, Some, if◌then◌else◌, unwrap_or, refl, sym, ap}
use Rattle.std.proofs.Common.{◌∙◌, append_assoc}
use Rattle.std.specs.List.{filter, flat_map, list_any}
use Rattle.std.specs.Str.{bytes_eq}
use Rattle.std.proofs.lemmas.List.{append-nil}
use Rattle.std.proofs.lemmas.List.Folds.{list_any-append}
use Rattle.std.proofs.lemmas.List.Elements.{filter-append}
use Rattle.std.proofs.lemmas.List.Concat.{flat_map-append}
use Rattle.tracing_core_moments.specs.declared.moment.Moment.{Moment}
use Rattle.tracing_core_moments.specs.Moments.{latest_of, period_at}
use Rattle.tracing_appender_rolling.specs.Names.{FileNames, file_name}
use Rattle.tracing_appender_rolling.specs.Sinks.{PlainSink, Handed, Placed, placed, running_moment, with_handed, lies_in, period_in}
use Rattle.tracing_appender_rolling.specs.Sinks.{period_name, was_opened, file_text}
use Rattle.tracing_appender_rolling.proofs.folders.Content.{after_line}

pub running_more : (seen : Moment) (hs : List Handed) (h : Handed) → running_moment seen (hs ++ h ∷ []) ≡ latest_of (running_moment seen hs)
    h.moment
running_more seen [] h = refl
running_more seen (k ∷ ks) h = running_more (latest_of seen k.moment) ks h

abbrev pub placed_at : Moment → Handed → Placed
placed_at seen h = record { line = h.line; running = latest_of seen h.moment }

pub placed_more : (seen : Moment) (hs : List Handed) (h : Handed) → placed seen (hs ++ h ∷ []) ≡ placed seen hs ++
    placed_at (running_moment seen hs) h ∷ []
placed_more seen [] h = refl
placed_more seen (k ∷ ks) h = ap (λ xs. placed_at seen k ∷ xs) (placed_more (latest_of seen k.moment) ks h)

kept_none : {X : Type 0} (b rest : Bool) (x : X) (kept : List X) → (rest ≡ false → kept ≡ []) → (b || rest) ≡ false →
    (if b then x ∷ kept else kept) ≡ []
kept_none true rest x kept none e = cc
kept_none false rest x kept none e = none e

pub filter_none : {X : Type 0} (f : X → Bool) (xs : List X) → list_any f xs ≡ false → filter f xs ≡ []
filter_none f [] e = refl
filter_none f (x ∷ xs) e = kept_none (f x) (list_any f xs) x (filter f xs) (filter_none f xs) e

-- what a file holds, by whether it was opened and what was placed in it
abbrev text_in : Bool → Option (List ℕ) → List ℕ → Option (List ℕ)
text_in opened found kept = if opened then Some (unwrap_or found [] ++ kept) else found

either_true : (start any : Bool) → (start || (any || true)) ≡ true
either_true true any = refl
either_true false true = refl
either_true false false = refl

either_same : (start any : Bool) → (start || (any || false)) ≡ (start || any)
either_same true any = refl
either_same false true = refl
either_same false false = refl

added : (start any : Bool) (found : Option (List ℕ)) (kept line : List ℕ) → (any ≡ false → kept ≡ []) →
    text_in true found (kept ++ line) ≡ Some (unwrap_or (text_in (start || any) found kept) [] ++ line)
added true any found kept line none = ap (λ (bs : List ℕ). Some bs) (sym (append_assoc (unwrap_or found []) kept line))
added false true found kept line none = ap (λ (bs : List ℕ). Some bs) (sym (append_assoc (unwrap_or found []) kept line))
added false false found kept line none = ap (λ (bs : List ℕ). Some (unwrap_or found [] ++ (bs ++ line))) (none refl)

-- one more line, which lies in the file or not
one_more : (b start any : Bool) (found : Option (List ℕ)) (kept line extra : List ℕ) (there : Option (List ℕ)) → (any ≡ false → kept ≡ []) →
    there ≡ text_in (start || any) found kept → (b ≡ true → extra ≡ line) → (b ≡ false → extra ≡ []) →
    text_in (start || (any || b)) found (kept ++ extra) ≡ after_line b there line
one_more true start any found kept line extra there none is hit miss =
    ap (λ b. text_in b found (kept ++ extra)) (either_true start any) ∙ ap (λ bs. text_in true found (kept ++ bs)) (hit refl) ∙
    added start any found kept line none ∙ ap (λ (o : Option (List ℕ)). Some (unwrap_or o [] ++ line)) (sym is)
one_more false start any found kept line extra there none is hit miss =
    ap (λ b. text_in b found (kept ++ extra)) (either_same start any) ∙
    ap (λ bs. text_in (start || any) found bs) (ap (λ bs. kept ++ bs) (miss refl) ∙ append-nil kept) ∙ sym is

abbrev line_in : Placed → List ℕ
line_in x = x.line

extra_yes : (b : Bool) (x : Placed) → b ≡ true → flat_map line_in (if b then x ∷ [] else []) ≡ x.line
extra_yes b x e = rw e (append-nil x.line)

extra_no : (b : Bool) (x : Placed) → b ≡ false → flat_map line_in (if b then x ∷ [] else []) ≡ []
extra_no b x e = rw e

or_false : (b : Bool) → (b || false) ≡ b
or_false true = refl
or_false false = refl

-- the name of the file in which a moment's line lies
abbrev pub name_at : PlainSink → Moment → List ℕ
name_at s m = period_name s (period_in s (latest_of (running_moment s.opened s.handed) m))

pub file_more : (s : PlainSink) (h : Handed) (name : List ℕ) →
    file_text (with_handed s h) name ≡ after_line (bytes_eq (name_at s h.moment) name) (file_text s name) h.line
unfolding file_text
file_more s h name =
    let before = placed s.opened s.handed in
    let x = placed_at (running_moment s.opened s.handed) h in
    let f : Placed → Bool = lies_in s.names s.opened name in
    let mine = name_at s h.moment in
    let start = bytes_eq (period_name s (period_in s s.opened)) name in
    let more = placed_more s.opened s.handed h in
    let any = ap (list_any f) more ∙ list_any-append f before (x ∷ []) ∙ ap (λ b. list_any f before || b) (or_false (bytes_eq mine name)) in
    let kept = ap (λ (xs : List Placed). flat_map line_in (filter f xs)) more ∙ ap (flat_map line_in) (filter-append f before (x ∷ [])) ∙
    flat_map-append line_in (filter f before) (filter f (x ∷ [])) in
    ap (λ b. text_in (start || b) (s.found name) (flat_map line_in (filter f (placed s.opened (s.handed ++ h ∷ []))))) any
    ∙ ap (λ bs. text_in (start || (list_any f before || bytes_eq mine name)) (s.found name) bs) kept
    ∙ one_more (bytes_eq mine name) start (list_any f before) (s.found name) (flat_map line_in (filter f before)) h.line
    (flat_map line_in (filter f (x ∷ []))) (file_text s name)
    (λ e. ap (flat_map line_in) (filter_none f before e)) refl (extra_yes (bytes_eq mine name) x) (extra_no (bytes_eq mine name) x)

-- which files were opened, behind one more line, whatever bytes it has
or_last : (a b c : Bool) → (a || (b || (c || false))) ≡ ((a || b) || c)
or_last true b c = refl
or_last false true c = refl
or_last false false true = refl
or_last false false false = refl

pub opened_is : (s : PlainSink) (h : Handed) (name : List ℕ) →
    was_opened (with_handed s h) name ≡ (was_opened s name || bytes_eq (name_at s h.moment) name)
opened_is s h name =
    let f : Placed → Bool = lies_in s.names s.opened name in
    let before = placed s.opened s.handed in
    let start = bytes_eq (period_name s (period_in s s.opened)) name in
    ap (λ b. start || b) (ap (list_any f) (placed_more s.opened s.handed h) ∙
    list_any-append f before (placed_at (running_moment s.opened s.handed) h ∷ [])) ∙
    or_last start (list_any f before) (bytes_eq (name_at s h.moment) name)

-- a sink to which nothing was handed over
pub file_fresh : (names : FileNames) (m : Moment) (found : List ℕ → Option (List ℕ)) (name : List ℕ) →
    file_text (record { names = names; opened = m; found = found; handed = [] }) name ≡ after_line
    (bytes_eq (file_name names m.seconds (period_at names.kind m)) name) (found name) []
unfolding file_text
file_fresh names m found name = ap (λ b. after_line b (found name) [])
    (or_false (bytes_eq (file_name names m.seconds (period_at names.kind m)) name))

after_both : (b : Bool) (text : Option (List ℕ)) (line : List ℕ) → after_line b (after_line b text []) line ≡ after_line b text line
after_both true text line = ap (λ bs. Some (bs ++ line)) (append-nil (unwrap_or text []))
after_both false text line = refl

-- a line in two steps: a look with no bytes, then the bytes
pub file_two_steps : (s : PlainSink) (m : Moment) (line name : List ℕ) → file_text (with_handed s (record { line = line; moment = m }))
    name ≡ after_line (bytes_eq (name_at s m) name) (file_text (with_handed s (record { line = []; moment = m })) name) line
file_two_steps s m line name =
    let b = bytes_eq (name_at s m) name in
    file_more s (record { line = line; moment = m }) name
    ∙ sym (after_both b (file_text s name) line)
    ∙ sym (ap (λ t. after_line b t line) (file_more s (record { line = []; moment = m }) name))
