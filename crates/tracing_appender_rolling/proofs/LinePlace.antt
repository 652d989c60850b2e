-- A line's place in its file.
use Rattle.std.proofs.Common.{◌≡◌, ◌≢◌, ℕ, List, [], ◌∷◌, ◌++◌, Bool, true, false, ◌||◌, cond, Option, Some, unwrap_or, refl, sym, ap, ◌∙◌}
use Rattle.std.proofs.Common.{append_assoc}
use Rattle.std.proofs.lemmas.Bool.{false_from_ne_true}
use Rattle.tracing_core_moments.specs.declared.moment.Moment.{Moment}
use Rattle.tracing_core_moments.specs.Moments.{latest_of}
use Rattle.std.specs.List.{filter, flat_map, list_any}
use Rattle.std.specs.Str.{bytes_eq}
use Rattle.std.proofs.lemmas.List.Folds.{list_any-append}
use Rattle.std.proofs.lemmas.List.Elements.{filter-append}
use Rattle.std.proofs.lemmas.List.Concat.{flat_map-append}
use Rattle.std.proofs.lemmas.Slice.Eq.{bytes_eq-Decides}
use Rattle.tracing_appender_rolling.specs.Sinks.{PlainSink, Handed, Placed, placed, placed_lines, running_moment, lies_in, period_in}
use Rattle.tracing_appender_rolling.specs.Sinks.{period_name, was_opened, file_text}
use Rattle.tracing_appender_rolling.specs.FilesInOrder.{LinesStandWhole, between, name_between}

abbrev line_in : Placed → List ℕ
line_in x = x.line

any_there : (start first : Bool) → (start || (first || true)) ≡ true
any_there true first = refl
any_there false true = refl
any_there false false = refl

pub opened_at : (s : PlainSink) (before after : List Placed) (x : Placed) → placed_lines s ≡ before ++ x ∷ after →
    was_opened s (period_name s (period_in s x.running)) ≡ true
opened_at s before after x e =
    let name = period_name s (period_in s x.running) in
    let f : Placed → Bool = lies_in s.names s.opened name in
    let hit : f x ≡ true = (bytes_eq-Decides name name).1 refl in
    let start = bytes_eq (period_name s (period_in s s.opened)) name in
    ap (λ xs. start || list_any f xs) e ∙ ap (λ b. start || b) (list_any-append f before (x ∷ after)) ∙
    ap (λ b. start || (list_any f before || (b || list_any f after))) hit ∙ any_there start (list_any f before)

-- what was placed before a line, the line, and what was placed behind it
placed_between : (seen : Moment) (before after : List Handed) (line : List ℕ) (m : Moment) →
    placed seen (before ++ record { line = line; moment = m } ∷ after) ≡ placed seen before ++
    record { line = line; running = latest_of (running_moment seen before) m } ∷ placed (latest_of (running_moment seen before) m) after
placed_between seen [] after line m = refl
placed_between seen (h ∷ hs) after line m = ap (λ (xs : List Placed). record { line = h.line; running = latest_of seen h.moment } ∷ xs)
    (placed_between (latest_of seen h.moment) hs after line m)

module _ (s : PlainSink) (before after : List Handed) (m : Moment) where
  abbrev running : Moment
  running = latest_of (running_moment s.opened before) m

  abbrev own : List ℕ
  own = name_between s before m

  abbrev first : List Placed
  first = placed s.opened before

  abbrev behind : List Placed
  behind = placed running after

  abbrev at : List ℕ → Placed
  at line = record { line = line; running = running }

  -- the text of a file from what was opened and placed
  abbrev text_of : List ℕ → List Placed → Option (List ℕ)
  text_of name xs =
      cond (bytes_eq (period_name s (period_in s s.opened)) name || list_any (lies_in s.names s.opened name) xs)
      (Some (unwrap_or (s.found name) [] ++ flat_map line_in (filter (lies_in s.names s.opened name) xs))) (s.found name)

  split : (line name : List ℕ) → file_text (between s before line m after) name ≡ text_of name (first ++ at line ∷ behind)
  unfolding file_text
  split line name = ap (text_of name) (placed_between s.opened before after line m)

  stands_whole : (line : List ℕ) →
      file_text (between s before line m after) own ≡ Some
      ((unwrap_or (s.found own) [] ++ flat_map line_in (filter (lies_in s.names s.opened own) first)) ++
      (line ++ flat_map line_in (filter (lies_in s.names s.opened own) behind)))
  stands_whole line =
      let f : Placed → Bool = lies_in s.names s.opened own in
      let x = at line in
      let hit : f x ≡ true = (bytes_eq-Decides own own).1 refl in
      let start = bytes_eq (period_name s (period_in s s.opened)) own in
      let found = unwrap_or (s.found own) [] in
      let there : (start || list_any f (first ++ x ∷ behind)) ≡ true =
      ap (λ b. start || b) (list_any-append f first (x ∷ behind)) ∙ ap (λ b. start || (list_any f first || (b || list_any f behind))) hit ∙
      any_there start (list_any f first) in
      let kept : filter f (first ++ x ∷ behind) ≡ filter f first ++ x ∷ filter f behind =
      filter-append f first (x ∷ behind) ∙ ap (λ b. filter f first ++ cond b (x ∷ filter f behind) (filter f behind)) hit in
      let text : flat_map line_in (filter f (first ++ x ∷ behind)) ≡ flat_map line_in (filter f first) ++
      (line ++ flat_map line_in (filter f behind)) =
      ap (flat_map line_in) kept ∙ flat_map-append line_in (filter f first) (x ∷ filter f behind) in
      split line own
      ∙ ap (λ b. cond b (Some (found ++ flat_map line_in (filter f (first ++ x ∷ behind)))) (s.found own)) there
      ∙ ap (λ (bs : List ℕ). Some (found ++ bs)) text
      ∙ ap (λ (bs : List ℕ). Some bs)
      (sym (append_assoc found (flat_map line_in (filter f first)) (line ++ flat_map line_in (filter f behind))))

  stands_apart : (line name : List ℕ) → name ≢ own → file_text (between s before line m after) name ≡ text_of name (first ++ at [] ∷ behind)
  stands_apart line name apart =
      let f : Placed → Bool = lies_in s.names s.opened name in
      let miss : f (at []) ≡ false = false_from_ne_true (f (at [])) (λ e. apart (sym ((bytes_eq-Decides own name).0 e))) in
      let start = bytes_eq (period_name s (period_in s s.opened)) name in
      let found = unwrap_or (s.found name) [] in
      let any : list_any f (first ++ at line ∷ behind) ≡ list_any f (first ++ at [] ∷ behind) = list_any-append f first (at line ∷ behind) ∙
      sym (list_any-append f first (at [] ∷ behind)) in
      let kept : filter f (first ++ at line ∷ behind) ≡ filter f (first ++ at [] ∷ behind) =
      filter-append f first (at line ∷ behind)
      ∙ ap (λ b. filter f first ++ cond b (at line ∷ filter f behind) (filter f behind)) miss
      ∙ sym (ap (λ b. filter f first ++ cond b (at [] ∷ filter f behind) (filter f behind)) miss)
      ∙ sym (filter-append f first (at [] ∷ behind)) in
      split line name
      ∙ ap (λ b. cond (start || b) (Some (found ++ flat_map line_in (filter f (first ++ at line ∷ behind)))) (s.found name)) any
      ∙ ap (λ (xs : List Placed). cond (start || list_any f (first ++ at [] ∷ behind)) (Some (found ++ flat_map line_in xs)) (s.found name))
      kept

pub stands : LinesStandWhole
stands s before after m = (
  (
    unwrap_or (s.found (name_between s before m)) [] ++
        flat_map line_in (filter (lies_in s.names s.opened (name_between s before m)) (placed s.opened before)),
    flat_map line_in (filter (lies_in s.names s.opened (name_between s before m))
        (placed (latest_of (running_moment s.opened before) m) after)),
    stands_whole s before after m,
  ),
  λ one other name apart. stands_apart s before after m one name apart ∙ sym (stands_apart s before after m other name apart),
)
