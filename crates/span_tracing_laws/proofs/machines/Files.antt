-- Files that such lines alone came to.
use Rattle.std.proofs.Common.{◌≡◌, ◌⊎◌, inl, inr, ℕ, Bool, true, false, if◌then◌else◌, cond, List, [], ◌∷◌, ◌++◌}
use Rattle.std.proofs.Common.{Option, Some, None, IfSome, unwrap_or, sym, subst}
use Rattle.std.specs.List.{filter, flat_map}
use Rattle.tracing_appender_rolling.specs.Sinks.{Handed, Placed, PlainSink, file_text, is_in, lies_in, placed, was_opened}
use Rattle.tracing_core_moments.specs.declared.moment.Moment.{Moment}
use Rattle.tracing_core_moments.specs.Moments.{latest_of}
use Rattle.span_tracing_laws.specs.machines.Files.{FilesKeep}
use Rattle.span_tracing_laws.specs.machines.Lines.{AreHanded}

abbrev placed_text : List Placed → List ℕ
placed_text xs = flat_map (λ (x : Placed). x.line) xs

-- a text of one line is such, and so is one such text behind another, and the empty one
module _ (P T : List ℕ → Type 0) (empty : T []) (behind : (one two : List ℕ) → T one → T two → T (one ++ two))
    (line_is : (line : List ℕ) → P line → T line) where
  handed_line : (line : List ℕ) → P line ⊎ (line ≡ []) → T line
  handed_line line (inl is) = line_is line is
  handed_line line (inr none) = subst T (sym none) empty

  kept_behind : (passes : Bool) (x : Placed) (later : List Placed) → P x.line ⊎ (x.line ≡ []) → T (placed_text later) →
      T (placed_text (cond passes (x ∷ later) later))
  kept_behind true x later is rest = behind x.line (placed_text later) (handed_line x.line is) rest
  kept_behind false x later is rest = rest

  handed_text : (test : Placed → Bool) (seen : Moment) (handed : List Handed) → AreHanded P handed →
      T (placed_text (filter test (placed seen handed)))
  handed_text test seen [] all = empty
  handed_text test seen (h ∷ hs) all =
      let x : Placed = record { line = h.line; running = latest_of seen h.moment } in
      kept_behind (test x) x (filter test (placed (latest_of seen h.moment) hs)) all.0 (handed_text test (latest_of seen h.moment) hs all.1)

  or_none : (found : Option (List ℕ)) → IfSome found T → T (unwrap_or found [])
  or_none None is = empty
  or_none (Some text) is = is

  opened_text : (opened : Bool) (found : Option (List ℕ)) (text : List ℕ) → IfSome found T → T text →
      IfSome (if opened then Some (unwrap_or found [] ++ text) else found) T
  opened_text true found text is more = behind (unwrap_or found []) text (or_none found is) more
  opened_text false found text is more = is

  named : (s : PlainSink) (name : List ℕ) → AreHanded P s.handed → IfSome (s.found name) T →
      IfSome (file_text s name) T
  unfolding file_text
  named s name all is =
      opened_text (was_opened s name) (s.found name) (placed_text (filter (lies_in s.names s.opened name) (placed s.opened s.handed))) is
      (handed_text (lies_in s.names s.opened name) s.opened s.handed all)

  unless_gone : (gone : Bool) (text : Option (List ℕ)) → IfSome text T → IfSome (if gone then None else text) T
  unless_gone true text is = tt
  unless_gone false text is = is

  pub files_keep : FilesKeep P T
  files_keep = record {
    empty = empty;
    named = named;
    left = λ p name all is. unless_gone (p.gone name) (file_text p.sink name) (named p.sink name all is);
    period = λ s period found all is.
        opened_text _ found (placed_text (filter (is_in s.names.kind period) (placed s.opened s.handed))) is
        (handed_text (is_in s.names.kind period) s.opened s.handed all);
  }
