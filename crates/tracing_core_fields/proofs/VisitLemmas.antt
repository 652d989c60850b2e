-- How a visit goes on from one entry to the next.
use Rattle.std.proofs.Common.{◌≡◌, ℕ, ◌+◌, ◌<◌, ◌≤◌, List, [], Option, Some, None, Result, Ok, Err, IsErrAnd, length, drop, filter_map}
use Rattle.std.proofs.Common.{get_or, ap, subst, sym, ◌∙◌}
use Rattle.std.specs.List.{cons_option, enumerate_from}
use Rattle.std.proofs.lemmas.List.{drop_more, drop_all}
use Rattle.tracing_core_fields.specs.PlainField.{PlainField}
use Rattle.tracing_core_fields.specs.PlainValue.{PlainValue}
use Rattle.tracing_core_fields.specs.Values.{placed_entry}
use Rattle.tracing_core_fields.specs.Visits.{TakesIfThere, Visits, all_taken, taken, refused}
use Rattle.tracing_core_fields.specs.declared.value_set.AnyValue.{AnyValue}

-- a refusal that is handed on as it is
pub same_refusal : {E : Type 0} (answer : Result (Unit {0}) E) (error : E) → IsErrAnd answer (λ e. e ≡ error) → answer ≡ Err error
same_refusal (Ok x) error is = absurd is
same_refusal (Err e) error is = ap Err is

-- the entries from a place on, where this value stands
pub placed_more : (values : List (Option AnyValue)) (i : ℕ) (value : Option AnyValue) → value ≡ get_or values i value → i < length values →
    filter_map placed_entry (enumerate_from i (drop i values)) ≡ cons_option (placed_entry (i, value))
    (filter_map placed_entry (enumerate_from (i + 1) (drop (i + 1) values)))
placed_more values i value is below =
    ap (λ left. filter_map placed_entry (enumerate_from i left)) (drop_more values i value below)
    ∙ ap (λ it. cons_option (placed_entry (i, it)) (filter_map placed_entry (enumerate_from (i + 1) (drop (i + 1) values)))) (sym is)

pub placed_none : (values : List (Option AnyValue)) (i : ℕ) → length values ≤ i →
    filter_map placed_entry (enumerate_from i (drop i values)) ≡ []
placed_none values i past = ap (λ left. filter_map placed_entry (enumerate_from i left)) (drop_all i values past)

module _ {V E : Type 0} (takes : V → PlainField → PlainValue → Result (Unit {0}) E → V → Type 0) (callsite : ℕ) (names : List (List ℕ))
  where
    -- a visit of what is left, by the visitor as it is now, ends the visit of all from the start
    abbrev pub Leads : List (ℕ × PlainValue) → V → List (ℕ × PlainValue) → V → Type 0
    Leads left now all start = (answer : Result (Unit {0}) E) (after : V) → Visits takes callsite names left now answer after →
        Visits takes callsite names all start answer after

    visits_refused : (entry : Option (ℕ × PlainValue)) (later : List (ℕ × PlainValue)) (before after : V) (error : E) →
        TakesIfThere takes callsite names entry before (Err error) after →
        Visits takes callsite names (cons_option entry later) before (Err error) after
    visits_refused None later before after error call = let same = call.0 in absurd (cc)
    visits_refused (Some entry) later before after error call = refused call.0 call.1.0 call.1.1

    visits_taken : (entry : Option (ℕ × PlainValue)) (later : List (ℕ × PlainValue)) (before next after : V)
        (answer : Result (Unit {0}) E) →
        TakesIfThere takes callsite names entry before (Ok tt) next →
        Visits takes callsite names later next answer after → Visits takes callsite names (cons_option entry later) before answer after
    visits_taken None later before next after answer call rest = subst (λ v. Visits takes callsite names later v answer after) call.1 rest
    visits_taken (Some entry) later before next after answer call rest = taken call.0 call.1.0 call.1.1 rest

    -- an entry was taken
    pub leads_on : (left later all : List (ℕ × PlainValue)) (now next start : V) (entry : Option (ℕ × PlainValue)) →
        left ≡ cons_option entry later →
        TakesIfThere takes callsite names entry now (Ok tt) next → Leads left now all start → Leads later next all start
    leads_on left later all now next start entry is call leads answer after rest =
        leads answer after (subst (λ l. Visits takes callsite names l now answer after) (sym is)
        (visits_taken entry later now next after answer call rest))

    -- an entry was refused
    pub leads_out : (left later all : List (ℕ × PlainValue)) (now after start : V) (entry : Option (ℕ × PlainValue)) (error : E)
        (answer : Result (Unit {0}) E) → left ≡ cons_option entry later →
        TakesIfThere takes callsite names entry now (Err error) after → answer ≡ Err error → Leads left now all start →
        Visits takes callsite names all start answer after
    leads_out left later all now after start entry error answer is call same leads =
        leads answer after (subst (λ a. Visits takes callsite names left now a after) (sym same)
        (subst (λ l. Visits takes callsite names l now (Err error) after) (sym is) (visits_refused entry later now after error call)))

    -- nothing is left
    pub leads_to_end : (left all : List (ℕ × PlainValue)) (now start : V) → left ≡ [] → Leads left now all start →
        Visits takes callsite names all start (Ok tt) now
    leads_to_end left all now start is leads =
        leads (Ok tt) now (subst (λ l. Visits takes callsite names l now (Ok tt) now) (sym is) all_taken)

    -- the same of a list whose elements give the entries, at each element in turn
    module _ {A : Type 0} (entry_of : A → Option (ℕ × PlainValue)) (all : List A) (i : ℕ) (item : A) (below : i < length all)
        (is : item ≡ get_or all i item) (now start : V) where
      abbrev pub entries : List A → List (ℕ × PlainValue)
      entries xs = filter_map entry_of xs

      more : entries (drop i all) ≡ cons_option (entry_of item) (entries (drop (i + 1) all))
      more = ap (filter_map entry_of) (drop_more all i item below) ∙ ap (λ x. cons_option (entry_of x) (entries (drop (i + 1) all)))
          (sym is)

      pub item_on : (next : V) → TakesIfThere takes callsite names (entry_of item) now (Ok tt) next →
          Leads (entries (drop i all)) now (entries all) start → Leads (entries (drop (i + 1) all)) next (entries all) start
      item_on next call leads = leads_on (entries (drop i all)) (entries (drop (i + 1) all)) (entries all) now next start (entry_of item)
          more
          call leads

      pub item_out : (after : V) (error : E) (answer : Result (Unit {0}) E) →
          TakesIfThere takes callsite names (entry_of item) now (Err error) after → answer ≡ Err error →
          Leads (entries (drop i all)) now (entries all) start → Visits takes callsite names (entries all) start answer after
      item_out after error answer call same leads = leads_out (entries (drop i all)) (entries (drop (i + 1) all)) (entries all) now after
          start (entry_of item) error answer more call same leads

    pub items_end : {A : Type 0} (entry_of : A → Option (ℕ × PlainValue)) (all : List A) (i : ℕ) (now start : V) → length all ≤ i →
        Leads (filter_map entry_of (drop i all)) now (filter_map entry_of all) start →
        Visits takes callsite names (filter_map entry_of all) start (Ok tt) now
    items_end entry_of all i now start past leads = leads_to_end (filter_map entry_of (drop i all)) (filter_map entry_of all) now start
        (ap (filter_map entry_of) (drop_all i all past)) leads
