-- A folder that keeps another's files and links and has a plan of its own.
use Rattle.std.specs.Prelude.{is_some}
use Rattle.std.proofs.Common.{◌≡◌, ℕ, suc, Bool, true, false, List, refl, ap, subst, ◌∙◌, sym, arith, cond, Some, None, Option, Result, Ok}
use Rattle.std.proofs.Common.{Err, min, set, length, take, ◌≤◌}
use Rattle.std.proofs.lemmas.List.{take_all}
use Rattle.std.proofs.Math.Path.{fun_ext}
use Rattle.std.specs.Borrow.{MutBor}
use Rattle.std.specs.Fn.{Once, FnOnceReturnsAtMut}
use Rattle.tracing_appender_rolling.specs.declared.folders.fault.FolderFault.{FolderFault}
use Rattle.tracing_appender_rolling.specs.declared.folders.fault.FolderFault.TheVariants.{Refused}
use Rattle.tracing_appender_rolling.specs.declared.folders.fault.FolderError.{FolderError}
use Rattle.tracing_appender_rolling.specs.declared.folders.fault.FolderError.TheVariants.{Fault, OutOfMemory}
use Rattle.tracing_appender_rolling.specs.declared.folders.fault.FileNumber.{FileNumber}
use Rattle.tracing_appender_rolling.specs.folders.Contents.{Contents, Outcome, if_refused, Done, Refuses, Short, Answer, Gives, called}
use Rattle.tracing_appender_rolling.specs.folders.Contents.{taken, is_open, unless_closed, with_file, unless_refused, refusal, open_plain}
use Rattle.tracing_appender_rolling.specs.folders.Contents.{open_at, write_plain, remove_plain, remove_at, close_plain, make_plain}
use Rattle.tracing_appender_rolling.specs.folders.Contents.{flush_plain, list_plain, link_plain, links_with, link_place, file_named}
use Rattle.tracing_appender_rolling.specs.folders.Contents.{link_named}
use Rattle.tracing_appender_rolling.specs.folders.Faulty.{Plan, number_after, outcome_of, has_number, plan_of, faulty_contents, Made}
use Rattle.tracing_appender_rolling.specs.folders.Memory.{memory_contents}
use Rattle.tracing_appender_rolling.specs.declared.folders.faulty.FaultyFolder.{FaultyFolder}
use Rattle.tracing_appender_rolling.specs.declared.folders.memory.MemoryFolder.{MemoryFolder}

-- these files and links under a plan
abbrev pub planned : (ℕ → Outcome) → Contents → Contents
planned g c = record {
  files = c.files;
  links = c.links;
  open_files = c.open_files;
  has_dirs = c.has_dirs;
  last_flushed = c.last_flushed;
  coming = g;
}

abbrev pub later : (ℕ → Outcome) → ℕ → Outcome
later g n = g (suc n)

-- a call answers and leaves the same whatever the plan
pub record IgnoresPlan {T : Type 0} (call : Contents → Answer T) : Type 0 where
  pub same : (c : Contents) (g : ℕ → Outcome) → call (planned g c) ≡ ((call c).0, planned (later g) (call c).1)

open_ignores_at : (name : List ℕ) (c : Contents) (g : ℕ → Outcome) (found : Option ℕ) →
    open_at (planned g c) name found ≡ ((open_at c name found).0, planned (later g) (open_at c name found).1)
open_ignores_at name c g None = refl
open_ignores_at name c g (Some place) = refl

open_ignores_link : (name : List ℕ) (c : Contents) (g : ℕ → Outcome) (linked : Bool) →
    cond linked (refusal Refused (planned g c))
    (open_at (planned g c) name (file_named name c.files))
    ≡ (
      (cond linked (refusal Refused c) (open_at c name (file_named name c.files))).0,
      planned (later g) (cond linked (refusal Refused c) (open_at c name (file_named name c.files))).1,
    )
open_ignores_link name c g true = refl
open_ignores_link name c g false = open_ignores_at name c g (file_named name c.files)

pub open_ignores : (name : List ℕ) → IgnoresPlan (open_plain name)
open_ignores name = record { same = λ c g. open_ignores_link name c g (link_named name c.links) }

pub write_ignores : (file : FileNumber) (bytes : List ℕ) → IgnoresPlan (write_plain file bytes)
write_ignores file bytes = record { same = λ c g. refl }

remove_ignores_at : (c : Contents) (g : ℕ → Outcome) (found : Option ℕ) →
    remove_at (planned g c) found ≡ ((remove_at c found).0, planned (later g) (remove_at c found).1)
remove_ignores_at c g None = refl
remove_ignores_at c g (Some place) = refl

pub remove_ignores : (name : List ℕ) → IgnoresPlan (remove_plain name)
remove_ignores name = record { same = λ c g. remove_ignores_at c g (file_named name c.files) }

abbrev link_at : Contents → List (List ℕ × List ℕ) → Bool → Answer (Unit {0})
link_at c links taken = cond taken (refusal Refused c) (Ok tt, record (called c) { links = links })

link_ignores_at : (c : Contents) (g : ℕ → Outcome) (links : List (List ℕ × List ℕ)) (taken : Bool) →
    link_at (planned g c) links taken ≡ ((link_at c links taken).0, planned (later g) (link_at c links taken).1)
link_ignores_at c g links true = refl
link_ignores_at c g links false = refl

pub link_ignores : (name target : List ℕ) → IgnoresPlan (link_plain name target)
link_ignores name target = record {
  same = λ c g. link_ignores_at c g (links_with c.links (link_place name c.links) (name, target))
      (is_some (file_named name c.files));
}

pub close_ignores : (file : FileNumber) → IgnoresPlan (close_plain file)
close_ignores file = record { same = λ c g. refl }

pub make_ignores : IgnoresPlan make_plain
make_ignores = record { same = λ c g. refl }

pub flush_ignores : (file : FileNumber) → IgnoresPlan (flush_plain file)
flush_ignores file = record { same = λ c g. refl }

pub list_ignores : (prefix : List ℕ) → IgnoresPlan (list_plain prefix)
list_ignores prefix = record { same = λ c g. refl }

-- the plan of a folder in memory
abbrev pub whole_plan : ℕ → Outcome
whole_plan n = Done

abbrev pub plain : {T : Type 0} → (Contents → Answer T) → Contents → Answer T
plain call c = unless_refused c (call c)

-- a call on a file that no plan refuses
abbrev pub unplanned : {T : Type 0} → FileNumber → (Contents → Answer T) → Contents → Answer T
unplanned file call c = if_refused (unless_closed (is_open file c) Done) (λ f. refusal f c) (call c)

pub unplanned_ignores : {T : Type 0} (file : FileNumber) (call : Contents → Answer T) → IgnoresPlan call → IgnoresPlan (unplanned file call)
unplanned_ignores {T} file call ignores = record { same = λ c g. by_case c g (is_open file c) }
  where
    at_open : Contents → Bool → Answer T
    at_open c b = if_refused (unless_closed b Done) (λ f. refusal f c) (call c)

    by_case : (c : Contents) (g : ℕ → Outcome) (b : Bool) → at_open (planned g c) b ≡ ((at_open c b).0, planned (later g) (at_open c b).1)
    by_case c g true = ignores.same c g
    by_case c g false = refl

-- what the plan refuses it refuses whether the file is open or not
plan_first : {X : Type 0} (o : Outcome) (b : Bool) (x : FolderFault → X) (y : X) →
    if_refused (unless_closed b o) x y ≡ if_refused o x (if_refused (unless_closed b Done) x y)
plan_first Done true x y = refl
plan_first Done false x y = refl
plan_first (Refuses f) true x y = refl
plan_first (Refuses f) false x y = refl
plan_first (Short most) true x y = refl
plan_first (Short most) false x y = refl

module _ {T : Type 0} (call : Contents → Answer T) (ignores : IgnoresPlan call) (inner after : Contents) (g : ℕ → Outcome) where
  answer_planned : (call (planned g inner)).0 ≡ (call (planned whole_plan inner)).0
  answer_planned = ap (λ (a : Answer T). a.0) (ignores.same inner g) ∙ sym (ap (λ (a : Answer T). a.0) (ignores.same inner whole_plan))

  after_planned : planned whole_plan after ≡ (call (planned whole_plan inner)).1 → planned (later g) after ≡ (call (planned g inner)).1
  after_planned e = ap (planned (later g)) (e ∙ ap (λ (a : Answer T). a.1) (ignores.same inner whole_plan)) ∙
      sym (ap (λ (a : Answer T). a.1) (ignores.same inner g))

  -- what a call gives over the inner folder it gives under a plan
  pub gives_planned : (r : Result T FolderError) →
      Gives (plain call) (Some (planned whole_plan inner)) r (Some (planned whole_plan after)) →
      Gives (λ _. call (planned g inner)) (Some (planned g inner)) r (Some (planned (later g) after))
  gives_planned (Ok v) (answer, left) = (answer_planned ∙ answer, ap Some (after_planned cc))
  gives_planned (Err (Fault f)) (answer, left) = (answer_planned ∙ answer, ap Some (after_planned cc))
  gives_planned (Err OutOfMemory) left = let e : planned whole_plan after ≡ planned whole_plan inner = cc in
      ap Some (ap (planned (later g)) e)

-- the plan of a faulty folder, one call later
pub plan_later : (plan : Plan) (calls : ℕ) → (λ n. outcome_of plan (number_after (number_after calls 0) n)) ≡ later
    (λ n. outcome_of plan (number_after calls n))
plan_later plan calls = fun_ext (λ n. ap (outcome_of plan) (same_number n))
  where
    same_number : (n : ℕ) → number_after (number_after calls 0) n ≡ number_after calls (suc n)
    same_number n = omega arith

-- a planned refusal
gives_refused : {T : Type 0} (call : Contents → Answer T) (c : Contents) (fault : FolderFault) → c.coming 0 ≡ Refuses fault →
    Gives (plain call) (Some c) (Err (Fault fault)) (Some (called c))
gives_refused call c fault refused = rw refused (refl, refl)

-- a call that isn't refused
passed_at : {X : Type 0} (x : FolderFault → X) (y : X) (fault : FolderFault) (most : ℕ) (short : Bool) →
    if_refused (cond false (Refuses fault) (cond short (Short most) Done)) x y ≡ y
passed_at x y fault most true = refl
passed_at x y fault most false = refl

pub gives_passed : {T : Type 0} (call : Contents → Answer T) (c after : Contents) (plan : Plan) (n : ℕ) (r : Result T FolderError) →
    c.coming 0 ≡ outcome_of plan n → has_number plan.refused n ≡ false → Gives (λ _. call c) (Some c) r (Some after) →
    Gives (plain call) (Some c) r (Some after)
gives_passed {T} call c after plan n r first free gives =
    let open_way : plain call c ≡ call c =
    ap (λ o. if_refused o (λ f. refusal f c) (call c))
    (first ∙ ap (λ b. cond b (Refuses plan.fault) (cond (has_number plan.short n) (Short plan.most) Done)) free)
    ∙ passed_at (λ f. refusal f c) (call c) plan.fault plan.most (has_number plan.short n) in
    subst (λ (a : Answer T). Gives (λ _. a) (Some c) r (Some after)) (sym open_way) gives

-- What a call of the folder in memory gives, the call of a faulty folder gives under its plan. A view is what the call's clause tells of
-- its answer.
module _ {F T X : Type 0} {g : Once F (MutBor MemoryFolder × Unit {0}) (Result T FolderError × (MutBor MemoryFolder × Unit {0}))} {f : F}
    {old : FaultyFolder} {r : Result T FolderError} {new : FaultyFolder} (view : Result T FolderError → Result X FolderError)
    (refuses : (e : FolderError) → view (Err e) ≡ Err e) {call : Contents → Answer X} (ignores : IgnoresPlan call)
    (made : Made g f old r new) (gives : has_number old.refused.items (number_after old.calls 0) ≡ false →
    FnOnceReturnsAtMut g f old.inner r new.inner → Gives (plain call) (Some (memory_contents old.inner)) (view r)
    (Some (memory_contents new.inner))) where
  abbrev pub plan : Plan
  plan = plan_of old

  abbrev pub n : ℕ
  n = number_after old.calls 0

  abbrev pub before : Contents
  before = faulty_contents old

  after : faulty_contents new ≡ planned (later before.coming) (memory_contents new.inner)
  after = made.later ∙ ap (λ (p : ℕ → Outcome). planned p (memory_contents new.inner)) (plan_later plan old.calls)

  abbrev pub Given : Result X FolderError → Contents → Type 0
  Given answer c = Gives (plain call) (Some before) answer (Some c)

  by_case : (b : Bool) → has_number plan.refused n ≡ b → Given (view r) (faulty_contents new)
  by_case true hit =
      let told = made.refused hit in
      subst (Given (view r)) (sym (after ∙ ap (λ (m : MemoryFolder). planned (later before.coming) (memory_contents m)) told.1))
      (subst (λ a. Given a (called before)) (sym (ap view told.0 ∙ refuses (Fault old.fault)))
      (gives_refused call before old.fault (ap (λ b. cond b (Refuses old.fault) (cond (has_number plan.short n) (Short plan.most) Done))
      hit)))
  by_case false free =
      subst (Given (view r)) (sym after)
      (gives_passed call before (planned (later before.coming) (memory_contents new.inner)) plan n (view r) refl free
      (gives_planned call ignores (memory_contents old.inner) (memory_contents new.inner) before.coming (view r)
      (gives free (made.called free))))

  pub viewed_gives : Given (view r) (faulty_contents new)
  viewed_gives = by_case (has_number plan.refused n) refl

pub made_gives : {F T : Type 0} {g : Once F (MutBor MemoryFolder × Unit {0}) (Result T FolderError × (MutBor MemoryFolder × Unit {0}))}
    {f : F} {old : FaultyFolder} {r : Result T FolderError} {new : FaultyFolder} {call : Contents → Answer T} → IgnoresPlan call →
    Made g f old r new → (has_number old.refused.items (number_after old.calls 0) ≡ false → FnOnceReturnsAtMut g f old.inner r new.inner →
    Gives (plain call) (Some (memory_contents old.inner)) r (Some (memory_contents new.inner))) →
    Gives (plain call) (Some (faulty_contents old)) r (Some (faulty_contents new))
made_gives ignores made gives = viewed_gives (λ r. r) (λ e. refl) ignores made gives

-- the same of a call on a file
pub file_gives : {F T : Type 0} {g : Once F (MutBor MemoryFolder × Unit {0}) (Result T FolderError × (MutBor MemoryFolder × Unit {0}))}
    {f : F} {old : FaultyFolder} {r : Result T FolderError} {new : FaultyFolder} (file : FileNumber) (call : Contents → Answer T) →
    IgnoresPlan call → Made g f old r new →
    (has_number old.refused.items (number_after old.calls 0) ≡ false → FnOnceReturnsAtMut g f old.inner r new.inner →
    Gives (plain (unplanned file call)) (Some (memory_contents old.inner)) r (Some (memory_contents new.inner))) →
    Gives (λ c. with_file file c (call c)) (Some (faulty_contents old)) r (Some (faulty_contents new))
file_gives {T = T} {old = old} {r = r} {new = new} file call ignores made gives =
    let before = faulty_contents old in
    subst (λ (a : Answer T). Gives (λ _. a) (Some before) r (Some (faulty_contents new)))
    (sym (plan_first (before.coming 0) (is_open file before) (λ f. refusal f before) (call before)))
    (made_gives (unplanned_ignores file call ignores) made gives)

-- how much a write takes that isn't refused
taken_at : (fault : FolderFault) (most len : ℕ) (short : Bool) → taken (cond false (Refuses fault) (cond short (Short most) Done))
    len ≡ cond short (min most len) len
taken_at fault most len true = refl
taken_at fault most len false = refl

pub taken_free : (plan : Plan) (n len : ℕ) → has_number plan.refused n ≡ false →
    taken (outcome_of plan n) len ≡ cond (has_number plan.short n) (min plan.most len) len
taken_free plan n len free = ap (λ b. taken (cond b (Refuses plan.fault) (cond (has_number plan.short n) (Short plan.most) Done)) len)
    free ∙ taken_at plan.fault plan.most len (has_number plan.short n)

-- a link in the place of another, in a folder that refuses nothing of itself
pub linked_over : (before : Contents) (after : List (List ℕ × List ℕ)) (name target : List ℕ) (place : ℕ) →
    is_some (file_named name before.files) ≡ false → Some place ≡ link_place name before.links →
    after ≡ set before.links place (name, target) → ((link_plain name target before).0 ≡ Ok tt) ×
    (Some (record (called before) { links = after }) ≡ Some (link_plain name target before).1)
linked_over before after name target place free found is =
    rw (free, ← found) (refl, ap (λ (ls : List (List ℕ × List ℕ)). Some (record (called before) { links = ls })) is)

-- a part of so many bytes, where so many are taken if the file is open
pub part_written : (c : Contents) (file : FileNumber) (bytes : List ℕ) (o : Outcome) (k : ℕ) (b : Bool) → taken o (length bytes) ≡ k →
    if_refused (unless_closed b Done) (λ f. refusal f c)
    (write_plain file (take (taken (unless_closed b Done) (length (take k bytes))) (take k bytes)) c) ≡ if_refused (unless_closed b Done)
    (λ f. refusal f c) (write_plain file (take (taken (unless_closed b o) (length bytes)) bytes) c)
part_written c file bytes o k false is = refl
part_written c file bytes o k true is =
    let le : length (take k bytes) ≤ length (take k bytes) = omega arith in
    ap (λ (p : List ℕ). write_plain file p c) (take_all (length (take k bytes)) (take k bytes) le ∙ ap (λ n. take n bytes) (sym is))
