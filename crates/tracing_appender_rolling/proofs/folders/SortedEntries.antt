-- Entries in order, with one for each name that stands for a file.
use Rattle.std.proofs.Common.{◌≡◌, ℕ, zero, suc, ◌+◌, ◌<◌, ◌≤◌, Bool, true, false, List, [], ◌∷◌, ◌++◌, length, map, take, get_or, refl, ap}
use Rattle.std.proofs.Common.{subst, ◌∙◌, sym, arith, cond, Option, Some, None}
use Rattle.std.specs.List.{AllByRecursion, insert}
use Rattle.std.specs.List.Sorted.{IsStrictlySortedBy}
use Rattle.std.specs.Str.{bytes_eq}
use Rattle.std.specs.Cmp.Lexicographic.{slice_cmp}
use Rattle.std.specs.Ordering.{nat_cmp, is_lt, is_eq, ordering_reverse}
use Rattle.std.proofs.Common.{Ordering, ◌&&◌}
use Rattle.std.specs.declared.cmp.Ordering.TheVariants.{Less, Equal, Greater}
use Rattle.std.proofs.lemmas.Cmp.{nat_list_cmp_total}
use Rattle.std.proofs.lemmas.Map.Text.{is_eq-slice_cmp}
use Rattle.std.proofs.lemmas.Slice.Eq.{bytes_eq-Decides}
use Rattle.std.proofs.lemmas.Bool.{false_from_ne_true, false≢true}
use Rattle.std.proofs.lemmas.List.{take_more}
use Rattle.tracing_appender_rolling.specs.declared.folders.memory.FileEntry.{FileEntry}
use Rattle.tracing_appender_rolling.specs.declared.folders.memory.MemoryFile.{MemoryFile}
use Rattle.tracing_appender_rolling.specs.folders.Contents.{StoredFile, has_name, bytes_at}
use Rattle.tracing_appender_rolling.specs.folders.Memory.{kept_of}
use Rattle.tracing_appender_rolling.specs.folders.Entries.{entry_at, comes_before, with_entry, IsRising}

abbrev order : List ℕ → List ℕ → Ordering
order = slice_cmp nat_cmp

abbrev name_of : FileEntry → List ℕ
name_of e = e.name.now

-- the code's place
pub insert_is : (new : FileEntry) (es : List FileEntry) (p : ℕ) → p ≤ length es →
    ((k : ℕ) (d : FileEntry) → k < p → comes_before (get_or es k d) new.name.now ≡ true) →
    ((d : FileEntry) → p < length es → comes_before (get_or es p d) new.name.now ≡ false) →
    ((d : FileEntry) → p < length es → bytes_eq (get_or es p d).name.now new.name.now ≡ false) → with_entry new es ≡ insert es p new
insert_is new [] zero le before at differs = refl
insert_is new [] (suc p) le before at differs = absurd (omega arith)
insert_is new (e ∷ es) zero le before at differs =
    ap (λ b. cond b (e ∷ with_entry new es) (cond (bytes_eq e.name.now new.name.now) (e ∷ es) (new ∷ e ∷ es))) (at e (omega arith))
    ∙ ap (λ b. cond b (e ∷ es) (new ∷ e ∷ es)) (differs e (omega arith))
insert_is new (e ∷ es) (suc p) le before at differs =
    ap (λ b. cond b (e ∷ with_entry new es) (cond (bytes_eq e.name.now new.name.now) (e ∷ es) (new ∷ e ∷ es))) (before 0 e (omega arith))
    ∙ ap (λ (r : List FileEntry). e ∷ r) (insert_is new es p (omega arith) (λ k d h. before (suc k) d (omega arith))
    (λ d h. at d (omega arith)) (λ d h. differs d (omega arith)))

pub stays_is : (new : FileEntry) (es : List FileEntry) (p : ℕ) → p < length es →
    ((k : ℕ) (d : FileEntry) → k < p → comes_before (get_or es k d) new.name.now ≡ true) →
    ((d : FileEntry) → p < length es → comes_before (get_or es p d) new.name.now ≡ false) →
    ((d : FileEntry) → bytes_eq (get_or es p d).name.now new.name.now ≡ true) → with_entry new es ≡ es
stays_is new [] p le before at same = absurd (omega arith)
stays_is new (e ∷ es) zero le before at same =
    ap (λ b. cond b (e ∷ with_entry new es) (cond (bytes_eq e.name.now new.name.now) (e ∷ es) (new ∷ e ∷ es))) (at e (omega arith))
    ∙ ap (λ b. cond b (e ∷ es) (new ∷ e ∷ es)) (same e)
stays_is new (e ∷ es) (suc p) le before at same =
    ap (λ b. cond b (e ∷ with_entry new es) (cond (bytes_eq e.name.now new.name.now) (e ∷ es) (new ∷ e ∷ es))) (before 0 e (omega arith))
    ∙ ap (λ (r : List FileEntry). e ∷ r) (stays_is new es p (omega arith) (λ k d h. before (suc k) d (omega arith))
    (λ d h. at d (omega arith)) (λ d. same d))

-- the order of names
less_is : (o : Ordering) → is_lt o ≡ true → o ≡ Less
less_is Less e = refl
less_is Equal e = cc
less_is Greater e = cc

greater_is : (o : Ordering) → is_lt o ≡ false → is_eq o ≡ false → o ≡ Greater
greater_is Less e f = cc
greater_is Equal e f = cc
greater_is Greater e f = refl

flip_greater : (o r : Ordering) → o ≡ r → r ≡ Greater → (p : Ordering) → p ≡ ordering_reverse o → p ≡ Less
flip_greater o r e g p q = q ∙ ap ordering_reverse (e ∙ g)

below_first : (n : List ℕ) (e : FileEntry) → comes_before e n ≡ false → bytes_eq e.name.now n ≡ false → order n e.name.now ≡ Less
below_first n e miss differs =
    let g = greater_is (order e.name.now n) miss (is_eq-slice_cmp e.name.now n ∙ differs) in
    flip_greater (order e.name.now n) Greater g refl (order n e.name.now) (nat_list_cmp_total.antisymm n e.name.now)

below_all : (n m : List ℕ) (ms : List (List ℕ)) → order n m ≡ Less → AllByRecursion (λ y. order m y ≡ Less) ms →
    AllByRecursion (λ y. order n y ≡ Less) ms
below_all n m [] less all = tt
below_all n m (k ∷ ks) less all = (nat_list_cmp_total.trans n m k less all.0, below_all n m ks less all.1)

not_self : (n m : List ℕ) → order n m ≡ Less → bytes_eq m n ≡ false
not_self n m less = false_from_ne_true (bytes_eq m n) (λ e. differ ((bytes_eq-Decides m n).0 e))
  where
    differ : m ≡ n → ⊥
    differ e =
        let self : order n n ≡ Less = ap (order n) (sym e) ∙ less in
        false≢true (ap is_eq (sym self) ∙ is_eq-slice_cmp n n ∙ (bytes_eq-Decides n n).1 refl)

absent : (n : List ℕ) (es : List FileEntry) → AllByRecursion (λ y. order n y ≡ Less) (map name_of es) → entry_at es n ≡ None
absent n [] all = refl
absent n (e ∷ es) all = ap (λ b. cond b (Some e.bytes.now) (entry_at es n)) (not_self n e.name.now all.0) ∙ absent n es all.1

-- the first that is there
abbrev or_else : Option (List ℕ) → Option (List ℕ) → Option (List ℕ)
or_else None y = y
or_else (Some x) y = Some x

or_none : (x : Option (List ℕ)) → x ≡ or_else x None
or_none None = refl
or_none (Some x) = refl

abbrev only : Bool → List ℕ → Option (List ℕ)
only b bytes = cond b (Some bytes) None

below_rest : (n : List ℕ) (e : FileEntry) (es : List FileEntry) → IsRising (e ∷ es) → comes_before e n ≡ false →
    bytes_eq e.name.now n ≡ false → AllByRecursion (λ y. order n y ≡ Less) (map name_of (e ∷ es))
unfolding IsStrictlySortedBy
below_rest n e es up miss differs =
    let less = below_first n e miss differs in (less, below_all n e.name.now (map name_of es) less up.0)

front_case : (b : Bool) (bytes : List ℕ) (rest : Option (List ℕ)) → (b ≡ true → rest ≡ None) →
    cond b (Some bytes) rest ≡ or_else rest (only b bytes)
front_case true bytes rest none = sym (ap (λ r. or_else r (Some bytes)) (none refl))
front_case false bytes rest none = or_none rest

there_case : (b : Bool) (bytes : List ℕ) (rest : Option (List ℕ)) (have : List ℕ) → (b ≡ true → rest ≡ Some have) →
    rest ≡ or_else rest (only b bytes)
there_case true bytes rest have some = some refl ∙ sym (ap (λ r. or_else r (Some bytes)) (some refl))
there_case false bytes rest have some = or_none rest

later_case : (b : Bool) (have : List ℕ) (rest more added : Option (List ℕ)) → more ≡ or_else rest added →
    cond b (Some have) more ≡ or_else (cond b (Some have) rest) added
later_case true have rest more added e = refl
later_case false have rest more added e = e

tail_rises : (e : FileEntry) (es : List FileEntry) → IsRising (e ∷ es) → IsRising es
unfolding IsStrictlySortedBy
tail_rises e es up = up.1

pub entry_with : (new : FileEntry) (es : List FileEntry) → IsRising es → (q : List ℕ) →
    entry_at (with_entry new es) q ≡ or_else (entry_at es q) (only (bytes_eq new.name.now q) new.bytes.now)
entry_with new [] up q = refl
entry_with new (e ∷ es) up q =
    by_case (comes_before e new.name.now) (bytes_eq e.name.now new.name.now) refl refl (entry_with new es (tail_rises e es up) q)
  where
    same_name : bytes_eq e.name.now new.name.now ≡ true → bytes_eq new.name.now q ≡ true → entry_at (e ∷ es) q ≡ Some e.bytes.now
    same_name f h = ap (λ b. cond b (Some e.bytes.now) (entry_at es q))
        ((bytes_eq-Decides e.name.now q).1 ((bytes_eq-Decides e.name.now new.name.now).0 f ∙ (bytes_eq-Decides new.name.now q).0 h))

    none_there : comes_before e new.name.now ≡ false → bytes_eq e.name.now new.name.now ≡ false → bytes_eq new.name.now q ≡ true →
        entry_at (e ∷ es) q ≡ None
    none_there miss differs h = ap (entry_at (e ∷ es)) (sym ((bytes_eq-Decides new.name.now q).0 h)) ∙
        absent new.name.now (e ∷ es) (below_rest new.name.now e es up miss differs)

    by_case : (b d : Bool) → comes_before e new.name.now ≡ b → bytes_eq e.name.now new.name.now ≡ d →
        entry_at (with_entry new es) q ≡ or_else (entry_at es q) (only (bytes_eq new.name.now q) new.bytes.now) →
        entry_at (cond b (e ∷ with_entry new es) (cond d (e ∷ es) (new ∷ e ∷ es))) q ≡ or_else (entry_at (e ∷ es) q)
        (only (bytes_eq new.name.now q) new.bytes.now)
    by_case true d f h more = later_case (bytes_eq e.name.now q) e.bytes.now (entry_at es q) (entry_at (with_entry new es) q)
        (only (bytes_eq new.name.now q) new.bytes.now) more
    by_case false true f h more = there_case (bytes_eq new.name.now q) new.bytes.now (entry_at (e ∷ es) q) e.bytes.now (same_name h)
    by_case false false f h more = front_case (bytes_eq new.name.now q) new.bytes.now (entry_at (e ∷ es) q) (none_there f h)

all_with : (x : List ℕ) (new : FileEntry) (es : List FileEntry) → order x new.name.now ≡ Less →
    AllByRecursion (λ y. order x y ≡ Less) (map name_of es) → AllByRecursion (λ y. order x y ≡ Less) (map name_of (with_entry new es))
all_with x new [] less all = (less, tt)
all_with x new (e ∷ es) less all = by_case (comes_before e new.name.now) (bytes_eq e.name.now new.name.now) (all_with x new es less all.1)
  where
    by_case : (b d : Bool) → AllByRecursion (λ y. order x y ≡ Less) (map name_of (with_entry new es)) →
        AllByRecursion (λ y. order x y ≡ Less) (map name_of (cond b (e ∷ with_entry new es) (cond d (e ∷ es) (new ∷ e ∷ es))))
    by_case true d more = (all.0, more)
    by_case false true more = all
    by_case false false more = (less, all)

pub rising_with : (new : FileEntry) (es : List FileEntry) → IsRising es → IsRising (with_entry new es)
unfolding IsStrictlySortedBy
rising_with new [] up = (tt, tt)
rising_with new (e ∷ es) up = by_case (comes_before e new.name.now) (bytes_eq e.name.now new.name.now) refl refl (rising_with new es up.1)
  where
    by_case : (b d : Bool) → comes_before e new.name.now ≡ b → bytes_eq e.name.now new.name.now ≡ d → IsRising (with_entry new es) →
        IsRising (cond b (e ∷ with_entry new es) (cond d (e ∷ es) (new ∷ e ∷ es)))
    by_case true d f h more = (all_with e.name.now new es (less_is (order e.name.now new.name.now) f) up.0, more)
    by_case false true f h more = up
    by_case false false f h more = (below_rest new.name.now e es up f h, up)

pub rising_none : IsRising []
unfolding IsStrictlySortedBy
rising_none = tt

-- one more file of the folder
bytes_push : (fs : List StoredFile) (k : StoredFile) (q : List ℕ) →
    bytes_at (fs ++ k ∷ []) q ≡ or_else (bytes_at fs q) (only (has_name q k) k.bytes)
bytes_push [] k q = refl
bytes_push (f ∷ fs) k q = later_case (has_name q f) f.bytes (bytes_at fs q) (bytes_at (fs ++ k ∷ []) q) (only (has_name q k) k.bytes)
    (bytes_push fs k q)

pub map_push : (fs : List MemoryFile) (f : MemoryFile) → map kept_of (fs ++ f ∷ []) ≡ map kept_of fs ++ kept_of f ∷ []
map_push [] f = refl
map_push (g ∷ fs) f = ap (λ ks. kept_of g ∷ ks) (map_push fs f)

pub bytes_more : (files : List MemoryFile) (i : ℕ) (f : MemoryFile) (q : List ℕ) → i < length files → f ≡ get_or files i f →
    bytes_at (map kept_of (take (i + 1) files)) q ≡ or_else (bytes_at (map kept_of (take i files)) q)
    (only (has_name q (kept_of f)) f.bytes.items)
bytes_more files i f q lt is =
    ap (λ (fs : List MemoryFile). bytes_at (map kept_of fs) q) (take_more files i f lt ∙
    ap (λ (g : MemoryFile). take i files ++ g ∷ []) (sym is))
    ∙ ap (λ (fs : List StoredFile). bytes_at fs q) (map_push (take i files) f)
    ∙ bytes_push (map kept_of (take i files)) (kept_of f) q

-- the entries so far are the files so far
pub record Listed (files : List MemoryFile) (i : ℕ) (es : List FileEntry) : Type 0 where
  pub rising : IsRising es
  pub each : (q : List ℕ) → entry_at es q ≡ bytes_at (map kept_of (take i files)) q

pub listed_none : (files : List MemoryFile) → Listed files 0 []
listed_none files = record { rising = rising_none; each = λ q. refl }

only_stands : (f : MemoryFile) (b : Bool) (q : List ℕ) → f.stands ≡ b → has_name q (kept_of f) ≡ cond b (bytes_eq (kept_of f).name q) false
only_stands f true q e = ap (λ s. s && bytes_eq (kept_of f).name q) e
only_stands f false q e = ap (λ s. s && bytes_eq (kept_of f).name q) e

pub listed_skip : (files : List MemoryFile) (i : ℕ) (es : List FileEntry) (f : MemoryFile) → Listed files i es → i < length files →
    f ≡ get_or files i f → f.stands ≡ false → Listed files (i + 1) es
listed_skip files i es f l lt is gone = record {
  rising = l.rising;
  each = λ q. l.each q ∙ or_none (bytes_at (map kept_of (take i files)) q) ∙
      ap (λ b. or_else (bytes_at (map kept_of (take i files)) q) (only b f.bytes.items)) (sym (only_stands f false q gone)) ∙
      sym (bytes_more files i f q lt is);
}

pub listed_add : (files : List MemoryFile) (i : ℕ) (es new_es : List FileEntry) (f : MemoryFile) (new : FileEntry) → Listed files i es →
    i < length files → f ≡ get_or files i f → f.stands ≡ true → new.name.now ≡ (kept_of f).name → new.bytes.now ≡ f.bytes.items →
    new_es ≡ with_entry new es → Listed files (i + 1) new_es
listed_add files i es new_es f new l lt is stands name bytes added = record {
  rising = subst IsRising (sym added) (rising_with new es l.rising);
  each = λ q.
      ap (λ (xs : List FileEntry). entry_at xs q) added
      ∙ entry_with new es l.rising q
      ∙ ap (λ x. or_else x (only (bytes_eq new.name.now q) new.bytes.now)) (l.each q)
      ∙ ap (λ (n : List ℕ). or_else (bytes_at (map kept_of (take i files)) q) (only (bytes_eq n q) new.bytes.now)) name
      ∙ ap (λ (b : List ℕ). or_else (bytes_at (map kept_of (take i files)) q) (only (bytes_eq (kept_of f).name q) b)) bytes
      ∙ ap (λ b. or_else (bytes_at (map kept_of (take i files)) q) (only b f.bytes.items)) (sym (only_stands f true q stands))
      ∙ sym (bytes_more files i f q lt is);
}

-- how many first entries come before a name
pub record IsPlace (es : List FileEntry) (n : List ℕ) (p : ℕ) : Type 0 where
  pub bound : p ≤ length es
  pub before : (k : ℕ) (d : FileEntry) → k < p → comes_before (get_or es k d) n ≡ true
  pub at : (d : FileEntry) → p < length es → comes_before (get_or es p d) n ≡ false

pub placed_new : (new : FileEntry) (es s t : List FileEntry) (p : ℕ) → s ≡ es → t ≡ es → IsPlace s new.name.now p →
    ((d : FileEntry) → p < length t → bytes_eq (get_or t p d).name.now new.name.now ≡ false) → insert es p new ≡ with_entry new es
placed_new new es s t p is_s is_t place differs =
    let at = subst (λ (x : List FileEntry). IsPlace x new.name.now p) is_s place in
    let other = subst (λ (x : List FileEntry). (d : FileEntry) → p < length x → bytes_eq (get_or x p d).name.now new.name.now ≡ false) is_t
    differs in
    sym (insert_is new es p at.bound at.before at.at other)

pub placed_known : (new : FileEntry) (es s t : List FileEntry) (p : ℕ) → s ≡ es → t ≡ es → IsPlace s new.name.now p → p < length t →
    ((d : FileEntry) → bytes_eq (get_or t p d).name.now new.name.now ≡ true) → es ≡ with_entry new es
placed_known new es s t p is_s is_t place within same =
    let at = subst (λ (x : List FileEntry). IsPlace x new.name.now p) is_s place in
    let here = subst (λ (x : List FileEntry). (d : FileEntry) → bytes_eq (get_or x p d).name.now new.name.now ≡ true) is_t same in
    sym (stays_is new es p (subst (λ (x : List FileEntry). p < length x) is_t within) at.before at.at here)
