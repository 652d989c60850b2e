-- What retention leaves of a folder that refuses nothing.
use Rattle.std.proofs.Common.{◌≡◌, ◌≢◌, ℕ, zero, suc, ◌+◌, Bool, true, false, ◌&&◌, ◌||◌, cond, List, [], ◌∷◌, ◌++◌, map, refl, ap, subst}
use Rattle.std.proofs.Common.{sym, ◌∙◌, Option, Some, None, Ok}
use Rattle.std.specs.Prelude.{is_some}
use Rattle.std.specs.List.{filter, position_from, AllByRecursion}
use Rattle.std.specs.Str.{bytes_eq}
use Rattle.std.proofs.lemmas.Bool.{false≢true, false_from_ne_true}
use Rattle.std.proofs.lemmas.Slice.Eq.{bytes_eq-Decides}
use Rattle.tracing_core_moments.specs.declared.moment.Moment.{Moment}
use Rattle.tracing_appender_rolling.specs.folders.Contents.{Contents, StoredFile, Outcome, IsSound, called, has_name, file_named, bytes_at}
use Rattle.tracing_appender_rolling.specs.folders.Contents.{unnamed, fresh, if_refused, refusal, remove_at, remove_plain, removed, listing}
use Rattle.tracing_appender_rolling.specs.folders.Contents.{listed_file, listed_link, list_plain, names_listed, begins_with}
use Rattle.tracing_appender_rolling.proofs.folders.Content.{StandsAt, stands_from, none_step, added_other}
use Rattle.tracing_appender_rolling.specs.declared.faults.Faults.{Faults}
use Rattle.tracing_appender_rolling.specs.Names.{FileNames}
use Rattle.tracing_appender_rolling.specs.Retention.{PlainCandidate, date_in, with_candidate, candidates_in, made_of, asked_prefix, goes}
use Rattle.tracing_appender_rolling.specs.RetentionRemovals.{doomed, after_removal, removed_all, pruned_after, pruned_by}
use Rattle.tracing_appender_rolling.specs.PrunedSinks.{is_named, doomed_in, StandOnce, OnceIf}
use Rattle.tracing_appender_rolling.proofs.SparedFiles.{bytes_unnamed}
use Rattle.tracing_appender_rolling.proofs.PrefixCandidates.{asked_candidates}

-- bytes and places of a name
pub none_first : (q : List ℕ) (f : StoredFile) (fs : List StoredFile) (b : Bool) → cond b (Some f.bytes) (bytes_at fs q) ≡ None →
    (b ≡ false) × (bytes_at fs q ≡ None)
none_first q f fs true e = cc
none_first q f fs false e = (refl, e)

pub named_none : (q : List ℕ) (fs : List StoredFile) (k : ℕ) → bytes_at fs q ≡ None → position_from (has_name q) k fs ≡ None
named_none q [] k e = refl
named_none q (f ∷ fs) k e =
    let s = none_first q f fs (has_name q f) e in ap (λ b. cond b (Some k) (position_from (has_name q) (k + 1) fs)) s.0 ∙
    named_none q fs (k + 1) s.1

none_by : (q : List ℕ) (fs : List StoredFile) (k : ℕ) → position_from (has_name q) k fs ≡ None → bytes_at fs q ≡ None
none_by q [] k e = refl
none_by q (f ∷ fs) k e = let s = none_step q f fs k (has_name q f) refl e in ap (λ b. cond b (Some f.bytes) (bytes_at fs q)) s.0 ∙
    none_by q fs (k + 1) s.1

-- a name with bytes stands for a file
pub named_some : (q : List ℕ) (fs : List StoredFile) → is_some (bytes_at fs q) ≡ true → (i : ℕ) × (file_named q fs ≡ Some i)
named_some q fs e = by_case (file_named q fs) refl
  where
    by_case : (o : Option ℕ) → file_named q fs ≡ o → (i : ℕ) × (file_named q fs ≡ Some i)
    by_case None is = absurd (false≢true (sym (ap is_some (none_by q fs 0 is)) ∙ e))
    by_case (Some i) is = (i, is)

abbrev both_true : Bool → Bool → Type 0
both_true a b = (a ≡ true) × (b ≡ true)

both : (a b : Bool) → (a && b) ≡ true → both_true a b
both true b e = (refl, e)
both false b e = cc

pub has_both : (q : List ℕ) (f : StoredFile) → has_name q f ≡ true → (f.stands ≡ true) × (f.name ≡ q)
has_both q f has = let b = both f.stands (bytes_eq f.name q) has in (b.0, (bytes_eq-Decides f.name q).0 b.1)

pub has_own : (f : StoredFile) → f.stands ≡ true → has_name f.name f ≡ true
has_own f is = ap (λ b. b && bytes_eq f.name f.name) is ∙ (bytes_eq-Decides f.name f.name).1 refl

-- a name that was taken from its file
bytes_gone : (n : List ℕ) (fs : List StoredFile) (i : ℕ) → StandsAt n fs i → StandOnce fs → bytes_at (unnamed fs i) n ≡ None
bytes_gone n [] i h once = absurd h
bytes_gone n (f ∷ fs) zero h once = let b = has_both n f h in subst (λ (q : List ℕ). bytes_at fs q ≡ None) b.1 (once.0 b.0)
bytes_gone n (f ∷ fs) (suc i) h once = ap (λ b. cond b (Some f.bytes) (bytes_at (unnamed fs i) n)) h.0 ∙ bytes_gone n fs i h.1 once.1

none_unnamed : (q : List ℕ) (fs : List StoredFile) (i : ℕ) → bytes_at fs q ≡ None → bytes_at (unnamed fs i) q ≡ None
none_unnamed q [] i e = refl
none_unnamed q (f ∷ fs) zero e = (none_first q f fs (has_name q f) e).1
none_unnamed q (f ∷ fs) (suc i) e =
    let s = none_first q f fs (has_name q f) e in ap (λ b. cond b (Some f.bytes) (bytes_at (unnamed fs i) q)) s.0 ∙ none_unnamed q fs i s.1

once_unnamed : (fs : List StoredFile) (i : ℕ) → StandOnce fs → StandOnce (unnamed fs i)
once_unnamed [] i once = tt
once_unnamed (f ∷ fs) zero once = (λ e. absurd (false≢true e), once.1)
once_unnamed (f ∷ fs) (suc i) once = (λ e. none_unnamed f.name fs i (once.0 e), once_unnamed fs i once.1)

-- a new file of a name that stood for none
pub once_added : (name : List ℕ) (fs : List StoredFile) (k : ℕ) → position_from (has_name name) k fs ≡ None → StandOnce fs →
    StandOnce (fs ++ fresh name ∷ [])
once_added name [] k free once = (λ e. refl, tt)
once_added name (f ∷ fs) k free once =
    let s = none_step name f fs k (has_name name f) refl free in
    (λ e. added_other (fresh name) f.name fs (other e s.0) ∙ once.0 e, once_added name fs (k + 1) s.1 once.1)
  where
    other : f.stands ≡ true → has_name name f ≡ false → bytes_eq name f.name ≡ false
    other is miss = false_from_ne_true (bytes_eq name f.name)
        (λ same. false≢true (sym miss ∙ subst (λ (q : List ℕ). has_name q f ≡ true) (sym ((bytes_eq-Decides name f.name).0 same))
        (has_own f is)))

-- one removal
removed_one : (f : Faults) (c : Contents) (n : List ℕ) (i : ℕ) → IsSound c → file_named n c.files ≡ Some i →
    after_removal f (removed c n) ≡ (f, record (called c) { files = unnamed c.files i })
removed_one f c n i sound is =
    ap (λ (o : Outcome). after_removal f (if_refused o (λ e. refusal e c) (remove_plain n c))) (sound 0)
    ∙ ap (λ (o : Option ℕ). after_removal f (remove_at c o)) is

-- names that differ
abbrev pub Distinct : List (List ℕ) → Type 0
Distinct [] = Unit {0}
Distinct (n ∷ ns) = AllByRecursion (λ m. bytes_eq n m ≡ false) ns × Distinct ns

abbrev pub AllStand : List StoredFile → List (List ℕ) → Type 0
AllStand fs names = AllByRecursion (λ n. is_some (bytes_at fs n) ≡ true) names

-- what a removal of names leaves
pub record Removal (c d : Contents) (gone : List (List ℕ)) : Type 0 where
  pub sound : IsSound d
  pub links : d.links ≡ c.links
  pub once : StandOnce c.files → StandOnce d.files
  pub bytes : (q : List ℕ) → bytes_at d.files q ≡ cond (is_named q gone) None (bytes_at c.files q)
  pub open_stay : d.open_files ≡ c.open_files

apart_by : (n m : List ℕ) → bytes_eq n m ≡ false → n ≢ m
apart_by n m miss same = false≢true (sym miss ∙ (bytes_eq-Decides n m).1 same)

still_stand : (n : List ℕ) (fs : List StoredFile) (i : ℕ) → StandsAt n fs i → (ns : List (List ℕ)) →
    AllByRecursion (λ m. bytes_eq n m ≡ false) ns → AllStand fs ns → AllStand (unnamed fs i) ns
still_stand n fs i h [] apart all = tt
still_stand n fs i h (m ∷ ms) apart all = (
  ap is_some (bytes_unnamed n m fs i h (apart_by n m apart.0)) ∙
      all.0,
  still_stand n fs i h ms apart.1 all.1,
)

more_gone : (n q : List ℕ) (ns : List (List ℕ)) (fs : List StoredFile) (i : ℕ) → StandsAt n fs i → StandOnce fs →
    cond (is_named q ns) None (bytes_at (unnamed fs i) q) ≡ cond (bytes_eq n q || is_named q ns) None (bytes_at fs q)
more_gone n q ns fs i h once = by_case (bytes_eq n q) refl
  where
    none_both : (b : Bool) → cond b None (bytes_at [] q) ≡ None
    none_both true = refl
    none_both false = refl

    by_case : (b : Bool) → bytes_eq n q ≡ b → cond (is_named q ns) None (bytes_at (unnamed fs i) q) ≡ cond (b || is_named q ns) None
        (bytes_at fs q)
    by_case true same =
        ap (cond (is_named q ns) None) (subst (λ (p : List ℕ). bytes_at (unnamed fs i) p ≡ None) ((bytes_eq-Decides n q).0 same)
        (bytes_gone n fs i h once)) ∙ none_both (is_named q ns)
    by_case false miss = ap (cond (is_named q ns) None) (bytes_unnamed n q fs i h (apart_by n q miss))

pub removes_all : (ns : List (List ℕ)) (f : Faults) (c : Contents) → IsSound c → StandOnce c.files → Distinct ns → AllStand c.files ns →
    ((removed_all ns (f, c)).0 ≡ f) × Removal c (removed_all ns (f, c)).1 ns
removes_all [] f c sound once distinct all =
    (refl, record { sound = sound; links = refl; once = λ o. o; bytes = λ q. refl; open_stay = refl })
removes_all (n ∷ ns) f c sound once distinct all =
    let place = named_some n c.files all.0 in
    let stands = stands_from n c.files place.0 place.1 in
    let d : Contents = record (called c) { files = unnamed c.files place.0 } in
    let rest = removes_all ns f d (λ k. sound (suc k)) (once_unnamed c.files place.0 once) distinct.1
    (still_stand n c.files place.0 stands ns distinct.0 all.1) in
    let is = removed_one f c n place.0 sound place.1 in
    subst (λ (at : Faults × Contents). ((removed_all ns at).0 ≡ f) × Removal c (removed_all ns at).1 (n ∷ ns)) (sym is) (
      rest.0,
      record {
        sound = rest.1.sound;
        links = rest.1.links;
        once = λ o. rest.1.once (once_unnamed c.files place.0 o);
        bytes =
            λ q. rest.1.bytes q ∙ more_gone n q ns c.files place.0 stands once;
        open_stay = rest.1.open_stay;
      },
    )

-- the candidates of a listing stand, and each once
abbrev name_in : PlainCandidate → List ℕ
name_in c = c.name

no_links : (names : FileNames) (links : List (List ℕ × List ℕ)) → candidates_in names (map listed_link links) ≡ []
no_links names [] = refl
no_links names (l ∷ ls) = no_links names ls

stand_more : (f : StoredFile) (fs : List StoredFile) (ns : List (List ℕ)) → AllStand fs ns → AllStand (f ∷ fs) ns
stand_more f fs [] all = tt
stand_more f fs (n ∷ ns) all = (by_case (has_name n f), stand_more f fs ns all.1)
  where
    by_case : (b : Bool) → is_some (cond b (Some f.bytes) (bytes_at fs n)) ≡ true
    by_case true = refl
    by_case false = all.0

all_apart : (q : List ℕ) (fs : List StoredFile) → bytes_at fs q ≡ None → (ns : List (List ℕ)) → AllStand fs ns →
    AllByRecursion (λ m. bytes_eq q m ≡ false) ns
all_apart q fs none [] all = tt
all_apart q fs none (n ∷ ns) all = (
  false_from_ne_true (bytes_eq q n)
      (λ same. false≢true (sym (ap is_some (subst (λ (m : List ℕ). bytes_at fs m ≡ None) ((bytes_eq-Decides q n).0 same) none)) ∙ all.0)),
  all_apart q fs none ns all.1,
)

abbrev Fine : List StoredFile → List PlainCandidate → Type 0
Fine fs cs = Distinct (map name_in cs) × AllStand fs (map name_in cs)

fine_more : (f : StoredFile) (fs : List StoredFile) (made : Option Moment) (rest : List PlainCandidate) → f.stands ≡ true →
    bytes_at fs f.name ≡ None → Fine fs rest → Fine (f ∷ fs) (with_candidate f.name made rest)
fine_more f fs None rest stands none fine = (fine.0, stand_more f fs (map name_in rest) fine.1)
fine_more f fs (Some m) rest stands none fine = (
  (all_apart f.name fs none (map name_in rest) fine.1, fine.0),
  (ap (λ b. is_some (cond b (Some f.bytes) (bytes_at fs f.name))) (has_own f stands), stand_more f fs (map name_in rest) fine.1),
)

fine_first : (names : FileNames) (f : StoredFile) (fs : List StoredFile) (links : List (List ℕ × List ℕ)) → StandOnce (f ∷ fs) →
    Fine fs (candidates_in names (map listed_file (filter (λ f. f.stands) fs) ++ map listed_link links)) → (b : Bool) → f.stands ≡ b →
    Fine (f ∷ fs) (candidates_in names (map listed_file (cond b (f ∷ filter (λ f. f.stands) fs) (filter (λ f. f.stands) fs)) ++
    map listed_link links))
fine_first names f fs links once fine true stands =
    fine_more f fs (made_of names (listed_file f) (date_in names f.name))
    (candidates_in names (map listed_file (filter (λ f. f.stands) fs) ++ map listed_link links)) stands (once.0 stands) fine
fine_first names f fs links once fine false stands = (
  fine.0,
  stand_more f fs (map name_in (candidates_in names (map listed_file (filter (λ f. f.stands) fs) ++ map listed_link links)))
      fine.1,
)

fine_by : (names : FileNames) (fs : List StoredFile) (links : List (List ℕ × List ℕ)) → StandOnce fs →
    Fine fs (candidates_in names (map listed_file (filter (λ f. f.stands) fs) ++ map listed_link links))
fine_by names [] links once = subst (Fine []) (sym (no_links names links)) (tt, tt)
fine_by names (f ∷ fs) links once = fine_first names f fs links once (fine_by names fs links once.1) f.stands refl

-- those that go are among them
apart_first : (q : List ℕ) (c : PlainCandidate) (some : List PlainCandidate) → bytes_eq q c.name ≡ false →
    AllByRecursion (λ m. bytes_eq q m ≡ false) (map name_in some) → (b : Bool) →
    AllByRecursion (λ m. bytes_eq q m ≡ false) (map name_in (cond b (c ∷ some) some))
apart_first q c some first rest true = (first, rest)
apart_first q c some first rest false = rest

apart_some : (q : List ℕ) (g : PlainCandidate → Bool) (cs : List PlainCandidate) →
    AllByRecursion (λ m. bytes_eq q m ≡ false) (map name_in cs) → AllByRecursion (λ m. bytes_eq q m ≡ false) (map name_in (filter g cs))
apart_some q g [] all = tt
apart_some q g (c ∷ cs) all = apart_first q c (filter g cs) all.0 (apart_some q g cs all.1) (g c)

fine_first_of : (fs : List StoredFile) (c : PlainCandidate) (some : List PlainCandidate) →
    AllByRecursion (λ m. bytes_eq c.name m ≡ false) (map name_in some) → is_some (bytes_at fs c.name) ≡ true → Fine fs some → (b : Bool) →
    Fine fs (cond b (c ∷ some) some)
fine_first_of fs c some apart stands fine true = ((apart, fine.0), (stands, fine.1))
fine_first_of fs c some apart stands fine false = fine

fine_some : (fs : List StoredFile) (g : PlainCandidate → Bool) (cs : List PlainCandidate) → Fine fs cs → Fine fs (filter g cs)
fine_some fs g [] fine = (tt, tt)
fine_some fs g (c ∷ cs) fine = fine_first_of fs c (filter g cs) (apart_some c.name g cs fine.0.0) fine.1.0
    (fine_some fs g cs (fine.0.1, fine.1.1)) (g c)

-- retention as a whole
listed_sound : (prefix : List ℕ) (c : Contents) → IsSound c →
    names_listed c prefix ≡ (Ok (filter (begins_with prefix) (listing c)), called c)
listed_sound prefix c sound = ap (λ (o : Outcome). if_refused o (λ e. refusal e c) (list_plain prefix c)) (sound 0)

pub retained : (limit : Option ℕ) (names : FileNames) (f : Faults) (c : Contents) → IsSound c → OnceIf limit c.files →
    ((pruned_by limit names f c).0 ≡ f) × Removal c (pruned_by limit names f c).1 (doomed_in limit names (listing c))
retained None names f c sound once = (refl, record { sound = sound; links = refl; once = λ o. o; bytes = λ q. refl; open_stay = refl })
retained (Some limit) names f c sound once =
    let cs = candidates_in names (listing c) in
    let fine = fine_some c.files (goes limit cs) cs (fine_by names c.files c.links once) in
    let all = removes_all (doomed limit cs) f (called c) (λ k. sound (suc k)) once fine.0 fine.1 in
    let same : pruned_after names limit f (names_listed c (asked_prefix names)) ≡ removed_all (doomed limit cs) (f, called c) =
    ap (pruned_after names limit f) (listed_sound (asked_prefix names) c sound) ∙
    ap (λ (xs : List PlainCandidate). removed_all (doomed limit xs) (f, called c)) (asked_candidates names (listing c)) in
    subst (λ (at : Faults × Contents). (at.0 ≡ f) × Removal c at.1 (doomed limit cs)) (sym same)
    (all.0, record { sound = all.1.sound; links = all.1.links; once = all.1.once; bytes = all.1.bytes; open_stay = all.1.open_stay })

pub once_if : (limit : Option ℕ) (fs gs : List StoredFile) → (StandOnce fs → StandOnce gs) → OnceIf limit fs → OnceIf limit gs
once_if None fs gs more once = tt
once_if (Some limit) fs gs more once = more once
