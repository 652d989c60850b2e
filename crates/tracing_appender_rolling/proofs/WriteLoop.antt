-- The loop that writes until all bytes are taken.
use Rattle.std.proofs.Common.{◌≡◌, ◌==◌, true, Bool, ℕ, zero, suc, ◌+◌, ◌<◌, ◌≤◌, ◌-◌, List, [], ◌∷◌, ◌++◌, length, take, drop, min, inl}
use Rattle.std.proofs.Common.{inr, refl, ap, subst, ◌∙◌, sym, arith, Option, Some, None, Result, Ok, Err}
use Rattle.std.specs.Prelude.{◌⊎◌}
use Rattle.std.specs.List.{list_any}
use Rattle.std.proofs.Math.Nat.{eq-or-lt_of_le}
use Rattle.std.proofs.lemmas.List.{take_all, length-take, length-drop, append_assoc}
use Rattle.std.proofs.Math.Seq.{take-add}
use Rattle.tracing_appender_rolling.specs.declared.folders.fault.FileNumber.{FileNumber}
use Rattle.tracing_appender_rolling.specs.declared.folders.fault.FolderFault.{FolderFault}
use Rattle.tracing_appender_rolling.specs.declared.folders.fault.FolderFault.TheVariants.{WriteZero}
use Rattle.tracing_appender_rolling.specs.declared.folders.fault.FolderError.{FolderError}
use Rattle.tracing_appender_rolling.specs.declared.folders.fault.FolderError.TheVariants.{Fault, OutOfMemory}
use Rattle.tracing_appender_rolling.specs.folders.Contents.{Contents, StoredFile, Answer, Gives, IsSound, Outcome, Done, Refuses, Short}
use Rattle.tracing_appender_rolling.specs.folders.Contents.{appended, written, write_plain, taken, refusal, if_refused, called, is_open}
use Rattle.tracing_appender_rolling.specs.folders.Contents.{on_file, unless_closed}
use Rattle.tracing_appender_rolling.proofs.FaultlessFolder.{sound_on}
use Rattle.tracing_appender_rolling.specs.Writes.{Left, for_file, taken_by, Takes, FailsWith, WroteSome, Wrote, WritesAll}
use Rattle.tracing_appender_rolling.proofs.folders.Content.{appended-nil}

-- a second part at the same place
appended_twice : (fs : List StoredFile) (i : ℕ) (a b : List ℕ) → appended (appended fs i a) i b ≡ appended fs i (a ++ b)
appended_twice [] i a b = refl
appended_twice (f ∷ fs) zero a b = ap (λ (t : List ℕ). record { name = f.name; stands = f.stands; created = f.created; bytes = t } ∷ fs)
    (append_assoc f.bytes a b)
appended_twice (f ∷ fs) (suc i) a b = ap (λ (r : List StoredFile). f ∷ r) (appended_twice fs i a b)

take_length : (m : ℕ) (xs : List ℕ) → take (length (take m xs)) xs ≡ take m xs
take_length zero xs = refl
take_length (suc m) [] = refl
take_length (suc m) (x ∷ xs) = ap (λ (r : List ℕ). x ∷ r) (take_length m xs)

-- one write that took so many
pub record Took (d e : Contents) (file : FileNumber) (part : List ℕ) (n : ℕ) : Type 0 where
  pub files : e.files ≡ appended d.files file.index (take n part)
  pub links : e.links ≡ d.links
  pub opens : e.open_files ≡ d.open_files
  pub dirs : e.has_dirs ≡ d.has_dirs
  pub flushes : e.last_flushed ≡ d.last_flushed
  pub count : n ≡ taken (on_file file d 0) (length part)
  pub none : n ≡ 0 → 0 < length part → FailsWith (on_file file d 0) (Fault WriteZero)
  pub next : (k : ℕ) → e.coming k ≡ d.coming (suc k)

-- one that failed
record Failed (d e : Contents) (file : FileNumber) (f : FolderFault) : Type 0 where
  pub files : e.files ≡ d.files
  pub links : e.links ≡ d.links
  pub opens : e.open_files ≡ d.open_files
  pub dirs : e.has_dirs ≡ d.has_dirs
  pub flushes : e.last_flushed ≡ d.last_flushed
  pub fails : FailsWith (on_file file d 0) (Fault f)
  pub next : (k : ℕ) → e.coming k ≡ d.coming (suc k)

abbrev answer_of : Contents → FileNumber → List ℕ → Outcome → Answer ℕ
answer_of d file part o = if_refused o (λ f. refusal f d) (write_plain file (take (taken o (length part)) part) d)

same_part : (d : Contents) (file : FileNumber) (part : List ℕ) (m n : ℕ) → length (take m part) ≡ n →
    appended d.files file.index (take m part) ≡ appended d.files file.index (take n part)
same_part d file part m n e = ap (appended d.files file.index) (sym (take_length m part) ∙ ap (λ k. take k part) e)

short_count : (most : ℕ) (part : List ℕ) → length (take (min most (length part)) part) ≡ min most (length part)
short_count most part = length-take (min most (length part)) part ∙ omega arith

no_most : (most n len : ℕ) → n ≡ min most len → n ≡ 0 → 0 < len → most ≡ 0
no_most zero n len count none some = refl
no_most (suc m) n len count none some = absurd (omega (arith, count, none, some))

pub took : (d : Contents) (file : FileNumber) (part : List ℕ) (n : ℕ) (o : Outcome) → on_file file d 0 ≡ o →
    (answer_of d file part o).0 ≡ Ok n → Took d (answer_of d file part o).1 file part n
took d file part n (Refuses f) is told = cc
took d file part n Done is told =
    let size : length (take (length part) part) ≡ n = cc in
    let le : length part ≤ length part = omega arith in
    let all : n ≡ length part = sym size ∙ ap length (take_all (length part) part le) in
    record {
      files = same_part d file part (length part) n size;
      links = refl;
      opens = refl;
      dirs = refl;
      flushes = refl;
      count = all ∙ sym (ap (λ (o : Outcome). taken o (length part)) is);
      none = λ zero_taken some. absurd (omega (arith, all, zero_taken, some));
      next = λ k. refl;
    }
took d file part n (Short most) is told =
    let size : length (take (min most (length part)) part) ≡ n = cc in
    let count : n ≡ min most (length part) = sym size ∙ short_count most part in
    record {
      files = same_part d file part (min most (length part)) n size;
      links = refl;
      opens = refl;
      dirs = refl;
      flushes = refl;
      count = count ∙ sym (ap (λ (o : Outcome). taken o (length part)) is);
      none = λ zero_taken some. subst (λ (o : Outcome). FailsWith o (Fault WriteZero)) (sym is)
          (no_most most n (length part) count zero_taken some, refl);
      next = λ k. refl;
    }

failed : (d : Contents) (file : FileNumber) (part : List ℕ) (f : FolderFault) (o : Outcome) → on_file file d 0 ≡ o →
    (answer_of d file part o).0 ≡ Err (Fault f) → Failed d (answer_of d file part o).1 file f
failed d file part f Done is told = cc
failed d file part f (Short most) is told = cc
failed d file part f (Refuses g) is told =
    let same : f ≡ g = cc in
    record {
      files = refl;
      links = refl;
      opens = refl;
      dirs = refl;
      flushes = refl;
      fails = subst (λ (o : Outcome). FailsWith o (Fault f))
          (sym is) same;
      next = λ k. refl;
    }

-- what stands after so many bytes
pub record Part (c : Contents) (file : FileNumber) (bytes : List ℕ) (from : ℕ) (now : Option Contents) : Type 0 where
  pub writes : ℕ
  pub left : Left c (appended c.files file.index (take from bytes)) c.has_dirs writes now
  pub takes : Takes (for_file file c) writes (length bytes) from

pub record Going (start : Option Contents) (file : FileNumber) (bytes : List ℕ) (from : ℕ) (now : Option Contents) : Type 0 where
  pub unknown : start ≡ None → now ≡ None
  pub known : (c : Contents) → start ≡ Some c → Part c file bytes from now

pub begins : (start : Option Contents) (file : FileNumber) (bytes : List ℕ) → Going start file bytes 0 start
begins start file bytes = record {
  unknown = λ e. e;
  known = λ c e. record {
    writes = 0;
    left = record {
      contents = c;
      is = e;
      files_are = sym (appended-nil c.files file.index);
      links_stay = refl;
      open_stay = refl;
      dirs_are =
          refl;
      flush_stays = refl;
      comes = λ k. ap c.coming (let same : k ≡ 0 + k = omega arith in same);
    };
    takes = record { some = λ i lt. absurd (omega (arith, lt)); sum = refl };
  };
}

by_start : (start : Option Contents) (file : FileNumber) (bytes : List ℕ) (r : Result (Unit {0}) FolderError) (now : Option Contents) →
    (start ≡ None → now ≡ None) → ((c : Contents) → start ≡ Some c → Wrote c file bytes r now) → WritesAll start file bytes r now
by_start None file bytes r now unknown known = unknown refl
by_start (Some c) file bytes r now unknown known = known c refl

unknown_gives : (file : FileNumber) (part : List ℕ) (r : Result ℕ FolderError) (before after : Option Contents) → before ≡ None →
    Gives (λ x. written x file part) before r after → after ≡ None
unknown_gives file part (Ok n) before after e gives = subst (λ (o : Option Contents). Gives (λ x. written x file part) o (Ok n) after) e
    gives
unknown_gives file part (Err f) before after e gives = subst (λ (o : Option Contents). Gives (λ x. written x file part) o (Err f) after) e
    gives

-- one write that takes some more
takes_more : (c : Contents) (writes len from n : ℕ) → Takes c writes len from → n ≡ taken (c.coming writes) (len - from) → 0 < n →
    Takes c (suc writes) len (from + n)
takes_more c writes len from n takes count some = record {
  some = λ i lt. by_case i (eq-or-lt_of_le (let le : i ≤ writes = omega (arith, lt) in le));
  sum = ap (λ k. k + taken (c.coming writes) (len - k)) takes.sum ∙ ap (λ k. from + k) (sym count);
}
  where
    last : 0 < taken (c.coming writes) (len - taken_by c writes len)
    last = subst (λ k. 0 < taken (c.coming writes) (len - k)) (sym takes.sum) (subst (λ k. 0 < k) count some)

    by_case : (i : ℕ) → (i ≡ writes) ⊎ (i < writes) → 0 < taken (c.coming i) (len - taken_by c i len)
    by_case i (inl same) = subst (λ j. 0 < taken (c.coming j) (len - taken_by c j len)) (sym same) last
    by_case i (inr less) = takes.some i less

module _ (start : Option Contents) (file : FileNumber) (bytes : List ℕ) (from : ℕ) (before after : Option Contents)
    (going : Going start file bytes from before) (more : from < length bytes) (part : List ℕ) (is : part ≡ drop from bytes) where
  rest : length part ≡ length bytes - from
  rest = ap length is ∙ length-drop from bytes

  at_known : (c : Contents) (e : start ≡ Some c) (r : Result ℕ FolderError) → Gives (λ x. written x file part) before r after →
      Gives (λ x. written x file part) (Some (going.known c e).left.contents) r after
  at_known c e r gives = subst (λ (o : Option Contents). Gives (λ x. written x file part) o r after) (going.known c e).left.is gives

  -- the next call
  first_here : (c : Contents) (e : start ≡ Some c) → on_file file (going.known c e).left.contents 0 ≡ on_file file c
      (going.known c e).writes
  first_here c e =
      let l = (going.known c e).left in
      ap (λ (ns : List ℕ). unless_closed (list_any (λ m. m == file.index) ns) (l.contents.coming 0)) l.open_stay
      ∙ ap (unless_closed (is_open file c))
      (l.comes 0 ∙ ap c.coming (let same : (going.known c e).writes + 0 ≡ (going.known c e).writes = omega arith in same))

  later_here : (c : Contents) (e : start ≡ Some c) (k : ℕ) →
      (going.known c e).left.contents.coming (suc k) ≡ c.coming (suc (going.known c e).writes + k)
  later_here c e k = (going.known c e).left.comes (suc k) ∙
      ap c.coming (let same : (going.known c e).writes + suc k ≡ suc (going.known c e).writes + k = omega arith in same)

  left_after : (c : Contents) (e : start ≡ Some c) (n : ℕ) → (d : Contents) → after ≡ Some d →
      Took (going.known c e).left.contents d file part n → Left c (appended c.files file.index (take (from + n) bytes)) c.has_dirs
      (suc (going.known c e).writes) after
  left_after c e n d gave t =
      let l = (going.known c e).left in
      let both : take from bytes ++ take n part ≡ take (from + n) bytes = ap (λ (p : List ℕ). take from bytes ++ take n p) is ∙
      sym (take-add from n bytes) in
      record {
        contents = d;
        is = gave;
        files_are = t.files ∙ ap (λ (fs : List StoredFile). appended fs file.index (take n part)) l.files_are ∙
            appended_twice c.files file.index (take from bytes) (take n part) ∙ ap (appended c.files file.index) both;
        links_stay = t.links ∙ l.links_stay;
        open_stay = t.opens ∙ l.open_stay;
        dirs_are = t.dirs ∙ l.dirs_are;
        flush_stays = t.flushes ∙ l.flush_stays;
        comes = λ k. t.next k ∙ later_here c e k;
      }

  took_here : (c : Contents) (e : start ≡ Some c) (n : ℕ) (gives : Gives (λ x. written x file part) before (Ok n) after) →
      Took (going.known c e).left.contents (written (going.known c e).left.contents file part).1 file part n
  took_here c e n gives = let d = (going.known c e).left.contents in
      took d file part n (on_file file d 0) refl (at_known c e (Ok n) gives).0

  count_here : (c : Contents) (e : start ≡ Some c) (n : ℕ) → n ≡ taken (on_file file (going.known c e).left.contents 0) (length part) →
      n ≡ taken (on_file file c (going.known c e).writes) (length bytes - from)
  count_here c e n count = count ∙ ap (λ (o : Outcome). taken o (length part)) (first_here c e) ∙
      ap (taken (on_file file c (going.known c e).writes)) rest

  part_after : (c : Contents) (e : start ≡ Some c) (n : ℕ) → 0 < n → Gives (λ x. written x file part) before (Ok n) after →
      Part c file bytes (from + n) after
  part_after c e n some gives =
      let p = going.known c e in
      let t = took_here c e n gives in
      record {
        writes = suc p.writes;
        left = left_after c e n (written p.left.contents file part).1 (at_known c e (Ok n) gives).1 t;
        takes = takes_more (for_file file c) p.writes (length bytes) from n p.takes (count_here c e n t.count) some;
      }

  pub goes : (n : ℕ) → 0 < n → Gives (λ x. written x file part) before (Ok n) after → Going start file bytes (from + n) after
  goes n some gives = record {
    unknown = λ e. unknown_gives file part (Ok n) before after (going.unknown e) gives;
    known = λ c e. part_after c e n some gives;
  }

  -- a write that took none
  zero_known : (c : Contents) (e : start ≡ Some c) → Gives (λ x. written x file part) before (Ok 0) after →
      WroteSome c file bytes (Fault WriteZero) after
  zero_known c e gives =
      let p = going.known c e in
      let t = took_here c e 0 gives in
      let nothing : from + 0 ≡ from = omega arith in
      let some : 0 < length part = omega (arith, rest, more) in
      record {
        writes = p.writes;
        count = from;
        left = subst (λ k. Left c (appended c.files file.index (take k bytes)) c.has_dirs (suc p.writes) after) nothing
            (left_after c e 0 (written p.left.contents file part).1 (at_known c e (Ok 0) gives).1 t);
        takes = p.takes;
        less = more;
        fails = subst (λ (o : Outcome). FailsWith o (Fault WriteZero)) (first_here c e) (t.none refl some);
      }

  pub ends_zero : Gives (λ x. written x file part) before (Ok 0) after → WritesAll start file bytes (Err (Fault WriteZero)) after
  ends_zero gives =
      by_start start file bytes (Err (Fault WriteZero)) after (λ e. unknown_gives file part (Ok 0) before after (going.unknown e) gives)
      (λ c e. zero_known c e gives)

  err_known : (c : Contents) (e : start ≡ Some c) (f : FolderError) →
      Gives (λ x. written x file part) (Some (going.known c e).left.contents) (Err f) after → WroteSome c file bytes f after
  err_known c e OutOfMemory gave =
      let p = going.known c e in
      record {
        writes = p.writes;
        count = from;
        left = record {
          contents = called p.left.contents;
          is = gave;
          files_are = p.left.files_are;
          links_stay = p.left.links_stay;
          open_stay = p.left.open_stay;
          dirs_are = p.left.dirs_are;
          flush_stays = p.left.flush_stays;
          comes = later_here c e;
        };
        takes = p.takes;
        less = more;
        fails = tt;
      }
  err_known c e (Fault f) gave =
      let p = going.known c e in
      let d = p.left.contents in
      let g = failed d file part f (on_file file d 0) refl gave.0 in
      record {
        writes = p.writes;
        count = from;
        left = record {
          contents = (written d file part).1;
          is = gave.1;
          files_are = g.files ∙ p.left.files_are;
          links_stay = g.links ∙ p.left.links_stay;
          open_stay = g.opens ∙ p.left.open_stay;
          dirs_are = g.dirs ∙ p.left.dirs_are;
          flush_stays = g.flushes ∙ p.left.flush_stays;
          comes = λ k. g.next k ∙ later_here c e k;
        };
        takes = p.takes;
        less = more;
        fails = subst (λ (o : Outcome). FailsWith o (Fault f)) (first_here c e) g.fails;
      }

  pub ends_err : (f : FolderError) → Gives (λ x. written x file part) before (Err f) after → WritesAll start file bytes (Err f) after
  ends_err f gives =
      by_start start file bytes (Err f) after (λ e. unknown_gives file part (Err f) before after (going.unknown e) gives)
      (λ c e. err_known c e f (at_known c e (Err f) gives))

pub ends : (start : Option Contents) (file : FileNumber) (bytes : List ℕ) (from : ℕ) (now : Option Contents) (done : Unit {0}) →
    Going start file bytes from now → from ≡ length bytes → WritesAll start file bytes (Ok done) now
ends start file bytes from now done going all =
    by_start start file bytes (Ok done) now going.unknown
    (λ c e.
    let p = going.known c e in
    let le : length bytes ≤ from = omega (arith, all) in
    record {
      writes = p.writes;
      left = subst (λ (b : List ℕ). Left c (appended c.files file.index b) c.has_dirs p.writes now) (take_all from bytes le) p.left;
      takes = subst (Takes (for_file file c) p.writes (length bytes)) all p.takes;
    })

-- a folder that refuses nothing goes on so
pub still_sound : {c : Contents} {files : List StoredFile} {dirs : Bool} {calls : ℕ} {after : Option Contents}
    (l : Left c files dirs calls after) → IsSound c → IsSound l.contents
still_sound {calls = calls} l sound n = l.comes n ∙ sound (calls + n)

pub no_fault : (d : Contents) (file : FileNumber) (part : List ℕ) (f : FolderFault) → IsSound d → is_open file d ≡ true →
    (written d file part).0 ≡ Err (Fault f) → ⊥
no_fault d file part f sound is told = subst (λ (o : Outcome). FailsWith o (Fault f)) (sound_on d file sound is 0)
    (failed d file part f (on_file file d 0) refl told).fails

-- it fails for lack of memory alone, at the first write
pub sound_fails : (c : Contents) (file : FileNumber) (bytes : List ℕ) (e : FolderError) (after : Option Contents) → IsSound c →
    is_open file c ≡ true → (w : WroteSome c file bytes e after) → (e ≡ OutOfMemory) × (w.count ≡ 0)
sound_fails c file bytes e after sound is w =
    (starved e (subst (λ (o : Outcome). FailsWith o e) (sound_on c file sound is w.writes) w.fails), none w.writes w.takes.sum)
  where
    starved : (e : FolderError) → FailsWith Done e → e ≡ OutOfMemory
    starved OutOfMemory fails = refl
    starved (Fault fault) fails = absurd fails

    none : (writes : ℕ) → taken_by (for_file file c) writes (length bytes) ≡ w.count → w.count ≡ 0
    none zero sum = sym sum
    none (suc n) sum =
        let all = taken_by (for_file file c) n (length bytes) in
        let whole : all + (length bytes - all) ≡ w.count =
        sym (ap (λ (o : Outcome). all + taken o (length bytes - all)) (sound_on c file sound is n)) ∙ sum in
        absurd (omega (arith, whole, w.less))
