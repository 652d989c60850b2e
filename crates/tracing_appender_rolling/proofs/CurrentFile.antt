-- The steps that keep the current file, over a folder that refuses nothing, keep its sink.
use Rattle.std.proofs.Common.{◌≡◌, ℕ, zero, suc, ℤ, Bool, true, false, not, ◌&&◌, ◌||◌, cond, List, [], ◌∷◌, ◌++◌, unwrap_or, refl, ap}
use Rattle.std.proofs.Common.{subst, ◌∙◌, sym, arith, Option, Some, None}
use Rattle.std.specs.List.{filter, flat_map, AllByRecursion}
use Rattle.std.specs.Str.{bytes_eq}
use Rattle.std.proofs.lemmas.Bool.{false≢true, false_from_ne_true}
use Rattle.std.proofs.lemmas.Slice.Eq.{bytes_eq-Decides}
use Rattle.tracing_core_moments.specs.declared.moment.Moment.{Moment}
use Rattle.tracing_appender_rolling.specs.declared.folders.fault.FileNumber.{FileNumber}
use Rattle.tracing_core_moments.specs.Moments.{is_moment, end_of, is_due}
use Rattle.tracing_appender_rolling.specs.folders.Contents.{Contents, StoredFile, IsSound, is_open, has_name, file_named, link_named}
use Rattle.tracing_appender_rolling.specs.folders.Contents.{bytes_at, appended}
use Rattle.tracing_appender_rolling.specs.folders.Memory.{target_at}
use Rattle.tracing_appender_rolling.proofs.folders.Content.{after_line, stands_from, stands_to, stands_still, more_bytes, no_bytes}
use Rattle.tracing_appender_rolling.specs.Names.{FileNames}
use Rattle.tracing_appender_rolling.specs.Sinks.{PlainSink, Handed, Placed, placed_lines, with_handed, running_moment, running_period}
use Rattle.tracing_appender_rolling.specs.Sinks.{period_in, period_name, lies_in, was_opened, file_text}
use Rattle.tracing_appender_rolling.specs.PrunedSinks.{PrunedSink, pruned_text, without, with_line, is_named, StandOnce, OnceIf, Leads}
use Rattle.tracing_appender_rolling.specs.PrunedSinks.{MatchesSink}
use Rattle.tracing_appender_rolling.proofs.PeriodFacts.{same_period}
use Rattle.tracing_appender_rolling.proofs.Files.{opened_is, running_more, file_more, file_two_steps}
use Rattle.tracing_appender_rolling.proofs.Files as placing
use Rattle.tracing_appender_rolling.proofs.RetainedFiles.{once_if, none_first, named_none}

-- what names have after retention
text_by : (named opened gone : Bool) (found : Option (List ℕ)) (lines : List ℕ) →
    cond ((named && opened) || gone) None (cond opened (Some (unwrap_or (cond (named && not opened) None found) [] ++ lines))
    (cond (named && not opened) None found)) ≡ cond named None (cond gone None (cond opened (Some (unwrap_or found [] ++ lines)) found))
text_by false opened gone found lines = refl
text_by true true gone found lines = refl
text_by true false true found lines = refl
text_by true false false found lines = refl

pub text_without : (p : PrunedSink) (names : List (List ℕ)) (name : List ℕ) →
    pruned_text (without names p) name ≡ cond (is_named name names) None (pruned_text p name)
unfolding file_text
text_without p names name =
    text_by (is_named name names) (was_opened p.sink name) (p.gone name) (p.sink.found name)
    (flat_map (λ (x : Placed). x.line) (filter (lies_in p.sink.names p.sink.opened name) (placed_lines p.sink)))

-- a line in a file that is left, or in another
pub line_text : (b gone : Bool) (text : Option (List ℕ)) (line : List ℕ) → (b ≡ true → gone ≡ false) →
    after_line b (cond gone None text) line ≡ cond gone None (after_line b text line)
line_text false gone text line left = refl
line_text true true text line left = absurd (false≢true (sym (left refl)))
line_text true false text line left = refl

-- a file that was opened stays so
pub opened_more : (s : PlainSink) (h : Handed) (name : List ℕ) → was_opened s name ≡ true → was_opened (with_handed s h) name ≡ true
opened_more s h name is = opened_is s h name ∙ ap (λ b. b || bytes_eq (placing.name_at s h.moment) name) is

pub all_more : (hs : List Handed) (h : Handed) → is_moment h.moment ≡ true → AllByRecursion (λ (k : Handed). is_moment k.moment ≡ true) hs →
    AllByRecursion (λ (k : Handed). is_moment k.moment ≡ true) (hs ++ h ∷ [])
all_more [] h is all = (is, tt)
all_more (k ∷ ks) h is all = (all.0, all_more ks h is all.1)

-- the last line's moment
last_is : (hs : List Handed) (h : Handed) → AllByRecursion (λ (k : Handed). is_moment k.moment ≡ true) (hs ++ h ∷ []) →
    is_moment h.moment ≡ true
last_is [] h all = all.0
last_is (k ∷ ks) h all = last_is ks h all.1

all_but_last : (hs : List Handed) (h : Handed) → AllByRecursion (λ (k : Handed). is_moment k.moment ≡ true) (hs ++ h ∷ []) →
    AllByRecursion (λ (k : Handed). is_moment k.moment ≡ true) hs
all_but_last [] h all = tt
all_but_last (k ∷ ks) h all = (all.0, all_but_last ks h all.1)

pub gone_opened_by : (named opened gone : Bool) → (gone ≡ true → opened ≡ true) → ((named && opened) || gone) ≡ true → opened ≡ true
gone_opened_by named true gone h e = refl
gone_opened_by true false gone h e = h e
gone_opened_by false false gone h e = h e

-- the current file is left
current_left : (c : Contents) (p : PrunedSink) (name : List ℕ) (i : ℕ) → file_named name c.files ≡ Some i →
    bytes_at c.files name ≡ pruned_text p name → p.gone name ≡ false
current_left c p name i stands is =
    false_from_ne_true (p.gone name)
    (λ gone. let some : Some i ≡ None = sym stands ∙ named_none name c.files 0 (is ∙ ap (λ b. cond b None (file_text p.sink name)) gone) in
    let no : ⊥ = cc in no)

-- a link that leads there still does over the same links, where no more files stand
leads_still : (latest : Option (List ℕ)) (name : List ℕ) (c d : Contents) → d.links ≡ c.links →
    ((q : List ℕ) → bytes_at c.files q ≡ None → bytes_at d.files q ≡ None) → Leads latest name c → Leads latest name d
leads_still None name c d links none leads = tt
leads_still (Some link) name c d links none leads = (
  none link leads.0,
  ap (λ (ls : List (List ℕ × List ℕ)). target_at ls link) links ∙
      leads.1,
)

-- a folder with the same files and links
pub same_left : (c d : Contents) (names : FileNames) (boundary : Option ℤ) (current : FileNumber) (p : PrunedSink) →
    MatchesSink c names boundary current p → IsSound d → is_open current d ≡ true → d.links ≡ c.links → d.files ≡ c.files →
    MatchesSink d names boundary current p
same_left c d names boundary current p k sound open_on links files = record {
  names_same = k.names_same;
  good_link = k.good_link;
  opened_moment = k.opened_moment;
  handed_moments = k.handed_moments;
  boundary_same = k.boundary_same;
  sound = sound;
  once = subst (λ (fs : List StoredFile). OnceIf names.limit fs) (sym files) k.once;
  unlinked = λ x is. ap (link_named (period_name p.sink (period_in p.sink x))) links ∙ k.unlinked x is;
  link = leads_still p.sink.names.latest (period_name p.sink (running_period p.sink)) c d links
      (λ q e. ap (λ (fs : List StoredFile). bytes_at fs q) files ∙ e) k.link;
  current_same = ap (file_named (period_name p.sink (running_period p.sink))) files ∙ k.current_same;
  current_open = open_on;
  gone_opened = k.gone_opened;
  files = λ name. ap (λ (fs : List StoredFile). bytes_at fs name) files ∙ k.files name;
}

-- a look before it
pub look_left : (c : Contents) (names : FileNames) (boundary : Option ℤ) (current : FileNumber) (p : PrunedSink) (m : Moment) →
    is_moment m ≡ true → is_due boundary m.seconds ≡ false → MatchesSink c names boundary current p →
    MatchesSink c names boundary current (with_line p [] m)
look_left c names boundary current p m is_m early k =
    let s = p.sink in
    let h : Handed = record { line = []; moment = m } in
    let period : running_period (with_handed s h) ≡ running_period s = ap (period_in s) (running_more s.opened s.handed h) ∙
    same_period s.names.kind (running_moment s.opened s.handed) m (ap (λ b. is_due b m.seconds) (sym k.boundary_same) ∙ early) in
    let mine = period_name s (running_period s) in
    let same : placing.name_at s m ≡ mine = ap (period_name s) (ap (period_in s) (sym (running_more s.opened s.handed h)) ∙ period) in
    let left = current_left c p mine current.index k.current_same (k.files mine) in
    record {
      names_same = k.names_same;
      good_link = k.good_link;
      opened_moment = k.opened_moment;
      handed_moments = all_more s.handed h is_m k.handed_moments;
      boundary_same = k.boundary_same ∙ ap (end_of s.names.kind) (sym period);
      sound = k.sound;
      once = k.once;
      unlinked = k.unlinked;
      link = subst (λ (e : ℤ). Leads s.names.latest (period_name s e) c) (sym period) k.link;
      current_same = ap (λ e. file_named (period_name s e) c.files) period ∙ k.current_same;
      current_open = k.current_open;
      gone_opened = λ name gone. opened_more s h name (k.gone_opened name gone);
      files = λ name.
          no_bytes mine name c.files current.index (stands_from mine c.files current.index k.current_same)
          ∙ ap (λ o. after_line (bytes_eq mine name) o []) (k.files name)
          ∙ line_text (bytes_eq mine name) (p.gone name) (file_text s name) []
          (λ e. subst (λ (n : List ℕ). p.gone n ≡ false) ((bytes_eq-Decides mine name).0 e) left)
          ∙ ap (cond (p.gone name) None) (ap (λ n. after_line (bytes_eq n name) (file_text s name) []) (sym same) ∙
          sym (file_more s h name));
    }

-- bytes to the current file
none_appended : (q : List ℕ) (fs : List StoredFile) (i : ℕ) (bytes : List ℕ) → bytes_at fs q ≡ None →
    bytes_at (appended fs i bytes) q ≡ None
none_appended q [] i bytes e = refl
none_appended q (f ∷ fs) zero bytes e =
    let s = none_first q f fs (has_name q f) e in ap (λ b. cond b (Some (f.bytes ++ bytes)) (bytes_at fs q)) s.0 ∙ s.1
none_appended q (f ∷ fs) (suc i) bytes e =
    let s = none_first q f fs (has_name q f) e in ap (λ b. cond b (Some f.bytes) (bytes_at (appended fs i bytes) q)) s.0 ∙
    none_appended q fs i bytes s.1

once_appended : (fs : List StoredFile) (i : ℕ) (bytes : List ℕ) → StandOnce fs → StandOnce (appended fs i bytes)
once_appended [] i bytes once = tt
once_appended (f ∷ fs) zero bytes once = once
once_appended (f ∷ fs) (suc i) bytes once = (λ e. none_appended f.name fs i bytes (once.0 e), once_appended fs i bytes once.1)

pub push_left : (c d : Contents) (names : FileNames) (boundary : Option ℤ) (current : FileNumber) (p : PrunedSink) (m : Moment)
    (bytes : List ℕ) → MatchesSink c names boundary current (with_line p [] m) → IsSound d → is_open current d ≡ true → d.links ≡ c.links →
    d.files ≡ appended c.files current.index bytes → MatchesSink d names boundary current (with_line p bytes m)
push_left c d names boundary current p m bytes k sound open_on links files =
    let s = p.sink in
    let before : Handed = record { line = []; moment = m } in
    let after : Handed = record { line = bytes; moment = m } in
    let period : running_period (with_handed s after) ≡ running_period (with_handed s before) =
    ap (period_in s) (running_more s.opened s.handed after ∙ sym (running_more s.opened s.handed before)) in
    let mine = period_name s (running_period (with_handed s before)) in
    let same : placing.name_at s m ≡ mine = ap (λ r. period_name s (period_in s r)) (sym (running_more s.opened s.handed before)) in
    let stands = stands_from mine c.files current.index k.current_same in
    let left = current_left c (with_line p [] m) mine current.index k.current_same (k.files mine) in
    let fits = λ (q : List ℕ) (e : bytes_at c.files q ≡ None). ap (λ (fs : List StoredFile). bytes_at fs q) files ∙
    none_appended q c.files current.index bytes e in
    record {
      names_same = k.names_same;
      good_link = k.good_link;
      opened_moment = k.opened_moment;
      handed_moments = all_more s.handed after (last_is s.handed before k.handed_moments) (all_but_last s.handed before k.handed_moments);
      boundary_same = k.boundary_same ∙ ap (end_of s.names.kind) (sym period);
      sound = sound;
      once = subst (λ (fs : List StoredFile). OnceIf names.limit fs) (sym files)
          (once_if names.limit c.files (appended c.files current.index bytes) (once_appended c.files current.index bytes) k.once);
      unlinked = λ x is. ap (link_named (period_name s (period_in s x))) links ∙ k.unlinked x is;
      link = subst (λ (e : ℤ). Leads s.names.latest (period_name s e) d) (sym period)
          (leads_still s.names.latest mine c d links fits k.link);
      current_same =
          ap (λ e. file_named (period_name s e) d.files) period
          ∙ ap (file_named mine) files
          ∙ stands_to mine (appended c.files current.index bytes) 0 current.index
          (stands_still mine bytes c.files current.index current.index stands)
          ∙ ap Some (omega arith);
      current_open = open_on;
      gone_opened = λ name gone. opened_is s after name ∙ sym (opened_is s before name) ∙ k.gone_opened name gone;
      files = λ name.
          ap (λ (fs : List StoredFile). bytes_at fs name) files
          ∙ more_bytes mine name bytes c.files current.index stands
          ∙ ap (λ o. after_line (bytes_eq mine name) o bytes) (k.files name)
          ∙ line_text (bytes_eq mine name) (p.gone name) (file_text (with_handed s before) name) bytes
          (λ e. subst (λ (n : List ℕ). p.gone n ≡ false) ((bytes_eq-Decides mine name).0 e) left)
          ∙ ap (cond (p.gone name) None) (ap (λ n. after_line (bytes_eq n name) (file_text (with_handed s before) name) bytes) (sym same) ∙
          sym (file_two_steps s m bytes name));
    }
