-- Journals that grow, and what they leave.
use Rattle.std.proofs.Common.{◌≡◌, ℕ, ◌++◌, List, [], ◌∷◌, filter, refl, ap, sym, ◌∙◌, Bool, true, false}
use Rattle.std.specs.Arc.{arc_value}
use Rattle.std.proofs.lemmas.List.{map-append}
use Rattle.span_tracing_skeleton.specs.PlainData.{AnyStep, any_step}
use Rattle.span_tracing_skeleton.specs.Skeleton.{Skeleton}
use Rattle.span_tracing_skeleton.specs.declared.call.Reply.{Reply}
use Rattle.span_tracing_shared.specs.Books.{Replays, given_replies}
use Rattle.span_tracing_shared.specs.Entries.{plain_call, plain_calls, plain_entry, plain_journal}
use Rattle.span_tracing_shared.specs.Journals.{PlainEntry, counts, next, next_by, reply_at, reply_if, replies_of, skeleton_after}
use Rattle.span_tracing_shared.specs.declared.call.Call.{Call}
use Rattle.span_tracing_shared.specs.declared.entry.Entry.{Entry}

pub skeletons_join : (s : Skeleton) (es fs : List PlainEntry) → skeleton_after s (es ++ fs) ≡ skeleton_after (skeleton_after s es) fs
skeletons_join s [] fs = refl
skeletons_join s (x ∷ es) fs = skeletons_join (next s x) es fs

pub replies_join : (s : Skeleton) (es fs : List PlainEntry) →
    replies_of s (es ++ fs) ≡ replies_of s es ++ replies_of (skeleton_after s es) fs
replies_join s [] fs = refl
replies_join s (x ∷ es) fs = ap (λ rs. reply_at s x ∷ rs) (replies_join (next s x) es fs)

-- one entry at the head, whether it counts or not
left_out_at : (b : Bool) (s : Skeleton) (e : PlainEntry) (es : List PlainEntry) → counts e.reply ≡ b →
    ((t : Skeleton) → skeleton_after t (filter (λ (x : PlainEntry). counts x.reply) es) ≡ skeleton_after t es) →
    skeleton_after s (filter (λ (x : PlainEntry). counts x.reply) (e ∷ es)) ≡ skeleton_after s (e ∷ es)
left_out_at true s e es is others =
    let stays : filter (λ (x : PlainEntry). counts x.reply) (e ∷ es) ≡ e ∷ filter (λ (x : PlainEntry). counts x.reply) es = rw is refl in
    ap (skeleton_after s) stays ∙ others (next s e)
left_out_at false s e es is others =
    let goes : filter (λ (x : PlainEntry). counts x.reply) (e ∷ es) ≡ filter (λ (x : PlainEntry). counts x.reply) es = rw is refl in
    ap (skeleton_after s) goes ∙ (others s ∙ sym (ap (λ c. skeleton_after (next_by c s e.step e.mask) es) is))

-- entries that don't count make no difference
pub left_out : (s : Skeleton) (es : List PlainEntry) →
    skeleton_after s (filter (λ (x : PlainEntry). counts x.reply) es) ≡ skeleton_after s es
left_out s [] = refl
left_out s (e ∷ es) = left_out_at (counts e.reply) s e es refl (λ t. left_out t es)

-- a step that follows the machine may be entered
pub replays_more : (old new start : Skeleton) (es : List PlainEntry) (e : PlainEntry) → Replays old start es →
    new ≡ next_by (counts e.reply) old e.step e.mask → e.reply ≡ reply_if (counts e.reply) old e.step e.mask e.reply →
    Replays new start (es ++ e ∷ [])
replays_more old new start es e r skeleton reply =
    record {
      skeleton_is = skeleton ∙ (ap (λ (s : Skeleton). next s e) r.skeleton_is ∙ sym (skeletons_join start es (e ∷ [])));
      replies_are =
          replies_join start es (e ∷ [])
          ∙ (ap (λ rs. rs ++ reply_at (skeleton_after start es) e ∷ []) r.replies_are
          ∙ (ap (λ (s : Skeleton). given_replies es ++ reply_at s e ∷ []) (sym r.skeleton_is)
          ∙ (ap (λ (x : Reply). given_replies es ++ x ∷ []) (sym reply)
          ∙ sym (map-append (λ (x : PlainEntry). x.reply) es (e ∷ [])))));
    }

pub journal_more : (es : List Entry) (e : Entry) → plain_journal (es ++ e ∷ []) ≡ plain_journal es ++ plain_entry e ∷ []
journal_more es e = map-append plain_entry es (e ∷ [])

pub calls_more : (cs : List Call) (c : Call) → plain_calls (cs ++ c ∷ []) ≡ plain_calls cs ++ plain_call c ∷ []
calls_more cs c = map-append plain_call cs (c ∷ [])

abbrev pub entry : ℕ → AnyStep → Reply → List Bool → PlainEntry
entry lane step reply mask = record { lane = lane; step = step; reply = reply; mask = mask }

-- the entry says what was done
pub entered : (before reserved later : List Entry) (e : Entry) (step : AnyStep) (reply : Reply) → later ≡ reserved ++ e ∷ [] →
    reserved ≡ before → any_step (arc_value e.step) ≡ step → e.reply ≡ reply →
    plain_journal later ≡ plain_journal before ++ entry e.lane step reply e.mask ∷ []
entered before reserved later e step reply pushed same kept given =
    ap plain_journal (pushed ∙ ap (λ es. es ++ e ∷ []) same)
    ∙ (journal_more before e
    ∙ (ap (λ (s : AnyStep). plain_journal before ++ entry e.lane s e.reply e.mask ∷ []) kept
    ∙ ap (λ (r : Reply). plain_journal before ++ entry e.lane step r e.mask ∷ []) given))
