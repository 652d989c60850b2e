-- What commands leave sound.
use Rattle.std.proofs.Common.{◌≡◌, ℕ, ◌+◌, Bool, true, false, List, [], ◌∷◌, ◌++◌, length, Option, Some, None}
use Rattle.std.proofs.Common.{refl, ap, sym, ◌∙◌, subst, arith}
use Rattle.tracing_core_fields.specs.PlainMetadata.{PlainMetadata}
use Rattle.tracing_core.specs.InterestsAndHints.{Each, Joins, CallsiteAsked}
use Rattle.tracing_core.specs.Commands.{Registered, living, new_callsite, callsite_with, is_at}
use Rattle.tracing_core_fields.specs.requests.Interests.{PlainInterest}
use Rattle.tracing_core_fields.specs.requests.Lists.{Every}
use Rattle.tracing_core.specs.ValidCaches.{IsTrueCallsite}
use Rattle.tracing_core.specs.HubInvariant.{Ascends, AreDistinct, IsSound, serials, identifiers}
use Rattle.tracing_core_fields.specs.requests.Steady.{IsReal}
use Rattle.tracing_core.specs.Table.{Table}
use Rattle.tracing_core_fields.specs.declared.requests.callsite.Callsite.{Ghosts as SiteGhosts}
use Rattle.tracing_core.specs.TableRows.{KeptCallsite, KeptSubscriber}
use Rattle.tracing_core_fields.specs.declared.requests.subscriber.Subscriber.{Ghosts}
use Rattle.tracing_core.proofs.GivenAnswers.{gives_heard}
use Rattle.tracing_core.proofs.SubscriberNumbers.{by_bool, each_serials, ascends_append, serials_append}

pub every_append : {A : Type 0} (P : A → Type 0) (xs : List A) (x : A) → Every P xs → P x → Every P (xs ++ x ∷ [])
every_append P [] x all last = (last, tt)
every_append P (y ∷ ys) x all last = (all.0, every_append P ys x all.1 last)

pub distinct_append : (ns : List ℕ) (x : ℕ) → AreDistinct ns → Every (λ m. ¬ (m ≡ x)) ns → AreDistinct (ns ++ x ∷ [])
distinct_append [] x apart new = (tt, tt)
distinct_append (n ∷ ns) x apart new = (every_append (λ m. ¬ (m ≡ n)) ns x apart.0 (λ e. new.0 (sym e)), distinct_append ns x apart.1 new.1)

module _ {C : Type 0} where
  pub identifiers_append : (callsites : List (KeptCallsite C)) (row : KeptCallsite C) →
      identifiers (callsites ++ row ∷ []) ≡ identifiers callsites ++ row.identifier ∷ []
  identifiers_append [] row = refl
  identifiers_append (r ∷ callsites) row = ap (λ ns. r.identifier ∷ ns) (identifiers_append callsites row)

  row_head : (n : ℕ) (r : KeptCallsite C) (callsites : List (KeptCallsite C)) → is_at n r ≡ true → callsite_with n (r ∷ callsites) ≡ Some r
  row_head n r callsites e = rw e refl

  row_tail : (n : ℕ) (r : KeptCallsite C) (callsites : List (KeptCallsite C)) → is_at n r ≡ false →
      callsite_with n (r ∷ callsites) ≡ callsite_with n callsites
  row_tail n r callsites e = rw e refl

  pub unknown_apart : (n : ℕ) (callsites : List (KeptCallsite C)) → callsite_with n callsites ≡ None →
      Every (λ m. ¬ (m ≡ n)) (identifiers callsites)
  unknown_apart n [] none = tt
  unknown_apart n (r ∷ callsites) none =
      by_bool (is_at n r)
      (λ here. let first : Some r ≡ None = sym (row_head n r callsites here) ∙ none in absurd (cc))
      (λ away. (
        λ e. let here : is_at n r ≡ true = grind arith in
            absurd (cc),
        unknown_apart n callsites (sym (row_tail n r callsites away) ∙ none),
      ))

module _ {S C : Type 0} (h : SiteGhosts C) where
  -- the same numbers, and the same callsites
  pub sound_alike : (t u : Table S C) → serials u.subscribers ≡ serials t.subscribers → u.next ≡ t.next → u.callsites ≡ t.callsites →
      IsSound h t → IsSound h u
  sound_alike t u numbers next callsites sound =
      record {
        numbers = subst (λ n. Ascends 0 (serials u.subscribers) n) (sym next)
            (subst (λ ns. Ascends 0 ns t.next) (sym numbers) sound.numbers);
        apart = subst (λ (rs : List (KeptCallsite C)). AreDistinct (identifiers rs)) (sym callsites) sound.apart;
        sites = subst (Every (IsTrueCallsite h)) (sym callsites) sound.sites;
      }

  module _ (g : Ghosts S) where
    pub asked_serials : (all : Bool) (m : PlainMetadata) (i : ℕ) (es fs : List (KeptSubscriber S)) (k last : Option PlainInterest) →
        Each (Joins g all m i) k es fs last → serials fs ≡ serials es
    asked_serials all m i es fs k last each =
        each_serials (Joins g all m i) (λ k j x y r. ap (λ (e : KeptSubscriber S). e.serial) (gives_heard g all m i r.0 x y r.1)) k last es
        fs each

    -- what was true of a callsite is true of it once it was asked of
    pub row_true : (all : Bool) (i : ℕ) (es fs : List (KeptSubscriber S)) (row later : KeptCallsite C) →
        CallsiteAsked g h all i es row later fs → IsTrueCallsite h row → IsTrueCallsite h later
    row_true all i es fs row later turn known = (
      ap (λ (r : KeptCallsite C). r.level) turn.3 ∙ known.0 ∙ ap (λ (x : PlainMetadata). x.level) (sym turn.1),
      subst IsReal (sym turn.1) known.1,
      ap (λ (r : KeptCallsite C). r.identifier) turn.3 ∙ known.2 ∙ ap (λ (x : PlainMetadata). x.callsite) (sym turn.1),
    )

    -- with a new subscriber, which has the next number
    pub added_sound : (t : Table S C) (z : S) → IsSound h t →
        IsSound h (record t { subscribers = t.subscribers ++ living t.next z ∷ []; next = t.next + 1 })
    added_sound t z sound =
        record {
          numbers = subst (λ ns. Ascends 0 ns (t.next + 1)) (sym (serials_append t.subscribers (living t.next z)))
              (ascends_append 0 t.next (serials t.subscribers) sound.numbers);
          apart = sound.apart;
          sites = sound.sites;
        }

    -- a callsite as it comes is true, if its level is one of the five
    pub new_row_true : (callsite : C) → IsReal (h.metadata_of callsite) → IsTrueCallsite h (new_callsite h callsite)
    new_row_true callsite real = (refl, real, refl)

    pub registered_sound : (t u : Table S C) (callsite : C) (interest : PlainInterest) → Registered g h t callsite interest u →
        IsSound h t → IsSound h u
    registered_sound t u callsite interest r sound =
        let callsites : u.callsites ≡ t.callsites ++ r.row ∷ [] = ap (λ (v : Table S C). v.callsites) r.kept in
        let next : u.next ≡ t.next = ap (λ (v : Table S C). v.next) r.kept in
        let numbers : serials u.subscribers ≡ serials t.subscribers = asked_serials true (h.metadata_of callsite) (length t.callsites)
        t.subscribers u.subscribers None r.asked.0.0 r.asked.0.1 in
        let number : r.row.identifier ≡ (h.metadata_of callsite).callsite = ap (λ (x : KeptCallsite C). x.identifier) r.asked.3 in
        let unknown : callsite_with r.row.identifier t.callsites ≡ None = subst (λ n. callsite_with n t.callsites ≡ None) (sym number)
        r.unknown in
        record {
          numbers = subst (λ n. Ascends 0 (serials u.subscribers) n) (sym next)
              (subst (λ ns. Ascends 0 ns t.next) (sym numbers) sound.numbers);
          apart = subst (λ (rs : List (KeptCallsite C)). AreDistinct (identifiers rs)) (sym callsites) (
              subst AreDistinct (sym (identifiers_append t.callsites r.row))
              (distinct_append (identifiers t.callsites) r.row.identifier sound.apart
              (unknown_apart r.row.identifier t.callsites unknown))
              );
          sites = subst (Every (IsTrueCallsite h)) (sym callsites)
              (every_append (IsTrueCallsite h) t.callsites r.row sound.sites
              (row_true true (length t.callsites) t.subscribers u.subscribers (new_callsite h callsite) r.row r.asked (new_row_true callsite r.real)));
        }
