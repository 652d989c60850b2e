-- Commands one after the other.
use Rattle.std.proofs.Common.{◌≡◌, List, [], ◌∷◌, ◌++◌, length, refl, ap, sym, ◌∙◌, subst, append_assoc, append-nil, arith}
use Rattle.tracing_core.specs.CommandReplies.{PlainBook, CommandGives, CommandsGive}
use Rattle.tracing_core.specs.Table.{Table}
use Rattle.tracing_core_fields.specs.declared.requests.callsite.Callsite.{Ghosts as SiteGhosts}
use Rattle.tracing_core.specs.declared.run.command.Command.{Command}
use Rattle.tracing_core.specs.declared.run.command.CommandReply.{CommandReply}
use Rattle.tracing_core_fields.specs.declared.requests.subscriber.Subscriber.{Ghosts}

pub nothing_left : {A : Type 0} (xs : List A) → length xs ≡ 0 → xs ≡ []
nothing_left [] none = refl
nothing_left (x ∷ xs) none = absurd (omega arith)

module _ {S : Type 0} (g : Ghosts S) {C : Type 0} (h : SiteGhosts C) (t : Table S C) (b : PlainBook) (all : List (Command S C)) where
  -- what is asked of the commands that are left is what is asked of all
  abbrev pub Onward : Table S C → PlainBook → List (Command S C) → List (CommandReply S C) → Type 0
  Onward v d left replies =
      (answers : List (CommandReply S C)) (u : Table S C) (c : PlainBook) → CommandsGive g h v d left answers u c →
      CommandsGive g h t b all (replies ++ answers) u c

  pub begins : (left : List (Command S C)) (replies : List (CommandReply S C)) → left ≡ all → replies ≡ [] → Onward t b left replies
  begins left replies same none answers u c rest =
      subst (λ rs. CommandsGive g h t b all (rs ++ answers) u c) (sym none) (subst (λ xs. CommandsGive g h t b xs answers u c) same rest)

  pub goes_on : (v w : Table S C) (d e : PlainBook) (left later : List (Command S C)) (x : Command S C) (answer : CommandReply S C)
      (replies more : List (CommandReply S C)) → left ≡ x ∷ later → more ≡ replies ++ answer ∷ [] → CommandGives g h v d x answer w e →
      Onward v d left replies → Onward w e later more
  goes_on v w d e left later x answer replies more first last gives onward answers u c rest =
      let before = onward (answer ∷ answers) u c
      (subst (λ xs. CommandsGive g h v d xs (answer ∷ answers) u c) (sym first) (w, e, gives, rest)) in
      subst (λ rs. CommandsGive g h t b all rs u c)
      (sym (ap (λ (rs : List (CommandReply S C)). rs ++ answers) last ∙ append_assoc replies (answer ∷ []) answers)) before

  pub ends : (v : Table S C) (d : PlainBook) (left : List (Command S C)) (replies : List (CommandReply S C)) → length left ≡ 0 →
      Onward v d left replies → CommandsGive g h t b all replies v d
  ends v d left replies none onward =
      subst (λ rs. CommandsGive g h t b all rs v d) (append-nil replies)
      (onward [] v d (subst (λ xs. CommandsGive g h v d xs [] v d) (sym (nothing_left left none)) (refl, refl)))
