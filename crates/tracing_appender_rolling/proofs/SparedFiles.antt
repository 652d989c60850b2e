-- Removals leave other names' bytes.
use Rattle.std.proofs.Common.{◌≡◌, ◌≢◌, ℕ, zero, suc, List, [], ◌∷◌, cond, refl, ap, sym, ◌∙◌, Option, Some, None, inl, inr}
use Rattle.tracing_appender_rolling.specs.declared.faults.Faults.{Faults}
use Rattle.tracing_appender_rolling.specs.folders.Contents.{Contents, StoredFile, Outcome, Done, Refuses, Short, has_name, file_named}
use Rattle.tracing_appender_rolling.specs.folders.Contents.{bytes_at, unnamed, if_refused, refusal, remove_at, removed}
use Rattle.tracing_appender_rolling.specs.RetentionRemovals.{after_removal}
use Rattle.tracing_appender_rolling.specs.FilesInOrder.{RetentionSpares}
use Rattle.tracing_appender_rolling.proofs.folders.Content.{StandsAt, stands_from, one_name}

pub bytes_unnamed : (n q : List ℕ) (fs : List StoredFile) (i : ℕ) → StandsAt n fs i → n ≢ q → bytes_at (unnamed fs i) q ≡ bytes_at fs q
bytes_unnamed n q [] i h apart = absurd h
bytes_unnamed n q (f ∷ fs) zero h apart = sym (ap (λ b. cond b (Some f.bytes) (bytes_at fs q)) (one_name n q f h apart))
bytes_unnamed n q (f ∷ fs) (suc i) h apart = ap (cond (has_name q f) (Some f.bytes)) (bytes_unnamed n q fs i h.1 apart)

spared_at : (n q : List ℕ) (f : Faults) (c : Contents) (found : Option ℕ) → file_named n c.files ≡ found → n ≢ q →
    bytes_at (after_removal f (remove_at c found)).1.files q ≡ bytes_at c.files q
spared_at n q f c None is apart = refl
spared_at n q f c (Some place) is apart = bytes_unnamed n q c.files place (stands_from n c.files place is) apart

spared_by : (n q : List ℕ) (f : Faults) (c : Contents) (o : Outcome) → n ≢ q →
    bytes_at (after_removal f (if_refused o (λ e. refusal e c) (remove_at c (file_named n c.files)))).1.files q ≡ bytes_at c.files q
spared_by n q f c (Refuses e) apart = refl
spared_by n q f c Done apart = spared_at n q f c (file_named n c.files) refl apart
spared_by n q f c (Short most) apart = spared_at n q f c (file_named n c.files) refl apart

pub spares : RetentionSpares
spares [] f c q others = refl
spares (n ∷ ns) f c q others =
    spares ns (after_removal f (removed c n)).0 (after_removal f (removed c n)).1 q (λ there. others (inr there))
    ∙ spared_by n q f c (c.coming 0) (λ same. others (inl same))
