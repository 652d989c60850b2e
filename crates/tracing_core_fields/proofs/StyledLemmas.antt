-- Texts that are written one after another, whatever options the formatter has.
use Rattle.std.proofs.Common.{◌≡◌, ◌++◌, ℕ, ◌-◌, ◌^◌, List, Result, subst, sym, refl, ◌∙◌}
use Rattle.std.specs.Fmt.{HasWritten, HasWrittenStyled, IsDefaultSpec, WritesOnOk, WritesStyledOnOk, format_spec}
use Rattle.std.proofs.lemmas.Grind.{put_two}
use Rattle.std.specs.declared.fmt.Formatter.{Formatter}
use Rattle.std.specs.declared.fmt.Error.{Error}

-- the formatter without its options
abbrev bare : {W : Type 0} → Formatter W → Formatter W
bare f = record f { spec = format_spec 32 0 0 0 (2 ^ 64 - 1); depth = 0 }

module _ {W : Type 0} (took : W → List ℕ → W → Type 0) where
  bare_written : (f g : Formatter W) (a : List ℕ) → HasWrittenStyled took f a g → HasWritten took (bare f) a (bare g)
  bare_written f g a p = record {
    wrote = p.wrote;
    plain =
        record { bare = record { width = refl; precision = refl; plus = refl; alternate = refl }; flush = refl };
  }

  pub put_two_styled : (f g h : Formatter W) (a b all : List ℕ) → HasWrittenStyled took f a g → HasWrittenStyled took g b h → a ++ b ≡ all →
      HasWrittenStyled took f all h
  put_two_styled f g h a b all p q is =
      record {
        wrote = (put_two took _ _ _ _ _ _ (bare_written f g a p) (bare_written g h b q) is).wrote;
        spec = q.spec ∙ p.spec;
        flush =
            q.flush;
      }

  pub put_three_styled : (f g h i : Formatter W) (a b c all : List ℕ) → HasWrittenStyled took f a g → HasWrittenStyled took g b h →
      HasWrittenStyled took h c i → a ++ (b ++ c) ≡ all → HasWrittenStyled took f all i
  put_three_styled f g h i a b c all p q r is = put_two_styled f g i a (b ++ c) all p (put_two_styled g h i b c (b ++ c) q r refl) is

  pub put_four_styled : (f g h i j : Formatter W) (a b c d all : List ℕ) → HasWrittenStyled took f a g → HasWrittenStyled took g b h →
      HasWrittenStyled took h c i → HasWrittenStyled took i d j → a ++ (b ++ (c ++ d)) ≡ all → HasWrittenStyled took f all j
  put_four_styled f g h i j a b c d all p q r s is = put_two_styled f g j a (b ++ (c ++ d)) all p
      (put_three_styled g h i j b c d (b ++ (c ++ d)) q r s refl) is

  -- what is written under any options is written under none
  pub plain_from_styled : (f g : Formatter W) (answer : Result (Unit {0}) Error) (text : List ℕ) → WritesStyledOnOk took f answer text g →
      WritesOnOk took f answer text g
  plain_from_styled f g answer text styled = λ plain ok.
      let written = styled plain.flush ok in
      record { wrote = written.wrote; plain = record { bare = subst IsDefaultSpec (sym written.spec) plain.bare; flush = written.flush } }
