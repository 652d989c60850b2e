-- The buildings that take a prefix alone.
use Rattle.std.proofs.Common.{◌≡◌, ℕ, List, true, false, refl, ap, subst, sym, ◌∙◌, inl, inr, Option, Result, Ok, Err}
use Rattle.tracing_core_moments.specs.declared.moment.Moment.{Moment}
use Rattle.tracing_core_moments.specs.declared.period.PeriodKind.{PeriodKind}
use Rattle.tracing_core_moments.specs.declared.period.PeriodKind.TheVariants.{Minute, Hour, Day, Week, Whole}
use Rattle.tracing_appender_rolling.specs.declared.builder.Builder.{Builder}
use Rattle.tracing_appender_rolling.specs.declared.build.BuildRefusal.{BuildRefusal}
use Rattle.tracing_appender_rolling.specs.declared.appender.RollingFileAppender.{RollingFileAppender}
use Rattle.tracing_appender_rolling.specs.Names.{FileNames, is_bad_name, HasGoodLink}
use Rattle.tracing_appender_rolling.specs.Builders.{builder_names, is_whole, plain_names, prefixed_names, with_prefix, SetsText}
use Rattle.tracing_appender_rolling.specs.folders.Contents.{Contents}
use Rattle.tracing_appender_rolling.specs.Builds.{Builds, BuildsPrefixed, MissesText}

-- files of this kind, with nothing else
abbrev pub kind_names : PeriodKind → FileNames
kind_names kind = record plain_names { kind = kind }

kind_good : (kind : PeriodKind) → is_bad_name (kind_names kind) ≡ false
kind_good kind = elim kind as (λ k. is_bad_name (kind_names k) ≡ false) [
  | Minute ↦ refl
  | Hour ↦ refl
  | Day ↦ refl
  | Week ↦ refl
  | Whole ↦ refl
]

kind_linkless : (kind : PeriodKind) → HasGoodLink (kind_names kind)
kind_linkless kind = λ m is_m same. cc

module _ {D : Type 0} (contents : D → Option Contents) (failed : D → ℕ) (kind : PeriodKind) (prefix : List ℕ) (folder : D) (m : Moment)
  where
    prefix_found : (result : Result (RollingFileAppender D) (BuildRefusal D)) →
        Builds contents failed (prefixed_names kind prefix) folder m result → BuildsPrefixed contents failed kind prefix folder m result
    prefix_found (Ok a) built = built
    prefix_found (Err r) refused = inl refused

    prefix_missed : (result : Result (RollingFileAppender D) (BuildRefusal D)) → MissesText folder result →
        BuildsPrefixed contents failed kind prefix folder m result
    prefix_missed (Ok a) never = absurd never
    prefix_missed (Err r) missed = inr missed

    -- a builder of files of a kind, which was whole and was then handed a prefix
    pub builds_prefixed : (old new : Builder) (result : Result (RollingFileAppender D) (BuildRefusal D)) →
        builder_names old ≡ kind_names kind → is_whole old ≡ true → SetsText with_prefix prefix old new →
        Builds contents failed (builder_names new) folder m result →
        (is_whole new ≡ false → is_bad_name (builder_names new) ≡ false → HasGoodLink (builder_names new) → MissesText folder result) →
        BuildsPrefixed contents failed kind prefix folder m result
    builds_prefixed old new result names whole set builds missed =
        elim set [
          | inl found ↦ prefix_found result
              (subst (λ (n : FileNames). Builds contents failed n folder m result) (found.0 ∙ ap (λ n. with_prefix n prefix) names) builds)
          | inr lost ↦ prefix_missed result
              (missed lost.1 (subst (λ (n : FileNames). is_bad_name n ≡ false) (sym (lost.0 ∙ names)) (kind_good kind))
              (subst (λ (n : FileNames). HasGoodLink n) (sym (lost.0 ∙ names)) (kind_linkless kind)))
        ]
