-- Where all names are good, only folders and memory are left to refuse.
use Rattle.std.proofs.Common.{arith, ◌≡◌, ◌<◌, ◌≤◌, ℕ, Bool, true, false, List, [], ◌∷◌, length, map, get_or, Option, Some, None}
use Rattle.std.proofs.Common.{Result, Ok, Err}
use Rattle.std.proofs.Common.{IfErr, ◌⊎◌, ◌==◌, inl, inr, refl, sym, subst, ◌∙◌}
use Rattle.std.specs.Result.{IsErrAnd}
use Rattle.tracing_core_fields.specs.requests.Lists.{Every}
use Rattle.span_registry_layers_store.specs.declared.slot.OutputKey.{OutputKey}
use Rattle.span_tracing_skeleton.specs.declared.refusal.Refusal.{Refusal}
use Rattle.span_tracing_skeleton.specs.declared.refusal.Refusal.TheVariants.{OutOfMemory}
use Rattle.tracing_core_moments.specs.declared.moment.Moment.{Moment}
use Rattle.tracing_appender_rolling.specs.folders.Contents.{Contents}
use Rattle.tracing_appender_rolling.specs.Builders.{builder_names, is_whole}
use Rattle.tracing_appender_rolling.specs.Names.{FileNames, HasGoodLink, is_bad_name}
use Rattle.tracing_appender_rolling.specs.Builds.{Builds, Explains, MissesText, ReportsBuild}
use Rattle.tracing_appender_rolling.specs.declared.appender.RollingFileAppender.{RollingFileAppender}
use Rattle.tracing_appender_rolling.specs.declared.build.BuildError.{BuildError}
use Rattle.tracing_appender_rolling.specs.declared.build.BuildError.TheVariants as builds
use Rattle.tracing_appender_rolling.specs.declared.build.BuildRefusal.{BuildRefusal}
use Rattle.tracing_appender_rolling.specs.declared.builder.Builder.{Builder}
use Rattle.span_tracing_outputs.specs.files.OpenedStack.{OpensFiles, of_all, routing_of}
use Rattle.span_tracing_outputs.specs.files.OpenRefusals.{FilesRefuse, FilesTell, FirstTells, FolderTells, InOne, IsLate, IsRouted}
use Rattle.span_tracing_outputs.specs.files.OpenRefusals.{IsToldOf, LimitTells, NamesAnswer, NamesTell, OutputsTell, RoutingRefuses}
use Rattle.span_tracing_outputs.specs.files.OpenRefusals.{SinkRefuses, SinkTells, SinksTell, at_output, of_sink}
use Rattle.span_tracing_outputs.specs.declared.files.open_error.OpenStackError.{OpenStackError}
use Rattle.span_tracing_outputs.specs.declared.files.output_spec.OutputSpec.{OutputSpec}
use Rattle.span_tracing_outputs.specs.declared.files.output_spec.SinkSpec.{SinkSpec}
use Rattle.span_tracing_outputs.specs.declared.files.output_spec.SinkSpec.TheVariants.{Direct, Queued, Live}

-- a refusal goes out as it came
pub goes_out : {A E : Type 0} (told : E → Type 0) (answer : Result A E) (error : E) → IsErrAnd answer (λ e. e ≡ error) → told error →
    IfErr answer told
goes_out told (Ok made) error is own = absurd is
goes_out told (Err e) error is own = subst told (sym is) own

module _ {A T : Type 0} where
  pub here_tells : (tells : A → Option T → Type 0) (xs : List A) (x d : A) (told : T) → 1 ≤ length xs → x ≡ get_or xs 0 d →
      tells x (Some told) → FirstTells tells xs (Some told)
  here_tells tells [] x d told one is own = absurd (omega (arith, one))
  here_tells tells (y ∷ ys) x d told one is own = inl (subst (λ (z : A). tells z (Some told)) is own)

  pub none_left : (tells : A → Option T → Type 0) (xs : List A) → length xs < 1 → FirstTells tells xs None
  none_left tells [] few = tt
  none_left tells (x ∷ xs) few = absurd (omega (arith, few))

  pub first_more : (tells : A → Option T → Type 0) (x : A) (xs : List A) (told : Option T) → tells x None → FirstTells tells xs told →
      FirstTells tells (x ∷ xs) told
  first_more tells x xs None own later = (own, later)
  first_more tells x xs (Some told) own later = inr (own, later)

module _ {A : Type 0} where
  pub first_refuses : (does : A → Type 0) (rest : List A) (x : A) (later : List A) → rest ≡ x ∷ later → does x → InOne does rest
  first_refuses does rest x later is own = subst (InOne does) (sym is) (inl own)

  pub later_refuses : (does : A → Type 0) (rest : List A) (x : A) (later : List A) → rest ≡ x ∷ later → InOne does later → InOne does rest
  later_refuses does rest x later is one = subst (InOne does) (sym is) (inr one)

module _ {D : Type 0} (failed : D → ℕ) where
  -- at any sink memory may be short
  pub memory_refuses : {Q : Type 0} (key : OutputKey) (sink : SinkSpec D Q) → SinkRefuses failed key (at_output key OutOfMemory) sink
  memory_refuses key (Direct builder folder) = inr (inr refl)
  memory_refuses key (Queued builder folder limit lossy) = inr (inr (inr refl))
  memory_refuses key (Live queue) = refl

  refuses_by : (contents : D → Option Contents) (key : OutputKey) (builder : Builder) (folder back : D) (m : Moment) (e : BuildError) →
      Explains contents (builder_names builder) folder m e back → ReportsBuild (failed folder) e (failed back) →
      FilesRefuse failed key (of_sink key e) builder folder
  refuses_by contents key builder folder back m builds.BadName (bad, same) told = inl (refl, inl (refl, bad))
  refuses_by contents key builder folder back m builds.BadLinkName (fine, link, same) told = inl (refl, inr (refl, fine, link))
  refuses_by contents key builder folder back m (builds.Init fault) explained told = inr (inl (fault, refl, back, told))
  refuses_by contents key builder folder back m builds.OutOfMemory explained told = inr (inr refl)

  -- an appender that wasn't built
  pub files_refuse : (contents : D → Option Contents) (key : OutputKey) (builder : Builder) (folder : D) (m : Moment)
      (refused : BuildRefusal D) → Builds contents failed (builder_names builder) folder m (Err refused) →
      FilesRefuse failed key (of_sink key refused.error) builder folder
  files_refuse contents key builder folder m refused gave =
      refuses_by contents key builder folder refused.folder m refused.error gave.explained gave.told

  -- one that was built of a builder, for which no text is missing
  pub files_open : (contents : D → Option Contents) (builder : Builder) (folder : D) (m : Moment) (built : RollingFileAppender D) →
      Builds contents failed (builder_names builder) folder m (Ok built) →
      (is_whole builder ≡ false → is_bad_name (builder_names builder) ≡ false → HasGoodLink (builder_names builder) →
      MissesText folder (Ok built)) → OpensFiles contents failed m builder folder built
  files_open contents builder folder m built gave missed = record {
    built = gave;
    whole = whole (is_whole builder) (λ is. missed is gave.good_name gave.good_link);
  }
    where
      whole : (b : Bool) → (b ≡ false → ⊥) → b ≡ true
      whole true never = refl
      whole false never = absurd (never refl)

module _ {D : Type 0} (failed : D → ℕ) (key : OutputKey) (told : OpenStackError) where
  late_files : (builder : Builder) (folder : D) → FilesRefuse failed key told builder folder → NamesTell (builder_names builder) None →
      FilesTell failed key told folder ⊎ (told ≡ at_output key OutOfMemory)
  late_files builder folder (inr late) good = late
  late_files builder folder (inl (at, inl (is, bad))) good = absurd (let clash : true ≡ false = sym bad ∙ good.0 in cc)
  late_files builder folder (inl (at, inr (is, fine, link))) good = absurd (good.1 link.0 link.1 link.2)

  limitless : (names : FileNames) → LimitTells true names None → ⊥
  limitless names told = cc

  named : (b : Bool) (names : FileNames) → LimitTells b names None → NamesTell names None
  named true names told = absurd (limitless names told)
  named false names told = told

module _ {D Q : Type 0} (failed : D → ℕ) (key : OutputKey) (told : OpenStackError) where
  late_sink : (sink : SinkSpec D Q) → SinkRefuses failed key told sink → SinkTells sink None →
      FolderTells failed key told sink ⊎ (told ≡ at_output key OutOfMemory)
  late_sink (Direct builder folder) refuses good = late_files failed key told builder folder refuses good
  late_sink (Live queue) refuses good = inr refuses
  late_sink (Queued builder folder limit lossy) (inl (at, none)) good =
      absurd (limitless failed key told (builder_names builder) (subst (λ (n : ℕ). LimitTells (n == 0) (builder_names builder) None) none good))
  late_sink (Queued builder folder limit lossy) (inr refuses) good =
      late_files failed key told builder folder refuses (named failed key told (limit == 0) (builder_names builder) good)

  one_late : (sink : SinkSpec D Q) (sinks : List (SinkSpec D Q)) → FolderTells failed key told sink ⊎ (told ≡ at_output key OutOfMemory) →
      IsLate failed key told (sink ∷ sinks)
  one_late sink sinks (inl own) = inl (inl own)
  one_late sink sinks (inr memory) = inr memory

  later_late : (sink : SinkSpec D Q) (sinks : List (SinkSpec D Q)) → IsLate failed key told sinks → IsLate failed key told (sink ∷ sinks)
  later_late sink sinks (inl one) = inl (inr one)
  later_late sink sinks (inr memory) = inr memory

  late_sinks : (sinks : List (SinkSpec D Q)) → InOne (SinkRefuses failed key told) sinks → SinksTell sinks None → IsLate failed key told sinks
  late_sinks [] one good = absurd one
  late_sinks (sink ∷ sinks) (inl own) good = one_late sink sinks (late_sink sink own good.0)
  late_sinks (sink ∷ sinks) (inr later) good = later_late sink sinks (late_sinks sinks later good.1)

module _ {F D Q : Type 0} (failed : D → ℕ) (told : OpenStackError) where
  late_spec : (spec : OutputSpec F D Q) → RoutingRefuses failed told (routing_of spec) → SinksTell spec.sinks.items None → IsRouted spec →
      IsLate failed spec.key told spec.sinks.items
  late_spec spec (inl one) good routed = late_sinks failed spec.key told spec.sinks.items one good
  late_spec spec (inr (inl bad)) good routed = absurd (let clash : true ≡ false = sym routed ∙ bad.1 in cc)
  late_spec spec (inr (inr memory)) good routed = inr memory

  pub late_specs : (specs : List (OutputSpec F D Q)) → InOne (RoutingRefuses failed told) (map routing_of specs) → OutputsTell specs None →
      Every IsRouted specs → InOne (λ (spec : OutputSpec F D Q). IsLate failed spec.key told spec.sinks.items) specs
  late_specs [] one good routed = absurd one
  late_specs (spec ∷ specs) (inl own) good routed = inl (late_spec spec own good.0 routed.0)
  late_specs (spec ∷ specs) (inr later) good routed = inr (late_specs specs later good.1 routed.1)

module _ {F D Q : Type 0} where
  pub memory_told : (failed : D → ℕ) (specs : List (OutputSpec F D Q)) (wrong : Option (OutputKey × Refusal)) (told : OpenStackError) →
      told ≡ of_all OutOfMemory → IsToldOf failed specs wrong told
  memory_told failed specs None told is = inr is
  memory_told failed specs (Some w) told is = inr is

  pub names_told : (xs ys : List (OutputSpec F D Q)) (r told : Option (OutputKey × Refusal)) → xs ≡ ys → r ≡ told → OutputsTell xs r →
      OutputsTell ys told
  names_told xs ys r told same is own = subst (OutputsTell ys) is (subst (λ (zs : List (OutputSpec F D Q)). OutputsTell zs r) same own)

  -- what is told after good names
  pub late_out : {A : Type 0} (failed : D → ℕ) (specs : List (OutputSpec F D Q)) (answer : Result A OpenStackError)
      (error : OpenStackError) → IsErrAnd answer (λ e. e ≡ error) → OutputsTell specs None →
      InOne (λ (spec : OutputSpec F D Q). IsLate failed spec.key error spec.sinks.items) specs → NamesAnswer failed specs answer
  late_out failed specs (Ok made) error is names late = absurd is
  late_out failed specs (Err e) error is names late = (None, names, subst (IsToldOf failed specs None) (sym is) (inl late))
