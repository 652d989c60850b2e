use Rattle.span_tracing_laws.proofs.harmless.KeptTexts.{added_passes, started_passes, texts_pass}
use Rattle.span_tracing_laws.proofs.harmless.kept_texts_are_harmless.Goals as goal

pub returns : goal.returns
returns c =
    let lists = c.fields_are_harmless.ensures.lists in
    λ formatter people. (
      texts_pass lists formatter people,
      (started_passes lists formatter people, added_passes lists formatter people),
    )
