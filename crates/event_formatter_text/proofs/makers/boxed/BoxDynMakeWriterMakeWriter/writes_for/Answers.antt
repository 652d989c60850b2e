use Rattle.std.proofs.Common.{subst}
use Rattle.tracing_core_fields.specs.Metadata.{plain_metadata}
use Rattle.event_formatter_text.proofs.makers.boxed.BoxDynMakeWriterMakeWriter.writes_for.Goals as goal

pub returns : goal.returns
returns g c = subst (λ p. (g.dyn-1.0.entry p.0).1.takes p.1 (plain_metadata c.args.metadata.now) c.writes_for.result)
    c.deref_box-1.ensures.1 c.writes_for.ensures
