use Rattle.std.specs.Prelude.{false}
use Rattle.tracing_core_fields.specs.Metadata.{plain_metadata}
use Rattle.span_registry_layers.specs.Caches.{afresh_passes, question_afresh}
use Rattle.span_registry_layers.specs.Questions.{question_alike, question_passes}
use Rattle.span_registry_layers.specs.Stacks.{QuestionByAnswers, plain_stack}
use Rattle.span_registry_layers.specs.Steps.{question_keeps}
use Rattle.span_registry_layers.proofs.OnStack.{on_stack}
use Rattle.span_registry_layers.proofs.stack.asking.Stack+Filtered+L+F.enabled_asking.Goals as goal

pub returns : goal.returns
returns g c =
    let m = plain_metadata c.args.metadata.now in
    let s = c.args.self.now in
    let both = on_stack g.F.Filter g.L.Layer (λ v t. QuestionByAnswers g.F.Filter m c.args.at v c.enabled_unless.result t)
    (λ v t given. question_keeps g.F.Filter g.L.Layer false m c.args.at v t given.0) _ _ (plain_stack c.enabled_unless.new.self)
    c.self.view_is c.enabled_unless.ensures in
    let exact = question_passes g.F.Filter false m c.args.at s c.enabled_unless.result _ both.0 in
    record {
      exact = exact;
      asking = afresh_passes g.F.Filter m c.args.at s.registry s.rows c.enabled_unless.result exact;
      marks = both.0;
      marked = question_afresh g.F.Filter m c.args.at s c.enabled_unless.result _ both.0;
      alike = question_alike g.F.Filter false m c.args.at s _ both.0.0;
      kept = both.1;
    }
