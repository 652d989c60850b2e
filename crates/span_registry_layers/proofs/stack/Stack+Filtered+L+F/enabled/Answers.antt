use Rattle.tracing_core_fields.specs.Metadata.{plain_metadata}
use Rattle.span_registry_layers.specs.Caches.{passes_is_asked, question_is_asked}
use Rattle.span_registry_layers.specs.Questions.{question_alike, question_passes}
use Rattle.span_registry_layers.specs.Stacks.{QuestionCached, is_refused, plain_stack}
use Rattle.span_registry_layers.specs.Steps.{question_keeps}
use Rattle.span_registry_layers.proofs.OnStack.{on_stack}
use Rattle.span_registry_layers.proofs.stack.Stack+Filtered+L+F.enabled.Goals as goal

pub returns : goal.returns
returns g c =
    let m = plain_metadata c.args.metadata.now in
    let s = c.args.self.now in
    let both = on_stack g.F.Filter g.L.Layer (λ v t. QuestionCached g.F.Filter m c.args.at v c.enabled.result t)
    (λ v t given. question_keeps g.F.Filter g.L.Layer (is_refused v m) m c.args.at v t given.0) _ _ (plain_stack c.enabled.new.self)
    c.self.view_is c.enabled.ensures in
    let exact = question_passes g.F.Filter (is_refused s m) m c.args.at s c.enabled.result _ both.0 in
    record {
      exact = exact;
      asking = λ w. passes_is_asked g.F.Filter s m c.args.at c.enabled.result w exact;
      marks = both.0;
      marked = λ w. question_is_asked g.F.Filter m c.args.at s c.enabled.result _ w both.0;
      alike = question_alike g.F.Filter (is_refused s m) m c.args.at s _ both.0.0;
      kept = both.1;
    }
