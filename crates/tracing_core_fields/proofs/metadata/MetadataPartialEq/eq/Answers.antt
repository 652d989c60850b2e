use Rattle.std.proofs.Common.{rules, ◌≡◌, ◌∙◌, sym}
use Rattle.tracing_core_fields.specs.Metadata.{metadata_eq, plain_metadata}
use Rattle.tracing_core_fields.specs.PlainMetadata.{is_same_metadata-decides}
use Rattle.tracing_core_fields.proofs.metadata.MetadataPartialEq.eq.Goals as goal

pub returns-then-has_label_of-clause-same : goal.returns-then-has_label_of-clause-same
returns-then-has_label_of-clause-same c =
    let test : c.has_place_of.result ≡ metadata_eq c.args.self.now c.args.other.now = search rules in
    let decides = is_same_metadata-decides (plain_metadata c.args.self.now) (plain_metadata c.args.other.now) in
    (λ same. decides.0 (sym test ∙ same), λ same. test ∙ decides.1 same)

pub returns-else-has_label_of-clause-same : goal.returns-else-has_label_of-clause-same
returns-else-has_label_of-clause-same c =
    let test : c.if-has_shape_of.value ≡ metadata_eq c.args.self.now c.args.other.now = search rules in
    let decides = is_same_metadata-decides (plain_metadata c.args.self.now) (plain_metadata c.args.other.now) in
    (λ same. decides.0 (sym test ∙ same), λ same. test ∙ decides.1 same)
