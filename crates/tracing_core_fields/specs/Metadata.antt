-- What metadata says, with no borrowed parts.
use Rattle.std.specs.Prelude.{Bool}
use Rattle.std.specs.Cmp.{IsEquivalence}
use Rattle.std.specs.Option.{option_copied}
use Rattle.std.proofs.lemmas.Cmp.{on_equiv}
use Rattle.tracing_core_fields.specs.FieldSet.{field_names, set_callsite}
use Rattle.tracing_core_fields.specs.PlainMetadata.{PlainMetadata, is_same_metadata, is_same_metadata-equivalence}
use Rattle.tracing_core_fields.specs.declared.field.FieldSet.{FieldSet}
use Rattle.tracing_core_fields.specs.declared.metadata.Metadata.{Metadata}

-- the fields
abbrev pub metadata_fields : Metadata → FieldSet
metadata_fields metadata = metadata.fields

-- every part, as plain data
abbrev pub plain_metadata : Metadata → PlainMetadata
plain_metadata metadata =
    record {
      name = metadata.name.now;
      target = metadata.target.now;
      level = metadata.level;
      module_path = option_copied metadata.module_path;
      file = option_copied metadata.file;
      line = metadata.line;
      field_names = field_names metadata.fields;
      callsite = set_callsite metadata.fields;
      kind = metadata.kind;
    }

-- all parts are the same
abbrev pub metadata_eq : Metadata → Metadata → Bool
metadata_eq a b = is_same_metadata (plain_metadata a) (plain_metadata b)

pub metadata_eq-equivalence : IsEquivalence metadata_eq
metadata_eq-equivalence = on_equiv plain_metadata is_same_metadata-equivalence
