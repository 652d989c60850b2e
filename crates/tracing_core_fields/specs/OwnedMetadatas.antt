-- Metadata that owns its texts, without where they lie in memory.
use Rattle.std.specs.Prelude.{map, string_bytes}
use Rattle.std.specs.Option.{option_map}
use Rattle.tracing_core_fields.specs.PlainMetadata.{PlainMetadata}
use Rattle.tracing_core_fields.specs.declared.owned_metadata.OwnedMetadata.{OwnedMetadata}

abbrev pub owned_plain : OwnedMetadata → PlainMetadata
owned_plain m = record {
  name = string_bytes m.name;
  target = string_bytes m.target;
  level = m.level;
  module_path = option_map string_bytes m.module_path;
  file = option_map string_bytes m.file;
  line = m.line;
  field_names = map string_bytes m.fields.items;
  callsite = m.callsite.0;
  kind = m.kind;
}
