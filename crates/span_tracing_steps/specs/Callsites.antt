-- Callsites as a trace keeps them.
use Rattle.tracing_core_fields.specs.OwnedMetadatas.{owned_plain}
use Rattle.tracing_core_fields.specs.PlainMetadata.{PlainMetadata}
use Rattle.span_tracing_steps.specs.declared.callsite.TraceCallsite.{TraceCallsite}

-- the metadata, whose fields are the callsite's own
abbrev pub own_metadata : TraceCallsite → PlainMetadata
own_metadata site = record (owned_plain site.metadata) { callsite = site.identifier.0 }
