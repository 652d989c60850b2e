-- Requests without where their values lie in memory.
use Rattle.tracing_core_fields.specs.IndexedEntries.{plain_entries}
use Rattle.span_tracing_skeleton.specs.PlainData as plain
use Rattle.span_tracing_steps.specs.declared.action.RecordRequest.{RecordRequest}
use Rattle.span_tracing_steps.specs.declared.action.Request.{Request}

abbrev pub plain_request : Request → plain.Request
plain_request r = record { lane = r.lane; moment = r.moment; callsite = r.callsite; parent = r.parent; values = plain_entries r.values }

abbrev pub plain_record : RecordRequest → plain.RecordRequest
plain_record r = record { lane = r.lane; moment = r.moment; span = r.span; values = plain_entries r.values }
