-- Callsites that keep what they are told.
use Rattle.tracing_core_fields.specs.Metadata.{plain_metadata}
use Rattle.tracing_core_fields.specs.PlainMetadata.{PlainMetadata}
use Rattle.tracing_core_fields.specs.requests.Interests.{PlainInterest}
use Rattle.tracing_core_fields.specs.declared.requests.interest.InterestInner.TheVariants.{Never}
use Rattle.tracing_core.specs.declared.callsite.default.DefaultCallsite.{DefaultCallsite}

abbrev pub site_metadata : DefaultCallsite → PlainMetadata
site_metadata site = plain_metadata site.metadata.now

-- the same callsite, in nobody's interest
abbrev pub untold : DefaultCallsite → DefaultCallsite
untold site = record { metadata = site.metadata; interest = Never }

abbrev pub site_interest : DefaultCallsite → PlainInterest
site_interest site = site.interest
