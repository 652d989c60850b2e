-- What layers are told of spans and events, as notices.
use Rattle.tracing_core_fields.specs.requests.PlainRequests.{plain_attributes, plain_event, plain_record}
use Rattle.span_registry_layers_store.specs.Registries.{RegistryValue}
use Rattle.span_registry_layers_layers.specs.FilterViews.{Closed, Entered, Exited, Recorded, SpanMade, View}
use Rattle.span_registry_layers_layers.specs.Notices.{Called, Notice, OnEvent, OnFollows, OnIdChange, OnSpan, Said}
use Rattle.span_registry_layers_layers.specs.declared.layer.told.Told.{Told}
use Rattle.span_registry_layers_layers.specs.declared.layer.told.Told.TheVariants as told

-- what was said
abbrev pub said : Told → Said
said (told.NewSpan span attributes) = OnSpan span.now (SpanMade (plain_attributes attributes.now) span.now)
said (told.Record span values) = OnSpan span.now (Recorded span.now (plain_record values.now))
said (told.FollowsFrom span follows) = OnFollows span.now follows.now
said (told.Event event) = OnEvent (plain_event event.now)
said (told.Enter span) = OnSpan span.now (Entered span.now)
said (told.Exit span) = OnSpan span.now (Exited span.now)
said (told.Close span) = OnSpan span.now (Closed span.now)
said (told.IdChange old new) = OnIdChange old.now new.now

-- by what is seen and the registry as it is left
abbrev pub notice : Told → View → RegistryValue → Notice
notice t v y = Called (said t) v y
