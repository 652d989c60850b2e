use Rattle.std.proofs.Common.{◌<◌, ℕ, true, false, subst}
use Rattle.tracing_core_fields.specs.requests.PlainRequests.{plain_event}
use Rattle.span_registry_layers_store.specs.References.{plain_ref}
use Rattle.span_registry_layers_layers.specs.FilterViews.{view}
use Rattle.event_formatter.proofs.formats.Scopes.{event_seen, fills_loose, fills_strict, has_none, has_number, shows}
use Rattle.event_formatter.proofs.formats.scope.fill_scope.Goals as goal

pub returns-in_ok-fill_from-in-Some-clause-spans : goal.returns-in_ok-fill_from-in-Some-clause-spans
returns-in_ok-fill_from-in-Some-clause-spans c =
    fills_strict (view c.args.context.now) (plain_event c.args.event.now).parent (plain_ref c.in-Some.span) c.fill_from.new.ids.items
    c.in-Some.ensures c.in_ok-fill_from-in-Some.ensures

pub returns-in_ok-fill_from-in-Some-clause-shown : goal.returns-in_ok-fill_from-in-Some-clause-shown
returns-in_ok-fill_from-in-Some-clause-shown c =
    let v = view c.args.context.now in
    let parent = (plain_event c.args.event.now).parent in
    let ids = c.fill_from.new.ids.items in
    shows v parent ids true (fills_strict v parent (plain_ref c.in-Some.span) ids c.in-Some.ensures c.in_ok-fill_from-in-Some.ensures)

pub returns-in_ok-fill_from-in-Some-clause-number : goal.returns-in_ok-fill_from-in-Some-clause-number
returns-in_ok-fill_from-in-Some-clause-number c =
    has_number (view c.args.context.now) (plain_event c.args.event.now).parent (plain_ref c.in-Some.span) c.in-Some.ensures
    (subst (λ (id : ℕ). 0 < id) c.id_of-id.ensures.same c.id_of-id.ensures.number)

pub returns-in_ok-fill_from_lane-in-None-clause-spans : goal.returns-in_ok-fill_from_lane-in-None-clause-spans
returns-in_ok-fill_from_lane-in-None-clause-spans c =
    fills_loose (view c.args.context.now) (plain_event c.args.event.now).parent c.fill_from_lane.new.ids.items c.in-None.ensures
    c.in_ok-fill_from_lane-in-None.ensures

pub returns-in_ok-fill_from_lane-in-None-clause-shown : goal.returns-in_ok-fill_from_lane-in-None-clause-shown
returns-in_ok-fill_from_lane-in-None-clause-shown c =
    let v = view c.args.context.now in
    let parent = (plain_event c.args.event.now).parent in
    let ids = c.fill_from_lane.new.ids.items in
    shows v parent ids false (fills_loose v parent ids c.in-None.ensures c.in_ok-fill_from_lane-in-None.ensures)

pub returns-in_ok-fill_from_lane-in-None-clause-number : goal.returns-in_ok-fill_from_lane-in-None-clause-number
returns-in_ok-fill_from_lane-in-None-clause-number c =
    has_none (view c.args.context.now) (plain_event c.args.event.now).parent c.in-None.ensures

pub fill_from-requires-clause-seen : goal.fill_from-requires-clause-seen
fill_from-requires-clause-seen c =
    event_seen (view c.args.context.now) (plain_event c.args.event.now).parent (plain_ref c.in-Some.span) c.in-Some.ensures
