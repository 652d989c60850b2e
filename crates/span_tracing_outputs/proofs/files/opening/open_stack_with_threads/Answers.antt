use Rattle.std.proofs.Common.{map, Some, None, inl, refl, sym, ap, subst, ◌∙◌}
use Rattle.span_tracing_skeleton.specs.declared.refusal.Refusal.{Refusal}
use Rattle.span_tracing_outputs.specs.files.OpenedStack.{OpensRouting, of_all}
use Rattle.span_tracing_outputs.specs.files.Threads.{lane_of}
use Rattle.span_tracing_outputs.specs.files.OpenRefusals.{InOne, RoutingRefuses}
use Rattle.span_tracing_outputs.proofs.files.FolderRefusals.{late_out, late_specs, memory_told, names_told}
use Rattle.span_tracing_outputs.proofs.files.RequestedOutputs.{memory_of_all, nothing_told, nothing_wrong, own_keys, paired, rows_honest}
use Rattle.span_tracing_outputs.proofs.files.RequestedOutputs.{same_refusal, told_wrong}
use Rattle.span_tracing_outputs.proofs.files.opening.open_stack_with_threads.Goals as goal

pub returns-in-Err-clause-told : goal.returns-in-Err-clause-told
returns-in-Err-clause-told g c =
    λ within. told_wrong (map lane_of c.args.threads.now) c.args.outputs.items c.in-Ok.rows.items c.in-Err.refused.error
    c.of_all-in-Err.result c.in-Ok.ensures.rows (c.of_all-in-Err.ensures ∙ ap (λ (r : Refusal). of_all r) c.stack_refusal.ensures)
    (c.rows_are_told.ensures.wrong c.in-Ok.rows.items c.in-Err.refused c.in-Err.ensures.exact)

pub returns-in-Some-clause-told : goal.returns-in-Some-clause-told
returns-in-Some-clause-told g c = λ within. nothing_told (map lane_of c.args.threads.now) c.args.outputs.items c.in-Ok.rows.items _
    c.in-Ok.ensures.rows (c.rows_are_told.ensures.right c.in-Ok.rows.items c.in-Ok-new.stack c.in-Ok-new.ensures.exact)

pub returns-in_err-sinks-clause-told : goal.returns-in_err-sinks-clause-told
returns-in_err-sinks-clause-told g c = λ within. nothing_wrong (map lane_of c.args.threads.now) _ c.args.outputs.items c.in-Ok.rows.items _
    c.in-Ok.ensures.rows (c.rows_are_told.ensures.right c.in-Ok.rows.items c.in-Ok-new.stack c.in-Ok-new.ensures.exact)

pub returns-clause-told : goal.returns-clause-told
returns-clause-told g c = λ within. sym (same_refusal (map lane_of c.args.threads.now) c.args.outputs.items c.in-Ok.rows.items
    c.in-Ok.ensures.rows) ∙ c.rows_are_told.ensures.right c.in-Ok.rows.items c.in-Ok-new.stack c.in-Ok-new.ensures.exact

pub returns-clause-ready : goal.returns-clause-ready
returns-clause-ready g c =
    λ honest. c.trace_starts.ensures.ready c.in-Ok.rows.items c.in-Ok-new.stack c.in_ok-sinks.sinks.items c.in-Ok-new-2.made
    c.in-Ok-new.ensures.exact (own_keys (map lane_of c.args.threads.now) c.args.outputs.items c.in-Ok.rows.items c.in-Ok.ensures.rows)
    (c.in-Ok-new.ensures.honest (rows_honest (map lane_of c.args.threads.now) g.F.Filter.honest c.args.outputs.items c.in-Ok.rows.items
    c.in-Ok.ensures.rows honest)) c.in-Ok-new-2.ensures.gives

pub returns-in_default-clause-told : goal.returns-in_default-clause-told
returns-in_default-clause-told g c = λ within. memory_of_all _ c.of_all-in_default.result c.of_all-in_default.ensures

pub returns-in_default-clause-names : goal.returns-in_default-clause-names
returns-in_default-clause-names g c =
    λ within fine routed. (
      c.names_refusal-names.result,
      names_told c.as_slice.result.now c.args.outputs.items c.names_refusal-names.result
          c.names_refusal-names.result c.as_slice.ensures.value refl c.names_refusal-names.ensures,
      memory_told g.D.Folder.failed c.args.outputs.items c.names_refusal-names.result c.of_all-in_default.result
          c.of_all-in_default.ensures,
    )

pub returns-in-Err-clause-names : goal.returns-in-Err-clause-names
returns-in-Err-clause-names g c = λ within fine routed.
    let none = same_refusal (map lane_of c.args.threads.now) c.args.outputs.items c.in-Ok.rows.items c.in-Ok.ensures.rows ∙ fine in
    let told = c.stack_refusal.ensures ∙ c.rows_are_told.ensures.starved c.in-Ok.rows.items c.in-Err.refused
    c.in-Err.ensures.exact none in (
      c.names_refusal-names.result,
      names_told c.as_slice.result.now c.args.outputs.items c.names_refusal-names.result
          c.names_refusal-names.result c.as_slice.ensures.value refl c.names_refusal-names.ensures,
      memory_told g.D.Folder.failed c.args.outputs.items c.names_refusal-names.result c.of_all-in-Err.result (c.of_all-in-Err.ensures ∙
          ap (λ (r : Refusal). of_all r) told),
    )

pub returns-in-Some-clause-names : goal.returns-in-Some-clause-names
returns-in-Some-clause-names g c =
    λ within fine routed. (
      Some (c.in-Some.key, c.in-Some.refusal),
      names_told c.as_slice.result.now c.args.outputs.items
          c.names_refusal-names.result (Some (c.in-Some.key, c.in-Some.refusal)) c.as_slice.ensures.value c.in-Some.is
          c.names_refusal-names.ensures,
      inl c.at_output.ensures,
    )

pub returns-in_err-sinks-clause-names : goal.returns-in_err-sinks-clause-names
returns-in_err-sinks-clause-names g c = λ within fine routed.
    let good = names_told c.as_slice.result.now c.args.outputs.items c.names_refusal-names.result None c.as_slice.ensures.value
    c.in_default-names.is c.names_refusal-names.ensures in
    late_out g.D.Folder.failed c.args.outputs.items c.from_residual.result c.in_err-sinks.field-0.0 c.from_residual.ensures.1 good
    (late_specs g.D.Folder.failed c.in_err-sinks.field-0.0 c.args.outputs.items
    (subst (InOne (RoutingRefuses g.D.Folder.failed c.in_err-sinks.field-0.0)) c.in-Ok.ensures.routings
    c.in_err-sinks.ensures.refused) good routed)

pub unreachable-requires : goal.unreachable-requires
unreachable-requires g c =
    c.in-Err-new.ensures.gives.0 (paired (map lane_of c.args.threads.now) (OpensRouting g.D.Folder.contents g.D.Folder.failed c.args.moment)
    c.args.outputs.items c.in-Ok.rows.items c.in-Ok.routings.items c.in_ok-sinks.sinks.items _ c.in-Ok.ensures.rows
    c.in-Ok.ensures.routings c.in_ok-sinks.ensures.opened
    (c.rows_are_told.ensures.counted c.in-Ok.rows.items c.in-Ok-new.stack c.in-Ok-new.ensures.exact))

pub returns-clause-names : goal.returns-clause-names
returns-clause-names g c = λ within fine routed. names_told c.as_slice.result.now c.args.outputs.items c.names_refusal-names.result None
    c.as_slice.ensures.value c.in_default-names.is c.names_refusal-names.ensures
