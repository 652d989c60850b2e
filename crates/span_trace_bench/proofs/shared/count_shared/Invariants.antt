use Rattle.span_trace_bench.proofs.shared.count_shared.Given as goal

abbrev pub ghosts-trace_after : goal.ghosts-trace_after
ghosts-trace_after g a = record { name = a.blank.name; parts = a.blank.parts }
