use Rattle.span_trace_bench.proofs.shared.time_shared.Given as goal

abbrev pub ghosts-time_steps : goal.ghosts-time_steps
ghosts-time_steps g a = record { name = a.blank.name; parts = a.blank.parts }
