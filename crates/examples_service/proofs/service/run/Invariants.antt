use Rattle.examples_service.proofs.service.run.Given as goal

abbrev pub ghosts-serve_through : goal.ghosts-serve_through
ghosts-serve_through g a = record { name = a.blank.name; parts = a.blank.parts }
