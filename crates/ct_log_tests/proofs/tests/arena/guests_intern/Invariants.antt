use Rattle.ct_log_tests.proofs.tests.arena.guests_intern.Given as goal

abbrev pub ghosts-intern_as_guest : goal.ghosts-intern_as_guest
ghosts-intern_as_guest g a = record { log = a.blank; sessions = 1 }
