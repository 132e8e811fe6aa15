use Rattle.ct_deciding_tests.proofs.tests.logs.in_a_log.Given as goal

abbrev pub ghosts-shows : goal.ghosts-shows
ghosts-shows g a = record { log = a.blank; sessions = 1 }
