use Rattle.ct_log_tests.proofs.tests.encoded.an_update_is_printed.Given as goal

abbrev pub ghosts-committed : goal.ghosts-committed
ghosts-committed g a = record { log = a.blank; sessions = 1 }
