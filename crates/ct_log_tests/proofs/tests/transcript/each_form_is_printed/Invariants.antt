use Rattle.ct_log_tests.proofs.tests.transcript.each_form_is_printed.Given as goal

abbrev pub ghosts-unused_log : goal.ghosts-unused_log
ghosts-unused_log g a = record { log = a.blank; sessions = 1 }
