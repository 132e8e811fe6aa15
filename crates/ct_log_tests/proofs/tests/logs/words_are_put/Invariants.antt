use Rattle.ct_log_tests.proofs.tests.logs.words_are_put.Given as goal

abbrev pub ghosts-put_into : goal.ghosts-put_into
ghosts-put_into g a = record { log = a.blank; sessions = 1 }
