use Rattle.ct_log_tests.proofs.tests.encoded.a_key_is_printed_as_its_condition.Given as goal

abbrev pub ghosts-committed : goal.ghosts-committed
ghosts-committed g a = record { log = a.blank; sessions = 1 }
