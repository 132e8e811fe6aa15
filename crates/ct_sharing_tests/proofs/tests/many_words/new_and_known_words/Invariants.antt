use Rattle.ct_sharing_tests.proofs.tests.many_words.new_and_known_words.Given as goal

abbrev pub ghosts-intern_twice : goal.ghosts-intern_twice
ghosts-intern_twice g a = record { log = a.blank; sessions = 1 }
