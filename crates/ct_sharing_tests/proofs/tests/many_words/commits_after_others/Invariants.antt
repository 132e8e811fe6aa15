use Rattle.ct_sharing_tests.proofs.tests.many_words.commits_after_others.Given as goal

abbrev pub ghosts-commit_twice : goal.ghosts-commit_twice
ghosts-commit_twice g a = record { log = a.blank; sessions = 1 }
