use Rattle.ct_sharing_tests.proofs.tests.committing.threads_intern_beside_commits.Given as goal

abbrev pub ghosts-intern_beside_commits : goal.ghosts-intern_beside_commits
ghosts-intern_beside_commits g a = record { log = a.blank; sessions = 1 }
