use Rattle.ct_sharing_tests.proofs.tests.sessions.two_of_1023_sessions_commit.Given as goal

abbrev pub ghosts-commit_two : goal.ghosts-commit_two
ghosts-commit_two g a = record { log = a.blank; sessions = 1 }
