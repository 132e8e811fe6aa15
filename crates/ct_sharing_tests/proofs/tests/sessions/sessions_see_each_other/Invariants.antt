use Rattle.ct_sharing_tests.proofs.tests.sessions.sessions_see_each_other.Given as goal

abbrev pub ghosts-share : goal.ghosts-share
ghosts-share g a = record { log = a.blank; sessions = 1 }
