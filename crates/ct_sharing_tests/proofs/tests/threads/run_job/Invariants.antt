use Rattle.ct_sharing_tests.proofs.tests.threads.run_job.Given as goal

abbrev pub ghosts-by_threads : goal.ghosts-by_threads
ghosts-by_threads g a = record { log = a.blank; sessions = 1 }
