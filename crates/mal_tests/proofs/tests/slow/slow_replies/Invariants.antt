use Rattle.mal_tests.proofs.tests.slow.slow_replies.Given as goal

abbrev pub ghosts-run_slowly : goal.ghosts-run_slowly
ghosts-run_slowly g a = record { workers = 4 }
