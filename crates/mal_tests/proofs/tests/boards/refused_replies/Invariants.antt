use Rattle.mal_tests.proofs.tests.boards.refused_replies.Given as goal

abbrev pub ghosts-run_refused : goal.ghosts-run_refused
ghosts-run_refused g a = record { workers = 4 }
