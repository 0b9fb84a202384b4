use Rattle.mal_pool.proofs.run.run_all.Given as goal

abbrev pub ghosts-run_by_service : goal.ghosts-run_by_service
ghosts-run_by_service g a = record { workers = a.workers }
