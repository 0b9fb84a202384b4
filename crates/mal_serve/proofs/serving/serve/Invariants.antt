use Rattle.mal_serve.proofs.serving.serve.Given as goal

abbrev pub ghosts-serve_by : goal.ghosts-serve_by
ghosts-serve_by g a = record { workers = a.workers }
