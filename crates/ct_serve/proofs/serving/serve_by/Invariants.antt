use Rattle.std.proofs.Common.{length}
use Rattle.ct_serve.proofs.serving.serve_by.Given as goal

abbrev pub ghosts-serve_named : goal.ghosts-serve_named
ghosts-serve_named g a = record { log = a.blank; sessions = length a.scripts.now }
