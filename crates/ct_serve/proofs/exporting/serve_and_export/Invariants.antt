use Rattle.ct_serve.proofs.exporting.serve_and_export.Given as goal

abbrev pub ghosts-exported_named : goal.ghosts-exported_named
ghosts-exported_named g a = record { log = a.blank; sessions = 1 }
