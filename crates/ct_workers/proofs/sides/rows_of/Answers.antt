use Rattle.std.{proofs.Common.{◌≡◌, ◌∷◌, [], ◌++◌, ◌∙◌, ap, ap₂, map, sym, subst}, specs.Prelude.Ok, proofs.lemmas.List.map_push}
use Rattle.ct_workers.proofs.sides.rows_of.Goals as goal
