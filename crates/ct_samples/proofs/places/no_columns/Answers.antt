use Rattle.std.{proofs.Common.{sym, ◌∙◌}, proofs.lemmas.Bool.not-true}
use Rattle.ct_samples.proofs.Columns.{no_column}
use Rattle.ct_samples.proofs.places.no_columns.Goals as goal

pub returns : goal.returns
returns c e place = no_column c.args.words.now c.requires (sym c.has_column.ensures ∙ not-true c.has_column.result e) place
