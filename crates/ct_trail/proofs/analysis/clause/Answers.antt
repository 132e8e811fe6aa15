use Rattle.std.{proofs.Common.{◌<◌, ◌∙◌, ap, sym, [], length, arith}, proofs.lemmas.List.{length-map, get_or-map}}
use Rattle.ct_trail.specs.Log.{entry_clause}
use Rattle.ct_trail.proofs.analysis.clause.Goals as goal

pub returns : goal.returns
returns c =
    let within : c.args.position < length c.args.entries.now = omega (arith, c.requires, length-map c.args.entries.now entry_clause) in
    c.clause.ensures ∙ ap entry_clause c.index-entries-position.is ∙ sym (get_or-map entry_clause c.args.entries.now c.args.position c.index-entries-position.result [] within)
