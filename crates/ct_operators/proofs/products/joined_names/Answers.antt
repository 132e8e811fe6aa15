use Rattle.std.{proofs.Common.{◌∙◌, sym}, proofs.lemmas.List.append-nil}
use Rattle.ct_operators.proofs.products.joined_names.Goals as goal

pub loop-name-init : goal.loop-name-init
loop-name-init c = c.into_vec-joined.ensures ∙ c.in_ok-names.ensures ∙ sym (append-nil c.args.left.now)
