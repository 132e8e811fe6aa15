use Rattle.ct_transaction.proofs.OneText.{one_text}
use Rattle.ct_transaction.proofs.theorems.texts_have_one_bound.Goals as goal

pub returns : goal.returns
returns c = one_text
