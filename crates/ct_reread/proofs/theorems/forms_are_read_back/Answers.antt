use Rattle.ct_reread.proofs.Forms.{form_reread}
use Rattle.ct_reread.proofs.theorems.forms_are_read_back.Goals as goal

pub returns : goal.returns
returns c = form_reread
