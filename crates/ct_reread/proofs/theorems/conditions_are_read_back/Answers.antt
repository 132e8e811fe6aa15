use Rattle.ct_print.specs.TermText.{term_text}
use Rattle.ct_reread.{specs.Printed.IsPlain, proofs.Factors.reread, proofs.Terms.token}
use Rattle.ct_reread.proofs.theorems.conditions_are_read_back.Goals as goal

pub returns : goal.returns
returns c = reread term_text IsPlain token
