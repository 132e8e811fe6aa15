use Rattle.ct_cert.proofs.Texts.{texts_one}
use Rattle.ct_cert.proofs.laws.texts_are_of_one.Goals as goal

pub returns : goal.returns
returns c = texts_one
