use Rattle.ct_cert.proofs.Judged.{accepted_sound, bad_words, bad_proofs}
use Rattle.ct_cert.proofs.laws.judgements_say.Goals as goal

pub returns : goal.returns
returns c = record { accepted = accepted_sound; words = bad_words; proofs = bad_proofs }
