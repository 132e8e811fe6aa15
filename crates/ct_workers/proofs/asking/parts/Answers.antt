use Rattle.std.{proofs.Common.{refl, inl, inr}, proofs.lemmas.Option.IfSome_then}
use Rattle.ct_workers.proofs.Decided.{and_earlier}
use Rattle.ct_workers.proofs.asking.parts.Goals as goal

pub returns : goal.returns
returns c =
    let words = c.args.words.now in
    IfSome_then c.and_at.result c.and_at.ensures (λ p is. (
      and_earlier words c.requires.formed c.args.place p.0 p.0 p.1 c.requires.condition is (inl refl),
      and_earlier words c.requires.formed c.args.place p.1 p.0 p.1 c.requires.condition is (inr refl),
    ))
