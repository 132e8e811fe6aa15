use Rattle.std.proofs.Common.{◌≡◌, true, length, take}
use Rattle.ct_derivation.specs.Variables.{is_clause}
use Rattle.ct_cnf.specs.Encoding.{through}
use Rattle.ct_decide.specs.Part.{IsPart, AddsAtoms}
use Rattle.ct_decide.proofs.part.clause.Given as goal

abbrev pub invariant-loop-k : goal.invariant-loop-k
invariant-loop-k l = record {
  part : IsPart l.words l.aim l.part;
  adds : AddsAtoms l.fn.part l.part;
  within : is_clause (length l.part.posed.atoms.items) l.clause.items ≡ true;
  is : through l.part.posed.atoms.items l.clause.items ≡ take l.k l.literals;
}
