use Rattle.std.{proofs.Common.{◌≡◌, take}}
use Rattle.ct_cert.specs.Reading.{value_of}
use Rattle.ct_cert.proofs.fronts.value.Given as goal

abbrev pub invariant-loop-byte : goal.invariant-loop-byte
invariant-loop-byte l = l.number ≡ value_of l.base (take l.byte-index l.digits)
