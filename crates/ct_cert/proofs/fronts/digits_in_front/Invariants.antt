use Rattle.std.{proofs.Common.{◌≡◌, ◌+◌, drop}, specs.List.prefix_len}
use Rattle.ct_word.specs.Names.{is_digit}
use Rattle.ct_cert.proofs.fronts.digits_in_front.Given as goal

abbrev pub invariant-loop-i : goal.invariant-loop-i
invariant-loop-i l = l.i + prefix_len is_digit (drop l.i l.bytes) ≡ prefix_len is_digit l.bytes
