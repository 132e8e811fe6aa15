use Rattle.std.proofs.Common.{◌≡◌, ◌+◌, ◌≤◌, ℕ, length, take}
use Rattle.ct_equality.{specs.Terms.{is_among, is_end_of}, specs.Indexed.AreMet}
use Rattle.ct_equality.proofs.terms.all_terms.Given as goal

abbrev pub invariant-loop-atom : goal.invariant-loop-atom
invariant-loop-atom l = record {
  met : AreMet l.terms.places.items l.terms.found.words;
  room : l.terms.found.room ≡ length l.atoms + length l.atoms;
  count : length l.terms.places.items ≤ l.atom-index + l.atom-index;
  among : (p : ℕ) → is_among l.terms.places.items p ≡ is_end_of (take l.atom-index l.atoms) p;
}
