use Rattle.std.proofs.Common.{◌≡◌, ◌≤◌, ℕ, take, true}
use Rattle.ct_trail.specs.Literal.{is_clause}
use Rattle.ct_trail.proofs.board.greatest.Given as goal

abbrev pub invariant-loop-l : goal.invariant-loop-l
invariant-loop-l l = record {
  within : is_clause l.top (take l.l-index l.clause) ≡ true;
  least : (k : ℕ) → is_clause k l.clause ≡ true → l.top ≤ k;
}
