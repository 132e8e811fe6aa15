-- The encoding that numbers make.
use Rattle.std.proofs.Common.{◌≡◌, ℕ, List, length, map, ap, ◌∙◌, sym, arith}
use Rattle.ct_derivation.specs.Variables.{is_clause, IsCnf}
use Rattle.ct_cnf.{specs.declared.encoding.Encoded.Encoded, specs.declared.numbers.Numbers.Numbers, specs.Lists.{clause_of, why_of, all_entries}}
use Rattle.ct_cnf.{specs.Making.{IsNumbering, IsMadeOf}, proofs.Numbered.atoms_fit, proofs.Justified.are_literals}

module _ (ws : List ℕ) (root : ℕ) (n : Numbers) where
  abbrev pub encoding : Encoded
  encoding = record {
    cnf = record { vars = length n.atoms; clauses = map clause_of (all_entries ws root n) };
    atoms = n.atoms;
    origins = map why_of (all_entries ws root n);
  }

  pub made_is : (e : Encoded) → IsMadeOf ws root n e → encoding ≡ e
  made_is e made = sym (λ i. record {
    cnf = record { vars = (made.variables ∙ ap length made.atoms) i; clauses = made.clauses i };
    atoms = made.atoms i;
    origins = made.origins i;
  })

  pub is_cnf : IsNumbering ws root n → IsCnf encoding.cnf
  unfolding is_clause
  is_cnf num = record { vars = omega (arith, atoms_fit ws root n num); clauses = are_literals ws root n num }
