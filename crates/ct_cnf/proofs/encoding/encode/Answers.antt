use Rattle.std.{proofs.Common.{refl, subst}, specs.Prelude.IfOk, proofs.lemmas.Result.IfOk-weaker}
use Rattle.ct_cnf.{specs.declared.encoding.Encoded.Encoded, proofs.Made.{encoding, made_is, is_cnf}, proofs.Justified.are_origins}
use Rattle.ct_cnf.{proofs.Atoms.atoms_distinct, proofs.Numbered.{nodes_below, pairs_below, own_equalities, each_equality}, proofs.Origins.{has_root, has_definitions, has_no_paths}}
use Rattle.ct_cnf.proofs.encoding.encode.Goals as goal

pub returns : goal.returns
returns c =
    let ws = c.args.words.now in
    let root = c.args.root in
    let n = c.in_ok-numbers.numbers in
    let num = c.in_ok-numbers.ensures in
    let made : (P : Encoded → Type 0) → P (encoding ws root n) → IfOk c.assemble.result P =
    λ P h. IfOk-weaker c.assemble.result _ _ (λ e is. subst P (made_is ws root n e is) h) c.assemble.ensures in record {
      clauses = made _ (are_origins ws root n num);
      root = made _ (has_root ws root n num);
      definitions = made _ (has_definitions ws root n num);
      distinct = made _ (atoms_distinct ws root n num c.requires.formed);
      nodes = made _ (nodes_below ws root n num);
      terms = made _ (pairs_below ws root n num c.requires.formed);
      variables = made _ refl;
      cnf = made _ (is_cnf ws root n num);
      own = made _ (own_equalities ws root n num);
      equalities = made _ (each_equality ws root n num);
      no_paths = made _ (has_no_paths ws root n num);
    }
