-- Lists of possible rows and of certain tuples stay right as the log goes on, and after every history of the same commits.
use Rattle.std.{proofs.Common.{ℕ, ◌&&◌, List, [], ap, sym, subst, ◌∙◌}, specs.Prelude.{IfSome, IsSomeAnd, IsTrue, map}, proofs.lemmas.Bool.and_parts}
use Rattle.std.proofs.lemmas.List.Elements.{All-weaker}
use Rattle.ct_word.{specs.declared.values.Value.Value, specs.Value.tuple_at, specs.Sublist.IsSublist, specs.Condition.holds_at, specs.Change.PlainCommit}
use Rattle.ct_word.{specs.WellFormed.is_place_of, proofs.Prefixes.{condition_in_prefix, place_within}}
use Rattle.ct_derivation.{specs.declared.steps.Proof.Proof, specs.Accepts.{AcceptsProof, accepts, all_right, ends_empty}, proofs.Longer.accepted_longer}
use Rattle.ct_query.{specs.Plain.{PlainQuery, PlainAction}, specs.Database.has_tuple, specs.Rows.rows, specs.Keeping.Keeps}
use Rattle.ct_rewrite.{specs.declared.answer.PossibleRow.PossibleRow, specs.declared.answer.CertainRow.CertainRow}
use Rattle.ct_transcript.{specs.Possible.{ShowsRow, PossibleRight}, specs.Certain.{IsCertain, is_absent, RefutesAbsence, CertainRight}}
use mathlib.Core.List.{IsPrefix}
use Rattle.ct_word.specs.declared.kinds.Class.TheVariants as class

module _ (q : PlainQuery) (g h : List PlainCommit) (actions : List PlainAction) (k : Keeps g h) where
  -- a list of possible rows after one history is one after the other
  pub possible_kept : (list : List PossibleRow) → PossibleRight list q g actions → PossibleRight list q h actions
  possible_kept list p = record {
    distinct = p.distinct;
    in_pattern = subst (IsSublist (map (λ (r : PossibleRow). r.cells) list)) (k.patterns actions q) p.in_pattern;
    witnessed = All-weaker (ShowsRow q g actions) (ShowsRow q h actions)
        (λ r s. subst (λ o. IsSomeAnd o (λ w. IsTrue (has_tuple (rows r.world q w) (tuple_at r.world r.cells)))) (k.worlds r.world actions) s) list p.witnessed;
    tidy = p.tidy;
    complete = λ v tuple.
        subst (λ o. IfSome o (λ w. IsTrue (has_tuple (rows v q w) tuple) → IsTrue (has_tuple (map (λ (r : PossibleRow). tuple_at v r.cells) list) tuple))) (k.worlds v actions) (p.complete v tuple);
  }

  certain_there : (tuple : List Value) → IsCertain q g actions tuple → IsCertain q h actions tuple
  certain_there tuple all v = subst (λ o. IfSome o (λ w. IsTrue (has_tuple (rows v q w) tuple))) (k.worlds v actions) (all v)

  certain_here : (tuple : List Value) → IsCertain q h actions tuple → IsCertain q g actions tuple
  certain_here tuple all v = subst (λ o. IfSome o (λ w. IsTrue (has_tuple (rows v q w) tuple))) (sym (k.worlds v actions)) (all v)

  -- and so is a list of certain tuples
  pub certain_kept : (words : List ℕ) (list : List CertainRow) → CertainRight list q g actions words → CertainRight list q h actions words
  certain_kept words list c = record {
    distinct = c.distinct;
    exact = λ tuple. (λ e. certain_there tuple ((c.exact tuple).0 e), λ all. (c.exact tuple).1 (certain_here tuple all));
    refuted = All-weaker (λ r. RefutesAbsence r q g actions words) (λ r. RefutesAbsence r q h actions words)
        (λ r n. record { accepted = n.accepted; root = λ v. n.root v ∙ ap (is_absent v q r.tuple) (k.worlds v actions) }) list c.refuted;
  }

-- the root of an accepted proof is the place of a condition
pub root_place : (words : List ℕ) (p : Proof) → AcceptsProof words p → IsTrue (is_place_of words class.Cond p.root)
unfolding accepts
root_place words p e =
    let parts = and_parts (is_place_of words class.Cond p.root && all_right words p.root [] p.derivation.steps) (ends_empty p.derivation.steps) e in
    (and_parts (is_place_of words class.Cond p.root) (all_right words p.root [] p.derivation.steps) parts.0).0

-- a list of certain tuples stays right as words are added: its proofs stay accepted, and their roots hold where they did
pub certain_longer : (words longer : List ℕ) → IsPrefix words longer → (q : PlainQuery) (h : List PlainCommit) (actions : List PlainAction) (list : List CertainRow)
    → CertainRight list q h actions words → CertainRight list q h actions longer
certain_longer words longer grown q h actions list c = record {
  distinct = c.distinct;
  exact = c.exact;
  refuted = All-weaker (λ r. RefutesAbsence r q h actions words) (λ r. RefutesAbsence r q h actions longer)
      (λ r n. record {
        accepted = accepted_longer words longer grown r.proof.root r.proof.derivation n.accepted;
        root = λ v. ap (holds_at v) (condition_in_prefix words longer r.proof.root grown (place_within words class.Cond r.proof.root (root_place words r.proof n.accepted))) ∙ n.root v;
      }) list c.refuted;
}
