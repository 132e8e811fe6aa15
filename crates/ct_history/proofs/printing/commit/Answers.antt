use Rattle.std.{proofs.Common.{◌≡◌, ◌∙◌, ◌/◌, ◌%◌, ap, map, sym, subst, refl, length}, specs.Prelude.{IsTrue, flat_map}, specs.List.{AllZip, list_all}}
use Rattle.std.proofs.lemmas.List.Elements.{length_all_zip}
use Rattle.ct_word.{specs.Reading.change_list_at, specs.StandsFor.SameChanges, specs.WellFormed.is_place_of, proofs.Spelling.of_kind}
use Rattle.ct_rewrite.specs.History.{plain_change, is_change_placed}
use Rattle.ct_history.{specs.Printed.{changes_with, conds_of}, proofs.Printed.{Prints, all_conds, changes_same, changes_placed, commit_word}}
use Rattle.ct_word.specs.declared.kinds.Kind.TheVariants as kind
use Rattle.ct_word.specs.declared.kinds.Class.TheVariants as class
use Rattle.ct_history.proofs.printing.commit.Goals as goal

pub normal-requires-clause-roots : goal.normal-requires-clause-roots
normal-requires-clause-roots c =
    let words = c.args.words.now in
    subst (λ rs. IsTrue (list_all (is_place_of words class.Cond) rs)) (sym (c.as_slice-2.ensures.value ∙ c.in_ok-roots.ensures ∙ ap (flat_map conds_of) c.as_slice.ensures))
    (all_conds words c.in_ok-written.written c.in_ok-written.ensures.placed)

pub changes-requires-clause-positions : goal.changes-requires-clause-positions
changes-requires-clause-positions c =
    ap length c.as_slice-3.ensures ∙ length_all_zip (Prints c.args.words.now c.in_ok-forms.forms.nodes) c.in_ok-forms.forms.roots c.as_slice-2.result.now c.in_ok-forms.ensures.truth
    ∙ ap length (c.as_slice-2.ensures.value ∙ c.in_ok-roots.ensures ∙ ap (flat_map conds_of) c.as_slice.ensures)

pub returns : goal.returns
returns c =
    let words = c.args.words.now in
    let word = c.word_at-word.result in
    let nodes = c.in_ok-forms.forms.nodes in
    let ks = c.in_ok-forms.forms.roots in
    let xs = c.in_ok-written.written in
    let truth : AllZip (Prints words nodes) ks (flat_map conds_of xs) =
    subst (AllZip (Prints words nodes) ks) (c.as_slice-2.ensures.value ∙ c.in_ok-roots.ensures ∙ ap (flat_map conds_of) c.as_slice.ensures) c.in_ok-forms.ensures.truth in
    let printed : c.in_ok-changes.changes ≡ changes_with words xs ks = c.in_ok-changes.ensures ∙ ap (changes_with words xs) c.as_slice-3.ensures in
    record {
      commit = record { session = word.left / 262144; number = word.left % 262144; changes = change_list_at words word.right };
      stands = (of_kind words c.args.place word kind.Commit (commit_word words c.args.place word c.word_at-word.ensures c.requires.place) c.word_at-word.ensures).meaning;
      session = refl;
      number = refl;
      changes =
          subst (λ ys. SameChanges (map (plain_change nodes) ys) (change_list_at words word.right)) (sym printed)
          (subst (SameChanges (map (plain_change nodes) (changes_with words xs ks))) c.in_ok-written.ensures.same (changes_same words nodes xs ks truth c.in_ok-forms.ensures.placed));
      formed = record {
        ordered = c.in_ok-forms.ensures.ordered;
        placed = subst (λ ys. IsTrue (list_all (is_change_placed nodes) ys)) (sym printed) (changes_placed words nodes xs ks truth c.in_ok-forms.ensures.placed);
      };
    }
