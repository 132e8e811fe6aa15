use Rattle.std.{proofs.Common.{◌∙◌, ap, sym, subst, inl, inr}, specs.Prelude.Contains}
use Rattle.std.proofs.lemmas.List.Elements.{Contains-push_cases}
use Rattle.ct_word.proofs.{Items.{contains_of_get, no_item}, Splits.place_within}
use Rattle.ct_word.specs.declared.kinds.Class.TheVariants as class
use Rattle.ct_cnf.specs.Encoding.{IsConditionBelow}
use Rattle.ct_decide.proofs.Nearby.{put_in, root_below, and_below}
use Rattle.ct_decide.proofs.ways.ands_above.Goals.{in-Some-parts_of_and+in_ok-push+in_ok-put_two, in_default-parts_of_and}
use Rattle.ct_decide.proofs.ways.ands_above.Goals as goal

pub loop-k-init : goal.loop-k-init
loop-k-init c = record {
  run = λ p h. elim (put_in c.new-run.result.keys c.insert.new.self.keys c.args.root c.in_ok-insert.ensures.keys p h) [
    | inl there ↦ absurd (no_item p (subst (λ l. Contains l p) c.new-run.ensures.empty there))
    | inr e ↦ subst (IsConditionBelow c.args.words.now c.args.root) (sym e) (root_below c.args.words.now c.args.root c.requires.condition)
  ];
  ands = λ p h. absurd (no_item p (subst (λ l. Contains l p) c.new-ands.ensures.items h));
}

pub parts_of_and-requires : goal.parts_of_and-requires
parts_of_and-requires c =
    place_within c.args.words.now class.Cond c.in-Some.place
    (c.loop-k.invariant.run c.in-Some.place (contains_of_get c.loop-k.run.keys c.loop-k.k c.in-Some.place (sym c.get_index.ensures.key ∙ sym c.copied.ensures ∙ c.in-Some.is))).condition

pub loop-k-preserved : goal.loop-k-preserved
loop-k-preserved c =
    let so_far = c.loop-k.invariant in
    let place = c.in-Some.place in
    let here = so_far.run place (contains_of_get c.loop-k.run.keys c.loop-k.k place (sym c.get_index.ensures.key ∙ sym c.copied.ensures ∙ c.in-Some.is)) in
    elim c.match-parts_of_and.branch [
      | in-Some-parts_of_and+in_ok-push+in_ok-put_two w ↦ record {
        run = λ p h. elim (w.in_ok-put_two.ensures p (subst (λ r. Contains r.keys p) w.run-is h)) [
          | inl there ↦ so_far.run p there
          | inr of ↦ and_below c.args.words.now c.requires.formed c.args.root place _ _ here w.in-Some-parts_of_and.ensures p of
        ];
        ands = λ p h. elim (Contains-push_cases c.loop-k.ands.items place p (subst (λ l. Contains l p) (ap (λ v. v.items) w.ands-is ∙ w.in_ok-push.ensures.items) h)) [
          | inl there ↦ so_far.ands p there
          | inr same ↦ subst (IsConditionBelow c.args.words.now c.args.root) same here
        ];
      }
      | in_default-parts_of_and w ↦ record {
        run = λ p h. so_far.run p (subst (λ r. Contains r.keys p) w.run-is h);
        ands = λ p h. so_far.ands p (subst (λ v. Contains v.items p) w.ands-is h);
      }
    ]
