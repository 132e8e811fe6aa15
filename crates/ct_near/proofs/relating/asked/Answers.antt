use Rattle.std.{proofs.Common.{◌≡◌, ◌∷◌, ◌∙◌, [], true, false, ap, get_or, length, subst, sym}, specs.Prelude.Contains}
use Rattle.std.proofs.lemmas.{List.length-replicate, List.Elements.{Contains-append_left, Contains-push}}
use Rattle.ct_word.proofs.Items.{no_item}
use Rattle.ct_near.{specs.declared.relating.Reached.Reached, proofs.Sharing.{none_asked, own_reached, with_reached}}
use Rattle.ct_near.proofs.relating.asked.Goals as goal

pub loop-init : goal.loop-init
loop-init c = record {
  related = λ root are.
      let none : Reached = record { is_asked = c.in_ok-no_flags.field-0; is_done = c.in_ok-no_flags-2.field-0; waiting = c.new.result } in
      own_reached c.args.words.now root c.args.own.now c.args.conjuncts.now c.requires.formed are none c.reach_own.new.reached
      (record {
        asked = λ k h. absurd (none_asked c.len.result k (subst (λ l. get_or l k false ≡ true) c.in_ok-no_flags.ensures h));
        waiting = λ k h. absurd (no_item k (subst (λ l. Contains l k) c.new.ensures.items h));
      })
      c.in_ok-reach_own.ensures;
  room = c.in_ok-reach_own.ensures.room ∙ ap length c.in_ok-no_flags.ensures ∙ length-replicate c.len.result false ∙ c.len.ensures ∙ c.args.conjuncts.now.places.ok.0;
}

pub loop-preserved : goal.loop-preserved
loop-preserved c = record {
  related = λ root are.
      let before = c.loop.invariant.related root are in
      let j = c.in-Some.conjunct in
      let rest = c.pop.new.self.items in
      let mid : Reached = record { is_asked = c.loop.reached.is_asked; is_done = c.loop.reached.is_done; waiting = c.pop.new.self } in
      with_reached c.args.words.now root c.args.own.now c.args.conjuncts.now c.requires.formed are j mid c.reach_from.new.reached
      (before.waiting j (subst (λ l. Contains l j) (sym c.in-Some.ensures.items) (Contains-push rest j)))
      (record { asked = before.asked; waiting = λ k h. before.waiting k (subst (λ l. Contains l k) (sym c.in-Some.ensures.items) (Contains-append_left rest (j ∷ []) k h)) })
      c.in_ok-reach_from.ensures;
  room = c.in_ok-reach_from.ensures.room ∙ c.loop.invariant.room;
}
