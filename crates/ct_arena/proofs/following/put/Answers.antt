use Rattle.std.proofs.Common.{◌≡◌, ◌+◌, [], ◌∷◌, ◌++◌, length, Some, refl, ap, sym, subst, ◌∙◌, inl, ⊎_elim, arith, length-append}
use Rattle.std.{specs.Prelude.{slice_get, Contains}, proofs.lemmas.List.Elements.Contains-push_cases}
use Rattle.ct_word.{specs.Reading.commits_of, proofs.Items.get_last}
use Rattle.ct_arena.{specs.Own.{IsOwn, IsNextWord, with_seen, with_guest}, specs.Sharing.{MayPut, counts_word}, proofs.Sole.prefix_push, proofs.Told.IsGrown}
use Rattle.ct_arena.{proofs.Placing.{next_grows, may_put, own_put, put_found}, proofs.following.put.Goals.{At-loop-place, After-push-in-loop-place}}
use mathlib.Core.List.{IsPrefix}
use Rattle.ct_arena.proofs.following.put.Goals as goal

next : (c : At-loop-place) → IsNextWord c.args.token.now.me.0.keeps c.args.tally.now c.loop-place.seen.words c.args.w
next c = next_grows c.args.token.now.me.0.keeps c.args.tally.now c.args.seen.now.words c.loop-place.seen.words c.args.w c.loop-place.invariant.longer c.requires.next

-- another word stood there, which the list has now
grown : (c : After-push-in-loop-place) → IsGrown c.args.cap (with_guest c.args.token.now.me.0 c.args.tally.now) c.loop-place.seen.words c.exchange-found.result c.exchange-found.new.token.me
grown c =
    put_found c.args.cap c.args.token.now.me.0 c.args.tally.now c.loop-place.seen.words c.args.w c.exchange-found.result c.loop-place.token.me c.exchange-found.new.token.me c.loop-place.invariant.seat c.exchange-found.ensures.put c.if-found-eq0.false
    c.loop-place.invariant.own (omega (arith, c.loop-place.invariant.place, c.loop-place-test.true))

words : (c : After-push-in-loop-place) → c.push-in-loop-place.new.self.words ≡ c.loop-place.seen.words ++ c.exchange-found.result ∷ []
words c = ap (λ v. v.words) c.push-in-loop-place.ensures

pub exchange-found-requires-clause-may : goal.exchange-found-requires-clause-may
exchange-found-requires-clause-may c =
    subst (λ v. MayPut v c.args.w) (sym (ap (λ m. m.0) c.loop-place.invariant.seat))
    (may_put c.args.cap c.args.token.now.me.0 c.args.tally.now c.loop-place.seen.words c.args.w (next (goal.at.exchange-found-requires-clause-may c).At-loop-place) c.loop-place.invariant.own c.loop-place.invariant.absent)

pub returns-then-found-eq0-clause-own : goal.returns-then-found-eq0-clause-own
returns-then-found-eq0-clause-own c =
    let own : IsOwn c.args.cap (counts_word c.args.w c.args.tally.now) (c.loop-place.seen.words ++ c.args.w ∷ []) =
    own_put c.args.cap c.args.token.now.me.0.keeps c.args.tally.now c.loop-place.seen.words c.args.w (next (goal.at.returns-then-found-eq0-clause-own c).At-loop-place) c.loop-place.invariant.own c.loop-place.invariant.absent
    (omega (arith, c.loop-place.invariant.place, c.loop-place-test.true)) in
    let is : c.push.new.self.words ≡ c.loop-place.seen.words ++ c.args.w ∷ [] = ap (λ v. v.words) c.push.ensures in
    let tally : counts_word c.args.w c.args.tally.now ≡ record { session = c.loop-place.tally.session; made = c.loop-place.tally.made + 1; mine = c.loop-place.tally.mine + c.args.commits } =
    (λ i. record { session = (sym c.loop-place.invariant.tally i).session; made = (sym c.loop-place.invariant.tally i).made + 1; mine = (sym c.loop-place.invariant.tally i).mine + sym c.requires.commits i }) in
    subst (λ x. IsOwn c.args.cap x c.push.new.self.words) tally (subst (λ l. IsOwn c.args.cap (counts_word c.args.w c.args.tally.now) l) (sym is) own)

pub returns-then-found-eq0-clause-stands : goal.returns-then-found-eq0-clause-stands
returns-then-found-eq0-clause-stands c =
    let is : c.push.new.self.words ≡ c.loop-place.seen.words ++ c.args.w ∷ [] = ap (λ v. v.words) c.push.ensures in
    subst (λ l. slice_get l c.loop-place.place ≡ Some c.args.w) (sym is) (get_last c.loop-place.seen.words c.args.w c.loop-place.place c.loop-place.invariant.place)

pub push-requires-in-loop-place-clause-new : goal.push-requires-in-loop-place-clause-new
push-requires-in-loop-place-clause-new c =
    (put_found c.args.cap c.args.token.now.me.0 c.args.tally.now c.loop-place.seen.words c.args.w c.exchange-found.result c.loop-place.token.me c.exchange-found.new.token.me c.loop-place.invariant.seat c.exchange-found.ensures.put c.if-found-eq0.false
    c.loop-place.invariant.own (omega (arith, c.loop-place.invariant.place, c.loop-place-test.true))).new

pub returns-then-found-w-clause-own : goal.returns-then-found-w-clause-own
returns-then-found-w-clause-own c =
    let at = (goal.at.returns-then-found-w-clause-own c).After-push-in-loop-place in
    subst (λ x. IsOwn c.args.cap x c.push-in-loop-place.new.self.words) (sym c.loop-place.invariant.tally)
    (subst (λ l. IsOwn c.args.cap c.args.tally.now l) (sym (words at)) ((grown at).own c.args.tally.now refl c.loop-place.invariant.own))

pub returns-then-found-w-clause-outcome : goal.returns-then-found-w-clause-outcome
returns-then-found-w-clause-outcome c =
    let at = (goal.at.returns-then-found-w-clause-outcome c).After-push-in-loop-place in
    record {
      before = c.push-in-loop-place.new.self.words;
      longer = subst (λ l. IsPrefix c.args.seen.now.words l) (sym (words at)) (prefix_push c.args.seen.now.words c.loop-place.seen.words c.exchange-found.result c.loop-place.invariant.longer);
      commits = λ k. ap commits_of (words at) ∙ (grown at).commits k ∙ c.loop-place.invariant.commits k;
      what = inl (refl, c.loop-place.invariant.tally);
    }

pub returns-then-found-w-clause-stands : goal.returns-then-found-w-clause-stands
returns-then-found-w-clause-stands c =
    subst (λ l. slice_get l c.loop-place.place ≡ Some c.args.w) (sym (words (goal.at.returns-then-found-w-clause-stands c).After-push-in-loop-place))
    (get_last c.loop-place.seen.words c.exchange-found.result c.loop-place.place c.loop-place.invariant.place ∙ ap (λ w. Some w) c.if-found-w.true)

pub loop-place-preserved : goal.loop-place-preserved
loop-place-preserved c =
    let at = (goal.at.loop-place-preserved c).After-push-in-loop-place in
    let is = words at in
    record {
      table = c.exchange-found.ensures.table ∙ c.loop-place.invariant.table;
      chain = ap (λ v. v.room) c.push-in-loop-place.ensures ∙ c.loop-place.invariant.chain;
      place = omega (arith, c.loop-place.invariant.place, ap length is, length-append c.loop-place.seen.words (c.exchange-found.result ∷ []));
      tally = c.loop-place.invariant.tally;
      seat = subst (λ l. c.exchange-found.new.token.me ≡ (with_seen (with_guest c.args.token.now.me.0 c.args.tally.now) l, [])) (sym is) (grown at).seat;
      longer = subst (λ l. IsPrefix c.args.seen.now.words l) (sym is) (prefix_push c.args.seen.now.words c.loop-place.seen.words c.exchange-found.result c.loop-place.invariant.longer);
      own = subst (λ l. IsOwn c.args.cap c.args.tally.now l) (sym is) ((grown at).own c.args.tally.now refl c.loop-place.invariant.own);
      commits = λ k. ap commits_of is ∙ (grown at).commits k ∙ c.loop-place.invariant.commits k;
      absent = λ there.
          ⊎_elim c.loop-place.invariant.absent (λ e. c.if-found-w.false e)
          (Contains-push_cases c.loop-place.seen.words c.exchange-found.result c.args.w (subst (λ l. Contains l c.args.w) is there));
    }
