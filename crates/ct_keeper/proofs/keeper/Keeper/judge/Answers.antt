use Rattle.std.proofs.Common.{◌≡◌, ℕ, ◌+◌, ◌≤◌, List, ap, arith, refl, sym, subst, ◌∙◌}
use Rattle.ct_word.{specs.Reading.commits_of, specs.WellFormed.IsWellFormed, proofs.Prefixes.{prefix_of_prefix, commits_prefix}}
use Rattle.ct_arena.{specs.declared.tally.Tally.Tally, specs.Seen.{Seen, tally_of, pass_of}}
use Rattle.ct_condition.specs.Writes.{charge}
use Rattle.ct_keeper.{specs.Bounds.offer_words, specs.Catalogue.Stays, specs.declared.catalogue.Offer.Offer, specs.Conflicting.told_or, specs.Faults.is_full}
use Rattle.ct_keeper.{specs.Latest.catalogue_of, specs.Offers.{IsOffer, BecomesOf}, proofs.Standing.still, proofs.Walking.{all_written_later, all_written_same}}
use Rattle.ct_keeper.proofs.Entering.{offer_grows, same_list, words_entered, becomes_from}
use mathlib.Core.List.{IsPrefix}
use Rattle.ct_keeper.proofs.keeper.Keeper.judge.Goals as goal

-- so many words are within the bound of the offer, where they are so for the guest as which the session entered
entered_within : (pass : Seen) (words : List ℕ) → IsPrefix pass.words words → IsWellFormed words → (offer : Offer) → IsOffer pass offer → (t : Tally) → t ≡ tally_of pass
    → (was old : List ℕ) → commits_of words ≡ commits_of was → was ≡ old → (n : ℕ) → n ≤ t.made + offer_words words (pass_of t words) offer → n ≤ pass.made + offer_words old pass offer
entered_within pass words longer formed offer is t entered was old come view n le =
    let same = ap (λ u. offer_words words (pass_of u words) offer) entered ∙ words_entered pass words longer formed offer is was come ∙ ap (λ ws. offer_words ws pass offer) view in
    let made = ap (λ u. u.made) entered in
    omega (arith, same, made, le)

pub verdict_on-verdict-requires-clause-latest : goal.verdict_on-verdict-requires-clause-latest
verdict_on-verdict-requires-clause-latest g c =
    still c.self.inside.pass.words c.enter-guest.new.self.words c.self.inside.latest c.self.invariant.3 c.enter-guest.ensures.longer c.words.ensures.formed c.enter-guest.ensures.commits

pub verdict_on-verdict-requires-clause-offer : goal.verdict_on-verdict-requires-clause-offer
verdict_on-verdict-requires-clause-offer g c =
    let words = c.enter-guest.new.self.words in
    subst (λ t. IsOffer (pass_of t words) c.args.offer.now) (sym c.enter-guest.ensures.guest)
    (offer_grows c.args.pass words c.enter-guest.ensures.seen c.words.ensures.formed c.args.offer.now c.requires.offer)

pub verdict_on-verdict-requires-clause-written : goal.verdict_on-verdict-requires-clause-written
verdict_on-verdict-requires-clause-written g c =
    all_written_later c.args.pass.words c.enter-guest.new.self.words c.enter-guest.ensures.seen c.args.changes.now c.requires.written

pub verdict_on-verdict-requires-clause-changes : goal.verdict_on-verdict-requires-clause-changes
verdict_on-verdict-requires-clause-changes g c =
    let words = c.enter-guest.new.self.words in
    all_written_same c.args.pass.words words c.enter-guest.ensures.seen c.args.changes.now c.requires.written ∙ c.requires.changes
    ∙ sym (same_list c.args.pass words c.enter-guest.ensures.seen c.words.ensures.formed c.args.offer.now c.requires.offer)

pub returns-clause-verdict : goal.returns-clause-verdict
returns-clause-verdict g c =
    let cap = g.N.Site.log.cap in
    let pass = c.args.pass in
    let offer = c.args.offer.now in
    let k = c.self.inside in
    let words = c.enter-guest.new.self.words in
    let mid = catalogue_of c.enter-guest.new.self k.latest in
    let made = c.verdict_on-verdict in
    let new = catalogue_of made.new.keeper made.new.latest in
    let after = pass_of made.new.guest made.new.keeper.words in
    let told = told_or (commits_of k.pass.words) offer.base made.result in
    let its : BecomesOf cap mid new (pass_of (tally_of pass) words) after offer told =
    subst (λ h. BecomesOf cap mid new (pass_of (tally_of pass) words) after offer (told_or h offer.base made.result)) c.enter-guest.ensures.commits
    (subst (λ t. BecomesOf cap mid new (pass_of t words) after offer (told_or (commits_of words) offer.base made.result)) c.enter-guest.ensures.guest made.ensures.verdict) in
    let stays : Stays (catalogue_of k.pass k.latest) mid = record {
      longer = c.enter-guest.ensures.longer;
      commits = c.enter-guest.ensures.commits;
      tables = refl;
      global = refl;
      kept = refl;
    } in
    subst (λ o. BecomesOf cap o (catalogue_of c.leave-pass.new.self made.new.latest) pass c.leave-pass.result offer (told_or (commits_of o.words) offer.base made.result)) c.self.view_is
    (subst (λ p. BecomesOf cap (catalogue_of k.pass k.latest) (catalogue_of p made.new.latest) pass c.leave-pass.result offer told) (sym c.leave-pass.ensures.left)
    (subst (λ p. BecomesOf cap (catalogue_of k.pass k.latest) new pass p offer told) (sym c.leave-pass.ensures.pass)
    (becomes_from pass words c.enter-guest.ensures.seen c.words.ensures.formed offer c.requires.offer cap (catalogue_of k.pass k.latest) mid new refl stays after told its)))

pub returns-clause-made : goal.returns-clause-made
returns-clause-made g c =
    let its = c.verdict_on-verdict in
    let left = ap (λ p. p.made) c.leave-pass.ensures.pass in
    let most =
    entered_within c.args.pass c.enter-guest.new.self.words c.enter-guest.ensures.seen c.words.ensures.formed c.args.offer.now c.requires.offer c.enter-guest.result c.enter-guest.ensures.guest
    c.self.inside.pass.words c.args.self.now.words c.enter-guest.ensures.commits (ap (λ o. o.words) c.self.view_is) (its.new.guest.made + charge (is_full its.result)) its.ensures.words in
    omega (arith, left, most)

pub returns-clause-fewer : goal.returns-clause-fewer
returns-clause-fewer g c = λ refused.
    let its = c.verdict_on-verdict in
    let left = ap (λ p. p.made) c.leave-pass.ensures.pass in
    let most =
    entered_within c.args.pass c.enter-guest.new.self.words c.enter-guest.ensures.seen c.words.ensures.formed c.args.offer.now c.requires.offer c.enter-guest.result c.enter-guest.ensures.guest
    c.self.inside.pass.words c.args.self.now.words c.enter-guest.ensures.commits (ap (λ o. o.words) c.self.view_is) (its.new.guest.made + charge (is_full its.result)) its.ensures.words in
    let one = ap (λ r. charge (is_full r)) refused in
    omega (arith, left, most, one)

pub returns-clause-longer : goal.returns-clause-longer
returns-clause-longer g c =
    let pass = c.args.pass in
    let made = c.verdict_on-verdict in
    subst (λ p. IsPrefix pass.words p.words) (sym c.leave-pass.ensures.pass)
    (prefix_of_prefix pass.words c.enter-guest.new.self.words made.new.keeper.words c.enter-guest.ensures.seen made.ensures.longer)

pub returns-clause-known : goal.returns-clause-known
returns-clause-known g c =
    let pass = c.args.pass in
    let words = c.enter-guest.new.self.words in
    subst (IsPrefix (commits_of pass.words)) (c.enter-guest.ensures.commits ∙ ap (λ o. commits_of o.words) c.self.view_is)
    (commits_prefix pass.words words c.enter-guest.ensures.seen)
