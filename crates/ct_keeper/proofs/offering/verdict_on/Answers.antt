use Rattle.std.{proofs.Common.{◌≡◌, ◌≢◌, ◌+◌, ◌≤◌, List, [], length, length-append, map, arith, rules, ap, sym, subst, ◌∙◌}, specs.Bool.{◌==◌}}
use Rattle.std.{proofs.lemmas.Bool.false≢true, specs.Arc.arc_value}
use Rattle.ct_word.specs.Reading.{change_list_at, commits_of}
use Rattle.ct_arena.specs.Seen.{pass_of}
use Rattle.ct_condition.specs.Writes.{charge}
use Rattle.ct_history.{specs.declared.written.Written.Written, specs.Written.plain_written}
use Rattle.ct_keeper.{specs.Bounds.all_words, specs.Faults.is_full, specs.Latest.{IsLatest, catalogue_of}, specs.Offers.{IsUnchanged, IsUncommitted}}
use Rattle.ct_keeper.{specs.declared.latest.Latest.Latest, proofs.Judging.{some_changes, refusal_becomes}, proofs.Standing.{renoted, still}}
use Rattle.ct_keeper.proofs.Weighing.{offer_words_are}
use Rattle.ct_keeper.proofs.offering.verdict_on.Goals as goal

pub returns-in_err-commit_offer-clause-latest : goal.returns-in_err-commit_offer-clause-latest
returns-in_err-commit_offer-clause-latest g c =
    let by = c.in_err-commit_offer.ensures in
    subst (IsLatest c.commit_offer.new.keeper.words) (sym by.same)
    (still c.args.keeper.now.words c.commit_offer.new.keeper.words _
    (renoted c.args.keeper.now.words c.args.latest.now c.requires.latest c.reserve.new.self c.reserve.ensures.same) by.interns.longer by.interns.formed by.interns.commits)

pub returns-in_err-commit_offer-clause-words : goal.returns-in_err-commit_offer-clause-words
returns-in_err-commit_offer-clause-words g c =
    let words = c.args.keeper.now.words in
    let changes = c.args.changes.now in
    let same : map (plain_written words) changes ≡ change_list_at words c.args.offer.now.changes = search rules in
    let some : changes ≢ [] = λ e. false≢true (sym c.if-is_empty.false ∙ c.is_empty.ensures ∙ ap (λ (l : List Written). length l == 0) e) in
    let are = offer_words_are words c.args.guest.now c.args.offer.now changes same some in
    let made : c.commit_offer.new.guest.made + charge (is_full c.from_residual-in_err-commit_offer.result) ≤ c.args.guest.now.made + (1 + all_words words changes) = search rules in
    omega (arith, made, are)

pub returns-clause-words : goal.returns-clause-words
returns-clause-words g c =
    let words = c.args.keeper.now.words in
    let changes = c.args.changes.now in
    let same : map (plain_written words) changes ≡ change_list_at words c.args.offer.now.changes = search rules in
    let some : changes ≢ [] = λ e. false≢true (sym c.if-is_empty.false ∙ c.is_empty.ensures ∙ ap (λ (l : List Written). length l == 0) e) in
    let are = offer_words_are words c.args.guest.now c.args.offer.now changes same some in
    let made = c.in_ok-commit_offer.ensures.words in
    omega (arith, made, are)

pub returns-in_err-commit_offer-clause-verdict : goal.returns-in_err-commit_offer-clause-verdict
returns-in_err-commit_offer-clause-verdict g c =
    let words = c.args.keeper.now.words in
    let changes = c.args.changes.now in
    let by = c.in_err-commit_offer.ensures in
    let old = catalogue_of c.args.keeper.now c.args.latest.now in
    let new = catalogue_of c.commit_offer.new.keeper c.commit_offer.new.latest in
    let some : changes ≢ [] = λ e. false≢true (sym c.if-is_empty.false ∙ c.is_empty.ensures ∙ ap (λ (l : List Written). length l == 0) e) in
    let unchanged : IsUnchanged words c.args.offer.now = search rules in
    let none : IsUncommitted old new (pass_of c.args.guest.now words) (pass_of c.commit_offer.new.guest c.commit_offer.new.keeper.words) = record {
      stays = record {
        longer = by.interns.longer;
        commits = by.interns.commits;
        tables = ap (λ (l : Latest). l.content.tables) by.same;
        global = ap (λ (l : Latest). l.content.global) by.same;
        kept = ap (λ (l : Latest). arc_value l.kept) by.same;
      };
      mine = by.interns.mine;
    } in
    refusal_becomes g.N.Site.log.cap old new (pass_of c.args.guest.now words) (pass_of c.commit_offer.new.guest c.commit_offer.new.keeper.words) c.args.offer.now (commits_of words) c.args.offer.now.base
    c.from_residual-in_err-commit_offer.result c.from_residual-in_err-commit_offer.ensures.0 none (some_changes words changes (change_list_at words c.args.offer.now.changes) c.requires.changes some) unchanged
    (search rules)

pub returns-clause-verdict : goal.returns-clause-verdict
returns-clause-verdict g c =
    let words = c.args.keeper.now.words in
    let changes = c.args.changes.now in
    let by = c.in_ok-commit_offer.ensures in
    let some : changes ≢ [] = λ e. false≢true (sym c.if-is_empty.false ∙ c.is_empty.ensures ∙ ap (λ (l : List Written). length l == 0) e) in
    record {
      has_changes = some_changes words changes (change_list_at words c.args.offer.now.changes) c.requires.changes some;
      unchanged = search rules;
      number = by.latest.version ∙ ap (λ h. length h) by.appends.commits ∙ length-append (commits_of words) _;
      commits = by.appends.commits;
      longer = by.appends.longer;
      grown = by.appends.grown;
      mine = by.appends.mine;
    }
