use Rattle.std.{proofs.Common.{◌≡◌, ◌+◌, [], length, map, arith, sym, subst, ap, ◌∙◌}, specs.Prelude.{IfOk, All, Ok, filter_map}}
use Rattle.std.{proofs.lemmas.List.{take_all, map-append}, proofs.lemmas.List.Elements.{All-nil, All-append}}
use Rattle.ct_word.{specs.Reading.{as_commit, meanings}, specs.StandsFor.SameCommits, proofs.Growth.length-read}
use Rattle.ct_rewrite.specs.History.{IsCommitFormed, plain_commit}
use Rattle.ct_history.specs.Commits.{StandsBetween, commits_before}
use Rattle.ct_serve.{specs.Joined.bound_of, proofs.InParts.{by_parts, first_bound, last_bound}}
use Rattle.ct_serve.proofs.history.history_of.Goals as goal

pub returns : goal.returns
returns g c =
    let words = c.args.words.now in
    let parts = c.args.parts in
    let n = length words in
    let made = c.in_ok-made.made.items in
    let commits = c.in_ok-commits.commits.items in
    let all : length made ≡ parts = omega (arith, c.in_ok-made.ensures.len) in
    let done = by_parts (λ v. v.items) (λ k xs. SameCommits (map plain_commit xs) (commits_before words (bound_of n parts k)) × All IsCommitFormed xs) made commits c.in_ok-commits.ensures
    (subst (λ b. SameCommits [] (commits_before words b)) (sym (first_bound n parts c.requires.some)) tt, All-nil IsCommitFormed)
    (λ k part before lt is so_far.
    let read = subst (λ r. IfOk r (λ p. StandsBetween words (bound_of n parts k) (bound_of n parts (k + 1)) p.items × All IsCommitFormed p.items)) is
    ((c.in_ok-made.ensures.each k (Ok part) (omega (arith, lt, all))).1.met) in (
      subst (λ l. SameCommits l (commits_before words (bound_of n parts (k + 1)))) (sym (map-append plain_commit before part.items)) (read.0 (map plain_commit before) so_far.0),
      All-append IsCommitFormed before part.items so_far.1 read.1,
    )) in
    let whole = subst (λ ms. SameCommits (map plain_commit commits) (filter_map as_commit ms)) (take_all n (meanings words) (omega (arith, length-read [] words)))
    (subst (λ b. SameCommits (map plain_commit commits) (commits_before words b)) (ap (bound_of n parts) all ∙ last_bound n parts) done.0) in
    subst (λ xs. SameCommits (map plain_commit xs) (filter_map as_commit (meanings words)) × All IsCommitFormed xs) (sym c.from_vec.ensures) (whole, done.1)
