use Rattle.std.{proofs.Common.{◌≡◌, ◌∙◌, true, refl, subst, sym, inl, inr}, specs.Prelude.Contains, proofs.lemmas.Bool.false≢true}
use Rattle.ct_word.{specs.Condition.holds_at, specs.Reading.condition_at}
use Rattle.ct_near.proofs.{Entries.{among_found, beside_of_led, ends_found, found_among, leaf_end, leaves_enough, run_comes, run_of_led}}
use Rattle.ct_near.proofs.indexing.run_beside.Goals as goal

pub returns-then-not-contains-clause-none : goal.returns-then-not-contains-clause-none
returns-then-not-contains-clause-none c = λ run.
    let words = c.args.words.now in
    let root = c.args.root in
    let one = c.args.one in
    let leaves = c.as_slice-leaves.result.now in
    let there = ends_found words one root c.requires.formed c.requires.condition 1 c.walk.new.walks.marks.items c.walk.new.found c.in_ok-walk.ensures.walked one (run_comes words one root run) (λ a b is. refl) in
    false≢true (sym c.if-not-contains.true ∙ c.contains.ensures.value ∙ among_found leaves one (subst (λ l. Contains l one) (sym c.as_slice-leaves.ensures.value) there))

pub returns-clause-beside : goal.returns-clause-beside
returns-clause-beside c =
    let words = c.args.words.now in
    let root = c.args.root in
    let one = c.args.one in
    let walked = c.in_ok-walk.ensures.walked in
    let leaves = c.as_slice-leaves.result.now in
    let same = c.as_slice-leaves.ensures.value in
    record {
      enough = λ v holds all. leaves_enough words one root c.requires.formed c.requires.condition 1 c.walk.new.walks.marks.items c.walk.new.found walked v
          (λ p h. elim (c.in_ok-others.ensures.all p (subst (λ l. Contains l p) (sym same) h)) [
            | inl e ↦ subst (λ q. holds_at v (condition_at words q) ≡ true) (sym e) holds
            | inr other ↦ all p other
          ]);
      run = run_of_led words one root one (walked.leaves one (subst (λ l. Contains l one) same (found_among leaves one (sym c.contains.ensures.value ∙ c.if-not-contains.false)))).0;
      each = λ p h. run_of_led words one root p (walked.leaves p (subst (λ l. Contains l p) same (c.in_ok-others.ensures.only p h).0)).0;
      are = λ p h.
          let other = c.in_ok-others.ensures.only p h in
          let leaf = walked.leaves p (subst (λ l. Contains l p) same other.0) in
          record { run = beside_of_led words one root p leaf.0; end = leaf_end words one root p leaf.1 other.1; apart = other.1 };
      all = λ p is.
          let there = ends_found words one root c.requires.formed c.requires.condition 1 c.walk.new.walks.marks.items c.walk.new.found walked p is.run (λ a b h. absurd (is.end a b h)) in
          elim (c.in_ok-others.ensures.all p (subst (λ l. Contains l p) (sym same) there)) [ inl e ↦ absurd (is.apart e) | inr other ↦ other ];
    }
