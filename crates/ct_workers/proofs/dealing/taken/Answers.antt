use Rattle.std.{proofs.Common.{◌≡◌, ◌∙◌, arith, sym, subst}, specs.Prelude.IsSome, proofs.lemmas.Bool.false≢true, proofs.lemmas.List.get_or-set_other}
use Rattle.ct_workers.proofs.Dealt.{item_is, only_there, place_in, row_there}
use Rattle.ct_workers.proofs.dealing.taken.Goals as goal

pub index_mut-requires : goal.index_mut-requires
index_mut-requires g c = let lt = row_there (λ r. r.items) c.args.rows.now.items c.args.row c.args.place c.requires.there in omega (arith, lt, c.args.rows.now.ok.0)

pub index_mut-requires-2 : goal.index_mut-requires-2
index_mut-requires-2 g c =
    let lt = place_in (λ r. r.items) c.args.rows.now.items c.args.row c.args.place c.index_mut.result.now c.requires.there c.index_mut.ensures.value in
    omega (arith, lt, c.index_mut.result.now.ok.0)

pub unreachable-requires : goal.unreachable-requires
unreachable-requires g c =
    let is = item_is (λ r. r.items) c.args.rows.now.items c.args.row c.args.place c.index_mut.result.now c.index_mut-2.result.now c.requires.there c.index_mut.ensures.value c.index_mut-2.ensures.value in
    false≢true (subst IsSome (is ∙ sym c.take.ensures.value ∙ c.in-None.is) c.requires.there)

pub returns-clause-item : goal.returns-clause-item
returns-clause-item g c =
    item_is (λ r. r.items) c.args.rows.now.items c.args.row c.args.place c.index_mut.result.now c.index_mut-2.result.now c.requires.there c.index_mut.ensures.value c.index_mut-2.ensures.value
    ∙ sym c.take.ensures.value ∙ c.in-Some.is

pub returns-clause-others : goal.returns-clause-others
returns-clause-others g c = λ r p other.
    only_there (λ v. v.items) c.args.rows.now.items c.args.row c.args.place c.index_mut.result.now _ (sym c.index_mut.ensures.value)
    (λ q apart. get_or-set_other c.index_mut.result.now.items c.args.place q c.take.new.self _ apart) r p other
