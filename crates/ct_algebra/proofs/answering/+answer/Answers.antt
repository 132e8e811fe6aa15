use Rattle.std.{proofs.Common.{◌≡◌, ◌≤◌, ◌∙◌, ◌+◌, ◌*◌, ℕ, List, [], ◌++◌, Some, None, Ok, length, map, ap, sym, subst, arith}, proofs.lemmas.Option.MatchOption-at_some, proofs.lemmas.Result.err_from_is_err_and, proofs.lemmas.List.Elements.{Contains-append_left, Contains-append_right}}
use Rattle.ct_query.{specs.Plain.{PlainQuery, Table, Select, Project, Product, Union, Except, Intersect}, specs.Pred.condition_of, specs.Views.query_of, specs.Fits.Fits, specs.Bounds.ops, specs.Terms.{condition_terms, query_terms}}
use Rattle.ct_table.{specs.Denotes.{TableView, heading_of, find_table}, specs.Shared.view_of}
use Rattle.ct_operators.specs.declared.table.CTable.{CTable}
use Rattle.ct_arena.specs.Seen.{Seen}
use Rattle.ct_word.specs.WellFormed.{IsWellFormed}
use Rattle.ct_algebra.{specs.Operands.AreTables, specs.Evaluates.Evaluates, specs.Words.{Answers, GrowsWithin, most_rows, most_words}, proofs.Growing.{tables_grow, answer_grows, answer_before}, proofs.Found.got_some}
use Rattle.ct_algebra.{proofs.Appending.{grows_as, grows_none, formed_before, grows_then, grows_more, onward, refused_within, join_sum, pairs_most, twice_most, rows_most, product_most, union_most, except_most, intersect_most}, proofs.Counted.rows_within}
use Rattle.ct_algebra.proofs.Operators.{table_answers, project_answers, product_answers, union_answers, except_answers, intersect_answers}
use Rattle.ct_algebra.proofs.Parts.{count_parts, one_part, two_parts}
use Rattle.ct_algebra.proofs.answering.+answer.Goals as goal

pub answer-unwrap-requires : goal.answer-unwrap-requires
answer-unwrap-requires g t c =
    let hs = map heading_of c.args.db.now in
    let fits : Fits hs (Table c.in-Table.name) = subst (Fits hs) (ap query_of c.in-Table.is) c.requires.fits in
    got_some c.get.result (λ t. find_table c.args.db.now c.in-Table.name ≡ Some (view_of c.in-Table.name t.now)) c.in-Table.name c.args.db.now fits c.get.ensures

-- the table that a name stands for answers the query of this name, without a word
named_answers : {cap : ℕ} (now : Seen) (db : List TableView) (name : List ℕ) (t out : CTable) (q : PlainQuery) → IsWellFormed now.words → length now.words ≤ cap
    → AreTables now.words db → find_table db name ≡ Some (view_of name t) → out ≡ t → Table name ≡ q → Answers cap now now db q (Ok out)
named_answers {cap} now db name t out q formed room are found same is = subst (λ q. Answers cap now now db q (Ok out)) is (record {
  evaluates = subst (Evaluates now.words now.words db (Table name)) (sym same) (table_answers now.words db name t are found);
  grows = grows_none out now _ _ formed room;
})

pub answer-returns-in_ok-copied-in-Table : goal.answer-returns-in_ok-copied-in-Table
answer-returns-in_ok-copied-in-Table g t c =
    let db = c.args.db.now in
    let name = c.in-Table.name in
    named_answers c.args.pass.now db name c.unwrap.result.now c.in_ok-copied-in-Table.field-0 (query_of c.args.query.now) c.words.ensures.formed c.words.ensures.room c.requires.tables
    (MatchOption-at_some (find_table db name ≡ None) (λ t. find_table db name ≡ Some (view_of name t.now)) c.unwrap.result c.unwrap.ensures c.get.ensures) c.in_ok-copied-in-Table.ensures (sym (ap query_of c.in-Table.is))

pub answer-selected-requires : goal.answer-selected-requires
answer-selected-requires g t c κs within =
    let is = one_part (Select (condition_of c.in-Select.p)) c.deref.result.now _ _ c.deref.ensures (sym (ap query_of c.in-Select.is)) in
    (omega (arith, ap count_parts is, c.decreases), (within, (c.requires.tables, subst (Fits (map heading_of c.args.db.now)) (sym is) c.requires.fits)))

pub answer-returns-in-Select : goal.answer-returns-in-Select
answer-returns-in-Select g t c =
    subst (λ q. Answers g.N.Site.log.cap c.args.pass.now c.selected.new.pass c.args.db.now q c.selected.result)
    (one_part (Select (condition_of c.in-Select.p)) c.deref.result.now _ _ c.deref.ensures (sym (ap query_of c.in-Select.is))) c.selected.ensures

pub selected_rows-operand-requires : goal.selected_rows-operand-requires
selected_rows-operand-requires g t c κs within = (omega (arith, c.decreases), (within, (c.requires.tables, c.requires.fits.1)))

pub selected_rows-returns-in_err-table : goal.selected_rows-returns-in_err-table
selected_rows-returns-in_err-table g t c =
    let db = c.args.db.now in
    let q = query_of c.args.part.now in
    let p = condition_of c.args.p.now in
    let most = most_words db q in
    let exit = err_from_is_err_and c.from_residual.result c.from_residual.ensures.1 in
    rw (exit.1, exit.2) (record {
      evaluates = tt;
      grows = refused_within _ _ _ (query_terms q) (condition_terms p ++ query_terms q) most (most + most_rows db q * (ops p + 1)) (λ t h. Contains-append_right (condition_terms p) (query_terms q) t h) (omega arith)
          c.in_err-table.ensures.grows;
    })

pub selected_rows-returns : goal.selected_rows-returns
selected_rows-returns g t c =
    let part = c.in_ok-table.ensures in
    let db = c.args.db.now in
    let q = query_of c.args.part.now in
    let p = condition_of c.args.p.now in
    record {
      evaluates = c.filtered.ensures.evaluates c.args.pass.now.words db q part.evaluates;
      grows =
          grows_then _ _ _ (query_terms (Select p q)) _ c.filtered.result (query_terms q) (condition_terms p) (most_words db q) _ (most_rows db q * (ops p + 1))
          (λ t h. Contains-append_right (condition_terms p) (query_terms q) t h) (λ t h. Contains-append_left (condition_terms p) (query_terms q) t h)
          (rows_most _ _ db q _ part.evaluates (ops p + 1)) part.grows c.filtered.ensures.grows;
    }

pub selected-selected_rows-requires : goal.selected-selected_rows-requires
selected-selected_rows-requires g t c κs within = (omega (arith, c.decreases), (within, (c.requires.tables, c.requires.fits)))

pub selected-sides-requires : goal.selected-sides-requires
selected-sides-requires g t c κs within =
    let is = two_parts Product c.deref.result.now c.deref-in-Product.result.now _ _ _ c.deref.ensures c.deref-in-Product.ensures (sym (ap query_of c.in-Product.is)) in
    let fits : Fits (map heading_of c.args.db.now) (Product (query_of c.deref.result.now) (query_of c.deref-in-Product.result.now)) = subst (Fits (map heading_of c.args.db.now)) (sym is) c.requires.fits.1 in
    (omega (arith, ap count_parts is, c.decreases), (within, (c.requires.tables, (fits.0, fits.1))))

pub selected-returns-in_ok-left-in-Product : goal.selected-returns-in_ok-left-in-Product
selected-returns-in_ok-left-in-Product g t c =
    let parts = c.in_ok-left-in-Product.ensures in
    let db = c.args.db.now in
    let p = condition_of c.args.p.now in
    let a = query_of c.deref.result.now in
    let b = query_of c.deref-in-Product.result.now in
    let both = query_terms a ++ query_terms b in
    let most = most_rows db a * most_rows db b in
    let grows = grows_then _ _ _ (condition_terms p ++ both) _ c.joined.result both (condition_terms p) (most_words db a + most_words db b) _ (most + most * (ops p + 1))
    (λ t h. Contains-append_right (condition_terms p) both t h) (λ t h. Contains-append_left (condition_terms p) both t h)
    (pairs_most _ most (ops p + 1) (product_most _ _ _ _ _ _ _ parts.left parts.right)) parts.grows c.joined.ensures.grows in
    subst (λ q. Answers g.N.Site.log.cap c.args.pass.now c.joined.new.pass db (Select p q) c.joined.result)
    (two_parts Product c.deref.result.now c.deref-in-Product.result.now _ _ _ c.deref.ensures c.deref-in-Product.ensures (sym (ap query_of c.in-Product.is))) (record {
      evaluates = c.joined.ensures.evaluates c.args.pass.now.words db a b parts.left parts.right;
      grows = subst (GrowsWithin g.N.Site.log.cap c.joined.result _ _ (condition_terms p ++ both)) (join_sum (most_words db a + most_words db b) most (most * (ops p + 1))) grows;
    })

pub selected-returns-in_err-left-in-Product : goal.selected-returns-in_err-left-in-Product
selected-returns-in_err-left-in-Product g t c =
    let db = c.args.db.now in
    let p = condition_of c.args.p.now in
    let a = query_of c.deref.result.now in
    let b = query_of c.deref-in-Product.result.now in
    let both = query_terms a ++ query_terms b in
    let most = most_words db a + most_words db b in
    let pairs = most_rows db a * most_rows db b in
    let exit = err_from_is_err_and c.from_residual.result c.from_residual.ensures.1 in
    subst (λ q. Answers g.N.Site.log.cap c.args.pass.now c.sides.new.pass db (Select p q) c.from_residual.result)
    (two_parts Product c.deref.result.now c.deref-in-Product.result.now _ _ _ c.deref.ensures c.deref-in-Product.ensures (sym (ap query_of c.in-Product.is)))
    (rw (exit.1, exit.2) (record {
      evaluates = tt;
      grows = refused_within _ _ _ both (condition_terms p ++ both) most (most + pairs + pairs * (ops p + 1)) (λ t h. Contains-append_right (condition_terms p) both t h) (omega arith)
          c.in_err-left-in-Product.ensures.grows;
    }))

pub answer-projected-requires : goal.answer-projected-requires
answer-projected-requires g t c κs within =
    let is = one_part (Project c.in-Project.columns) c.deref-in-Project.result.now _ _ c.deref-in-Project.ensures (sym (ap query_of c.in-Project.is)) in
    let fits : Fits (map heading_of c.args.db.now) (Project c.in-Project.columns (query_of c.deref-in-Project.result.now)) = subst (Fits (map heading_of c.args.db.now)) (sym is) c.requires.fits in
    (omega (arith, ap count_parts is, c.decreases), (within, (c.requires.tables, subst (λ ks. Fits (map heading_of c.args.db.now) (Project ks (query_of c.deref-in-Project.result.now))) (sym c.as_slice.ensures) fits)))

pub answer-returns-in-Project : goal.answer-returns-in-Project
answer-returns-in-Project g t c =
    subst (λ q. Answers g.N.Site.log.cap c.args.pass.now c.projected.new.pass c.args.db.now q c.projected.result)
    ((λ i. Project (c.as_slice.ensures i) (query_of c.deref-in-Project.result.now)) ∙ one_part (Project c.in-Project.columns) c.deref-in-Project.result.now _ _ c.deref-in-Project.ensures (sym (ap query_of c.in-Project.is))) c.projected.ensures

pub projected_rows-operand-requires : goal.projected_rows-operand-requires
projected_rows-operand-requires g t c κs within = (omega (arith, c.decreases), (within, (c.requires.tables, c.requires.fits.1)))

pub projected_rows-returns : goal.projected_rows-returns
projected_rows-returns g t c =
    let part = c.in_ok-table.ensures in
    let q = query_of c.args.part.now in
    record {
      evaluates = project_answers _ _ _ _ q _ part.evaluates c.args.columns.now c.project.result c.project.ensures.columns c.project.ensures.rows c.project.ensures.tuples c.project.ensures.part c.project.ensures.terms;
      grows =
          onward _ _ _ _ _ c.project.result (most_words c.args.db.now q) _ _ part.grows c.project.ensures.writes (rows_within _ _ _ _ _ part.evaluates);
    }

pub projected-projected_rows-requires : goal.projected-projected_rows-requires
projected-projected_rows-requires g t c κs within = (omega (arith, c.decreases), (within, (c.requires.tables, c.requires.fits)))

pub projected-sides-requires : goal.projected-sides-requires
projected-sides-requires g t c κs within =
    let is = two_parts Product c.deref.result.now c.deref-in-Product.result.now _ _ _ c.deref.ensures c.deref-in-Product.ensures (sym (ap query_of c.in-Product.is)) in
    let fits : Fits (map heading_of c.args.db.now) (Product (query_of c.deref.result.now) (query_of c.deref-in-Product.result.now)) = subst (Fits (map heading_of c.args.db.now)) (sym is) c.requires.fits.1 in
    (omega (arith, ap count_parts is, c.decreases), (within, (c.requires.tables, (fits.0, fits.1))))

pub projected-returns-in_ok-left-in-Product : goal.projected-returns-in_ok-left-in-Product
projected-returns-in_ok-left-in-Product g t c =
    let parts = c.in_ok-left-in-Product.ensures in
    let db = c.args.db.now in
    let ks = c.args.columns.now in
    let a = query_of c.deref.result.now in
    let b = query_of c.deref-in-Product.result.now in
    let both = query_terms a ++ query_terms b in
    let words = most_words db a + most_words db b in
    let most = most_rows db a * most_rows db b in
    subst (λ q. Answers g.N.Site.log.cap c.args.pass.now c.picked_product.new.pass db (Project ks q) c.picked_product.result)
    (two_parts Product c.deref.result.now c.deref-in-Product.result.now _ _ _ c.deref.ensures c.deref-in-Product.ensures (sym (ap query_of c.in-Product.is))) (record {
      evaluates = c.picked_product.ensures.evaluates c.args.pass.now.words db a b parts.left parts.right;
      grows =
          grows_more c.picked_product.result _ _ both (words + (most + most)) (words + most + most) (omega arith)
          (grows_then _ _ _ both _ c.picked_product.result both [] words _ (most + most) (λ t h. h) (λ t h. let lt = h.1 in absurd (omega (arith, lt)))
          (twice_most _ most (product_most _ _ _ _ _ _ _ parts.left parts.right)) parts.grows c.picked_product.ensures.grows);
    })

pub projected-returns-in_err-left-in-Product : goal.projected-returns-in_err-left-in-Product
projected-returns-in_err-left-in-Product g t c =
    let db = c.args.db.now in
    let ks = c.args.columns.now in
    let a = query_of c.deref.result.now in
    let b = query_of c.deref-in-Product.result.now in
    let both = query_terms a ++ query_terms b in
    let words = most_words db a + most_words db b in
    let most = most_rows db a * most_rows db b in
    let exit = err_from_is_err_and c.from_residual.result c.from_residual.ensures.1 in
    subst (λ q. Answers g.N.Site.log.cap c.args.pass.now c.sides.new.pass db (Project ks q) c.from_residual.result)
    (two_parts Product c.deref.result.now c.deref-in-Product.result.now _ _ _ c.deref.ensures c.deref-in-Product.ensures (sym (ap query_of c.in-Product.is)))
    (rw (exit.1, exit.2) (record {
      evaluates = tt;
      grows = refused_within _ _ _ both both words (words + most + most) (λ t h. h) (omega arith) c.in_err-left-in-Product.ensures.grows;
    }))

pub projected-returns-in_ok-left-in-Product-deref : goal.projected-returns-in_ok-left-in-Product-deref
projected-returns-in_ok-left-in-Product-deref g t c =
    let db = c.args.db.now in
    let p = condition_of c.in-Select.p in
    let a = query_of c.deref-in-Product-deref.result.now in
    let b = query_of c.deref-in-Product-deref-2.result.now in
    let ks = c.args.columns.now in
    let both = query_terms a ++ query_terms b in
    let words = most_words db a + most_words db b in
    let most = most_rows db a * most_rows db b in
    let inner = two_parts Product c.deref-in-Product-deref.result.now c.deref-in-Product-deref-2.result.now _ _ _ c.deref-in-Product-deref.ensures c.deref-in-Product-deref-2.ensures (sym (ap query_of c.in-Product-deref.is)) in
    let is = ap (Select p) inner ∙ one_part (Select p) c.deref-in-Select.result.now _ _ c.deref-in-Select.ensures (sym (ap query_of c.in-Select.is)) in
    let parts = c.in_ok-left-in-Product-deref.ensures in
    subst (λ q. Answers g.N.Site.log.cap c.args.pass.now c.picked_join.new.pass db (Project ks q) c.picked_join.result) is (record {
      evaluates = c.picked_join.ensures.evaluates c.args.pass.now.words db a b parts.left parts.right;
      grows =
          grows_more c.picked_join.result _ _ (condition_terms p ++ both) (words + (most + most * (ops p + 1) + most)) (words + most + most * (ops p + 1) + most) (omega arith)
          (grows_then _ _ _ (condition_terms p ++ both) _ c.picked_join.result both (condition_terms p) words _ (most + most * (ops p + 1) + most)
          (λ t h. Contains-append_right (condition_terms p) both t h) (λ t h. Contains-append_left (condition_terms p) both t h) (omega arith) parts.grows
          (c.picked_join.ensures.grows c.args.pass.now.words db a b parts.left parts.right));
    })

pub projected-returns-in_err-left-in-Product-deref : goal.projected-returns-in_err-left-in-Product-deref
projected-returns-in_err-left-in-Product-deref g t c =
    let db = c.args.db.now in
    let p = condition_of c.in-Select.p in
    let a = query_of c.deref-in-Product-deref.result.now in
    let b = query_of c.deref-in-Product-deref-2.result.now in
    let ks = c.args.columns.now in
    let both = query_terms a ++ query_terms b in
    let words = most_words db a + most_words db b in
    let most = most_rows db a * most_rows db b in
    let inner = two_parts Product c.deref-in-Product-deref.result.now c.deref-in-Product-deref-2.result.now _ _ _ c.deref-in-Product-deref.ensures c.deref-in-Product-deref-2.ensures (sym (ap query_of c.in-Product-deref.is)) in
    let is = ap (Select p) inner ∙ one_part (Select p) c.deref-in-Select.result.now _ _ c.deref-in-Select.ensures (sym (ap query_of c.in-Select.is)) in
    let exit = err_from_is_err_and c.from_residual-in_err-left-in-Product-deref.result c.from_residual-in_err-left-in-Product-deref.ensures.1 in
    subst (λ q. Answers g.N.Site.log.cap c.args.pass.now c.sides-in-Product-deref.new.pass db (Project ks q) c.from_residual-in_err-left-in-Product-deref.result) is
    (rw (exit.1, exit.2) (record {
      evaluates = tt;
      grows = refused_within _ _ _ both (condition_terms p ++ both) words (words + most + most * (ops p + 1) + most) (λ t h. Contains-append_right (condition_terms p) both t h) (omega arith) c.in_err-left-in-Product-deref.ensures.grows;
    }))

pub answer-sides-requires : goal.answer-sides-requires
answer-sides-requires g t c κs within =
    let is = two_parts Product c.deref-in-Product.result.now c.deref-in-Product-2.result.now _ _ _ c.deref-in-Product.ensures c.deref-in-Product-2.ensures (sym (ap query_of c.in-Product.is)) in
    let fits : Fits (map heading_of c.args.db.now) (Product (query_of c.deref-in-Product.result.now) (query_of c.deref-in-Product-2.result.now)) = subst (Fits (map heading_of c.args.db.now)) (sym is) c.requires.fits in
    (omega (arith, ap count_parts is, c.decreases), (within, (c.requires.tables, (fits.0, fits.1))))

pub answer-returns-in_ok-left-in-Product : goal.answer-returns-in_ok-left-in-Product
answer-returns-in_ok-left-in-Product g t c =
    let parts = c.in_ok-left-in-Product.ensures in
    subst (λ q. Answers g.N.Site.log.cap c.args.pass.now c.product.new.pass c.args.db.now q c.product.result)
    (two_parts Product c.deref-in-Product.result.now c.deref-in-Product-2.result.now _ _ _ c.deref-in-Product.ensures c.deref-in-Product-2.ensures (sym (ap query_of c.in-Product.is))) (record {
      evaluates = product_answers _ _ _ _ _ _ _ _ parts.left parts.right c.product.result c.product.ensures.columns c.product.ensures.rows c.product.ensures.tuples c.product.ensures.part c.product.ensures.terms;
      grows =
          onward _ _ _ _ _ c.product.result _ _ _ parts.grows c.product.ensures.writes
          (product_most _ _ _ _ _ _ _ parts.left parts.right);
    })

pub answer-sides-requires-in-Union : goal.answer-sides-requires-in-Union
answer-sides-requires-in-Union g t c κs within =
    let is = two_parts Union c.deref-in-Union.result.now c.deref-in-Union-2.result.now _ _ _ c.deref-in-Union.ensures c.deref-in-Union-2.ensures (sym (ap query_of c.in-Union.is)) in
    let fits : Fits (map heading_of c.args.db.now) (Union (query_of c.deref-in-Union.result.now) (query_of c.deref-in-Union-2.result.now)) = subst (Fits (map heading_of c.args.db.now)) (sym is) c.requires.fits in
    (omega (arith, ap count_parts is, c.decreases), (within, (c.requires.tables, (fits.1, fits.2))))

pub answer-returns-in_ok-left-in-Union : goal.answer-returns-in_ok-left-in-Union
answer-returns-in_ok-left-in-Union g t c =
    let parts = c.in_ok-left-in-Union.ensures in
    subst (λ q. Answers g.N.Site.log.cap c.args.pass.now c.union.new.pass c.args.db.now q c.union.result)
    (two_parts Union c.deref-in-Union.result.now c.deref-in-Union-2.result.now _ _ _ c.deref-in-Union.ensures c.deref-in-Union-2.ensures (sym (ap query_of c.in-Union.is))) (record {
      evaluates = union_answers _ _ _ _ _ _ _ _ parts.left parts.right c.union.result c.union.ensures.columns c.union.ensures.rows c.union.ensures.tuples c.union.ensures.part c.union.ensures.terms;
      grows =
          onward _ _ _ _ _ c.union.result _ _ _ parts.grows c.union.ensures.writes
          (union_most _ _ _ _ _ _ _ parts.left parts.right);
    })

pub answer-side_and_table-requires : goal.answer-side_and_table-requires
answer-side_and_table-requires g t c κs within =
    let is = two_parts Except c.deref-in-Except.result.now c.deref-in-Except-2.result.now _ _ _ c.deref-in-Except.ensures c.deref-in-Except-2.ensures (sym (ap query_of c.in-Except.is)) in
    let fits : Fits (map heading_of c.args.db.now) (Except (query_of c.deref-in-Except.result.now) (query_of c.deref-in-Except-2.result.now)) = subst (Fits (map heading_of c.args.db.now)) (sym is) c.requires.fits in
    (omega (arith, ap count_parts is, c.decreases), (within, (c.requires.tables, (fits.1, fits.2))))

pub answer-returns-in_ok-left-in-Except : goal.answer-returns-in_ok-left-in-Except
answer-returns-in_ok-left-in-Except g t c =
    let parts = c.in_ok-left-in-Except.ensures in
    subst (λ q. Answers g.N.Site.log.cap c.args.pass.now c.except.new.pass c.args.db.now q c.except.result)
    (two_parts Except c.deref-in-Except.result.now c.deref-in-Except-2.result.now _ _ _ c.deref-in-Except.ensures c.deref-in-Except-2.ensures (sym (ap query_of c.in-Except.is))) (record {
      evaluates = except_answers _ _ _ _ _ _ _ _ parts.left parts.right c.except.result c.except.ensures.columns c.except.ensures.rows c.except.ensures.tuples c.except.ensures.part c.except.ensures.terms;
      grows =
          onward _ _ _ _ _ c.except.result _ _ _ parts.grows c.except.ensures.writes
          (except_most _ _ _ _ _ _ _ parts.left parts.right);
    })

pub answer-side_and_table-requires-in-Intersect : goal.answer-side_and_table-requires-in-Intersect
answer-side_and_table-requires-in-Intersect g t c κs within =
    let is = two_parts Intersect c.deref-in-Intersect.result.now c.deref-in-Intersect-2.result.now _ _ _ c.deref-in-Intersect.ensures c.deref-in-Intersect-2.ensures (sym (ap query_of c.in-Intersect.is)) in
    let fits : Fits (map heading_of c.args.db.now) (Intersect (query_of c.deref-in-Intersect.result.now) (query_of c.deref-in-Intersect-2.result.now)) = subst (Fits (map heading_of c.args.db.now)) (sym is) c.requires.fits in
    (omega (arith, ap count_parts is, c.decreases), (within, (c.requires.tables, (fits.1, fits.2))))

pub answer-returns-in_ok-left-in-Intersect : goal.answer-returns-in_ok-left-in-Intersect
answer-returns-in_ok-left-in-Intersect g t c =
    let parts = c.in_ok-left-in-Intersect.ensures in
    subst (λ q. Answers g.N.Site.log.cap c.args.pass.now c.intersect.new.pass c.args.db.now q c.intersect.result)
    (two_parts Intersect c.deref-in-Intersect.result.now c.deref-in-Intersect-2.result.now _ _ _ c.deref-in-Intersect.ensures c.deref-in-Intersect-2.ensures (sym (ap query_of c.in-Intersect.is))) (record {
      evaluates = intersect_answers _ _ _ _ _ _ _ _ parts.left parts.right c.intersect.result c.intersect.ensures.columns c.intersect.ensures.rows c.intersect.ensures.tuples c.intersect.ensures.part c.intersect.ensures.terms;
      grows =
          onward _ _ _ _ _ c.intersect.result _ _ _ parts.grows c.intersect.ensures.writes
          (intersect_most _ _ _ _ _ _ _ parts.left parts.right);
    })

pub sides-operand-requires : goal.sides-operand-requires
sides-operand-requires g t c κs within = (omega (arith, c.decreases), (within, (c.requires.tables, c.requires.left)))

pub sides-operand-requires-2 : goal.sides-operand-requires-2
sides-operand-requires-2 g t c κs within =
    (omega (arith, c.decreases), (within, (tables_grow c.args.pass.now.words c.operand.new.pass.words c.in_ok-one.ensures.grows.writes.longer (formed_before c.in_ok-one.ensures.grows.writes) c.args.db.now c.requires.tables, c.requires.right)))

pub sides-returns-clause-left : goal.sides-returns-clause-left
sides-returns-clause-left g t c =
    answer_grows c.args.pass.now.words c.operand.new.pass.words c.operand-2.new.pass.words c.args.db.now (query_of c.args.left.now) c.in_ok-one.one c.in_ok-other.ensures.grows.writes.longer c.in_ok-one.ensures.grows.writes.formed c.in_ok-one.ensures.evaluates

pub sides-returns-clause-right : goal.sides-returns-clause-right
sides-returns-clause-right g t c =
    answer_before c.args.pass.now.words c.operand.new.pass.words c.operand-2.new.pass.words c.args.db.now (query_of c.args.right.now) c.in_ok-other.other c.in_ok-one.ensures.grows.writes.longer (formed_before c.in_ok-one.ensures.grows.writes) c.requires.tables c.in_ok-other.ensures.evaluates

pub sides-returns-in_err-one-clause-grows : goal.sides-returns-in_err-one-clause-grows
sides-returns-in_err-one-clause-grows g t c =
    let lefts = query_terms (query_of c.args.left.now) in
    let rights = query_terms (query_of c.args.right.now) in
    let most = most_words c.args.db.now (query_of c.args.left.now) in
    let exit = err_from_is_err_and c.from_residual.result c.from_residual.ensures.1 in
    rw (exit.1, exit.2)
    (refused_within _ _ _ lefts (lefts ++ rights) most (most + most_words c.args.db.now (query_of c.args.right.now)) (λ t h. Contains-append_left lefts rights t h) (omega arith)
    c.in_err-one.ensures.grows)

pub sides-returns-in_err-other-clause-grows : goal.sides-returns-in_err-other-clause-grows
sides-returns-in_err-other-clause-grows g t c =
    let lefts = query_terms (query_of c.args.left.now) in
    let rights = query_terms (query_of c.args.right.now) in
    let most = most_words c.args.db.now (query_of c.args.right.now) in
    let exit = err_from_is_err_and c.from_residual-in_err-other.result c.from_residual-in_err-other.ensures.1 in
    rw (exit.1, exit.2)
    (grows_then _ _ _ (lefts ++ rights) _ _ lefts rights (most_words c.args.db.now (query_of c.args.left.now)) most most
    (λ t h. Contains-append_left lefts rights t h) (λ t h. Contains-append_right lefts rights t h) (omega arith) c.in_ok-one.ensures.grows
    (refused_within _ _ _ rights rights most most (λ t h. h) (omega arith) c.in_err-other.ensures.grows))

pub sides-returns-clause-grows : goal.sides-returns-clause-grows
sides-returns-clause-grows g t c =
    let lefts = query_terms (query_of c.args.left.now) in
    let rights = query_terms (query_of c.args.right.now) in
    let most = most_words c.args.db.now (query_of c.args.right.now) in
    grows_then _ _ _ (lefts ++ rights) _ (Ok (c.in_ok-one.one, c.in_ok-other.other)) lefts rights (most_words c.args.db.now (query_of c.args.left.now)) most most
    (λ t h. Contains-append_left lefts rights t h) (λ t h. Contains-append_right lefts rights t h) (omega arith) c.in_ok-one.ensures.grows
    (grows_as _ _ _ _ rights most c.in_ok-other.ensures.grows)

pub operand-unwrap-requires : goal.operand-unwrap-requires
operand-unwrap-requires g t c =
    let hs = map heading_of c.args.db.now in
    let fits : Fits hs (Table c.in-Table.name) = subst (Fits hs) (ap query_of c.in-Table.is) c.requires.fits in
    got_some c.get.result (λ t. find_table c.args.db.now c.in-Table.name ≡ Some (view_of c.in-Table.name t.now)) c.in-Table.name c.args.db.now fits c.get.ensures

pub operand-answer-requires : goal.operand-answer-requires
operand-answer-requires g t c κs within = (omega (arith, c.decreases), (within, (c.requires.tables, c.requires.fits)))

pub side_and_table-sides-requires : goal.side_and_table-sides-requires
side_and_table-sides-requires g t c κs within = (omega (arith, c.decreases), (within, (c.requires.tables, (c.requires.left, c.requires.right))))

pub operand-returns-in_ok-stored-in-Table : goal.operand-returns-in_ok-stored-in-Table
operand-returns-in_ok-stored-in-Table g t c =
    let db = c.args.db.now in
    let name = c.in-Table.name in
    named_answers c.args.pass.now db name c.unwrap.result.now c.in_ok-stored-in-Table.field-0 (query_of c.args.part.now) c.words.ensures.formed c.words.ensures.room c.requires.tables
    (MatchOption-at_some (find_table db name ≡ None) (λ t. find_table db name ≡ Some (view_of name t.now)) c.unwrap.result c.unwrap.ensures c.get.ensures) c.in_ok-stored-in-Table.ensures (sym (ap query_of c.in-Table.is))
