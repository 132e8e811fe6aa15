use Rattle.std.proofs.Common.{◌≡◌, true, [], ◌∷◌, Ok, Err, subst}
use Rattle.std.{proofs.lemmas.Bool.false≢true, proofs.lemmas.Result.err_from_is_err_and}
use Rattle.ct_word.proofs.Items.{first_item, sole_item}
use Rattle.ct_condition.{specs.Places.has_place, proofs.Placed.place_from}
use Rattle.ct_algebra.{proofs.Putting.{no_column_words, put_grows, put_stops}, proofs.Appending.grows_of}
use Rattle.ct_operators.specs.declared.error.TableError.TheVariants as fault
use Rattle.ct_algebra.proofs.literals.put_term.Goals as goal

pub returns-in_err-term-clause-grows : goal.returns-in_err-term-clause-grows
returns-in_err-term-clause-grows g c =
    let t = c.args.literal.now in
    let exit = err_from_is_err_and c.from_residual.result c.from_residual.ensures.1 in
    rw (exit.1, exit.2) (grows_of (Err fault.Full) _ _ (t ∷ []) 0 c.in_err-term.ensures.writes (λ literals has.
    put_stops c.args.pass.now.words c.term.new.pass.words c.in_err-term.ensures.longer c.args.pass.now.made c.term.new.pass.made t (no_column_words t c.requires.literal)
    (λ e. false≢true (c.in_err-term.ensures.known e).0) c.in_err-term.ensures.err literals (has t c.requires.literal (first_item [] t))))

pub returns-clause-placed : goal.returns-clause-placed
returns-clause-placed g c =
    λ t l h. subst (λ u. has_place c.term.new.pass.words u ≡ true) (sole_item c.args.literal.now t h) (place_from c.term.new.pass.words c.in_ok-term.field-0 c.args.literal.now c.in_ok-term.ensures.stands)

pub returns-clause-grows : goal.returns-clause-grows
returns-clause-grows g c =
    let t = c.args.literal.now in
    grows_of (Ok tt) _ _ (t ∷ []) 0 c.in_ok-term.ensures.writes (λ literals has.
    put_grows c.args.pass.now.words c.term.new.pass.words c.in_ok-term.ensures.longer c.args.pass.now.made c.term.new.pass.made t (no_column_words t c.requires.literal)
    (λ e. (c.in_ok-term.ensures.known e).2) c.in_ok-term.ensures.made (place_from c.term.new.pass.words c.in_ok-term.field-0 t c.in_ok-term.ensures.stands)
    literals (has t c.requires.literal (first_item [] t)))
