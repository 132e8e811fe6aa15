use Rattle.ct_rewrite.proofs.forms.equal_at.Goals as goal

pub returns-clause-says : goal.returns-clause-says
returns-clause-says c = rw (c.in_ok-s.ensures, c.in_ok-t.ensures) at c.equal.ensures.says

pub returns-clause-fits : goal.returns-clause-fits
returns-clause-fits c = rw (c.in_ok-s.ensures, c.in_ok-t.ensures) at c.equal.ensures.fits
