use Rattle.ct_transaction.proofs.preparing.answered.Goals as goal

pub answer_to-answered-requires-clause-sight : goal.answer_to-answered-requires-clause-sight
answer_to-answered-requires-clause-sight g c κs within = c.requires.asks.sight

pub answer_to-answered-requires-clause-fits : goal.answer_to-answered-requires-clause-fits
answer_to-answered-requires-clause-fits g c κs within = c.requires.asks.fits.0

pub answer_to-answered-requires-clause-named : goal.answer_to-answered-requires-clause-named
answer_to-answered-requires-clause-named g c κs within = c.requires.asks.fits.1

pub returns-in-Ok : goal.returns-in-Ok
returns-in-Ok g c = λ inside list fresh.
    record { longer = c.answer_to-answered.ensures.writes.longer; kept = c.answer_to-answered.ensures.writes.kept; made = c.in-Ok.ensures.writes.made; ok = c.in-Ok.ensures.ok; steps = tt; err = tt }

pub returns-in-Err : goal.returns-in-Err
returns-in-Err g c = λ inside list fresh.
    record { longer = c.answer_to-answered.ensures.writes.longer; kept = c.answer_to-answered.ensures.writes.kept; made = c.in-Err.ensures.writes.made; ok = tt; steps = tt; err = c.in-Err.ensures.err }
