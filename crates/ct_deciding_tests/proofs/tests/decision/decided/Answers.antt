use Rattle.ct_deciding_tests.proofs.tests.decision.decided.Goals as goal

pub decide-requires-clause-columns : goal.decide-requires-clause-columns
decide-requires-clause-columns c = c.no_columns.ensures c.if-not-no_columns.false c.args.root
