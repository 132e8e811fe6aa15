use Rattle.std.proofs.Common.{sym, subst}
use Rattle.ct_worlds.{specs.Repaired.{Adds, IsAt}, proofs.Drawing.{side_null, side_value, side_zero}}
use Rattle.ct_worlds.proofs.drafts.side.Goals as goal

pub returns-in_ok-value_number-in-Value-clause-values : goal.returns-in_ok-value_number-in-Value-clause-values
returns-in_ok-value_number-in-Value-clause-values c =
    side_value c.args.words.now c.args.place c.args.draft.now.values.keys c.value_number.new.draft.values.keys c.in_ok-value.field-0 c.in-Value.value
    c.in_ok-value.ensures c.in-Value.is c.in_ok-value_number-in-Value.ensures.values

pub returns-in_ok-null_number-in-Null-clause-values : goal.returns-in_ok-null_number-in-Null-clause-values
returns-in_ok-null_number-in-Null-clause-values c =
    subst (Adds (IsAt c.args.words.now c.args.place) c.args.draft.now.values.keys) (sym c.in_ok-null_number-in-Null.ensures.values)
    (side_zero c.args.words.now c.args.place c.args.draft.now.values.keys c.zero_number.new.draft.values.keys c.in_ok-zero-in-Null.ensures.values)

pub returns-in_ok-value_number-in-Column-clause-values : goal.returns-in_ok-value_number-in-Column-clause-values
returns-in_ok-value_number-in-Column-clause-values c =
    side_zero c.args.words.now c.args.place c.args.draft.now.values.keys c.value_number-in-Column.new.draft.values.keys c.in_ok-value_number-in-Column.ensures.values

pub returns-in_ok-null_number-in-Null-clause-nulls : goal.returns-in_ok-null_number-in-Null-clause-nulls
returns-in_ok-null_number-in-Null-clause-nulls c =
    side_null c.args.words.now c.args.place c.in_ok-value.field-0 c.in-Null.null c.args.draft.now.nulls.keys c.zero_number.new.draft.nulls.keys c.null_number.new.draft.nulls.keys
    c.in_ok-value.ensures c.in-Null.is c.zero_number.ensures.nulls c.in_ok-null_number-in-Null.ensures.nulls
