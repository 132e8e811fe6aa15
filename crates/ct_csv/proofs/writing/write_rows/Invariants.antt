use Rattle.std.{proofs.Common.{take}, specs.Prelude.IfSome}
use Rattle.ct_csv.{specs.Writing.{IsReady, bytes_of}, specs.Exported.IsFieldOf, proofs.Recorded.AreWritten}
use Rattle.ct_csv.proofs.writing.write_rows.Given as goal

abbrev pub invariant-loop-i : goal.invariant-loop-i
invariant-loop-i l =
    IsReady l.writer × AreWritten l.underscores l.words l.nodes (take l.i l.rows) (take l.i l.positions) (bytes_of l.initial.writer) (bytes_of l.writer) × IfSome l.last (IsFieldOf l.underscores l.nodes)
