use Rattle.std.{proofs.Common.{◌≡◌, take, true}, specs.List.list_all}
use Rattle.ct_trail.specs.{Literal.has, Standing.log_now}
use Rattle.ct_sat.specs.Units.{Leads}
use Rattle.ct_sat.proofs.units.hints_by.Given as goal

abbrev pub invariant-loop-l : goal.invariant-loop-l
invariant-loop-l l = record {
  leads : Leads (log_now l.board) l.literal l.way;
  known : list_all (has l.way.known.items) (take l.l-index l.literals) ≡ true;
}
