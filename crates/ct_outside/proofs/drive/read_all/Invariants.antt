use Rattle.std.{proofs.Common.{◌≡◌, ◌≤◌, length, map, take}, specs.Prelude.All}
use Rattle.ct_outside.{specs.Outside.{StillHolds, Added}, specs.Reads.{HoldsAll, bytes_in}}
use Rattle.ct_outside.proofs.drive.read_all.Given as goal

abbrev pub invariant-loop-name : goal.invariant-loop-name
invariant-loop-name g l =
    let S = g.S.Scripts in
    let asked = take l.name-index (map (λ f. f.now) l.files) in
    record {
      quiet : S.faults l.scripts ≡ S.faults l.fn.scripts;
      held : StillHolds (S.held l.fn.scripts) (S.held l.scripts);
      names : Added (S.names l.fn.scripts) (S.names l.scripts) asked;
      texts : HoldsAll (S.held l.fn.scripts) asked (bytes_in l.texts.items);
      count : length l.texts.items ≡ l.name-index;
      within : All (λ text. length text ≤ l.limit) (bytes_in l.texts.items);
    }
