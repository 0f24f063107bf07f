use Rattle.std.proofs.Common.{refl}
use Rattle.runs.proofs.Buffers.{kept_from}
use Rattle.runs.proofs.carry.carry.Goals as goal
use Rattle.runs.proofs.carry.carry.Goals.{in-Ok-2, in-Err}

pub returns : goal.returns
returns c =
    elim c.match-load.branch [
      | in-Ok-2 w ↦ rw (w.written-is, w.out-is) (kept_from _ _ w.full-written.result c.args.out.now w.full-written.new.out w.full-written.ensures)
      | in-Err w ↦ rw (w.written-is, w.out-is) refl
    ]
