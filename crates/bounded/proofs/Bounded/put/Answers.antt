use Rattle.std.proofs.Common.{arith}
use Rattle.std.proofs.Math.Seq.{take-set-lt}
use Rattle.bounded.proofs.Bounded.put.Goals as goal

pub returns-clause-items : goal.returns-clause-items
returns-clause-items g c = take-set-lt c.args.self.now.len c.args.self.now.room c.args.i c.args.x (omega arith)
