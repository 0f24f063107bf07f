use Rattle.std.proofs.Common.{◌+◌, ◌*◌, ◌≤◌, length}
use Rattle.expr.proofs.evaluation.+chain_last_value.Given as goal

abbrev pub decreases-last_value : goal.decreases-last_value
decreases-last_value g l = 2 * l.depth

abbrev pub decreases-chain : goal.decreases-chain
decreases-chain g l = 2 * l.depth + 1

abbrev pub invariant-chain-loop-other : goal.invariant-chain-loop-other
invariant-chain-loop-other g l = length l.rest ≤ length l.parts

abbrev pub decreases-chain-loop-other : goal.decreases-chain-loop-other
decreases-chain-loop-other g l = length l.rest
