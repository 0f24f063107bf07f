use Rattle.std.proofs.Common.{ℕ, ◌+◌, ◌*◌, ◌≤◌}
use Rattle.expr.specs.declared.Join.{Join}
use Rattle.expr.specs.Model.{left}
use Rattle.expr.proofs.parsing.+joined_joined_operand_operand.Given as goal

-- `||` joins what `&&` joins
abbrev rank : Join → ℕ
rank Join.And = 1
rank Join.Or = 3

abbrev pub decreases-joined : goal.decreases-joined
decreases-joined l = 5 * l.depth + rank l.join + 1

abbrev pub decreases-joined_operand : goal.decreases-joined_operand
decreases-joined_operand l = 5 * l.depth + rank l.join

abbrev pub decreases-operand : goal.decreases-operand
decreases-operand l = 5 * l.depth

abbrev pub invariant-joined-loop-join : goal.invariant-joined-loop-join
invariant-joined-loop-join l = left l.tokens ≤ left l.initial.tokens

abbrev pub decreases-joined-loop-join : goal.decreases-joined-loop-join
decreases-joined-loop-join l = left l.tokens
