use Rattle.std.proofs.Common.{◌≡◌, length}
use Rattle.bounded.specs.Held.{held}
use Rattle.files.proofs.listed.Given as goal

abbrev pub invariant-loop-place : goal.invariant-loop-place
invariant-loop-place l = length (held l.listed) ≡ l.place
