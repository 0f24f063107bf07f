use Rattle.kconfig.proofs.Filled.{filled}
use Rattle.kconfig.proofs.texts.Bytes.new.Goals as goal
use Rattle.std.proofs.Common.{◌≤◌, length, arith}

pub invariant_of-result : goal.invariant_of-result
invariant_of-result g c =
    let few : length c.args.bytes.now ≤ g.row.N = omega arith in
    let is = filled g.row.N c.args.bytes.now few in
    rw c.copy_from_slice.ensures.after (is.fits, is.whole, is.zeros)
