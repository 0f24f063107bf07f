use Rattle.std.proofs.Common.{◌≡◌, ◌∙◌, arith}
use Rattle.kconfig.specs.Bytes.{line_len}
use Rattle.lines.proofs.Ends.{ended, line_len_within}
use Rattle.lines.proofs.long_line_len.Goals as goal

pub returns-clause-is : goal.returns-clause-is
returns-clause-is c = c.unwrap_or.ensures ∙ ended _ _ c.memchr.ensures

pub returns-clause-within : goal.returns-clause-within
returns-clause-within c =
    let is : c.unwrap_or.result ≡ line_len c.args.back.now = c.unwrap_or.ensures ∙ ended _ _ c.memchr.ensures in
    omega (arith, line_len_within c.args.back.now)
