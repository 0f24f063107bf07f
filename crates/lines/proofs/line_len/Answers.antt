use Rattle.std.proofs.Common.{◌≡◌, ◌++◌, rules, ◌∙◌, arith}
use Rattle.std.proofs.lemmas.Bool.Decides.{nat_tests}
use Rattle.kconfig.specs.Bytes.{line_len}
use Rattle.lines.proofs.Ends.{line_len_is, line_len_parts, line_len_within}
use Rattle.lines.proofs.line_len.Goals as goal
use Rattle.lines.proofs.line_len.Goals.{After-short_line_len-len}

whole : (c : After-short_line_len-len) → line_len (c.split_at.result.0.now ++ c.split_at.result.1.now) ≡ line_len c.args.rest.now
whole c = search rules

front : (c : After-short_line_len-len) → c.short_line_len-len.result ≡ line_len c.split_at.result.0.now
front c = c.short_line_len-len.ensures ∙ line_len_is c.split_at.result.0.now

pub returns-then-len-front-clause-is : goal.returns-then-len-front-clause-is
returns-then-len-front-clause-is c =
    let given = (goal.at.returns-then-len-front-clause-is c).After-short_line_len-len in
    let parts = line_len_parts c.split_at.result.0.now c.split_at.result.1.now in
    let w = whole given in
    let f = front given in
    grind (arith, nat_tests)

pub returns-clause-is : goal.returns-clause-is
returns-clause-is c =
    let given = (goal.at.returns-clause-is c).After-short_line_len-len in
    let parts = line_len_parts c.split_at.result.0.now c.split_at.result.1.now in
    let within = line_len_within c.split_at.result.0.now in
    let w = whole given in
    let f = front given in
    let rest = c.long_line_len.ensures.is in
    grind (arith, nat_tests)

pub returns-clause-within : goal.returns-clause-within
returns-clause-within c =
    let is = returns-clause-is c in
    omega (arith, line_len_within c.args.rest.now)
