use Rattle.std.proofs.Common.{◌+◌, ◌<◌, length, rules}
use Rattle.lexer.proofs.Here.{quote_within}
use Rattle.lexer.proofs.Cursor.quoted.Goals as goal

pub slice_bounds-raw-end : goal.slice_bounds-raw-end
slice_bounds-raw-end c =
    let within : c.in_ok-n.n + (c.args.self.now.at + 1) < length c.args.self.now.line.now = quote_within c.args.self.now.line.now c.args.self.now.at c.in_ok-n.n (search rules) in
    search rules
