use Rattle.std.proofs.Common.{arith}
use Rattle.source.proofs.Placed.{form_fits}
use Rattle.source.proofs.Short.{too_short}
use Rattle.source.proofs.file.found_in.Goals as goal

pub overflow_sub-result : goal.overflow_sub-result
overflow_sub-result c =
    form_fits c.args.line.now _ _ _ c.in-Some.form c.read_line.ensures c.in-Ok-Some.is c.in-Ok-Some.field-0-is c.in-Some.is

pub returns-then-line-name : goal.returns-then-line-name
returns-then-line-name c = too_short c.args.line.now c.args.name.now c.args.at (omega arith)
