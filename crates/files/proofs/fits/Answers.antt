use Rattle.std.proofs.Common.{None, arith, leb, length, sym, refl, ap, ◌∙◌}
use Rattle.std.proofs.lemmas.Bool.{le-leb}
use Rattle.std.proofs.lemmas.Slice.Zip.{either_empty_from_Zip}
use Rattle.files.proofs.Written.{none_left}
use Rattle.files.proofs.fits.Goals as goal
use Rattle.files.specs.Lines.{lines_of}

pub returns : goal.returns
returns c =
    let ended = none_left _ _ (either_empty_from_Zip c.loop-symbol.symbol-iterator c.next.new.self None refl c.in-None.ensures.steps) in
    sym (le-leb 0 c.loop-symbol.room (omega arith)) ∙ ap (λ ps. leb (length (lines_of ps)) c.loop-symbol.room) (sym ended) ∙ c.loop-symbol.invariant
