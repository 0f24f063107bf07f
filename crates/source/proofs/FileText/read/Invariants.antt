use Rattle.std.proofs.Common.{◌≡◌, ◌+◌, ◌≤◌, length}
use Rattle.std.specs.Iterator.Adapters.{enumerate_count, enumerate_source}
use Rattle.kconfig.specs.Bytes.{lines}
use Rattle.kconfig.specs.Sources.{first_formless}
use Rattle.source.proofs.FileText.read.Given as goal

abbrev pub invariant-loop-index : goal.invariant-loop-index
invariant-loop-index l =
    (goal.iterator-loop-index).can_next l.index-iterator ×
    (goal.iterator-loop-index).is_finite l.index-iterator ×
    (enumerate_count l.index-iterator + length (enumerate_source l.index-iterator) ≤ 49152) ×
    (first_formless (enumerate_count l.index-iterator + 1) (enumerate_source l.index-iterator) ≡ first_formless 1 (lines l.text))
