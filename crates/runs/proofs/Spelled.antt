-- The run of a name that was read byte by byte.
use Rattle.std.proofs.Common.{◌≡◌, ℕ, List, Option, length, sym, ap, ◌∙◌}
use Rattle.std.proofs.lemmas.Slice.Eq.{HasBytesAt, text_from_reads}
use Rattle.kconfig.specs.Runs.{run_of_name}
use Rattle.kconfig.specs.declared.Run.{Run}

pub spelled_is : (name text : List ℕ) (r : Option Run) → r ≡ run_of_name text → length name ≡ length text → HasBytesAt name 0 text → r ≡ run_of_name name
spelled_is name text r is long reads = is ∙ ap run_of_name (sym (text_from_reads name text long reads))
