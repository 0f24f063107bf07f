-- What a copy of bytes to the front of zeros leaves.
use Rattle.std.proofs.Common.{◌≡◌, ℕ, ◌≤◌, List, ◌++◌, length, take, drop, replicate, refl, arith, length-append, length-drop}
use Rattle.std.proofs.lemmas.List.{drop-replicate, length-replicate}
use Rattle.std.proofs.Math.Seq.{take-append_seam}
use Rattle.kconfig.specs.Padded.{padded}

pub record IsFilled (n : ℕ) (bytes room : List ℕ) : Type 0 where
  pub fits : length bytes ≤ n
  pub whole : length room ≡ n
  pub zeros : room ≡ padded n (take (length bytes) room)

pub filled : (n : ℕ) (bytes : List ℕ) → length bytes ≤ n → IsFilled n bytes (bytes ++ drop (length bytes) (replicate n 0))
filled n bytes h = record {
  fits = h;
  whole = simp (length-append, length-drop, length-replicate) (omega arith);
  zeros = rw (take-append_seam, drop-replicate) refl;
}
