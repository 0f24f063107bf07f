-- A job sheet whose last path is none.
use Rattle.std.proofs.Common.{◌≡◌, ℕ, List, [], ◌∷◌, Some, None, codes, Option, refl, ap}
use Rattle.kconfig.specs.Sheets.{path_after, run_after, sheet_as, sheet_from, sheet_in}
use Rattle.kconfig.specs.Sources.{bind}

bound_none : {A B : Type 0} (o : Option A) (f : A → Option B) → ((x : A) → f x ≡ None) → bind o f ≡ None
bound_none None f h = refl
bound_none (Some x) f h = h x

from_none : (a b c d : List ℕ) → path_after (codes "answers=") d ≡ None → sheet_from a b c d ≡ None
from_none a b c d e =
    bound_none (run_after a) _ (λ r.
    bound_none (path_after (codes "tree=") b) _ (λ t.
    bound_none (path_after (codes "file=") c) _ (λ f.
    ap (λ o. bind o (λ w. Some (sheet_as r t f w))) e)))

pub no_answers : (a b c d : List ℕ) (more : List (List ℕ)) → path_after (codes "answers=") d ≡ None → sheet_in (a ∷ b ∷ c ∷ d ∷ more) ≡ None
no_answers a b c d [] e = from_none a b c d e
no_answers a b c d (x ∷ xs) e = refl
