-- The guards around something, from an innermost one outward.
use Rattle.std.specs.Prelude.{ℕ, zero, suc, List, [], ◌∷◌, Some, None, Option, if◌then◌else◌, nat_lt, option_and_then, slice_get}
use Rattle.tree.specs.declared.Guard.{Guard}

-- the guard next outward of the one at a place, where it stands earlier
abbrev pub earlier : ℕ → Option ℕ → Option ℕ
earlier place None = None
earlier place (Some outer) = if nat_lt outer place then Some outer else None

abbrev pub outer_of : ℕ → Guard → Option ℕ
outer_of place g = earlier place g.outer

abbrev pub outer_in : List Guard → ℕ → Option ℕ
outer_in gs place = option_and_then (outer_of place) (slice_get gs place)

-- a guard with those after it, if it is there
abbrev pub with_guard : Option Guard → (Guard → List Guard) → List Guard
with_guard None after = []
with_guard (Some g) after = g ∷ after g

-- at most n guards from a place outward
abbrev pub guards_from : ℕ → Option ℕ → List Guard → List Guard
guards_from zero next gs = []
guards_from (suc n) None gs = []
guards_from (suc n) (Some place) gs = with_guard (slice_get gs place) (λ g. guards_from n (outer_of place g) gs)

-- each stands earlier than the one inside it, so there are no more of them than places up to the innermost
abbrev pub most : Option ℕ → ℕ
most None = 0
most (Some place) = suc place

abbrev pub guards_around : Option ℕ → List Guard → List Guard
guards_around innermost gs = guards_from (most innermost) innermost gs
