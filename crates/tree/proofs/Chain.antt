-- The guards around something, one by one.
use Rattle.std.proofs.Common.{◌≡◌, ℕ, zero, suc, ◌≤◌, Bool, true, false, cond, ltb, List, [], ◌∷◌, slice_get, Some, None, Option, option_and_then, sym, refl, ap, ◌∙◌, arith}
use Rattle.std.proofs.lemmas.Bool.{ltb-true}
use Rattle.tree.specs.Guards.{earlier, guards_around, guards_from, most, outer_in, outer_of, with_guard}
use Rattle.tree.specs.declared.Guard.{Guard}

-- the next guard outward stands earlier
outer_most : (place : ℕ) (o : Option ℕ) → most (earlier place o) ≤ place
outer_most place None = omega arith
outer_most place (Some q) = go (ltb q place) refl
  where
    go : (t : Bool) → ltb q place ≡ t → most (cond t (Some q) None) ≤ place
    go true e = let below = ltb-true q place e in omega arith
    go false e = omega arith

-- more turns than places change nothing
enough : (n m : ℕ) (next : Option ℕ) (gs : List Guard) → most next ≤ n → most next ≤ m → guards_from n next gs ≡ guards_from m next gs
enough zero zero next gs h k = refl
enough zero (suc m) None gs h k = refl
enough zero (suc m) (Some place) gs h k = absurd (omega arith)
enough (suc n) zero None gs h k = refl
enough (suc n) zero (Some place) gs h k = absurd (omega arith)
enough (suc n) (suc m) None gs h k = refl
enough (suc n) (suc m) (Some place) gs h k = go (slice_get gs place) (λ g. enough n m (outer_of place g) gs (further g n (omega arith)) (further g m (omega arith)))
  where
    further : (g : Guard) (n : ℕ) → place ≤ n → most (outer_of place g) ≤ n
    further g n h = omega (arith, outer_most place g.outer)

    go : (o : Option Guard) → ((g : Guard) → guards_from n (outer_of place g) gs ≡ guards_from m (outer_of place g) gs)
        → with_guard o (λ g. guards_from n (outer_of place g) gs) ≡ with_guard o (λ g. guards_from m (outer_of place g) gs)
    go None ih = refl
    go (Some g) ih = ap (λ l. g ∷ l) (ih g)

pub around_none : (place : ℕ) (gs : List Guard) → slice_get gs place ≡ None → guards_around (Some place) gs ≡ []
around_none place gs e = ap (λ o. with_guard o (λ g. guards_from place (outer_of place g) gs)) e

pub around_some : (place : ℕ) (gs : List Guard) (g : Guard) → slice_get gs place ≡ Some g → guards_around (Some place) gs ≡ g ∷ guards_around (outer_in gs place) gs
around_some place gs g e =
    let outer : outer_of place g ≡ outer_in gs place = sym (ap (option_and_then (outer_of place)) e) in
    ap (λ o. with_guard o (λ g. guards_from place (outer_of place g) gs)) e
    ∙ ap (λ l. g ∷ l) (enough place (most (outer_of place g)) (outer_of place g) gs (outer_most place g.outer) (omega arith))
    ∙ ap (λ o. g ∷ guards_around o gs) outer
