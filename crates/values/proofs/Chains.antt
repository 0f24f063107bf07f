-- What chains over items give where none passes a test.
use Rattle.std.proofs.Common.{◌≡◌, ℕ, Bool, true, false, List, [], ◌∷◌, Option, Some, None, ◌||◌, refl, sym, subst, ap, arith}
use Rattle.std.specs.Iterator.{AlwaysYields, Drains, FindsItem, FindsMapped, FoldTurn, FoldsItems, YieldsThen}
use Rattle.std.specs.Iterator.Adapters.{filter_map_source, filter_map_callee, filter_map_steps}
use Rattle.std.specs.List.{FoldsTo, list_any}
use Rattle.std.specs.Option.{IsSome, MatchOption}
use Rattle.std.specs.Fn.{Called}
use Rattle.std.specs.declared.iter.FilterMap.{FilterMap}
use Rattle.std.proofs.lemmas.Iterator.{YieldsList}
use denote.Param.Members.{Mut}
use denote.Ref.{Bor}

both_false : (t r : Bool) → (t || r) ≡ false → (t ≡ false) × (r ≡ false)
both_false true r e = absurd (omega (arith, ap {B = ℕ} (λ b. elim b [ true ↦ 1 | false ↦ 0 ]) e))
both_false false r e = (refl, e)

some_none : {C : Type 0} (c : C) → Some c ≡ None → ⊥
some_none {C} c e = omega (arith, ap {B = ℕ} (λ (o : Option C). elim o [ None ↦ 0 | Some x ↦ 1 ]) e)

-- the case of a `None`
pub at_none : {X N : Type 0} (P : X → Type 0) {o : Option X} → o ≡ None → MatchOption o N P → N
at_none {X} {N} P e m = subst (λ k. MatchOption k N P) e m

module _ {S A B : Type 0} (steps : S → Option A → S → Type 0) (v : A → B) (test : B → Bool) where
  -- what comes is of the list
  comes : (all : List B) (s u : S) (xs : List A) (x : A) → AlwaysYields steps v s all → list_any test all ≡ false → YieldsThen steps s xs (Some x) u → test (v x) ≡ false
  comes [] s u [] x yields none y = absurd (yields x u (subst (λ k. steps k (Some x) u) (sym y.1) y.2))
  comes [] s u (z ∷ zs) x yields none y = absurd (yields z y.1.0 y.1.1)
  comes (b ∷ bs) s u [] x yields none y =
      subst (λ k. test k ≡ false) (sym (yields.1 x u (subst (λ k. steps k (Some x) u) (sym y.1) y.2)).0) (both_false (test b) (list_any test bs) none).0
  comes (b ∷ bs) s u (z ∷ zs) x yields none y =
      comes bs y.1.0 u zs x (yields.1 z y.1.0 y.1.1).1 (both_false (test b) (list_any test bs) none).1 (y.0, y.1.2, y.2)

  -- a closure has no answer where the test fails
  abbrev pub GivesNone : {C F : Type 0} → Mut F (A × Unit {0}) (Option C) → Type 0
  GivesNone {C} {F} g = (f : F) (x : A) (r : Option C) (h : F) → test (v x) ≡ false → Called g f (x, tt) r h → r ≡ None

  module _ {C F : Type 0} (g : Mut F (A × Unit {0}) (Option C)) where
    pub none_mapped : (s u : S) (f : F) (r : Option C) (all : List B) → FindsMapped steps g s f r u → YieldsList steps v s all → list_any test all ≡ false → GivesNone g → r ≡ None
    none_mapped s u f r all w yields none gives = go w.1 w.3 w.5
      where
        go : (o : Option A) → YieldsThen steps s w.0 o u → MatchOption o (r ≡ None) (λ x. (h : F) × Called g w.2 (x, tt) r h) → r ≡ None
        go None y m = m
        go (Some x) y m = gives w.2 x r m.0 (comes all s u w.0 x yields.runs none y) m.1

    none_picked : (all : List B) (s t : FilterMap S F) (c : C) → YieldsList steps v (filter_map_source s) all → list_any test all ≡ false → GivesNone g → filter_map_steps steps g s (Some c) t → ⊥
    none_picked all s t c yields none gives p = go p.1 p.3 p.5
      where
        go : (o : Option A) → YieldsThen steps (filter_map_source s) p.0 o (filter_map_source t)
            → MatchOption o ((Some c ≡ None) × (filter_map_callee t ≡ p.2)) (λ x. Called g p.2 (x, tt) (Some c) (filter_map_callee t) × IsSome (Some c)) → ⊥
        go None y m = some_none c m.0
        go (Some x) y m = some_none c (gives p.2 x (Some c) (filter_map_callee t) (comes all (filter_map_source s) (filter_map_source t) p.0 x yields.runs none y) m.0)

    pub picks_none : (all : List B) (s : FilterMap S F) → YieldsList steps v (filter_map_source s) all → list_any test all ≡ false → GivesNone g → YieldsList (filter_map_steps steps g) (λ c. c) s []
    picks_none all s yields none gives = record { runs = λ c t p. none_picked all s t c yields none gives p }

-- Over nothing
module _ {S A B F : Type 0} (steps : S → Option A → S → Type 0) (v : A → B) where
  pub finds_none : (g : Mut F (Bor A × Unit {0}) Bool) (s t : S) (f : F) (r : Option A) → FindsItem steps g s f r t → YieldsList steps v s [] → r ≡ None
  finds_none g s t f None w none = refl
  finds_none g s t f (Some x) w none = absurd (go w.0 w.2)
    where
      go : (xs : List A) → YieldsThen steps s xs (Some x) t → ⊥
      go [] y = none.runs x t (subst (λ k. steps k (Some x) t) (sym y.1) y.2)
      go (z ∷ zs) y = none.runs z y.1.0 y.1.1

  pub folds_none : {D : Type 0} (g : Mut F (D × (A × Unit {0})) D) (s : S) (f : F) (init r : D) → FoldsItems steps g s f init r → YieldsList steps v s [] → init ≡ r
  folds_none {D} g s f init r w none = go w.0 w.1 w.2 w.3
    where
      go : (xs : List A) (f' : F) → Drains steps s xs → FoldsTo {P = F × D} (FoldTurn g) (f, init) xs (f', r) → init ≡ r
      go [] f' d e = ap (λ (p : F × D). p.1) e
      go (x ∷ xs) f' d e = absurd (none.runs x d.1.1.0 d.1.1.1)
