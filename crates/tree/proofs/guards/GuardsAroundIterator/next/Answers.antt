use Rattle.std.proofs.Common.{◌≡◌, ◌∷◌, slice_get, Some, sym, ap, ◌∙◌, rules}
use Rattle.tree.proofs.Chain.{around_some}
use Rattle.tree.specs.Guards.{guards_around}
use Rattle.tree.specs.Model.{guards_of}
use Rattle.tree.proofs.guards.GuardsAroundIterator.next.Goals as goal
use Rattle.tree.proofs.guards.GuardsAroundIterator.next.Goals.{After-outer-self-inside}

-- the guard that is given, and the ones around it
step : (c : After-outer-self-inside) → c.args.self.now ≡ c.in_ok-guard.guard ∷ guards_around c.outer-self-inside.result (guards_of c.self.inside.tree.now)
step c =
    let gs = guards_of c.self.inside.tree.now in
    let place = c.in_ok-place.place in
    let here : slice_get gs place ≡ Some c.in_ok-guard.guard = ap (slice_get gs) (sym c.from.ensures) ∙ sym c.get.ensures ∙ c.in_ok-guard.was in
    sym c.self.view_is ∙ ap (λ o. guards_around o gs) c.in_ok-place.was ∙ around_some place gs c.in_ok-guard.guard here
    ∙ ap (λ o. c.in_ok-guard.guard ∷ guards_around o gs) (sym c.outer-self-inside.ensures.is)

pub returns-clause-steps : goal.returns-clause-steps
returns-clause-steps c = step (goal.at.returns-clause-steps c).After-outer-self-inside

pub returns-clause-goes : goal.returns-clause-goes
returns-clause-goes c = let given = step (goal.at.returns-clause-goes c).After-outer-self-inside in search rules
