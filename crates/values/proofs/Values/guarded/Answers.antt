use Rattle.std.proofs.Common.{[], ap, sym, ◌∙◌}
use Rattle.std.proofs.lemmas.Iterator.{YieldsList-from_any_map}
use Rattle.std.proofs.lemmas.Iterator.Consumers.{YieldsList-from_first}
use Rattle.kconfig.specs.Values.{level}
use Rattle.values.proofs.Chains.{folds_none}
use Rattle.values.proofs.Values.guarded.Goals as goal

pub returns : goal.returns
returns c none =
    ap level (sym (folds_none _ _ _ _ _ _ _ c.fold.ensures.ran (YieldsList-from_any_map _ (YieldsList-from_first (λ x. x) (λ guards. guards) [] (c.map.ensures.source ∙ c.guards_around.ensures ∙ none)))))
