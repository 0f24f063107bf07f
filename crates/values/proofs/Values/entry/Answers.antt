use Rattle.std.proofs.Common.{rules, ap, sym, ◌∙◌}
use Rattle.std.specs.Slice.Iter.{iter_rest}
use Rattle.std.proofs.lemmas.Iterator.{YieldsList-from_slice}
use Rattle.kconfig.specs.Values.{level}
use Rattle.values.specs.Lookups.{is_dependency}
use Rattle.values.proofs.Chains.{folds_none, picks_none}
use Rattle.values.proofs.Values.entry.Goals as goal

pub returns-clause-free : goal.returns-clause-free
returns-clause-free c none around =
    ap level (sym (folds_none _ _ _ _ _ _ _ c.fold-dependency.ensures.ran (picks_none _ (λ l. l.now) is_dependency _ _ _ (YieldsList-from_slice _ (ap iter_rest c.filter_map.ensures.source ∙ c.iter.ensures.rest ∙ c.attributes_of.ensures)) none (λ f x r h t p. search rules))))
    ∙ c.guarded.ensures around
