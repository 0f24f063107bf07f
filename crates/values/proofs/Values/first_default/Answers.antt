use Rattle.std.proofs.Common.{rules, ap, ◌∙◌}
use Rattle.std.specs.Slice.Iter.{iter_rest}
use Rattle.std.proofs.lemmas.Iterator.{YieldsList-from_slice}
use Rattle.values.specs.Lookups.{is_default}
use Rattle.values.proofs.Chains.{finds_none, picks_none}
use Rattle.values.proofs.Values.first_default.Goals as goal

pub returns-clause-none : goal.returns-clause-none
returns-clause-none c none =
    finds_none _ _ _ _ _ _ _ c.find.ensures.ran (picks_none _ (λ l. l.now) is_default _ _ _ (YieldsList-from_slice _ (ap iter_rest c.filter_map.ensures.source ∙ c.iter.ensures.rest ∙ c.attributes_of.ensures)) none (λ f x r h t p. search rules))
