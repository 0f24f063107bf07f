use Rattle.std.proofs.Common.{rules, ◌∙◌}
use Rattle.std.proofs.lemmas.Iterator.{YieldsList-from_slice}
use Rattle.values.specs.Lookups.{is_range}
use Rattle.values.proofs.Chains.{none_mapped}
use Rattle.values.proofs.Values.first_range.Goals as goal

pub returns-clause-none : goal.returns-clause-none
returns-clause-none c none =
    none_mapped _ (λ l. l.now) is_range _ _ _ _ _ _ c.find_map.ensures.ran (YieldsList-from_slice _ (c.iter.ensures.rest ∙ c.attributes_of.ensures)) none (λ f x r h t p. search rules)
