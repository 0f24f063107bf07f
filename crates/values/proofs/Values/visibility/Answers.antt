use Rattle.std.proofs.Common.{rules, ap, ◌∙◌}
use Rattle.std.proofs.lemmas.Iterator.{YieldsList-from_slice}
use Rattle.kconfig.specs.Values.{level}
use Rattle.values.specs.Lookups.{has_prompt}
use Rattle.values.proofs.Chains.{at_none, none_mapped}
use Rattle.values.proofs.Values.visibility.Goals as goal

pub returns : goal.returns
returns c none =
    ap level (at_none _ (none_mapped _ (λ l. l.now) has_prompt _ _ _ _ _ _ c.find_map-condition.ensures.ran (YieldsList-from_slice _ (c.iter.ensures.rest ∙ c.attributes_of.ensures)) none (λ f x r h t p. search rules)) c.map_or.ensures)
