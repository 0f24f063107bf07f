-- What values say of a name, and what the lines of a symbol say.
use Rattle.std.specs.Prelude.{◌≡◌, ℕ, Bool, true, false, List, Some, None, Option, if◌then◌else◌, option_and_then, slice_get}
use Rattle.std.specs.List.{list_any}
use Rattle.std.specs.Option.{option_map}
use Rattle.entries.specs.declared.Attribute.{Attribute}
use Rattle.kconfig.specs.Kinds.{same_kind}
use Rattle.kconfig.specs.declared.Kind.{Kind}
use Rattle.kconfig.specs.declared.Tri.TheVariants.{No}
use Rattle.kconfig.specs.declared.Value.{Value}
use Rattle.tree.specs.Model.{attributes_of, place_of, symbols_of}
use Rattle.tree.specs.declared.AttributeLine.{AttributeLine}
use Rattle.tree.specs.declared.Symbol.{Symbol}
use Rattle.values.specs.Kinds.{kind_in}
use Rattle.values.specs.declared.Values.{Values}

-- the value at a place, n past the table
abbrev pub value_at : Values → ℕ → Value
value_at vs i = elim (slice_get vs.table i) [ None ↦ Value.Tri No | Some v ↦ v ]

-- the value of the first symbol of that name
abbrev pub named_value : Values → List ℕ → Option Value
named_value vs w = option_map (value_at vs) (place_of w (symbols_of vs.tree.now))

abbrev pub of_kind_at : Values → Kind → ℕ → Symbol → Option Value
of_kind_at vs k i s = if same_kind (kind_in s) k then Some (value_at vs i) else None

-- the same, where that symbol is of the kind
abbrev pub named_value_of_kind : Values → Kind → List ℕ → Option Value
named_value_of_kind vs k w =
    option_and_then (λ i. option_and_then (of_kind_at vs k i) (slice_get (symbols_of vs.tree.now) i)) (place_of w (symbols_of vs.tree.now))

-- Lines by what they say

abbrev pub has_prompt : AttributeLine → Bool
has_prompt l = elim l.form [
  | Attribute.Kind k ↦ false
  | Attribute.KindWithPrompt k c ↦ true
  | Attribute.Prompt c ↦ true
  | Attribute.Default v c ↦ false
  | Attribute.DependsOn e ↦ false
  | Attribute.Raise h n c ↦ false
  | Attribute.Range b c ↦ false
]

abbrev pub is_default : AttributeLine → Bool
is_default l = elim l.form [
  | Attribute.Kind k ↦ false
  | Attribute.KindWithPrompt k c ↦ false
  | Attribute.Prompt c ↦ false
  | Attribute.Default v c ↦ true
  | Attribute.DependsOn e ↦ false
  | Attribute.Raise h n c ↦ false
  | Attribute.Range b c ↦ false
]

abbrev pub is_dependency : AttributeLine → Bool
is_dependency l = elim l.form [
  | Attribute.Kind k ↦ false
  | Attribute.KindWithPrompt k c ↦ false
  | Attribute.Prompt c ↦ false
  | Attribute.Default v c ↦ false
  | Attribute.DependsOn e ↦ true
  | Attribute.Raise h n c ↦ false
  | Attribute.Range b c ↦ false
]

abbrev pub is_range : AttributeLine → Bool
is_range l = elim l.form [
  | Attribute.Kind k ↦ false
  | Attribute.KindWithPrompt k c ↦ false
  | Attribute.Prompt c ↦ false
  | Attribute.Default v c ↦ false
  | Attribute.DependsOn e ↦ false
  | Attribute.Raise h n c ↦ false
  | Attribute.Range b c ↦ true
]

-- no line of the symbol is such
abbrev pub NoLine : (AttributeLine → Bool) → Values → Symbol → Type 0
NoLine test vs s = list_any test (attributes_of vs.tree.now s) ≡ false
