-- A line that speaks of a name has eight bytes more than the name, or more.
use Rattle.std.proofs.Common.{◌≡◌, ℕ, ◌+◌, ◌<◌, ◌≤◌, true, false, cond, not, List, [], ◌∷◌, length, take, drop, Some, None, codes, Option, sym, refl, ap, ◌∙◌, subst, take-append-drop, length-append, arith}
use Rattle.std.specs.List.{prefix_len}
use Rattle.std.proofs.lemmas.Grind.{common_steps}
use Rattle.kconfig.specs.Bytes.{every, is_name, is_printable, is_word_byte, strip}
use Rattle.kconfig.specs.Sources.{Statement, unset, assigned, nothing, no_form, assignment, unsetting, other_line, says_set, says_of, says, is_formless}
use Rattle.source.specs.Places.{found_in}
use Rattle.source.proofs.Ends.{strip_split}

-- the name that a statement speaks of has k bytes less than n, or fewer
abbrev Leaves : ℕ → ℕ → Statement → Type 0
Leaves k n (unset w) = length w + k ≤ n
Leaves k n (assigned w form) = length w + k ≤ n
Leaves k n nothing = Unit {0}
Leaves k n no_form = Unit {0}

-- after more bytes in front
leaves_more : (k m n : ℕ) (s : Statement) → Leaves k n s → Leaves (m + k) (m + n) s
leaves_more k m n (unset w) h = omega (arith, h)
leaves_more k m n (assigned w form) h = omega (arith, h)
leaves_more k m n nothing h = tt
leaves_more k m n no_form h = tt

leaves_form : (word rest : List ℕ) (o : Option (List ℕ)) → strip (codes "=") rest ≡ o → Leaves 1 (length word + length rest) (elim o [ None ↦ no_form | Some form ↦ assigned word form ])
leaves_form word rest None e = tt
leaves_form word rest (Some form) e = omega (arith, ap length (strip_split (codes "=") rest form e))

parts : (n : ℕ) (bs : List ℕ) → length (take n bs) + length (drop n bs) ≡ length bs
parts n bs = sym (length-append (take n bs) (drop n bs)) ∙ ap length (take-append-drop n bs)

leaves_assignment : (bs : List ℕ) (n : ℕ) → Leaves 1 (length bs) (assignment bs n)
leaves_assignment bs n =
    let form : Statement = elim (strip (codes "=") (drop n bs)) [ None ↦ no_form | Some form ↦ assigned (take n bs) form ] in
    elim (is_name (take n bs)) as (λ t. Leaves 1 (length bs) (cond t form no_form)) [
      | true ↦ subst (λ m. Leaves 1 m form) (parts n bs) (leaves_form (take n bs) (drop n bs) (strip (codes "=") (drop n bs)) refl)
      | false ↦ tt
    ]

leaves_other : (k n : ℕ) (line : List ℕ) → Leaves k n (other_line line)
leaves_other k n [] = tt
leaves_other k n (b ∷ bs) = grind (arith, common_steps)

leaves_set : (line : List ℕ) (o : Option (List ℕ)) → strip (codes "CONFIG_") line ≡ o → Leaves 8 (length line) (elim o [ None ↦ other_line line | Some bs ↦ assignment bs (prefix_len is_word_byte bs) ])
leaves_set line None e = leaves_other 8 (length line) line
leaves_set line (Some bs) e =
    let says = assignment bs (prefix_len is_word_byte bs) in
    let long : 7 + length bs ≡ length line = omega (arith, ap length (strip_split (codes "CONFIG_") line bs e)) in
    subst (λ m. Leaves 8 m says) long (leaves_more 1 7 (length bs) says (leaves_assignment bs (prefix_len is_word_byte bs)))

leaves_unsetting : (line bs : List ℕ) (n : ℕ) → length bs + 9 ≡ length line → Leaves 8 (length line) (unsetting bs n)
leaves_unsetting line bs n long =
    let fits = parts n bs in
    grind (arith, common_steps)

leaves_of : (line : List ℕ) (o : Option (List ℕ)) → strip (codes "# CONFIG_") line ≡ o → Leaves 8 (length line) (elim o [ None ↦ says_set line | Some bs ↦ unsetting bs (prefix_len is_word_byte bs) ])
leaves_of line None e = leaves_set line (strip (codes "CONFIG_") line) refl
leaves_of line (Some bs) e = leaves_unsetting line bs (prefix_len is_word_byte bs) (omega (arith, ap length (strip_split (codes "# CONFIG_") line bs e)))

leaves_says : (line : List ℕ) → Leaves 8 (length line) (says line)
leaves_says line = elim (every is_printable line) as (λ t. Leaves 8 (length line) (cond t (says_of line) no_form)) [ true ↦ leaves_of line (strip (codes "# CONFIG_") line) refl | false ↦ tt ]

none_in : (name : List ℕ) (at n : ℕ) (s : Statement) → Leaves 8 n s → n < length name + 8 → None ≡ found_in name at n s
none_in name at n (unset w) h short = grind (arith, common_steps)
none_in name at n (assigned w form) h short = grind (arith, common_steps)
none_in name at n nothing h short = refl
none_in name at n no_form h short = refl

-- so a shorter one has no answer for the name
pub too_short : (line name : List ℕ) (at : ℕ) → length line < length name + 8 → None ≡ found_in name at (length line) (says line)
too_short line name at short = none_in name at (length line) (says line) (leaves_says line) short

-- a comment has a form where its bytes are printable
unset_form : (bs : List ℕ) (n : ℕ) → is_formless (unsetting bs n) ≡ false
unset_form bs n = grind (arith, common_steps)

comment_form : (bs : List ℕ) (o : Option (List ℕ)) → is_formless (elim o [ None ↦ says_set (35 ∷ bs) | Some rest ↦ unsetting rest (prefix_len is_word_byte rest) ]) ≡ false
comment_form bs None = refl
comment_form bs (Some rest) = unset_form rest (prefix_len is_word_byte rest)

pub comment_has_form : (bs : List ℕ) → every is_printable (35 ∷ bs) ≡ not (is_formless (says (35 ∷ bs)))
comment_has_form bs = elim (every is_printable (35 ∷ bs)) as (λ t. t ≡ not (is_formless (cond t (says_of (35 ∷ bs)) no_form))) [
  | true ↦ sym (ap not (comment_form bs (strip (codes "# CONFIG_") (35 ∷ bs))))
  | false ↦ refl
]
