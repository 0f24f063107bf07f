-- The place of an answer holds the answer, within the text.
use Rattle.std.proofs.Common.{◌≡◌, ℕ, zero, suc, ◌+◌, ◌-◌, ◌<◌, ◌≤◌, List, [], ◌∷◌, ◌++◌, length, take, drop, Some, None, Option, Ok, Result, sym, refl, ap, ◌∙◌, Bor, subst, inl, inr, arith, length-append, length-drop, length-take-le, drop-drop}
use Rattle.std.specs.Option.{option_map}
use Rattle.std.proofs.lemmas.List.Prefix.{end_rest}
use Rattle.std.proofs.lemmas.List.{drop_all, drop-take}
use Rattle.std.proofs.lemmas.Bool.{cases_lt}
use Rattle.std.proofs.lemmas.Grind.{common_steps}
use Rattle.kconfig.specs.Bytes.{line_len, lines, on_first}
use Rattle.kconfig.specs.Sources as Rules
use Rattle.kconfig.specs.Sources.{unset, assigned, nothing, no_form, says, or_else, answer_in, last_answer}
use Rattle.lines.proofs.Ends.{line_len_within, lines_step}
use Rattle.source.specs.declared.file.Found.{Found}
use Rattle.kconfig.specs.declared.NoForm.{NoForm}
use Rattle.source.specs.declared.line.Statement.{Statement}
use Rattle.source.specs.Lines.{meaning, said_or_nothing, said_of_name}
use Rattle.source.specs.Places.{found_in, last_found, bytes_at, Inside}
use Rattle.source.proofs.Choice.{mapped_or, or_assoc, or_none, or_is}
use Rattle.source.proofs.Ends.{EndsLine, ends_says}

-- how many bytes lines take, each with a line feed
abbrev pub extent : List (List ℕ) → ℕ
extent [] = 0
extent (l ∷ ls) = length l + 1 + extent ls

form_bytes : (text line front form : List ℕ) (at : ℕ) → line ≡ take (length line) (drop at text) → line ≡ front ++ form
    → take ((at + length line) - (at + (length line - length form))) (drop (at + (length line - length form)) text) ≡ form
form_bytes text line front form at in_text ends =
    let fits = length-append front form in
    let part = drop-take (length line - length form) (length form) (drop at text) in
    let rest = end_rest line form front ends in
    grind (arith, common_steps, drop-drop)

-- the place that a line gives
module _ (name text line : List ℕ) (at : ℕ) where
  found_bytes_in : line ≡ take (length line) (drop at text) → (s : Rules.Statement) → EndsLine s line
      → option_map (bytes_at text) (found_in name at (length line) s) ≡ answer_in name s
  found_bytes_in e (unset w) h = grind (arith, common_steps)
  found_bytes_in e (assigned w form) h = let is = form_bytes text line h.0 form at e h.1 in grind (arith, common_steps)
  found_bytes_in e nothing h = refl
  found_bytes_in e no_form h = refl

  found_inside_in : at + length line ≤ length text → (s : Rules.Statement) → Inside (length text) (found_in name at (length line) s)
  found_inside_in h (unset w) = grind (arith, common_steps)
  found_inside_in h (assigned w form) = grind (arith, common_steps)
  found_inside_in h nothing = tt
  found_inside_in h no_form = tt

-- a form that was read is no longer than its line
pub form_fits : (line : List ℕ) (r : Result (Option Statement) NoForm) (o : Option Statement) (s : Statement) (form : Bor (List ℕ))
    → meaning r ≡ says line → r ≡ Ok o → o ≡ Some s → s.form ≡ Some form → length form.now ≤ length line
form_fits line r o s form read ok some is =
    let e : assigned s.name.now form.now ≡ says line = sym (ap meaning ok ∙ ap said_or_nothing some ∙ ap (said_of_name s.name.now) is) ∙ read in
    let ends : EndsLine (assigned s.name.now form.now) line = subst (λ s. EndsLine s line) (sym e) (ends_says line) in
    omega (arith, ap length ends.1, length-append ends.0 form.now)

inside_or : (n : ℕ) (a b : Option Found) → Inside n a → Inside n b → Inside n (or_else a b)
inside_or n (Some x) b h k = h
inside_or n None b h k = k

-- the place that lines give which begin at `at` of a text
record Placed (name text : List ℕ) (at : ℕ) (ls : List (List ℕ)) : Type 0 where
  inside : Inside (length text) (last_found name at ls)
  bytes : option_map (bytes_at text) (last_found name at ls) ≡ last_answer name ls

module _ (name text : List ℕ) (at : ℕ) where
  -- the line that begins there
  abbrev here : List ℕ
  here = take (line_len (drop at text)) (drop at text)

  length_here : length here ≡ line_len (drop at text)
  length_here = length-take-le (line_len (drop at text)) (drop at text) (line_len_within (drop at text))

  lines_here : at < length text → lines (drop at text) ≡ here ∷ lines (drop (at + (length here + 1)) text)
  lines_here within =
      let some : 0 < length (drop at text) = simp length-drop (omega arith) in
      rw length_here (lines_step (drop at text) some ∙ ap (λ l. here ∷ lines l) (drop-drop (line_len (drop at text) + 1) at text))

  placed_more : at < length text → Placed name text (at + (length here + 1)) (lines (drop (at + (length here + 1)) text)) → Placed name text at (lines (drop at text))
  placed_more within rest =
      let found = found_in name at (length here) (says here) in
      let next = at + (length here + 1) in
      let later = last_found name next (lines (drop next text)) in
      let fits : at + length here ≤ length text = omega (arith, length_here, line_len_within (drop at text), length-drop at text) in
      let in_text : here ≡ take (length here) (drop at text) = sym (ap (λ n. take n (drop at text)) length_here) in
      subst (Placed name text at) (sym (lines_here within)) (record {
        inside = inside_or (length text) later found rest.inside (found_inside_in name text here at fits (says here));
        bytes =
            mapped_or (bytes_at text) later found
            ∙ ap (λ o. or_else o (option_map (bytes_at text) found)) rest.bytes
            ∙ ap (or_else (last_answer name (lines (drop next text)))) (found_bytes_in name text here at in_text (says here) (ends_says here));
      })

  placed_end : length text ≤ at → Placed name text at (lines (drop at text))
  placed_end past = subst (λ l. Placed name text at (lines l)) (sym (drop_all at text past)) (record { inside = tt; bytes = refl })

-- by the number of bytes that are left
placed : (fuel : ℕ) (name text : List ℕ) (at : ℕ) → length text ≤ at + fuel → Placed name text at (lines (drop at text))
placed zero name text at h = placed_end name text at (omega arith)
placed (suc fuel) name text at h =
    elim (cases_lt at (length text)) [
      | inl within ↦ placed_more name text at within (placed fuel name text _ (omega arith))
      | inr past ↦ placed_end name text at past
    ]

pub found_inside : (name text : List ℕ) → Inside (length text) (last_found name 0 (lines text))
found_inside name text = (placed (length text) name text 0 (omega arith)).inside

pub found_bytes : (name text : List ℕ) → option_map (bytes_at text) (last_found name 0 (lines text)) ≡ last_answer name (lines text)
found_bytes name text = (placed (length text) name text 0 (omega arith)).bytes

-- each line and its line feed stand within the text and one more line feed
extent_first : (b : ℕ) (ls : List (List ℕ)) (n : ℕ) → extent ls ≤ n + 1 → extent (on_first b ls) ≤ suc n + 1
extent_first b [] n h = omega arith
extent_first b (l ∷ ls) n h = omega arith

pub extent_lines : (text : List ℕ) → extent (lines text) ≤ length text + 1
extent_lines [] = omega arith
extent_lines (b ∷ bs) =
    let further = extent_lines bs in
    let first = extent_first b (lines bs) (length bs) further in
    grind (arith, common_steps)

pub ruleset places = (extent_lines, found_inside, found_bytes, or_assoc, or_none, or_is)
