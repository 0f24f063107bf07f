-- Where a line ends, and the lines after it.
use Rattle.std.proofs.Common.{◌≡◌, ℕ, suc, ◌+◌, ◌<◌, ◌≤◌, Bool, true, false, cond, not, eqb, List, [], ◌∷◌, ◌++◌, length, take, drop, sym, refl, ap, ◌∙◌, arith, Option, Some, None, unwrap_or}
use Rattle.std.specs.List.{position_or_len, prefix_len}
use Rattle.std.proofs.lemmas.Bool.Decides.{nat_tests}
use Rattle.std.proofs.lemmas.List.Sums.{position_or_len_is, prefix_len-le-length}
use Rattle.memchr.specs.Find.{IsFirstByte, is_byte}
use Rattle.kconfig.specs.Bytes.{line_len, lines, on_first}

not_true : (b : Bool) → (b ≡ true → ⊥) → b ≡ false
not_true true h = absurd (h refl)
not_true false h = refl

-- what stands before the first line feed is what no line feed is
pub line_len_is : (bs : List ℕ) → prefix_len (λ b. not (eqb b 10)) bs ≡ line_len bs
line_len_is [] = refl
line_len_is (b ∷ bs) = go (eqb b 10) (line_len_is bs)
  where
    go : (t : Bool) → prefix_len (λ b. not (eqb b 10)) bs ≡ line_len bs → cond (not t) (1 + prefix_len (λ b. not (eqb b 10)) bs) 0 ≡ cond t 0 (suc (line_len bs))
    go true ih = refl
    go false ih = omega arith

-- the place of the first line feed, or the length
pub ended : (bs : List ℕ) (r : Option ℕ) → IsFirstByte (is_byte 10) bs r → unwrap_or r (length bs) ≡ line_len bs
ended bs None h =
    let e : position_or_len (λ b. eqb b 10) bs ≡ length bs =
    position_or_len_is (λ b. eqb b 10) bs (length bs) 0 (omega arith) (λ k lt. not_true _ (h k (omega arith) lt)) (λ lt. absurd (omega arith)) in
    sym e ∙ line_len_is bs
ended bs (Some i) h =
    let e : position_or_len (λ b. eqb b 10) bs ≡ i =
    position_or_len_is (λ b. eqb b 10) bs i 0 (omega (arith, h.0.high)) (λ k lt. not_true _ (h.0.before k (omega arith) lt)) (λ lt. h.1) in
    sym e ∙ line_len_is bs

-- the first line feed of a text in two parts
pub line_len_parts : (front back : List ℕ) → line_len (front ++ back) ≡ cond (eqb (line_len front) (length front)) (length front + line_len back) (line_len front)
line_len_parts [] back = let e : 0 + line_len back ≡ line_len back = omega arith in sym e
line_len_parts (b ∷ bs) back = go (eqb b 10) (line_len_parts bs back)
  where
    go : (t : Bool) → line_len (bs ++ back) ≡ cond (eqb (line_len bs) (length bs)) (length bs + line_len back) (line_len bs)
        → cond t 0 (suc (line_len (bs ++ back))) ≡ cond (eqb (cond t 0 (suc (line_len bs))) (suc (length bs))) (suc (length bs) + line_len back) (cond t 0 (suc (line_len bs)))
    go true ih = grind (arith, nat_tests)
    go false ih = grind (arith, nat_tests)

pub line_len_within : (bs : List ℕ) → line_len bs ≤ length bs
line_len_within bs = omega (arith, line_len_is bs, prefix_len-le-length (λ b. not (eqb b 10)) bs)

-- the first line, and the lines after it
pub lines_step : (xs : List ℕ) → 0 < length xs → lines xs ≡ take (line_len xs) xs ∷ lines (drop (line_len xs + 1) xs)
lines_step [] h = absurd (omega arith)
lines_step (b ∷ []) h = go (eqb b 10)
  where
    go : (t : Bool) → cond t ([] ∷ []) ((b ∷ []) ∷ []) ≡ take (cond t 0 1) (b ∷ []) ∷ lines (drop (cond t 0 1 + 1) (b ∷ []))
    go true = refl
    go false = refl
lines_step (b ∷ c ∷ cs) h = go (eqb b 10) (lines_step (c ∷ cs) (omega arith))
  where
    xs : List ℕ
    xs = c ∷ cs

    go : (t : Bool) → lines xs ≡ take (line_len xs) xs ∷ lines (drop (line_len xs + 1) xs)
        → cond t ([] ∷ lines xs) (on_first b (lines xs)) ≡ take (cond t 0 (suc (line_len xs))) (b ∷ xs) ∷ lines (drop (cond t 0 (suc (line_len xs)) + 1) (b ∷ xs))
    go true ih = refl
    go false ih = let e : suc (line_len xs) + 1 ≡ suc (line_len xs + 1) = omega arith in rw e (ap (on_first b) ih)

length-on_first : (b : ℕ) (ls : List (List ℕ)) → length (on_first b ls) ≤ suc (length ls)
length-on_first b [] = omega arith
length-on_first b (l ∷ ls) = omega arith

-- a text has no more lines than bytes
pub length-lines : (xs : List ℕ) → length (lines xs) ≤ length xs
length-lines [] = omega arith
length-lines (b ∷ bs) =
    let further = length-lines bs in
    grind (arith, length-on_first)

pub ruleset sizes = (length-lines)
