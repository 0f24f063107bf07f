use Rattle.std.proofs.Common.{◌/◌, ◌%◌, [], ◌∷◌, ◌++◌, length, sym, ap, ◌∙◌, append_assoc, arith, rules, length-append}
use Rattle.kconfig.specs.Forms.{digits_in, hex_digit}
use Rattle.bounded.specs.Held.{held}
use Rattle.forms.proofs.Numerals.{hex_one, hex_step, length-hex_one, length-hex_step}
use Rattle.forms.proofs.writing.+add_hex_digits.Goals as goal

pub add-requires : goal.add-requires
add-requires t c = omega (arith, length-hex_one c.args.n (omega arith))

pub returns-then-n-lt16 : goal.returns-then-n-lt16
returns-then-n-lt16 t c =
    c.add.ensures ∙ ap (λ d. held c.args.form.now ++ d ∷ []) c.hex_digit.ensures ∙ ap (λ l. held c.args.form.now ++ l) (sym (hex_one c.args.n (omega arith)))

pub add_hex_digits-requires : goal.add_hex_digits-requires
add_hex_digits-requires t c = (search rules, omega (arith, length-hex_step c.args.n (omega arith) (omega arith)))

pub add-requires-2 : goal.add-requires-2
add-requires-2 t c =
    let a = ap length c.add_hex_digits.ensures in
    omega (arith, length-hex_step c.args.n (omega arith) (omega arith), length-append (held c.args.form.now) (digits_in 16 8 (c.args.n / 16)))

pub returns : goal.returns
returns t c =
    c.add-2.ensures ∙ ap (λ d. held c.add_hex_digits.new.form ++ d ∷ []) c.hex_digit-2.ensures
    ∙ ap (λ l. l ++ hex_digit (c.args.n % 16) ∷ []) c.add_hex_digits.ensures
    ∙ append_assoc (held c.args.form.now) (digits_in 16 8 (c.args.n / 16)) (hex_digit (c.args.n % 16) ∷ [])
    ∙ ap (λ l. held c.args.form.now ++ l) (sym (hex_step c.args.n (omega arith) (omega arith)))
