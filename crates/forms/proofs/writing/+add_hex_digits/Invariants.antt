use Rattle.forms.proofs.writing.+add_hex_digits.Given as goal

abbrev pub decreases-add_hex_digits : goal.decreases-add_hex_digits
decreases-add_hex_digits l = l.n
