use Rattle.dl_print.proofs.text.digits.+write_hexadecimal.Given as goal

abbrev pub decreases-write_hexadecimal : goal.decreases-write_hexadecimal
decreases-write_hexadecimal l = l.number
