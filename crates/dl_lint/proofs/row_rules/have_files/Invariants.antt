use Rattle.std.proofs.Common.{◌≡◌, ℕ, false, take, true}
use Rattle.std.specs.Prelude.{is_none}
use Rattle.dl_head.specs.Numbers.{file_numbered}
use Rattle.dl_table_rules.specs.Unused.{is_among}
use Rattle.dl_lint.proofs.row_rules.have_files.Given as goal

abbrev pub invariant-loop-number : goal.invariant-loop-number
invariant-loop-number l =
    (number : ℕ) → is_among (take l.number-index l.fn.numbers) number ≡ true → is_none (file_numbered l.fn.header number) ≡ false
