-- What the builder of a table tells of a block by its length alone. No promise rests on this file.
use Rattle.std.specs.Prelude.{ℕ, ◌^◌, Bool, false, nat_lt}
use Rattle.dl_table.specs.declared.form.Form.{Form}
use Rattle.dl_table.specs.declared.form.Form.TheVariants as form

abbrev pub fits_block : Form → ℕ → Bool
fits_block form.Block1 len = nat_lt len (2 ^ 8)
fits_block form.Block2 len = nat_lt len (2 ^ 16)
fits_block form.Block4 len = nat_lt len (2 ^ 32)
fits_block form.Block len = nat_lt len (2 ^ 64)
fits_block f len = false
