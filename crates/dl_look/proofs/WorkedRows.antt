-- Worked rows, computed.
use Rattle.std.proofs.Common.{◌≡◌, ℕ, Bool, true, false, List, [], ◌∷◌, Option, Some, None, refl}
use Rattle.std.specs.Option.{option_map}
use Rattle.dl_rows.specs.declared.row.Row.{Row}
use Rattle.dl_look.specs.Answer.{answer}

abbrev row_at : ℕ → ℕ → Bool → Row
row_at address line end_sequence = record {
  address = address;
  file = 1;
  line = line;
  column = 0;
  isa = 0;
  discriminator = 0;
  op_index = 0;
  is_stmt = true;
  basic_block = false;
  end_sequence = end_sequence;
  prologue_end = false;
  epilogue_begin = false;
}

-- a rising sequence, one that falls, and rows without an end row
abbrev look_up_rows : List Row
look_up_rows =
    row_at 0x10 5 false ∷ row_at 0x10 6 false ∷ row_at 0x14 7 false ∷ row_at 0x18 7 true
    ∷ row_at 0x30 1 false ∷ row_at 0x20 2 false ∷ row_at 0x40 2 true
    ∷ row_at 0x50 1 false ∷ row_at 0x60 1 false ∷ []

abbrev line_at : ℕ → Option ℕ
line_at address = option_map (λ r. r.line) (answer look_up_rows (record { address = address; op_index = 0 }))

of_two_rows_in_one_place_the_last : line_at 0x10 ≡ Some 6
of_two_rows_in_one_place_the_last = refl

up_to_the_next_row : line_at 0x13 ≡ Some 6
up_to_the_next_row = refl

up_to_the_end_row : line_at 0x17 ≡ Some 7
up_to_the_end_row = refl

before_the_first_row : line_at 0x0f ≡ None
before_the_first_row = refl

at_the_end_row : line_at 0x18 ≡ None
at_the_end_row = refl

where_a_sequence_falls : line_at 0x25 ≡ None
where_a_sequence_falls = refl

after_where_it_falls : line_at 0x35 ≡ None
after_where_it_falls = refl

without_an_end_row : line_at 0x55 ≡ None
without_an_end_row = refl
