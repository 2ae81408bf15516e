-- What a note is read as. No promise rests on this file.
use Rattle.std.specs.Prelude.{◌≡◌, ℕ, IsTrue, List}
use Rattle.dl_num.specs.declared.fixed.Order.{Order}
use Rattle.dl_elf.specs.declared.build_id.Note.{Note}
use Rattle.dl_elf.specs.Elf.{bytes_at, number_at}
use Rattle.dl_elf.specs.Notes.{has_note, name_size, description, after_note}

-- it is the first note of these bytes
pub record IsNote (order : Order) (b : List ℕ) (note : Note) : Type 0 where
  pub has : IsTrue (has_note order b)
  pub name : note.name.now ≡ bytes_at 12 (name_size order b) b
  pub kind : note.note_type ≡ number_at order 8 4 b
  pub description : note.description.now ≡ description order b
  pub rest : note.rest.now ≡ after_note order b
