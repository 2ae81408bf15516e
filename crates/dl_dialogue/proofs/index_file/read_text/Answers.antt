use Rattle.std.proofs.Common.{length, subst}
use Rattle.dl_elf.specs.Elf.{bytes_at}
use Rattle.dl_elf.specs.Source.{ForBytes}
use Rattle.dl_index_file.specs.Opening.{source_of}
use Rattle.dl_index_file.specs.Shown.{Lies}
use Rattle.dl_dialogue.proofs.TellingLemmas.{text_fails, text_read}
use Rattle.dl_dialogue.proofs.index_file.read_text.Goals as goal

pub returns-in-Some-clause-text : goal.returns-in-Some-clause-text
returns-in-Some-clause-text g c = λ f is below.
    let place = c.in-Some.place in
    rw (c.as_told.ensures, c.in-Some.is) (text_read c.read_text.result c.args.path.now.items c.read_text.new.out.items
    (bytes_at place.offset place.size f) (c.read_text.ensures.bytes f is below))

pub returns-in-Some-clause-fails : goal.returns-in-Some-clause-fails
returns-in-Some-clause-fails g c = λ lies.
    rw c.as_told.ensures (text_fails (g.S.ReadAt.all_bytes (source_of c.args.index.now))
    (g.S.ReadAt.fails_with (source_of c.args.index.now)) (g.M.Memory.refuses c.args.memory.now)
    (length c.args.path.now.items) c.in-Some.place c.read_text.result c.read_text.ensures.fails
    (subst (λ t. ForBytes (g.S.ReadAt.all_bytes (source_of c.args.index.now)) (λ b. Lies b t)) c.in-Some.is lies))
