use Rattle.std.proofs.Common.{◌≡◌, ap, ◌∙◌, sym, subst}
use Rattle.std.specs.Prelude.{option_map, IfErr}
use Rattle.dl_elf.specs.Source.{ForBytes}
use Rattle.dl_index.specs.IsIndex.{IsIndex}
use Rattle.dl_index.specs.Telling.{find_in}
use Rattle.dl_index_file.specs.Finder.{index_of}
use Rattle.dl_index_file.specs.Opening.{source_of}
use Rattle.dl_index_file.specs.Reading.{ReadFails}
use Rattle.dl_making.specs.Telling.{location_told}
use Rattle.dl_dialogue.specs.Asking.{AsksForPath}
use Rattle.dl_dialogue.specs.Faults.{FileFails}
use Rattle.dl_addr.specs.Locations.{location_seen}
use Rattle.dl_dialogue.proofs.StayLemmas.{stays_by}
use Rattle.dl_dialogue.proofs.TellingLemmas.{of_all_bytes}
use Rattle.std.proofs.lemmas.Result.{IfOk-weaker}
use Rattle.dl_dialogue.proofs.index_file.FileFinderTell.tell.Goals as goal

pub returns-in_err-found-clause-stays : goal.returns-in_err-found-clause-stays
returns-in_err-found-clause-stays g c =
    stays_by
    (λ i address told. ForBytes (g.S.ReadAt.all_bytes (source_of i)) (λ b.
    IsIndex b → told ≡ option_map location_told (find_in b address)))
    (λ i error. ReadFails (g.S.ReadAt.all_bytes (source_of i)) (g.S.ReadAt.fails_with (source_of i)) error)
    (λ i n. AsksForPath (g.S.ReadAt.all_bytes (source_of i)) n) index_of _ _
    c.in_err-found.ensures.index

pub returns-clause-stays : goal.returns-clause-stays
returns-clause-stays g c =
    stays_by
    (λ i address told. ForBytes (g.S.ReadAt.all_bytes (source_of i)) (λ b.
    IsIndex b → told ≡ option_map location_told (find_in b address)))
    (λ i error. ReadFails (g.S.ReadAt.all_bytes (source_of i)) (g.S.ReadAt.fails_with (source_of i)) error)
    (λ i n. AsksForPath (g.S.ReadAt.all_bytes (source_of i)) n) index_of _ _
    c.in_ok-found.ensures.index

pub returns-clause-tells : goal.returns-clause-tells
returns-clause-tells g c =
    let known = g.S.ReadAt.all_bytes in
    let same = c.index.ensures ∙ c.in_ok-found.ensures.index in
    of_all_bytes (known (source_of (index_of c.args.self.now))) c.located.result
    (λ b told. IsIndex b → option_map location_seen told ≡ option_map location_told (find_in b c.args.address))
    (λ b is below. IfOk-weaker c.located.result _ _
    (λ told tells. tells c.args.address (c.in_ok-found.ensures.finds b is below))
    (c.located.ensures.tells b (ap (λ i. known (source_of i)) same ∙ is) below))

pub returns-clause-fails : goal.returns-clause-fails
returns-clause-fails g c =
    let known = g.S.ReadAt.all_bytes in
    let same = c.index.ensures ∙ c.in_ok-found.ensures.index in
    subst (λ i. IfErr c.located.result (FileFails (known (source_of i)) (g.S.ReadAt.fails_with (source_of i)) (AsksForPath (known (source_of i)))
    (g.M.Memory.refuses c.args.memory.now))) same
    (c.located.ensures.fails (λ b is below.
    (c.in_ok-found.ensures.finds b (ap (λ i. known (source_of i)) (sym same) ∙ is) below).lie))
