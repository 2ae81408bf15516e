use Rattle.std.proofs.Common.{◌≡◌, ℕ, codes, ◌++◌, refl}
use Rattle.std.proofs.lemmas.Result.{err_from_is_err_and}
use Rattle.dl_table.specs.declared.table.Pair.{Pair}
use Rattle.dl_field.specs.HeaderData.{HeaderData}
use Rattle.dl_path.proofs.PrintLemmas.{loses_front, prints_then}
use Rattle.dl_dump_json.specs.Fields.{formats_members, pair_object}
use Rattle.dl_dump_json.specs.Members.{array_member}
use Rattle.dl_dump_json.proofs.fields.print_formats.Goals as goal

formats_of : (h : HeaderData) → h.params.version ≡ 5 → formats_members h
    ≡ array_member (codes "directory_format") (λ (place : ℕ) (p : Pair). pair_object p) h.directories.pairs
    ++ array_member (codes "file_format") (λ (place : ℕ) (p : Pair). pair_object p) h.files.pairs
unfolding formats_members
formats_of h five = rw five refl

pub returns-in_err-print_format-clause-printed : goal.returns-in_err-print_format-clause-printed
returns-in_err-print_format-clause-printed g c start text h =
    let e = err_from_is_err_and c.from_residual.result c.from_residual.ensures.1 in
    let header = c.args.header.now in
    let five : header.params.version ≡ 5 = rw c.params.ensures.value at c.if-params-ne5.false in
    let a = array_member (codes "directory_format") (λ (place : ℕ) (p : Pair). pair_object p) header.directories.pairs in
    let b = array_member (codes "file_format") (λ (place : ℕ) (p : Pair). pair_object p) header.files.pairs in
    rw (e.1, e.2, formats_of header five) (loses_front _ _ _ a b _
    (rw (c.pairs-directories.ensures, c.directories.ensures) at c.in_err-print_format.ensures.printed) start text h)

pub returns-clause-printed : goal.returns-clause-printed
returns-clause-printed g c =
    let header = c.args.header.now in
    let five : header.params.version ≡ 5 = rw c.params.ensures.value at c.if-params-ne5.false in
    let a = array_member (codes "directory_format") (λ (place : ℕ) (p : Pair). pair_object p) header.directories.pairs in
    let b = array_member (codes "file_format") (λ (place : ℕ) (p : Pair). pair_object p) header.files.pairs in
    rw (formats_of header five) (prints_then _ _ _ _ _ _ a b _
    (rw (c.pairs-directories.ensures, c.directories.ensures) at c.in_ok-print_format.ensures.printed)
    (rw (c.pairs.ensures, c.files.ensures) at c.print_format-2.ensures.printed))
