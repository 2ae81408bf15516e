use Rattle.std.proofs.Common.{◌++◌, ◌+◌, arith, ap, length}
use Rattle.std.specs.Prelude.{is_ok}
use Rattle.dl_path.specs.PathTexts.{folder, text_if_any}
use Rattle.dl_pack.specs.Shown.{texts_of}
use Rattle.std.specs.Option.{option_copied}
use Rattle.dl_path.specs.Parts.{path_seen}
use Rattle.dl_making.specs.Few.{AddsFew, path_text}
use Rattle.dl_pack.proofs.FaultLemmas.{on_err}
use Rattle.dl_making.proofs.FewLemmas.{adds_less, adds_more, adds_text, root_few}
use Rattle.dl_making.proofs.TextNumbers.{more_texts, numbered_text, three_texts}
use Rattle.dl_making.proofs.files.path_numbers.Goals as goal

pub returns-clause-texts : goal.returns-clause-texts
returns-clause-texts g c =
    let p = c.args.path in
    let one = texts_of c.folders_number.new.names in
    let two = texts_of c.folders_number-2.new.names in
    let three = texts_of c.add_text.new.self in
    let name = c.in_ok-name.name in
    rw (← c.root_of-root.ensures) (three_texts one two three c.in_ok-before.before c.in_ok-directory.directory name
    (text_if_any (folder c.root_of-root.result.now ++ folder p.base.now)) (text_if_any (folder p.directory.now)) p.name.now
    c.in_ok-before.ensures.text c.in_ok-before.ensures.within c.in_ok-directory.ensures.grows
    c.in_ok-directory.ensures.text c.in_ok-directory.ensures.within
    (more_texts (is_ok c.add_text.result) two three p.name.now c.add_text.ensures.texts)
    (numbered_text three name p.name.now c.in_ok-name.ensures.text.0 c.in_ok-name.ensures.text.1))

-- the root is no longer than the compilation directory
pub returns-in_err-before-clause-refused : goal.returns-in_err-before-clause-refused
returns-in_err-before-clause-refused g c =
    on_err c.from_residual.result (λ most within. (
      c.in_err-before.ensures.refused.0,
      omega (
        arith,
        c.in_err-before.ensures.refused.1,
        ap length c.root_of-root.ensures,
        root_few (option_copied c.args.directory) (path_seen c.args.path),
        within.base,
      ),
      c.in_err-before.ensures.refused.2,
    ))

pub returns-in_err-directory-clause-refused : goal.returns-in_err-directory-clause-refused
returns-in_err-directory-clause-refused g c =
    on_err c.from_residual-in_err-directory.result (λ most within. (
      c.in_err-directory.ensures.refused.0,
      omega (
        arith,
        c.in_err-directory.ensures.refused.1,
        c.in_ok-before.ensures.few.texts_few,
        within.directory,
      ),
      c.in_err-directory.ensures.refused.2,
    ))

pub returns-in_err-name-clause-refused : goal.returns-in_err-name-clause-refused
returns-in_err-name-clause-refused g c =
    on_err c.from_residual-in_err-name.result (λ most within. (
      c.in_err-name.ensures.refused.0,
      omega (
        arith,
        c.in_err-name.ensures.refused.1,
        c.in_ok-before.ensures.few.texts_few,
        c.in_ok-directory.ensures.few.texts_few,
        within.name,
      ),
      c.in_err-name.ensures.refused.2,
    ))

pub returns-clause-few : goal.returns-clause-few
returns-clause-few g c most within =
    let p = c.args.path in
    let root = c.root_of-root.result.now in
    let old = c.args.names.now in
    let one = c.folders_number.new.names in
    let two = c.folders_number-2.new.names in
    let three = c.add_text.new.self in
    let room = path_text (option_copied c.args.directory) most in
    let before : AddsFew 1 0 room old one =
    adds_less old one 1 0 (length root + length p.base.now + 2) 1 0 room (omega arith) (omega arith) (omega (
      arith,
      ap length c.root_of-root.ensures,
      root_few (option_copied c.args.directory) (path_seen p),
      within.base,
    )) c.in_ok-before.ensures.few in
    let directory : AddsFew 1 0 room one two =
    adds_less one two 1 0 (0 + length p.directory.now + 2) 1 0 room (omega arith) (omega arith)
    (omega (arith, within.directory)) c.in_ok-directory.ensures.few in
    let name : AddsFew 1 0 room two three =
    adds_text two three (is_ok c.add_text.result) p.name.now room c.add_text.ensures.texts c.add_text.ensures.files
    (omega (arith, within.name)) in
    adds_more 2 0 1 0 room old two three (adds_more 1 0 1 0 room old one two before directory) name
