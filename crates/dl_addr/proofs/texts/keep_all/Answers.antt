use Rattle.std.proofs.Common.{[], arith, ap, length, sym, ◌∙◌, append-nil}
use Rattle.dl_addr.proofs.RoomLemmas.{cut_back}
use Rattle.dl_addr.proofs.texts.keep_all.Goals as goal

pub returns-in-Err-clause-grows : goal.returns-in-Err-clause-grows
returns-in-Err-clause-grows g c =
    let old = c.args.paths.now in
    let mid = c.keep_each.new.paths in
    let grown = c.keep_each.ensures.grows in
    let files = cut_back old.files.items mid.files.items c.truncate.new.self.items c.len-files.result grown.files.0
    grown.files.1 (omega (arith, c.len-files.ensures, old.files.ok.0)) c.truncate.ensures.items in
    let texts = cut_back old.texts.items mid.texts.items c.truncate-in-Err.new.self.items c.len-texts.result grown.texts.0
    grown.texts.1 (omega (arith, c.len-texts.ensures, old.texts.ok.0)) c.truncate-in-Err.ensures.items in
    record { files = ([], files ∙ sym (append-nil old.files.items)); texts = ([], texts ∙ sym (append-nil old.texts.items)) }

pub returns-in-Err-clause-no_more : goal.returns-in-Err-clause-no_more
returns-in-Err-clause-no_more g c count few =
    let old = c.args.paths.now in
    let mid = c.keep_each.new.paths in
    let grown = c.keep_each.ensures.grows in
    let files = cut_back old.files.items mid.files.items c.truncate.new.self.items c.len-files.result grown.files.0
    grown.files.1 (omega (arith, c.len-files.ensures, old.files.ok.0)) c.truncate.ensures.items in
    let texts = cut_back old.texts.items mid.texts.items c.truncate-in-Err.new.self.items c.len-texts.result grown.texts.0
    grown.texts.1 (omega (arith, c.len-texts.ensures, old.texts.ok.0)) c.truncate-in-Err.ensures.items in
    record { files = omega (arith, few.files, ap length files); texts = omega (arith, few.texts, ap length texts) }
