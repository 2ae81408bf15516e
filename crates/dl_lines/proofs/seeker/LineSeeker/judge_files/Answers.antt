use Rattle.std.proofs.Common.{◌≡◌, ◌+◌, ◌*◌, ◌≤◌, Some, length, arith, sym, ap, ap₂, subst, ◌∙◌}
use Rattle.std.specs.Option.{option_copied}
use Rattle.dl_dirs.specs.Compilation.{directory_by}
use Rattle.dl_memory.specs.Refusals.{IsRefused}
use Rattle.dl_path.specs.Paths.{beside_table, has_directory_0}
use Rattle.dl_print.specs.ValueText.{strings_of}
use Rattle.dl_addr.proofs.KeepLemmas.{on_err}
use Rattle.dl_addr.proofs.RoomLemmas.{refused_within}
use Rattle.dl_lines.specs.declared.seeker.LineSeeker.{LineSeeker}
use Rattle.dl_lines.specs.Places.{Known, path_in}
use Rattle.dl_lines.specs.Room.{files_count, header_room, path_room}
use Rattle.dl_lines.specs.Searching.{Judging}
use Rattle.dl_lines.specs.Seeking.{known_of}
use Rattle.dl_lines.proofs.JudgeLemmas.{one_room, path_is, room_is}
use Rattle.dl_lines.proofs.HeardLemmas.{no_path_before}
use Rattle.dl_lines.proofs.seeker.LineSeeker.judge_files.Goals as goal

pub returns-in_err-judge_none-clause-refused : goal.returns-in_err-judge_none-clause-refused
returns-in_err-judge_none-clause-refused g c =
    let old = c.args.self.now in
    let h = c.args.header.now in
    on_err c.from_residual.result (λ wanted exact ended rows files j.
    refused_within (g.M.Memory.refuses old.memory.now) (files + 1) (files + header_room (known_of old) c.args.offset h)
    (one_room old c.args.offset h files)
    (c.in_err-judge_none.ensures.refused wanted exact ended (path_in (known_of old) c.args.offset (Some h)) rows files j))

pub returns-in_err-judge_file-clause-refused : goal.returns-in_err-judge_file-clause-refused
returns-in_err-judge_file-clause-refused g c =
    let old = c.args.self.now in
    let h = c.args.header.now in
    let l = c.loop-entry in
    let none = c.judge_none.new.self in
    let first = c.first_number-first.result in
    let known_same : known_of none ≡ known_of old = ap known_of c.in_ok-judge_none.ensures.same in
    let all = l.invariant.same ∙ ap (λ (k : LineSeeker _). record k { searches = l.self.searches }) c.in_ok-judge_none.ensures.same in
    let directory_is = c.beside_table-directory.ensures ∙ ap₂ beside_table c.has_directory_0.ensures c.of.ensures in
    let lt = c.loop-entry-test.true in
    let count : first + l.entry ≤ files_count h = omega (
      arith,
      lt,
      c.len-len.ensures,
      ap (λ t. length t.entries) c.files.ensures,
      c.first_number-first.ensures.value,
    ) in
    on_err c.from_residual-in_err-judge_file.result (λ wanted exact ended rows files j.
    (let told = c.in_ok-judge_none.ensures.judged wanted exact ended (path_in (known_of old) c.args.offset (Some h)) rows files
    (λ file below. no_path_before (known_of old) c.args.offset h file (omega (arith, below, c.first_number-first.ensures.value))) j in
    let started = subst (λ (k : Known). Judging none.searches.items wanted exact ended (path_in k c.args.offset (Some h)) rows
    files first) (sym known_same) told in
    let refused = c.in_err-judge_file.ensures.refused wanted exact ended (path_in (known_of none) c.args.offset (Some h)) rows
    files (l.invariant.judged wanted exact ended rows files started) in
    let n = files + 2 * (first + l.entry)
    + path_room (strings_of l.self.strings.now) (option_copied c.beside_table-directory.result) h + 1 in
    refused_within (g.M.Memory.refuses old.memory.now) n (files + header_room (known_of old) c.args.offset h)
    (room_is old (strings_of l.self.strings.now) (option_copied c.beside_table-directory.result) c.args.offset h files
    (first + l.entry) (ap (λ (k : LineSeeker _). strings_of k.strings.now) all) directory_is count)
    (subst (λ (m : _). IsRefused (g.M.Memory.refuses m) n) (ap (λ (k : LineSeeker _). k.memory.now) all) refused)))

pub loop-entry-preserved : goal.loop-entry-preserved
loop-entry-preserved g c =
    let h = c.args.header.now in
    let l = c.loop-entry in
    let none = c.judge_none.new.self in
    let new = c.judge_file.new.self in
    let first = c.first_number-first.result in
    let lt = c.loop-entry-test.true in
    let directory_is : option_copied c.beside_table-directory.result
    ≡ beside_table (has_directory_0 (Some h)) (directory_by none.directories c.args.offset) =
    c.beside_table-directory.ensures ∙ ap₂ beside_table c.has_directory_0.ensures c.of.ensures
    ∙ ap (λ (k : LineSeeker _). beside_table (has_directory_0 (Some h)) (directory_by k.directories c.args.offset))
    (sym c.in_ok-judge_none.ensures.same) in
    record {
      within = omega (arith, lt);
      same = c.in_ok-judge_file.ensures.same ∙ ap (λ (k : LineSeeker _). record k { searches = new.searches }) l.invariant.same;
      judged = λ wanted exact ended rows files j. (
          let n : first + l.entry + 1 ≡ first + (l.entry + 1) = omega arith in
          subst (Judging new.searches.items wanted exact ended (path_in (known_of none) c.args.offset (Some h)) rows files) n
          (c.in_ok-judge_file.ensures.judged wanted exact ended (path_in (known_of none) c.args.offset (Some h)) rows files
          (path_is none (strings_of l.self.strings.now) (option_copied c.beside_table-directory.result) c.args.offset h
          (first + l.entry) (ap (λ (k : LineSeeker _). strings_of k.strings.now) l.invariant.same) directory_is)
          (l.invariant.judged wanted exact ended rows files j)));
    }

pub returns-clause-judged : goal.returns-clause-judged
returns-clause-judged g c wanted exact ended rows files j =
    let old = c.args.self.now in
    let h = c.args.header.now in
    let l = c.loop-entry in
    let none = c.judge_none.new.self in
    let first = c.first_number-first.result in
    let known_same : known_of none ≡ known_of old = ap known_of c.in_ok-judge_none.ensures.same in
    let le = c.loop-entry-test.false in
    let within = l.invariant.within in
    let count : first + l.entry ≡ files_count h = omega (
      arith,
      le,
      within,
      c.len-len.ensures,
      ap (λ t. length t.entries) c.files.ensures,
      c.first_number-first.ensures.value,
    ) in
    let told = c.in_ok-judge_none.ensures.judged wanted exact ended (path_in (known_of old) c.args.offset (Some h)) rows files
    (λ file below. no_path_before (known_of old) c.args.offset h file (omega (arith, below, c.first_number-first.ensures.value))) j in
    let started = subst (λ (k : Known). Judging none.searches.items wanted exact ended (path_in k c.args.offset (Some h)) rows
    files first) (sym known_same) told in
    subst (λ (k : Known). Judging l.self.searches.items wanted exact ended (path_in k c.args.offset (Some h)) rows files
    (files_count h)) known_same
    (subst (Judging l.self.searches.items wanted exact ended (path_in (known_of none) c.args.offset (Some h)) rows files) count
    (l.invariant.judged wanted exact ended rows files started))
