use Rattle.std.proofs.Common.{◌++◌, ℕ, List, take}
use Rattle.dl_field.specs.HeaderData.{HeaderData}
use Rattle.dl_table_rules.specs.Keeping.{AreNamed}
use Rattle.dl_table_rules.proofs.files_named.FilesNamed.name_each.Given as goal

abbrev pub invariant-loop-file : goal.invariant-loop-file
invariant-loop-file l =
    (h : HeaderData) (before : List ℕ) → AreNamed l.fn.self h before → AreNamed l.self h (before ++ take l.file-index l.fn.files)
