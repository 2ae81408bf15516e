-- What names stand for.
use Rattle.std.specs.Prelude.{ℕ, List, map}
use Rattle.dl_pack.specs.Named.{Named, named}
use Rattle.dl_pack.specs.declared.names.FileTexts.{FileTexts}
use Rattle.dl_pack.specs.declared.names.Names.{Names}

-- the texts, of which number n is the one at place n - 1
abbrev pub texts_of : Names → List (List ℕ)
texts_of names = map (λ text. text.items) names.texts.keys

-- the files, of which number n is the one at place n
abbrev pub named_files : Names → List Named
named_files names = map (named (texts_of names)) names.files.keys

-- the files as they are kept
abbrev pub files_of : Names → List FileTexts
files_of names = names.files.keys
