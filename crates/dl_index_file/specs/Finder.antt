-- In which index addresses are looked up.
use Rattle.dl_index_file.specs.declared.finder.FileFinder.{FileFinder}
use Rattle.dl_index_file.specs.declared.index.IndexFile.{IndexFile}

abbrev pub index_of : {S : Type 0} {g : _} → FileFinder S g → IndexFile S g
index_of f = f.index.now
