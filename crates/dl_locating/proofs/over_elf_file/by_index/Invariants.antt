use Rattle.dl_locating.proofs.over_elf_file.by_index.Given as goal

abbrev pub ghosts-make_index : goal.ghosts-make_index
ghosts-make_index g a = record { refuses = g.M.Memory.refuses a.memory.now }
