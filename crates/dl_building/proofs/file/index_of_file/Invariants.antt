use Rattle.dl_building.proofs.file.index_of_file.Given as goal

abbrev pub ghosts-index_in_memory : goal.ghosts-index_in_memory
ghosts-index_in_memory g a = record { refuses = g.M.Memory.refuses a.memory.now }
