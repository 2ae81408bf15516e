use Rattle.dl_buffers.proofs.copying.copy.Given as goal

abbrev pub ghosts-copy_in_memory : goal.ghosts-copy_in_memory
ghosts-copy_in_memory g a = record { refuses = g.M.Memory.refuses a.memory.now }
