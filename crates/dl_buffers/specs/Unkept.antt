-- The sink that keeps nothing of units. No promise rests on this file.
use Rattle.std.specs.Prelude.{⊤}
use Rattle.dl_sections.specs.InMemory.{UnitStory}
use Rattle.dl_buffers.specs.declared.checking.Unkept.{Unkept}

abbrev pub unkept_story : UnitStory Unkept
unkept_story = record { hears = λ first now units rows. ⊤; is_done = λ first now units. ⊥ }
