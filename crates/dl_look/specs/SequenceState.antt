-- What finders know of the current sequence. No promise rests on this file.
use Rattle.std.specs.Prelude.{ℕ}
use Rattle.dl_look.specs.declared.place.Place.{Place}
use Rattle.dl_look.specs.declared.finders.SequenceStage.{SequenceStage}
use Rattle.dl_look.specs.declared.finders.SequenceStage.TheVariants.{Start, Passed, Open}
use Rattle.dl_look.specs.Answer.{place_of}
use Rattle.dl_look.specs.Slots.{no_place}

-- the place of the last row of a rising sequence, and how many slots are below it
abbrev pub last_of : SequenceStage → Place
last_of Start = no_place
last_of Passed = no_place
last_of (Open last end) = place_of last

abbrev pub end_of : SequenceStage → ℕ
end_of Start = 0
end_of Passed = 0
end_of (Open last end) = end

-- how many stretches there may be, of `count` slots
abbrev pub most_stretches : ℕ → SequenceStage → ℕ
most_stretches count Start = count
most_stretches count Passed = count
most_stretches count (Open last end) = end
