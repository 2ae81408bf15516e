-- Each member stands behind the one before it.
use Rattle.std.proofs.Common.{◌-◌, ◌^◌}
use Rattle.dl_archive.specs.Told.{next_of}
use Rattle.dwline.proofs.members.Walk.walk.Given as goal

abbrev pub decreases-loop-member : goal.decreases-loop-member
decreases-loop-member l = 2 ^ 64 - next_of l.members
