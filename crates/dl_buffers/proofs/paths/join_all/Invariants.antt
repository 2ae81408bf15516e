use Rattle.std.proofs.Common.{◌≡◌, take}
use Rattle.std.specs.List.{concat}
use Rattle.std.specs.Option.{option_copied}
use Rattle.dl_print.specs.ValueText.{strings_of}
use Rattle.dl_buffers.specs.PathsCalls.{ends_from, paths_of}
use Rattle.dl_buffers.specs.UnitCalls.{length_told, written_over}
use Rattle.dl_buffers.proofs.paths.join_all.Given as goal

abbrev pub invariant-loop-i : goal.invariant-loop-i
invariant-loop-i l = record {
  room : l.room ≡ written_over l.initial.room
      (concat (paths_of (strings_of l.strings) (option_copied l.header) (take l.i l.files)));
  ends : l.ends ≡ written_over l.initial.ends
      (ends_from 0 (paths_of (strings_of l.strings) (option_copied l.header) (take l.i l.files)));
  len : l.len ≡ length_told
      (concat (paths_of (strings_of l.strings) (option_copied l.header) (take l.i l.files)));
}
