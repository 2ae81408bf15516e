use Rattle.std.proofs.Common.{◌≡◌, ℕ, List, ◌≤◌}
use Rattle.std.specs.List.{filter, range_with_len}
use Rattle.std.specs.Prelude.{nat_le, ◌&&◌, not}
use Rattle.dl_field.specs.HeaderData.{HeaderData}
use Rattle.dl_head.specs.Numbers.{first_number}
use Rattle.dl_table_rules.specs.Keeping.{AreNamed, counted}
use Rattle.dl_table_rules.specs.Unused.{is_among}
use Rattle.dl_table_rules.proofs.files_named.FilesNamed.unused.Given as goal

abbrev pub invariant-loop-place : goal.invariant-loop-place
invariant-loop-place l =
    (l.unused.files ≤ l.place)
    × ((h : HeaderData) (files : List ℕ) → AreNamed l.self h files
    → l.unused ≡ counted (filter (λ n. nat_le 2 n && not (is_among files n)) (range_with_len (first_number h.params) l.place)))
