-- What the index of what a maker was told wants memory for.
use Rattle.std.proofs.Common.{◌≡◌, ℕ, ◌+◌, ◌*◌, ◌≤◌, List, length, Option, arith, subst}
use Rattle.std.proofs.lemmas.List.{length-map}
use Rattle.dl_memory.specs.Refusals.{IsRefused}
use Rattle.dl_print.specs.ValueText.{strings_of}
use Rattle.dl_sections.specs.Section.{Visit}
use Rattle.dl_stretch.specs.declared.stretch.Stretch.{Stretch}
use Rattle.dl_stretch.specs.Kept.{kept_count}
use Rattle.dl_stretch.proofs.StretchCounts.{begun_within}
use Rattle.dl_pack.specs.Named.{named}
use Rattle.dl_pack.specs.Room.{index_room}
use Rattle.dl_pack.specs.Shown.{files_of, named_files, texts_of}
use Rattle.dl_making.specs.declared.maker.Maker.{Maker}
use Rattle.dl_making.specs.Few.{AreFew}
use Rattle.dl_making.specs.Making.{KeepsFew, Making, RefusesAfter}
use Rattle.dl_making.specs.Room.{DirectoriesWithin, making_room}
use Rattle.dl_making.proofs.RoomLemmas.{room_for_few, room_for_index}

module _ {M : Type 0} {refuses : M → ℕ → Type 0} (first now : Maker M) (start held : Option (List ℕ)) (visits : List Visit)
    (s : Making refuses first now start held visits) (few : KeepsFew first now visits) where
  wants : (most : ℕ) → ((directory bytes : ℕ) → DirectoriesWithin directory first.directories → AreFew bytes visits
      → most ≤ making_room (strings_of first.strings.now) directory bytes)
      → IsRefused (refuses now.memory.now) most → RefusesAfter refuses first visits
  wants most within (n, le, refused) = (
    n,
    subst (λ memory. refuses memory n) s.same.memory refused,
    λ directory bytes d are. omega (arith, le, within directory bytes d are),
  )

  -- for its stretches
  pub stretches_wants : IsRefused (refuses now.memory.now) (2 * kept_count now.runs + 1) → RefusesAfter refuses first visits
  stretches_wants =
      wants (2 * kept_count now.runs + 1) (λ directory bytes d are. room_for_few (strings_of first.strings.now) directory bytes
      (2 * kept_count now.runs + 1) (omega (arith, few.kept, are.rows)))

  -- for what is known of its files
  pub files_want : IsRefused (refuses now.memory.now) (length (named_files now.names)) → RefusesAfter refuses first visits
  files_want =
      wants (length (named_files now.names)) (λ directory bytes d are. room_for_few (strings_of first.strings.now) directory bytes
      (length (named_files now.names)) (omega (arith, few.files, begun_within now.runs, few.kept, are.rows)))

  -- for its bytes
  pub index_wants : (list : List Stretch) → length list ≤ 2 * kept_count now.runs
      → IsRefused (refuses now.memory.now) (index_room list (files_of now.names) (texts_of now.names))
      → RefusesAfter refuses first visits
  index_wants list list_few =
      wants (index_room list (files_of now.names) (texts_of now.names))
      (λ directory bytes d are. (let within = begun_within now.runs in
      room_for_index (strings_of first.strings.now) directory bytes list (files_of now.names) (texts_of now.names)
      (omega (arith, list_few, few.kept, are.rows))
      (omega (
        arith,
        length-map (files_of now.names) (named (texts_of now.names)),
        few.files,
        within,
        few.kept,
        are.rows,
      ))
      (omega (arith, few.texts, within, few.kept, are.rows))
      (few.each directory bytes d are)))
