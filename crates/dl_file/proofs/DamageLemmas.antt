-- The damage of a section.
use Rattle.std.proofs.Common.{◌≡◌, ℕ, List, Option, Some, None, refl}
use Rattle.dl_file.specs.LineReader.{line_damage, line_stream}
use Rattle.dl_file.specs.declared.content_reader.ContentReader.TheVariants as content
use Rattle.dl_file.specs.declared.line_reader.LineReader.{LineReader}
use Rattle.dl_file.specs.declared.line_reader.LineReader.TheVariants.{File, Held}

-- a section that isn't inflated has none
pub plain_damage : {S : Type 0} {g : _} (all_bytes : S → Option (List ℕ)) (reader : LineReader S g)
    → line_stream reader ≡ None → line_damage all_bytes reader ≡ Some None
plain_damage all_bytes (File (content.Plain section)) is = refl
plain_damage all_bytes (File (content.Inflated stream)) is = absurd (cc is)
plain_damage all_bytes (Held bytes) is = refl
