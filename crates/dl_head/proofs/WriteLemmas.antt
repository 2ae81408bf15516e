-- What was written is the header, or its first bytes.
use Rattle.std.proofs.Common.{◌≡◌, ℕ, ◌^◌, ◌<◌, true, List, ◌++◌, length, take, Option, Result, Ok, Err, MatchResult}
use Rattle.std.proofs.Common.{ap, subst, ◌∙◌, arith, append_assoc}
use Rattle.std.specs.Io.KnownBytes.{Appends}
use Rattle.dl_num.specs.declared.fixed.Order.{Order}
use Rattle.dl_num.specs.Fixed.{fixed_bytes}
use Rattle.dl_table.specs.declared.counted.HeadWrite.{HeadWrite}
use Rattle.dl_table.specs.declared.counted.HeadWrite.TheVariants.{TooLong, Write}
use Rattle.dl_field.specs.HeaderData.{HeaderData}
use Rattle.dl_table.specs.Value.{offset_size}
use Rattle.dl_head.specs.Spelled.{front_parts}
use Rattle.dl_table.specs.Writing.{IsOut, TellsOut}
use Rattle.dl_head.specs.Writing.{WritesHeader}
use Rattle.dl_table.specs.Written.{table_bytes}
use Rattle.dl_head.specs.Written.{header_bytes, header_length_of, initial_length_bytes, is_within_limit, unit_length_of}

regroup : (a v s l numbers d f : List ℕ) → ((a ++ (v ++ s)) ++ (l ++ numbers)) ++ (d ++ f)
    ≡ a ++ v ++ s ++ l ++ (numbers ++ d ++ f)
regroup a v s l numbers d f = simp append_assoc

pub header_parts : (order : Order) (h : HeaderData) (program_len : ℕ)
    → front_parts order h.params (unit_length_of h program_len) (header_length_of h)
    ++ (table_bytes order h.directories ++ table_bytes order h.files) ≡ header_bytes order h program_len
header_parts order h program_len =
    regroup (initial_length_bytes order h.params.format (unit_length_of h program_len)) _ _
    (fixed_bytes order (offset_size h.params.format) (header_length_of h)) _ (table_bytes order h.directories)
    (table_bytes order h.files)

module _ (order : Order) (h : HeaderData) (program_len : ℕ) (old new : Option (List ℕ)) where
  told : (result : Result ℕ HeadWrite) → is_within_limit h program_len ≡ true
      → length (header_bytes order h program_len) < 2 ^ 64
      → MatchResult result (λ n. IsOut old new (header_bytes order h program_len) n)
      (λ f. TellsOut old new (header_bytes order h program_len) f) → WritesHeader order h program_len old new result
  told (Ok n) within short out = let counted = out.counted in (within, omega arith, out.written)
  told (Err TooLong) within short out = absurd out
  told (Err (Write count)) within short (out, part) =
      let below = part.within in
      let counted = part.counted in
      let same : out ≡ count = omega arith in (
        within,
        omega arith,
        subst (λ (k : ℕ). Appends old new (take k (header_bytes order h program_len))) same
            part.written,
      )

  pub writes_header : (result : Result ℕ HeadWrite) (unit rest : ℕ) → is_within_limit h program_len ≡ true
      → length (header_bytes order h program_len) < 2 ^ 64 → unit ≡ unit_length_of h program_len
      → rest ≡ header_length_of h
      → MatchResult result (λ n. IsOut old new
      (front_parts order h.params unit rest ++ (table_bytes order h.directories ++ table_bytes order h.files)) n)
      (λ f. TellsOut old new (front_parts order h.params unit rest
      ++ (table_bytes order h.directories ++ table_bytes order h.files)) f)
      → WritesHeader order h program_len old new result
  writes_header result unit rest within short unit_is rest_is out =
      let tables = table_bytes order h.directories ++ table_bytes order h.files in
      let parts = ap (λ (u : ℕ). front_parts order h.params u rest ++ tables) unit_is
      ∙ ap (λ (r : ℕ). front_parts order h.params (unit_length_of h program_len) r ++ tables) rest_is
      ∙ header_parts order h program_len in
      told result within short (subst (λ l. MatchResult result (λ n. IsOut old new l n) (λ f. TellsOut old new l f))
      parts out)
