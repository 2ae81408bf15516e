-- The parts of bytes by what their header says.
use Rattle.std.proofs.Common.{◌≡◌, ℕ, ◌+◌, ◌-◌, ◌/◌, ◌%◌, min, arith, List, [], take, drop, length, length-drop, ◌≤◌, true, map, sum, subst, slice_index_or, refl, ap}
use Rattle.std.proofs.lemmas.List.{take_all}
use Rattle.dl_index.specs.Columns.{size_of}
use Rattle.dl_index.specs.Layout.{cut_of, sizes, part, rounded, width_in, build_id_len_in}
use Rattle.dl_index.specs.IsIndex.{IsPlaced}
use Rattle.dl_num.specs.Fixed.{is_number_size}
use Rattle.dl_index.specs.declared.width.Width.{Width}
use Rattle.dl_index.specs.declared.width.Width.TheVariants.{One, Two, Four, Eight}
use Rattle.dl_index.specs.Parts.{Reads, header_sizes}
use Rattle.dl_index.specs.declared.header.Header.{Header}

pub sizes_are : {h : Header} {b : List ℕ} → Reads h b → header_sizes h ≡ sizes b
sizes_are r =
    let w = r.widths in
    rw (r.count, r.files, r.texts, r.text_bytes, w.starts, w.files, w.lines, w.columns, w.discriminators)

pub part_by : {h : Header} {b : List ℕ} → Reads h b → (k : ℕ)
    → slice_index_or (cut_of (header_sizes h) (drop 128 b)) k [] ≡ part b k
unfolding part
part_by {b = b} r k = ap (λ n. slice_index_or (cut_of n (drop 128 b)) k []) (sizes_are r)

pub div_ceil-eight : (n : ℕ) → n / 8 + min 1 (n % 8) ≡ (n + 7) / 8
div_ceil-eight n = omega arith

-- the bytes of a range that goes to the end
pub drop_whole : (n : ℕ) (b : List ℕ) → take (length b - n) (drop n b) ≡ drop n b
drop_whole n b = take_all (length b - n) (drop n b) (omega (arith, length-drop n b))

is_size : (w : Width) → is_number_size (size_of w) ≡ true
is_size One = refl
is_size Two = refl
is_size Four = refl
is_size Eight = refl

pub size_said : (w : Width) (n : ℕ) → size_of w ≡ n → is_number_size n ≡ true
size_said w n is = rw (← is) (is_size w)

pub placed_by : {h : Header} {b : List ℕ} → Reads h b → build_id_len_in b ≤ 32
    → 128 + sum (map rounded (header_sizes h)) ≡ length b → IsPlaced b
placed_by {h} {b} r build_id end =
    let w = r.widths in
    record {
      widths =
          rw (
            size_said _ (width_in b 0) w.starts,
            size_said _ (width_in b 1) w.files,
            size_said _ (width_in b 2) w.lines,
            size_said _ (width_in b 3) w.columns,
            size_said _ (width_in b 4) w.discriminators,
          );
      build_id = build_id;
      end = subst (λ s. 128 + sum (map rounded s) ≡ length b) (sizes_are r) end;
    }
