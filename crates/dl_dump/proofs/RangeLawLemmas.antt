-- Whether a sequence covers a place of a range.
use Rattle.std.proofs.Common.{◌≡◌, ◌&&◌, ◌+◌, Bool, true, false, arith, refl, subst, sym, ap}
use Rattle.std.proofs.lemmas.Bool.Decides.{nat_tests}
use Rattle.std.specs.Prelude.{nat_lt, if◌then◌else◌}
use Rattle.dl_look.specs.Answer.{first_place, is_at_most, is_below, last_place}
use Rattle.dl_look.specs.Ranges.{is_in}
use Rattle.dl_look.specs.declared.code_ranges.AddressRange.{AddressRange}
use Rattle.dl_look.specs.declared.place.Place.{Place}
use Rattle.dl_dump.specs.RangeLaws.{WantedSequencesCover}
use Rattle.dl_dump.specs.RangeText.{first_within}

module _ (range : AddressRange) (f l : Place) where
  abbrev pub start_of : Place
  start_of = record { address = range.start; op_index = 0 }

  from_start : nat_lt f.address range.start ≡ true → first_within range f ≡ start_of
  from_start below = ap (λ (b : Bool). if b then start_of else f) below

  from_first : nat_lt f.address range.start ≡ false → first_within range f ≡ f
  from_first above = ap (λ (b : Bool). if b then start_of else f) above

  abbrev pub Covered : Place → Type 0
  Covered x = (is_in x.address range ≡ true) × ((is_at_most f x && is_below x l) ≡ true)

  abbrev pub IsCovered : Place → Type 0
  IsCovered m = (is_below m l && nat_lt m.address (range.start + range.size)) ≡ true

  there : (b : Bool) → nat_lt f.address range.start ≡ b → IsCovered (first_within range f) → (x : Place) × Covered x
  there true below covered =
      let c : IsCovered start_of = subst IsCovered (from_start below) covered in
      (start_of, (grind (arith, nat_tests), grind (arith, nat_tests)))
  there false above covered =
      let c : IsCovered f = subst IsCovered (from_first above) covered in
      (f, (grind (arith, nat_tests), grind (arith, nat_tests)))

  back : (b : Bool) → nat_lt f.address range.start ≡ b → (x : Place) → Covered x → IsCovered (first_within range f)
  back true below x (inside, covered) =
      subst IsCovered (sym (from_start below)) (grind (arith, nat_tests))
  back false above x (inside, covered) =
      subst IsCovered (sym (from_first above)) (grind (arith, nat_tests))

pub wanted_cover : WantedSequencesCover
wanted_cover range sequence =
    let f = first_place sequence in
    let l = last_place sequence in (
      λ covered.
          let found = there range f l (nat_lt f.address range.start) refl covered in
          (found.0, found.1.0, found.1.1),
      λ found. back range f l (nat_lt f.address range.start) refl found.0 (found.1, found.2),
    )
