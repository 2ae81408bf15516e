use Rattle.std.proofs.Common.{◌≡◌, ◌+◌, arith, length, min, subst, sym}
use Rattle.dl_info.specs.Entries.{entry}
use Rattle.dl_info.specs.Section.{section_of}
use Rattle.dl_dirs.specs.declared.places.Places.{Places}
use Rattle.dl_dirs.specs.Holding.{Fits}
use Rattle.dl_dirs.specs.Standing.{passed}
use Rattle.dl_dirs.proofs.KeepLemmas.{fewer, fits_more, fits_passed, on_err}
use Rattle.dl_dirs.proofs.SizeLemmas.{found_sized}
use Rattle.dl_dirs.proofs.walk.read.Goals as goal
use Rattle.dl_dirs.proofs.walk.read.Goals.{in-Found+in_ok-add-in-Found, in-Unreadable}

pub returns-in_err-add-in-Found-clause-refused : goal.returns-in_err-add-in-Found-clause-refused
returns-in_err-add-in-Found-clause-refused g c over fits es h =
    let front = c.args.front.now in
    let s = found_sized c.args.places.now.order (section_of c.args.abbreviations.now) front (entry c.in-Found.entry)
    (sym c.in-Found.ensures.entry) in
    let size = min s.l.size (length front) in
    on_err c.from_residual.result _
    (fewer (g.M.Memory.refuses c.args.memory.now) (over + size) (over + length front) (omega arith)
    (c.in_err-add-in-Found.ensures.refused over size fits s.some s.few es h))

pub returns-clause-few : goal.returns-clause-few
returns-clause-few g c over fits =
    let front = c.args.front.now in
    let old = c.args.places.now in
    elim c.match-first_entry.branch [
      | in-Found+in_ok-add-in-Found w ↦
          let s = found_sized old.order (section_of c.args.abbreviations.now) front (entry w.in-Found.entry)
          (sym w.in-Found.ensures.entry) in
          let size = min s.l.size (length front) in
          fits_passed c.match-first_entry.places over c.match-first_entry.places.order old.order front (entry w.in-Found.entry)
          c.unit_length.result s
          (subst (λ (p : Places). p.order ≡ old.order) (sym w.places-is) w.add.ensures.order) c.unit_length.ensures
          (subst (λ (p : Places). Fits p (over + size)) (sym w.places-is)
          (w.in_ok-add-in-Found.ensures.few over size fits s.some s.few))
      | in-Unreadable w ↦
          subst (λ (p : Places). Fits p (over + passed c.unit_length.result front)) (sym w.places-is)
          (fits_more old over (over + passed c.unit_length.result front) (omega arith) fits)
    ]
