use Rattle.std.proofs.Common.{ℕ, replicate, ◌++◌, ◌∷◌, [], length, map, arith, ap, ap₂, sym, subst, ◌∙◌, length-append}
use Rattle.std.specs.List.{flat_map}
use Rattle.std.proofs.lemmas.List.{length-replicate}
use Rattle.dl_index.specs.Columns.{size_of}
use Rattle.dl_pack.specs.Columns.{columns_of, padded, part_by, statement_bytes}
use Rattle.dl_pack.specs.IndexOf.{base_of}
use Rattle.dl_pack.specs.Mentioned.{order_of}
use Rattle.dl_pack.specs.Writing.{Written, AreWritten}
use Rattle.dl_pack.proofs.GrowthLemmas.{columns_len}
use Rattle.dl_pack.proofs.LaidLemmas.{counted, numbers_fit, put_all, widths_all}
use Rattle.dl_pack.proofs.WriterLemmas.{written_none}
use Rattle.dl_pack.proofs.layout.with_columns.Goals as goal

pub returns-clause-few : goal.returns-clause-few
returns-clause-few g c = λ list stands. (
    let t = c.args.totals.now in
    let all = c.requires.totals list stands in
    counted t all.0 list all.1 c.requires.good c.in_ok-writer.ensures.few)

pub returns-clause-fits : goal.returns-clause-fits
returns-clause-fits g c = λ list stands. (
    let t = c.args.totals.now in
    let all = c.requires.totals list stands in
    numbers_fit t all.0 list all.1 c.requires.good c.in_ok-writer.ensures.fits)

pub returns-clause-put : goal.returns-clause-put
returns-clause-put g c = λ list stands. (
    let t = c.args.totals.now in
    let first = c.in_ok-writer.writer in
    let now = c.tell.new.sink in
    let front = replicate {A = ℕ} 128 0 in
    let told = c.tell.ensures in
    let all = c.requires.totals list stands in
    let few = c.in_ok-writer.ensures.few in
    let written : AreWritten first now list =
    subst (AreWritten first now) (sym (told.2 list stands)) (told.3 first [] (written_none first)) in
    let w : Written first now front t.starts.count list =
    written front t.starts.count (omega (arith, few)) c.in_ok-writer.ensures.fresh
    (let n = counted t all.0 list all.1 c.requires.good few in omega (arith, n)) in
    put_all t all.0 list all.1 c.requires.good first c.in_ok-writer.ensures.widths now front c.in_ok-writer.ensures.base
    c.in_ok-writer.ensures.files few w)

pub returns-clause-room : goal.returns-clause-room
returns-clause-room g c =
    let list = c.tell.ensures.0 in
    let put = returns-clause-put g c list c.tell.ensures.1 in
    omega (
      arith,
      ap length put,
      length-replicate {A = ℕ} 128 0,
      length-append (replicate {A = ℕ} 128 0)
          (flat_map padded (map (part_by (base_of list) (order_of c.args.totals.now.files.files) list) columns_of)
          ++ padded (statement_bytes list)),
    )

pub returns-clause-widths : goal.returns-clause-widths
returns-clause-widths g c = λ list stands. (
    let t = c.args.totals.now in
    let first = c.in_ok-writer.writer in
    let now = c.tell.new.sink in
    let front = replicate {A = ℕ} 128 0 in
    let told = c.tell.ensures in
    let all = c.requires.totals list stands in
    let few = c.in_ok-writer.ensures.few in
    let written : AreWritten first now list =
    subst (AreWritten first now) (sym (told.2 list stands)) (told.3 first [] (written_none first)) in
    let w : Written first now front t.starts.count list =
    written front t.starts.count (omega (arith, few)) c.in_ok-writer.ensures.fresh
    (let n = counted t all.0 list all.1 c.requires.good few in omega (arith, n)) in
    ap₂ (λ a b. a ∷ b ∷ c.size-3.result ∷ c.size-4.result ∷ c.size-5.result ∷ []) c.size.ensures c.size-2.ensures
    ∙ ap₂ (λ a b. size_of now.start.width ∷ size_of now.file.width ∷ a ∷ b ∷ c.size-5.result ∷ []) c.size-3.ensures
    c.size-4.ensures
    ∙ ap (λ a. size_of now.start.width ∷ size_of now.file.width ∷ size_of now.line.width ∷ size_of now.column.width ∷ a
    ∷ []) c.size-5.ensures
    ∙ widths_all t all.0 list all.1 c.requires.good first c.in_ok-writer.ensures.widths now front
    c.in_ok-writer.ensures.base c.in_ok-writer.ensures.files few w)

pub returns-clause-len : goal.returns-clause-len
returns-clause-len g c =
    let list = c.tell.ensures.0 in
    let put = returns-clause-put g c list c.tell.ensures.1 in
    let order = order_of c.args.totals.now.files.files in
    omega (
      arith,
      ap length put,
      length-replicate {A = ℕ} 128 0,
      length-append (replicate {A = ℕ} 128 0)
          (flat_map padded (map (part_by (base_of list) order list) columns_of) ++ padded (statement_bytes list)),
      columns_len (base_of list) order list,
      returns-clause-few g c list c.tell.ensures.1,
    )
