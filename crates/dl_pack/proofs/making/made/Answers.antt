use Rattle.std.proofs.Common.{◌≡◌, ◌<◌, ◌^◌, ◌++◌, ℕ, ap, ◌∙◌, sym, replicate, length, map, rules, subst, arith, length-append, refl}
use Rattle.std.specs.List.{flat_map}
use Rattle.std.specs.Prelude.{if◌then◌else◌}
use Rattle.dl_memory.proofs.RefusalLemmas.{wants_fewer}
use Rattle.dl_pack.specs.Columns.{columns_of, padded, width_by}
use Rattle.dl_pack.specs.Fits.{NumbersFit, AreKnown}
use Rattle.dl_pack.specs.IndexOf.{base_of, text_order, tables_by, index_by, body_by}
use Rattle.dl_pack.specs.Mentioned.{order_of}
use Rattle.dl_pack.specs.Shown.{files_of, texts_of}
use Rattle.dl_pack.specs.Tables.{texts_at, total_len}
use Rattle.dl_pack.proofs.LaidLemmas.{ordered}
use Rattle.dl_pack.proofs.WholeLemmas.{made_whole, body_put}
use Rattle.dl_pack.proofs.making.made.Goals as goal

pub fill_header-requires-clause-room : goal.fill_header-requires-clause-room
fill_header-requires-clause-room g c =
    let names = c.args.names.now in
    let tables = flat_map padded (tables_by (order_of c.args.totals.now.files.files) (order_of c.args.texts.now)
    (files_of names) (texts_of names)) in
    let last = ap length c.in_ok-text_bytes.ensures.put in
    omega (
      arith,
      c.in_ok-bytes.ensures.room,
      last,
      length-append c.in_ok-bytes.bytes.items tables,
      c.put_tables.new.bytes.ok.0,
    )

pub returns-clause-made : goal.returns-clause-made
returns-clause-made g c = λ list stands. (
    let t = c.args.totals.now in
    let all = c.requires.totals list stands in
    let names = c.args.names.now in
    let files = files_of names in
    let texts = texts_of names in
    let order = order_of t.files.files in
    let is = ordered t all.0 list all.1 c.requires.good in
    let flags : c.from.result ≡ (if c.args.all then 1 else 0) = search rules in
    made_whole c.args.all c.args.build_id.now order (order_of c.args.texts.now) (text_order files order) list
    files texts c.from.result t.starts.base t.starts.count
    (length c.order.result.now) (length c.order-2.result.now) c.in_ok-text_bytes.text_bytes
    c.in_ok-bytes.widths c.put_tables.new.bytes.items _ flags all.1.starts.base (c.in_ok-bytes.ensures.few list stands)
    (ap length c.order.ensures.order) (ap length c.order-2.ensures.order) c.in_ok-text_bytes.ensures.total
    (c.in_ok-bytes.ensures.widths list stands ∙ ap (λ b. map (width_by b order list) columns_of) (sym all.1.starts.base))
    c.requires.order
    (c.in_ok-text_bytes.ensures.put
    ∙ body_put (replicate {A = ℕ} 128 0) (replicate {A = ℕ} 128 0) _ (base_of list) order (order_of c.args.texts.now) list files texts
    refl (c.in_ok-bytes.ensures.put list stands)
    ∙ ap (λ b. replicate {A = ℕ} 128 0 ++ body_by b order (order_of c.args.texts.now) list files texts)
    (sym all.1.starts.base))
    c.in_ok-fill_header.ensures.whole
    ∙ ap (λ o. index_by c.args.all c.args.build_id.now o (text_order files o) list files texts) is)

pub returns-clause-fits : goal.returns-clause-fits
returns-clause-fits g c = λ list stands. (
    let t = c.args.totals.now in
    let all = c.requires.totals list stands in
    let names = c.args.names.now in
    let files = files_of names in
    let texts = texts_of names in
    let order = order_of t.files.files in
    let is = ordered t all.0 list all.1 c.requires.good in
    record {
      starts = all.1.starts.starts;
      numbers = subst (λ o. NumbersFit (base_of list) o list) is (c.in_ok-bytes.ensures.fits list stands);
      known = subst (AreKnown files (length texts)) is c.requires.known;
      count = (let n = c.in_ok-bytes.ensures.few list stands in omega (arith, n));
      files_few = subst (λ o. length o < 2 ^ 32) (c.order.ensures.order ∙ is) c.order.ensures.few;
      texts_few = subst (λ o. length o < 2 ^ 32) (c.order-2.ensures.order ∙ c.requires.order
          ∙ ap (text_order files) is) c.order-2.ensures.few;
      total = subst (λ o. total_len (texts_at texts o) < 2 ^ 64) (c.requires.order ∙ ap (text_order files) is)
          (subst (λ n. n < 2 ^ 64) c.in_ok-text_bytes.ensures.total (omega arith));
    })

pub returns-in_err-bytes-clause-refused : goal.returns-in_err-bytes-clause-refused
returns-in_err-bytes-clause-refused g c = wants_fewer _ _ _ _ (omega arith) c.in_err-bytes.ensures.refused

pub returns-in_err-text_bytes-clause-refused : goal.returns-in_err-text_bytes-clause-refused
returns-in_err-text_bytes-clause-refused g c =
    wants_fewer _ _ _ _ (omega (arith, c.in_ok-bytes.ensures.len)) c.in_err-text_bytes.ensures.refused

pub returns-in_err-fill_header-clause-refused : goal.returns-in_err-fill_header-clause-refused
returns-in_err-fill_header-clause-refused g c = wants_fewer _ _ _ _ (omega arith) c.in_err-fill_header.ensures.refused
