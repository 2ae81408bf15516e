use Rattle.std.proofs.Common.{◌≡◌, ◌<◌, ◌++◌, [], ◌∷◌, length, List, ℕ, arith, ap, ap₂, sym, ◌∙◌, length-append}
use Rattle.dl_stretch.specs.declared.stretch.Stretch.{Stretch}
use Rattle.dl_pack.specs.declared.columns.Column.{Column}
use Rattle.dl_pack.specs.declared.columns.Column.TheVariants as kind
use Rattle.dl_pack.specs.Columns.{number_of}
use Rattle.dl_pack.specs.Mentioned.{order_of}
use Rattle.dl_pack.specs.Written.{bits_in, bits_room}
use Rattle.dl_pack.specs.Writing.{column_region}
use Rattle.dl_pack.proofs.WriterLemmas.{column_step, at1, at2, at3, at4, at5, at6, laid_len, written_back}
use Rattle.dl_pack.proofs.writer.ColumnWriterStretchSink.stretch.Goals as goal

pub returns : goal.returns
returns c first list h front count lt fresh le =
    let x : Stretch = c.args.stretch in
    let more : List Stretch = list ++ x ∷ [] in
    let longer = length-append list (x ∷ []) in
    let less : length list < count = omega (arith, longer, le) in
    let w = h front count lt fresh (omega (arith, less)) in
    let same : (k : Column) → number_of c.args.self.now.base (order_of c.args.self.now.files.now) k x
    ≡ number_of first.base (order_of first.files.now) k x =
    λ k. ap₂ (λ b f. number_of b (order_of f) k x) w.base w.files in
    let r1 : List ℕ = column_region first count first.start kind.Start more in
    let r2 : List ℕ = column_region first count first.file kind.File more in
    let r3 : List ℕ = column_region first count first.line kind.Line more in
    let r4 : List ℕ = column_region first count first.column kind.Column more in
    let r5 : List ℕ = column_region first count first.discriminator kind.Discriminator more in
    let o2 : List ℕ = column_region first count first.file kind.File list in
    let o3 : List ℕ = column_region first count first.line kind.Line list in
    let o4 : List ℕ = column_region first count first.column kind.Column list in
    let o5 : List ℕ = column_region first count first.discriminator kind.Discriminator list in
    let b : List ℕ = bits_in (bits_room count) list in
    let s1 = column_step first count list x first.start _ _ kind.Start _ (front ∷ []) (o2 ∷ o3 ∷ o4 ∷ o5 ∷ b ∷ []) _ _ less
    w.start c.put_next.ensures.width c.put_next.ensures.put (c.number_of-start.ensures.number ∙ same kind.Start)
    (c.as_mut_slice-bytes.ensures.value ∙ w.bytes) (at1 first front count fresh more le) in
    let s2 = column_step first count list x first.file _ _ kind.File _ (front ∷ r1 ∷ []) (o3 ∷ o4 ∷ o5 ∷ b ∷ []) _ _ less
    w.file c.put_next-2.ensures.width c.put_next-2.ensures.put (c.number_of.ensures.number ∙ same kind.File)
    s1.0 (at2 first front count fresh more le) in
    let s3 = column_step first count list x first.line _ _ kind.Line _ (front ∷ r1 ∷ r2 ∷ []) (o4 ∷ o5 ∷ b ∷ []) _ _ less
    w.line c.put_next-3.ensures.width c.put_next-3.ensures.put (c.number_of-2.ensures.number ∙ same kind.Line)
    s2.0 (at3 first front count fresh more le) in
    let s4 = column_step first count list x first.column _ _ kind.Column _ (front ∷ r1 ∷ r2 ∷ r3 ∷ []) (o5 ∷ b ∷ []) _ _ less
    w.column c.put_next-4.ensures.width c.put_next-4.ensures.put (c.number_of-3.ensures.number ∙ same kind.Column)
    s3.0 (at4 first front count fresh more le) in
    let s5 = column_step first count list x first.discriminator _ _ kind.Discriminator _ (front ∷ r1 ∷ r2 ∷ r3 ∷ r4 ∷ []) (b ∷ [])
    _ _ less w.discriminator c.put_next-5.ensures.width c.put_next-5.ensures.put
    (c.number_of-4.ensures.number ∙ same kind.Discriminator) s4.0 (at5 first front count fresh more le) in
    let all = c.put_bit.ensures (front ∷ r1 ∷ r2 ∷ r3 ∷ r4 ∷ r5 ∷ []) list (bits_room count) s5.0
    (w.bits ∙ sym (at6 first front count fresh more le)) w.written (omega (arith, less)) in
    let same_len : length c.put_bit.new.bytes ≡ length c.args.self.now.bytes.items =
    ap length all ∙ laid_len first front count fresh more le ∙ sym (laid_len first front count fresh list (omega (arith, less)))
    ∙ sym (ap length w.bytes) in
    record {
      base = w.base;
      files = w.files;
      start = s1.1;
      file = s2.1;
      line = s3.1;
      column = s4.1;
      discriminator = s5.1;
      bits = w.bits;
      written = omega (arith, c.saturating_add-self.ensures, w.written, longer, le, lt);
      bytes = written_back c.args.self.now.bytes.len c.args.self.now.bytes.items c.put_bit.new.bytes
          (omega (arith, c.args.self.now.bytes.ok.0)) same_len ∙ all;
    }
