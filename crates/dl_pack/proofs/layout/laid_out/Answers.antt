use Rattle.std.proofs.Common.{◌≡◌, ◌++◌, ◌-◌, ℕ, Bool, List, length, take, replicate, arith, ap, sym, ◌∙◌, refl, []}
use Rattle.std.specs.Prelude.{if◌then◌else◌}
use Rattle.std.proofs.lemmas.List.{take_all, length-replicate}
use Rattle.dl_memory.proofs.RefusalLemmas.{wants_list}
use Rattle.dl_index.specs.Columns.{size_of}
use Rattle.dl_pack.specs.Written.{room_of, bits_room, bits_in}
use Rattle.dl_pack.proofs.BitPlaces.{bits_none}
use Rattle.dl_pack.proofs.RegionLemmas.{zeros, zeros_laid}
use Rattle.dl_pack.proofs.layout.laid_out.Goals as goal

pub returns-clause-fresh : goal.returns-clause-fresh
returns-clause-fresh g c =
    let p = c.places_of-places.result in
    let h = c.places_of-places.ensures.laid c.in_ok-bytes.ensures.small in
    let front : List ℕ = replicate 128 0 in
    let n = c.args.totals.now.starts.count in
    let zero : c.in_ok-bytes.bytes.items ≡ front = c.in_ok-bytes.ensures.zeros in
    let len : length front ≡ 128 = length-replicate {A = ℕ} 128 0 in
    let more : ℕ = p.end - c.in_ok-bytes.bytes.len in
    let was : c.in_ok-bytes.bytes.len ≡ 128 = c.in_ok-bytes.bytes.ok.0 ∙ ap length zero ∙ len in
    record {
      start = h.start ∙ sym len;
      file = h.file;
      line = h.line;
      column = h.column;
      discriminator = h.discriminator;
      bits = h.bits;
      written = refl;
      bytes = c.resize.ensures.items
          ∙ ap (λ (b : Bool). if b then take p.end c.in_ok-bytes.bytes.items ++ zeros more else c.in_ok-bytes.bytes.items) c.if-is_err.ensures.negation
          ∙ ap (λ f. take p.end f ++ zeros more) zero
          ∙ ap (λ l. l ++ zeros more) (take_all p.end front (omega (arith, c.places_of-places.ensures.room, len)))
          ∙ zeros_laid front (bits_in (bits_room n) []) (room_of n (size_of p.start.width)) (room_of n (size_of p.file.width))
          (room_of n (size_of p.line.width)) (room_of n (size_of p.column.width)) (room_of n (size_of p.discriminator.width))
          (bits_room n) more (bits_none (bits_room n))
          (omega (arith, h.start, h.file, h.line, h.column, h.discriminator, h.bits, h.end, was));
    }

pub returns-in_err-bytes-clause-refused : goal.returns-in_err-bytes-clause-refused
returns-in_err-bytes-clause-refused g c =
    wants_list _ _ _ _ (omega (arith, c.places_of-places.ensures.most)) c.in_err-bytes.ensures.refused

pub returns-clause-len : goal.returns-clause-len
returns-clause-len g c =
    let len = rw c.if-is_err.ensures.negation at c.resize.ensures.len in
    omega (arith, len, c.resize.new.self.ok.0, c.places_of-places.ensures.most)
