use Rattle.std.proofs.Common.{◌<◌, ◌^◌, arith, subst, ◌∙◌}
use Rattle.dl_elf.specs.Reader.{ReaderFails}
use Rattle.dl_file.proofs.InflatedLemmas.{begun_bytes, begun_damage, range_few, range_only, stream_not_early}
use Rattle.dl_file.proofs.inflated_reader.InflatedReader.new.Goals as goal

pub invariant_of-result : goal.invariant_of-result
invariant_of-result g c = record {
  follows = ∣ (λ b is. (let few = range_few (g.S.ReadAt.all_bytes c.args.source.now) c.saturating_add.result
      c.saturating_sub.result b is in
      let size : c.args.range.size < 2 ^ 64 = omega arith in
      c.new.ensures.stands b (c.new-stream.ensures.bytes ∙ is) (omega (arith, few, c.saturating_sub.ensures)) size)) ∣₁;
}

pub returns-clause-bytes : goal.returns-clause-bytes
returns-clause-bytes g c = λ f is short.
    begun_bytes c.args.header.now (g.S.ReadAt.all_bytes c.args.source.now) f c.args.range c.saturating_add.result
    c.saturating_sub.result c.new.result.left is short c.saturating_add.ensures c.saturating_sub.ensures
    c.new.ensures.left

pub returns-clause-damage : goal.returns-clause-damage
returns-clause-damage g c = λ f is short.
    begun_damage c.args.header.now (g.S.ReadAt.all_bytes c.args.source.now) f c.args.range c.saturating_add.result
    c.saturating_sub.result is short c.saturating_add.ensures c.saturating_sub.ensures

pub returns-clause-fails : goal.returns-clause-fails
returns-clause-fails g c = λ f is short within error fails.
    let stream = subst (λ (s : _). ReaderFails g.S.ReadAt.all_bytes g.S.ReadAt.fails_with s error) c.new.ensures.stream fails in
    range_only g.S.ReadAt.all_bytes g.S.ReadAt.fails_with c.args.source.now f c.saturating_add.result
    c.saturating_sub.result is short (λ some early. stream_not_early f c.args.range.offset c.args.range.size
    c.args.header.now.stream_offset c.saturating_add.result c.saturating_sub.result within short
    c.saturating_add.ensures c.saturating_sub.ensures some early) error (c.new-stream.ensures.fails error stream)
