use Rattle.std.proofs.Common.{inl, sym, ◌∙◌, arith}
use Rattle.dl_index.specs.IsIndex.{HasMagic}
use Rattle.dl_index.proofs.HeaderLemmas.{field_is, magic_is, whole_front, short_front}
use Rattle.dl_index.proofs.opening.length_told.Goals as goal

pub returns-then-front-lt-HEADER_LEN-clause-length : goal.returns-then-front-lt-HEADER_LEN-clause-length
returns-then-front-lt-HEADER_LEN-clause-length c b same =
    let magic : HasMagic c.args.front.now = c.if-not-has_magic.ensures in
    let less = c.if-front-lt-HEADER_LEN.true in
    let short = short_front c.args.front.now b same (omega arith) in
    ((magic_is c.args.front.now b same magic, inl short), λ header. (let enough = header.len in omega arith))

pub returns-then-version-ne1-clause-length : goal.returns-then-version-ne1-clause-length
returns-then-version-ne1-clause-length c b same =
    let f = c.args.front.now in
    let magic : HasMagic f = c.if-not-has_magic.ensures in
    let enough = c.if-front-lt-HEADER_LEN.false in
    let said = sym (field_is f b same 8 4 (omega arith)) ∙ sym c.number_at-version.ensures in
    let other = c.if-version-ne1.true in (
      (
        magic_is f b same magic,
        whole_front f b same (omega arith),
        said,
        λ one. other one,
      ),
      λ header. other (sym said ∙ header.version),
    )

pub returns-clause-length : goal.returns-clause-length
returns-clause-length c b same =
    let f = c.args.front.now in
    let magic : HasMagic f = c.if-not-has_magic.ensures in
    let enough = c.if-front-lt-HEADER_LEN.false in
    let one = c.if-version-ne1.false in (
      record {
        magic = magic_is f b same magic;
        len = whole_front f b same (omega arith);
        version = sym (field_is f b same 8 4 (omega arith)) ∙ sym c.number_at-version.ensures ∙ one;
      },
      c.long_at.ensures ∙ field_is f b same 16 8 (omega arith),
    )
