use Rattle.std.proofs.Common.{Option, Some, None, [], ap, refl, subst, ◌+◌, arith}
use Rattle.std.specs.Prelude.{IfSome, option_map}
use Rattle.dl_path.specs.declared.parts.Parts.{Parts}
use Rattle.dl_path.specs.PathParts.{FromDirectories, HeaderBytesWithin, directory_seen, parts_seen, text_seen}
use Rattle.dl_addr.proofs.KeepLemmas.{on_err}
use Rattle.dl_addr.proofs.RoomLemmas.{put_within}
use Rattle.dl_addr.proofs.TextLemmas.{part_stays, texts_stay}
use Rattle.dl_addr.proofs.texts.keep_parts.Goals as goal

pub returns-in_default-clause-right : goal.returns-in_default-clause-right
returns-in_default-clause-right g c f are from = record {
  base = [];
  directory = [];
  name = None;
  has_base = refl;
  has_directory = refl;
  has_name = refl;
  is = ap (option_map parts_seen) c.in_default.is;
}

pub returns-clause-directories : goal.returns-clause-directories
returns-clause-directories g c f are from =
    let d = subst (λ (o : Option Parts). IfSome o (FromDirectories f)) c.in-Some.is from in
    texts_stay f c.keep_directory-2.new.directories c.keep_directory-2.new.texts.items c.add_text.new.texts.items
    c.add_text.ensures.grows
    (c.in_ok-directory.ensures.directories f (c.in_ok-base.ensures.directories f are d.base) d.directory)

pub returns-clause-right : goal.returns-clause-right
returns-clause-right g c f are from =
    let d = subst (λ (o : Option Parts). IfSome o (FromDirectories f)) c.in-Some.is from in
    let p = c.in-Some.parts in
    let one = c.keep_directory.new.texts.items in
    let two = c.keep_directory-2.new.texts.items in
    let three = c.add_text.new.texts.items in
    let base = directory_seen p.base in
    let directory = directory_seen p.directory in
    record {
      base = base;
      directory = directory;
      name = Some (text_seen p.name);
      has_base = part_stays two three c.in_ok-base.base base c.add_text.ensures.grows
          (part_stays one two c.in_ok-base.base base c.keep_directory-2.ensures.grows
          (c.in_ok-base.ensures.right f are d.base));
      has_directory = part_stays two three c.in_ok-directory.directory directory c.add_text.ensures.grows
          (c.in_ok-directory.ensures.right f (c.in_ok-base.ensures.directories f are d.base) d.directory);
      has_name = ap Some c.in_ok-name.ensures.right;
      is = ap (option_map parts_seen) c.in-Some.is;
    }

pub returns-in_default-clause-put : goal.returns-in_default-clause-put
returns-in_default-clause-put g c count few = put_within c.args.directories.now count (count + 2) (omega arith) few

pub returns-clause-put : goal.returns-clause-put
returns-clause-put g c count few =
    put_within c.keep_directory-2.new.directories (count + 1 + 1) (count + 2) (omega arith)
    (c.in_ok-directory.ensures.put (count + 1) (c.in_ok-base.ensures.put count few))

pub returns-in_err-base-clause-refused : goal.returns-in_err-base-clause-refused
returns-in_err-base-clause-refused g c =
    on_err c.from_residual.result (λ count most few put room within.
    c.in_err-base.ensures.refused count most few (omega (arith, put)) (omega (arith, room))
    (subst (λ (o : Option Parts). IfSome o (HeaderBytesWithin most)) c.in-Some.is within).base)

pub returns-in_err-directory-clause-refused : goal.returns-in_err-directory-clause-refused
returns-in_err-directory-clause-refused g c =
    on_err c.from_residual-in_err-directory.result (λ count most few put room within.
    c.in_err-directory.ensures.refused (count + 1) most (c.in_ok-base.ensures.put count few) (omega (arith, put))
    (omega (arith, room, c.in_ok-base.ensures.few))
    (subst (λ (o : Option Parts). IfSome o (HeaderBytesWithin most)) c.in-Some.is within).directory)

pub returns-in_err-name-clause-refused : goal.returns-in_err-name-clause-refused
returns-in_err-name-clause-refused g c =
    on_err c.from_residual-in_err-name.result (λ count most few put room within.
    c.in_err-name.ensures.refused most (omega (arith, room, c.in_ok-base.ensures.few, c.in_ok-directory.ensures.few))
    (subst (λ (o : Option Parts). IfSome o (HeaderBytesWithin most)) c.in-Some.is within).name)
