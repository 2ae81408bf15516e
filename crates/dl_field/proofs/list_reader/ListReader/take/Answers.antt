use Rattle.std.proofs.Common.{sym, subst, ◌∙◌, ap}
use Rattle.dl_field.specs.declared.list_reader.ListReader.{ListReader}
use Rattle.dl_table.specs.TableData.{TableData}
use Rattle.dl_field.specs.declared.list_reader.ListKind.TheVariants as kind
use Rattle.dl_field.specs.ListPlace.{IsFreshList, MakesList}
use Rattle.dl_table.specs.Held.{table_of}
use Rattle.dl_field.proofs.ListLemmas.{list_taken}
use Rattle.dl_field.proofs.list_reader.ListReader.take.Goals as goal

pub of_parts-requires-clause-whole : goal.of_parts-requires-clause-whole
of_parts-requires-clause-whole c =
    (subst (λ (t : ListReader). MakesList t c.args.format) (sym c.replace-pairs.ensures.value)
    (c.requires c.in-Whole.is)).rows

pub of_parts-requires-clause-sound : goal.of_parts-requires-clause-sound
of_parts-requires-clause-sound c =
    (subst (λ (t : ListReader). MakesList t c.args.format) (sym c.replace-pairs.ensures.value)
    (c.requires c.in-Whole.is)).sound

pub returns-in-Whole : goal.returns-in-Whole
returns-in-Whole c =
    let made = c.of_parts.ensures ∙ ap
    (λ (t : ListReader). table_of c.args.format t.pairs.items t.values.items t.pool.items)
    c.replace-pairs.ensures.value in (
      c.in-Whole.is,
      subst (IsFreshList kind.Files) (sym c.replace-pairs.ensures.after) c.new.ensures,
      λ next layout is. list_taken c.args.self.now c.args.format next layout c.of_parts.result is made,
      ap (λ (d : TableData). d.format) made,
    )
