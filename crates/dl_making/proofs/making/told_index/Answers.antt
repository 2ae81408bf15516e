use Rattle.std.proofs.Common.{inl, inr, refl, ◌<◌, arith, ◌∙◌, ap, sym, subst, ℕ, [], length}
use Rattle.std.specs.List.{All}
use Rattle.std.proofs.lemmas.List.{length-map, length-take}
use Rattle.std.specs.Option.{option_and_then}
use Rattle.dl_sections.specs.RowsTold.{rows_after}
use Rattle.dl_stretch.specs.ToldUnits.{told_of_units}
use Rattle.dl_pack.specs.IndexOf.{files_told, index_of}
use Rattle.dl_pack.specs.Named.{named}
use Rattle.dl_pack.specs.Shown.{files_of, named_files, texts_of}
use Rattle.dl_making.specs.Makes.{id_kept}
use Rattle.dl_making.specs.Making.{code_of, told_after}
use Rattle.dl_pack.specs.Faults.{TellsUnnamed}
use Rattle.dl_pack.specs.Telling.{named_told}
use Rattle.dl_pack.proofs.FaultLemmas.{on_err}
use Rattle.dl_pack.proofs.RoomLemmas.{at_most}
use Rattle.dl_making.proofs.IndexWants.{files_want, index_wants, stretches_wants}
use Rattle.dl_making.proofs.IndexLemmas.{is_index_of, named_is, rise}
use Rattle.dl_making.proofs.NamedFiles.{none_unnamed}
use Rattle.dl_making.proofs.making.told_index.Goals as goal

pub returns-in-Ok-clause-index : goal.returns-in-Ok-clause-index
returns-in-Ok-clause-index g c first start held visits m =
    let t = m.tells c.if-maker.false in
    let names = c.args.maker.now.names in
    let made = c.in-Ok.ensures in
    let stretches = made.some.0 in
    let stands = made.some.1 in
    let are = c.in_ok-stretches.ensures.made (code_of first) t.units (rows_after [] visits) t.stands stretches stands in
    is_index_of c.args.table.now.all (id_kept c.args.table.now) (told_after first visits) (told_of_units (code_of first) t.units)
    c.in-Ok.index.items stretches (files_of names) (texts_of names) (named_files names) are t.once
    (subst (λ (n : ℕ). All (λ file. file < n) (files_told stretches))
    (sym (length-map (files_of names) (named (texts_of names)))) (made.named stretches stands))
    t.tells (made.opens stretches stands (rise stretches are.apart))
    (made.tells stretches stands (rise stretches are.apart))
    (made.made stretches stands
    ∙ ap (λ id. index_of c.args.table.now.all id stretches (files_of names) (texts_of names)) c.id_front.ensures)

pub unreachable-requires : goal.unreachable-requires
unreachable-requires g c =
    let first = c.requires.0 in
    let visits = c.requires.3 in
    let t = c.requires.4.tells c.if-maker.false in
    let names = c.args.maker.now.names in
    let fails = rw c.in-Err-File.field-0-is at c.in-Err-File.ensures.fails in
    let stretches = fails.1.0 in
    let stands = fails.1.1 in
    let are = c.in_ok-stretches.ensures.made (code_of first) t.units (rows_after [] visits) t.stands stretches stands in
    none_unnamed (named_files names) (told_of_units (code_of first) t.units) (told_after first visits) stretches are
    stands.1 t.tells
    (subst (λ n. TellsUnnamed n stretches) (sym (length-map (files_of names) (named (texts_of names)))) fails.1.2)

pub unreachable-requires-in-Err-BuildId : goal.unreachable-requires-in-Err-BuildId
unreachable-requires-in-Err-BuildId g c =
    let fails = rw c.in-Err-BuildId.field-0-is at c.in-Err-BuildId.ensures.fails in
    let short = ap length c.id_front.ensures in
    omega (arith, fails, short, length-take 32 c.args.table.now.build_id.now)

pub returns-then-maker-clause-wants : goal.returns-then-maker-clause-wants
returns-then-maker-clause-wants g c first start held visits m = inl (m.refused c.if-maker.true)

pub returns-in_err-stretches-clause-wants : goal.returns-in_err-stretches-clause-wants
returns-in_err-stretches-clause-wants g c =
    on_err c.from_residual.result (λ first start held visits m.
    inl (stretches_wants first c.args.maker.now start held visits m (m.few c.if-maker.false) c.in_err-stretches.ensures.refused))

pub returns-in-Err-NoMemory-clause-wants : goal.returns-in-Err-NoMemory-clause-wants
returns-in-Err-NoMemory-clause-wants g c first start held visits m =
    let names = c.args.maker.now.names in
    let wants = rw c.in-Err-NoMemory.field-0-is at c.in-Err-NoMemory.ensures.wants in
    inl (elim (wants refl) [
      | inl refused ↦ files_want first c.args.maker.now start held visits m (m.few c.if-maker.false)
          (at_most _ _ _ (omega (arith, length-map (files_of names) (named (texts_of names)))) refused)
      | inr index ↦ index_wants first c.args.maker.now start held visits m (m.few c.if-maker.false) index.0
          (c.in_ok-stretches.ensures.few index.0 index.1) index.2
    ])

pub returns-in-Err-TooMany-clause-wants : goal.returns-in-Err-TooMany-clause-wants
returns-in-Err-TooMany-clause-wants g c first start held visits m =
    let t = m.tells c.if-maker.false in
    let names = c.args.maker.now.names in
    let fails = rw c.in-Err-TooMany.field-0-is at c.in-Err-TooMany.ensures.fails in
    let told = told_of_units (code_of first) t.units in
    let are = c.in_ok-stretches.ensures.made (code_of first) t.units (rows_after [] visits) t.stands fails.1.0 fails.1.1 in
    inr (record {
      stretches = fails.1.0;
      files = files_of names;
      texts = texts_of names;
      right = λ a lt. ap (option_and_then (named_told (named_files names))) (are.right a lt)
          ∙ named_is (named_files names) (told a) (told_after first visits a) (t.tells a lt);
      apart = are.apart;
      starts = fails.1.2;
      once = t.once;
      many = fails.1.3;
    })
