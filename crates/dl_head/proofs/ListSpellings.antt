-- The fields that the reader of a table of versions 2 to 4 has taken, and the table that they are.
use Rattle.std.proofs.Common.{◌≡◌, ℕ, ◌*◌, ◌^◌, ◌<◌, ◌≤◌, List, [], length, refl, sym, ap, subst, ◌∙◌, arith}
use Rattle.std.proofs.Props.{props}
use Rattle.std.proofs.Math.Logic.{∥∥₁_elim, ∥∥₁_prop}
use Rattle.dl_num.specs.declared.fixed.Order.TheVariants.{Little}
use Rattle.dl_num.specs.Laws.{AllBytes}
use Rattle.dl_table.specs.declared.form.Format.{Format}
use Rattle.dl_table.specs.declared.table.Pair.{Pair}
use Rattle.dl_table.specs.Held.{table_of}
use Rattle.dl_table.specs.Sound.{IsSoundTable}
use Rattle.dl_table.specs.TableData.{TableData}
use Rattle.dl_table.specs.Value.{Value}
use Rattle.dl_table.proofs.SoundLemmas.{sound_prop}
use Rattle.dl_field.specs.declared.field_step.FieldStep.{FieldStep}
use Rattle.dl_field.specs.declared.list_reader.ListKind.{ListKind}
use Rattle.dl_field.specs.declared.list_reader.ListKind.TheVariants as kind
use Rattle.dl_field.specs.declared.list_reader.ListPhase.TheVariants as list
use Rattle.dl_field.specs.declared.list_reader.ListReader.{ListReader}
use Rattle.dl_field.specs.Layout.{following_all}
use Rattle.dl_field.specs.ListStep.{listed}
use Rattle.dl_field.specs.ListPlace.{IsFreshList, ListAt, ListFollows, AmongList, TakesEachListed, MakesList}
use Rattle.dl_field.proofs.ListLemmas.{list_at, list_held}
use Rattle.dl_field.proofs.TakenLemmas.{count_held}
use Rattle.dl_head.specs.TableSpelt.{alone, Spelt}
use Rattle.dl_head.specs.ListSpelt.{list_alone, ListReads}
use Rattle.dl_head.proofs.TableBytes.{list_begins, list_makes}
use Rattle.dl_head.proofs.ReadTables.{list_is_sound}
use Rattle.dl_head.proofs.ReadValues.{front_bytes}
use Rattle.dl_head.proofs.TableSpellings.{spelt_on, spelt_each}

-- there are no more entries than values
entries_few : (k : ListKind) (entries values : ℕ) → values ≡ entries * length (listed k) → entries ≤ values
entries_few kind.Directories entries values e = omega arith
entries_few kind.Files entries values e = omega arith

-- the values of a table's entries
makes_list : (format : Format) (k : ListKind) (t : ListReader)
    → Spelt Little (list_alone format k) (ListAt t list.Whole format (alone format)) → MakesList t format
makes_list format k t s =
    let is = s.at.0 in
    let held = list_held t format (alone format) (following_all (list_alone format k) s.items) is in
    let read : TableData = record { format = format; pairs = t.pairs.items; entries = is.entries } in
    let count = count_held t.pairs.items t.pool.items t.values.items is.entries is.holds in
    let few : length is.entries < 2 ^ 64 =
    omega (
      arith,
      entries_few t.kind (length is.entries) (length t.values.items)
          (count ∙ ap (λ (pairs : List Pair). length is.entries * length pairs) is.pairs),
      t.values.ok.0,
      t.values.ok.1,
      t.values.small,
    ) in
    let sound = list_is_sound Little format k read s.items s.fields (front_bytes s.fields s.rest s.bytes) few s.spelt
    is.layout_is in
    record {
      rows = held.whole;
      sound = subst (λ (entries : List (List Value)). IsSoundTable
          (record { format = format; pairs = t.pairs.items; entries = entries })) (sym held.rows_are) sound;
    }

module _ (old new : ListReader) (bytes : List ℕ) (result : FieldStep) (small : AllBytes bytes)
    (read : ∥ ListReads old ∥₁) (follows : ListFollows old bytes result new) where
  -- the table is complete, whatever bytes were the last ones
  pub makes_list_pushed : (format : Format) → new.phase ≡ list.Whole → MakesList new format
  makes_list_pushed format e = ∥∥₁_elim read makes_prop λ all.
      let s = (all format).1 in
      makes_list format (all format).0 new (spelt_on _ bytes small s result (list_makes Little format (alone format) _
      s.rest bytes _ old new result follows s.at (λ l w at. list_at new list.Whole format (alone format) l w e at)))
    where
      makes_prop : IsProp (MakesList new format)
      makes_prop = let sound = sound_prop (table_of format new.pairs.items new.values.items new.pool.items) in
          hlevel (props, sound)

  -- it isn't
  pub list_reads_on : (new.phase ≡ list.Whole → ⊥) → ∥ ListReads new ∥₁
  list_reads_on going = ∥∥₁_elim read ∥∥₁_prop λ all. ∣ (λ format.
      let s = (all format).1 in (
        (all format).0,
        spelt_on _ bytes small s result (list_makes Little format (alone format) _ s.rest bytes
            (AmongList format new (alone format)) old new result follows s.at (λ l w at. (at, going))),
      )) ∣₁

-- its paths and numbers are taken
pub list_reads_each : (old new : ListReader) (bytes : List ℕ) → AllBytes bytes → TakesEachListed old bytes new
    → ∥ ListReads old ∥₁ → ∥ ListReads new ∥₁
list_reads_each old new bytes small v read = ∥∥₁_elim read ∥∥₁_prop λ all. ∣ (λ format.
    let s = (all format).1 in
    let t = v Little format in
    let e = t.each (alone format) _ s.rest s.at in
    ((all format).0, spelt_each _ bytes small s t.values e.0 _ _ e.1 t.bytes_are e.2 e.3)) ∣₁

pub fresh_list_reads : (k : ListKind) (t : ListReader) → IsFreshList k t → ∥ ListReads t ∥₁
fresh_list_reads k t is = ∣ (λ format. (
  k,
  record {
    items = [];
    fields = [];
    rest = [];
    bytes = tt;
    spelt = refl;
    at = list_begins k format t (alone format) (list_alone format k) is refl;
  },
)) ∣₁
