-- What the bytes come to that a header reader has taken.
use Rattle.std.proofs.Common.{◌≡◌, ℕ, ◌-◌, ◌<◌, ◌≤◌, ◌^◌, true, List, [], ◌∷◌, ◌++◌, length, Option, Some, None, refl}
use Rattle.std.proofs.Common.{sym, ap, subst, ◌∙◌, arith, length-append, append-nil}
use Rattle.std.proofs.lemmas.Bool.{leb-true, ne_eqb}
use Rattle.dl_num.specs.declared.fixed.Order.{Order}
use Rattle.dl_field.specs.Layout.{path_or_end, Layout, initial_length_then, number_then, form_then, value_then}
use Rattle.dl_field.specs.Layout.{foreign_version, last_entry, Item, following_all}
use Rattle.dl_field.specs.ListPlace.{ListAt}
use Rattle.dl_field.specs.declared.list_reader.ListPhase.{ListPhase}
use Rattle.dl_field.specs.declared.list_reader.ListPhase.TheVariants as list
use Rattle.dl_field.specs.declared.list_reader.ListReader.{ListReader}
use Rattle.dl_field.proofs.ListLemmas.{number_layout}
use Rattle.dl_head.specs.declared.dialect.Dialect.{Dialect}
use Rattle.dl_head.specs.declared.reader.byte_field.ByteField.TheVariants as field
use Rattle.dl_field.specs.declared.value_phase.ValuePhase.{ValuePhase}
use Rattle.dl_head.specs.declared.reader.Phase.{Phase}
use Rattle.dl_head.specs.declared.reader.Phase.TheVariants as phase
use Rattle.dl_head.specs.declared.reader.HeadReader.{HeadReader}
use Rattle.dl_head.specs.declared.reader.HeadStep.TheVariants as answer
use Rattle.dl_field.specs.declared.table_reader.TableReader.{TableReader}
use Rattle.dl_field.specs.declared.table_reader.TablePhase.{TablePhase}
use Rattle.dl_field.specs.declared.table_reader.TablePhase.TheVariants as table
use Rattle.dl_field.specs.declared.value_phase.ValuePhase.TheVariants as value
use Rattle.dl_table.specs.declared.form.Format.{Format}
use Rattle.dl_table.specs.declared.fault.FaultKind.{FaultKind}
use Rattle.dl_table.specs.TableData.{TableData}
use Rattle.dl_field.specs.HeaderData.{HeaderData}
use Rattle.dl_head.specs.HeaderLayout.{header_layout, from_end}
use Rattle.dl_head.specs.Header.{Cut, cut, header_end, unit_end, foreign_made, foreign_in, IsHeader}
use Rattle.dl_head.specs.Refusal.{field_overrun, header_overrun, header_decided}
use Rattle.dl_head.specs.HeadStep.{end_near}
use Rattle.dl_field.specs.TablePlace.{TableAt}
use Rattle.dl_head.specs.Place.{AtStart, Early, Past, AtPhase, At, length_item}
use Rattle.dl_num.specs.NumberBytes.{number_bytes}
use Rattle.dl_head.specs.Standing.{Below, IsRead, Live, ending}
use Rattle.dl_head.specs.Reading.{Answers}
use Rattle.dl_field.proofs.FieldLemmas.{none_some}
use Rattle.dl_head.proofs.CutLemmas.{cut_of, cut_sound, Sound}
use Rattle.dl_head.proofs.HeaderLaws.{header_cut}
use Rattle.dl_head.proofs.RefusalLaws.{quiet}
use Rattle.dl_head.proofs.EarlyFields.{foreign_follows, at_length}
use Rattle.dl_head.proofs.OneFieldMore.{lengths_open, some_left}
use Rattle.dl_head.proofs.HeaderEnds.{first_end, end_from, overrun_from, overrun_at, not_at_end, just_at_end, EndIs}
use Rattle.dl_head.proofs.HeaderEnds.{start_end, early_end, before_end, after_end}

-- ---- what stands next

-- a field
abbrev pub IsNext : Layout → Type 0
IsNext (last_entry h) = ⊥
IsNext (foreign_version v) = ⊥
IsNext layout = Unit {0}

next_overrun : (n : ℕ) (items : List Item) (layout : Layout) → IsNext layout
    → header_overrun n items layout ≡ field_overrun n items (header_end items)
next_overrun n items (initial_length_then next) is = refl
next_overrun n items (number_then field next) is = refl
next_overrun n items (form_then next) is = refl
next_overrun n items (value_then format f next) is = refl
next_overrun n items (path_or_end format pairs entries next) is = refl
next_overrun n items (foreign_version v) is = absurd is
next_overrun n items (last_entry h) is = absurd is

next_not_foreign : (layout : Layout) → IsNext layout → foreign_made layout ≡ None
next_not_foreign (initial_length_then next) is = refl
next_not_foreign (number_then field next) is = refl
next_not_foreign (form_then next) is = refl
next_not_foreign (value_then format f next) is = refl
next_not_foreign (path_or_end format pairs entries next) is = refl
next_not_foreign (foreign_version v) is = absurd is
next_not_foreign (last_entry h) is = refl

-- in a table a field follows
pub table_next : (order : Order) (t : TableReader) (p : TablePhase) (format : Format) (next : TableData → Layout)
    (layout : Layout) (rest : List ℕ)
    → TableAt order t p format next layout rest → (p ≡ table.Whole → ⊥) → IsNext layout
table_next order t table.PairCount format next layout rest at going = subst IsNext (sym at.1) tt
table_next order t (table.ContentCode left code) format next layout rest at going = subst IsNext (sym at.1) tt
table_next order t (table.FormCode left content code) format next layout rest at going = subst IsNext (sym at.1) tt
table_next order t (table.EntryCount count) format next layout rest at going = subst IsNext (sym at.1) tt
table_next order t (table.Value at v) format next layout rest is going = on v is
  where
    on : (v : ValuePhase) → TableAt order t (table.Value at v) format next layout rest → IsNext layout
    on (value.Block left) i = rw (i.layout_is, i.at_pair) tt
    on (value.Number f n) i = rw (i.layout_is, i.at_pair) tt
    on (value.Leb n) i = rw (i.layout_is, i.at_pair) tt
    on (value.Text n) i = rw (i.layout_is, i.at_pair) tt
    on (value.Data16 n) i = rw (i.layout_is, i.at_pair) tt
    on (value.BlockLength n) i = rw (i.layout_is, i.at_pair) tt
    on (value.LebBlockLength n) i = rw (i.layout_is, i.at_pair) tt
table_next order t table.Whole format next layout rest at going = absurd (going refl)

-- ---- where the reader is: in a field, in the padding, or after the version of a foreign unit

-- a table of versions 2 to 4 that isn't whole goes on
list_next : (t : ListReader) (p : ListPhase) (format : Format) (next : TableData → Layout) (layout : Layout)
    (rest : List ℕ) → ListAt t p format next layout rest → (p ≡ list.Whole → ⊥) → IsNext layout
list_next t (list.Path start) format next layout rest at going = subst IsNext (sym at.layout_is) tt
list_next t (list.Number left n) format next layout rest at going =
    subst IsNext (sym (number_layout t left n format next layout rest at).1) tt
list_next t list.Whole format next layout rest at going = absurd (going refl)

pub data Place (r : HeadReader) (p : Phase) (items : List Item) : Type 0 where
  in_field : ending p ≡ None → (p ≡ phase.Padding → ⊥) → IsNext (following_all (header_layout r.dialect) items)
      → Place r p items
  in_padding : p ≡ phase.Padding → Past r items (from_end r.params r.directories r.files) → Place r p items
  in_foreign : (v : ℕ) → p ≡ phase.Foreign v → following_all (header_layout r.dialect) items ≡ foreign_version v
      → Place r p items

-- the end isn't known only within the initial length
abbrev IsInitial : List Item → List ℕ → Type 0
IsInitial items rest = (items ≡ []) × (length rest < 12)

-- what is known by the phase
record Known (r : HeadReader) (p : Phase) (items : List Item) (rest : List ℕ) : Type 0 where
  place : Place r p items
  ends : EndIs r items
  initial : r.end ≡ None → IsInitial items rest

module _ (r : HeadReader) (p : Phase) (items : List Item) (rest : List ℕ) (goes : ending p ≡ None)
    (out : p ≡ phase.Padding → ⊥) where
  at_start : AtStart r items → length rest < 12 → Known r p items rest
  at_start at few = record {
    place = in_field goes out (rw at.none tt);
    ends = start_end r items at.none at.end at.overrun;
    initial = λ none. (at.none, few);
  }

  at_early : (is : List Item) → Early r items is → EndIs r items → IsNext (following_all (header_layout r.dialect) is)
      → Known r p items rest
  at_early is e ends next = record {
    place = in_field goes out (rw e.items_are next);
    ends = ends;
    initial = λ none. absurd (none_some none e.end);
  }

  at_late : (layout : Layout) → Past r items layout → IsNext layout → Known r p items rest
  at_late layout e next = record {
    place = in_field goes out (rw e.follows next);
    ends = after_end r items layout e;
    initial = λ none. absurd (none_some none e.end);
  }

known_of : (r : HeadReader) (p : Phase) (items : List Item) (rest : List ℕ) → r.phase ≡ p → AtPhase r p items rest
    → Known r p items rest
known_of r (phase.UnitLength n) items rest e at =
    at_start r _ items rest refl (λ q. absurd cc) at.0 (omega (arith, ap length at.1, at.2, n.operand.lacks))
known_of r (phase.LongUnitLength n) items rest e at = at_start r _ items rest refl (λ q. absurd cc) at.0 (omega (
  arith,
  at.2,
  n.operand.lacks,
  at.1.size,
  ap length at.1.whole,
  length-append at.1.escape (number_bytes n),
))
known_of r phase.Version items rest e at =
    at_early r _ items rest refl (λ q. absurd cc) _ at.0 (early_end r items _ at.0 refl refl) tt
known_of r (phase.VersionEnd first) items rest e at =
    at_early r _ items rest refl (λ q. absurd cc) _ at.0 (early_end r items _ at.0 refl refl) tt
known_of r (phase.HeaderLength n) items rest e at =
    at_early r _ items rest refl (λ q. absurd cc) _ at.0 (before_end r items at.0 at.1)
    (rw (at_length r at.1).follows tt)
known_of r (phase.Byte field.AddressSize) items rest e at =
    at_early r _ items rest refl (λ q. absurd cc) _ at.0 (early_end r items _ at.0 refl refl) tt
known_of r (phase.Byte field.SegmentSelectorSize) items rest e at =
    at_early r _ items rest refl (λ q. absurd cc) _ at.0 (early_end r items _ at.0 refl refl) tt
known_of r (phase.Byte field.MinimumInstructionLength) items rest e at =
    at_late r _ items rest refl (λ q. absurd cc) _ at.0.tail tt
known_of r (phase.Byte field.MaximumOperations) items rest e at =
    at_late r _ items rest refl (λ q. absurd cc) _ at.0.tail tt
known_of r (phase.Byte field.DefaultIsStmt) items rest e at =
    at_late r _ items rest refl (λ q. absurd cc) _ at.0.tail tt
known_of r (phase.Byte field.LineBase) items rest e at = at_late r _ items rest refl (λ q. absurd cc) _ at.0.tail tt
known_of r (phase.Byte field.LineRange) items rest e at = at_late r _ items rest refl (λ q. absurd cc) _ at.0.tail tt
known_of r (phase.Byte field.OpcodeBase) items rest e at = at_late r _ items rest refl (λ q. absurd cc) _ at.0.tail tt
known_of r phase.OpcodeLength items rest e at =
    let p = r.params in
    at_late r _ items rest refl (λ q. absurd cc) _ at.0.tail (subst IsNext
    (sym (lengths_open p (p.opcode_base - 1 - length p.lengths.items) p.lengths.items (some_left r e))) tt)
known_of r phase.Directories items rest e at = at_late r _ items rest refl (λ q. absurd cc) _ at.tail
    (table_next r.dialect.order r.table r.table.phase r.params.format _ at.layout rest at.at.0 at.at.1)
known_of r phase.Files items rest e at = at_late r _ items rest refl (λ q. absurd cc) _ at.tail
    (table_next r.dialect.order r.table r.table.phase r.params.format _ at.layout rest at.at.0 at.at.1)
known_of r phase.OlderDirectories items rest e at = at_late r _ items rest refl (λ q. absurd cc) _ at.tail
    (list_next r.list r.list.phase r.params.format _ at.layout rest at.at.0.0 at.at.0.1)
known_of r phase.OlderFiles items rest e at = at_late r _ items rest refl (λ q. absurd cc) _ at.tail
    (list_next r.list r.list.phase r.params.format _ at.layout rest at.at.0.0 at.at.0.1)
known_of r phase.Padding items rest e at = record {
  place = in_padding refl at;
  ends = after_end r items _ at;
  initial = λ none. absurd (none_some none at.end);
}
known_of r (phase.Foreign v) items rest e at = record {
  place = in_foreign v refl (ap (λ (l : List Item). following_all (header_layout r.dialect) l) at.0.items_are
      ∙ foreign_follows r (length_item r ∷ []) v refl at.1 at.2);
  ends = early_end r items _ at.0 (rw (ne_eqb v 5 at.1) refl) refl;
  initial = λ none. absurd (none_some none at.0.end);
}
known_of r phase.Done items rest e at = absurd at
known_of r (phase.Failed f) items rest e at = absurd at

pub place_of : (r : HeadReader) (items : List Item) (rest : List ℕ) → At r items rest → Place r r.phase items
place_of r items rest at = (known_of r r.phase items rest refl at).place

pub end_is : (r : HeadReader) (items : List Item) (rest : List ℕ) → At r items rest → EndIs r items
end_is r items rest at = (known_of r r.phase items rest refl at).ends

-- bytes in which no field is whole
no_fields : (dialect : Dialect) (b rest : List ℕ) → cut dialect b ≡ cut_of [] rest → b ≡ rest
no_fields dialect b rest e =
    let s : Sound dialect.order (header_layout dialect) b (cut_of [] rest) =
    subst (λ (c : Cut). Sound dialect.order (header_layout dialect) b c) e
    (cut_sound dialect.order (header_layout dialect) [] b) in
    s.whole ∙ ap (λ (z : List ℕ). z ++ rest) s.spelt

-- the bytes taken can be counted
pub countable : (r : HeadReader) (b : List ℕ) → Live r b → length b < 2 ^ 41
countable r b l = on r.end refl l.below r.near where
  on : (end : Option ℕ) → r.end ≡ end → Below (length b) end → end_near end ≡ true → length b < 2 ^ 41
  on (Some e) is below near = let le : e ≤ 2 ^ 41 = leb-true e (2 ^ 41) near in omega (arith, below, le)
  on None is below near =
      let i = (known_of r r.phase l.items l.rest refl l.at).initial is in
      let whole = no_fields r.dialect b l.rest (l.read.cut_is ∙ ap (λ (k : List Item). cut_of k l.rest) i.0) in
      omega (arith, ap length whole, i.1)

-- ---- what a cut decides

-- bytes that end inside a field, before the end, decide nothing
pub quiet_at : (r : HeadReader) (b : List ℕ) {items : List Item} {rest : List ℕ} → IsRead r.dialect b items rest
    → EndIs r items → Below (length b) r.end → header_decided r.dialect b ≡ None
quiet_at r b {items} {rest} read end below =
    quiet r.dialect b items rest read.cut_is read.unjudged
    (overrun_at (length b) items ∙ not_at_end (overrun_from items) (length b) (end_from items)
    (subst (λ (o : Option ℕ). Below (length b) o) end.end below))

-- a header that goes on decides nothing
pub live_quiet : (r : HeadReader) (b : List ℕ) → Live r b → header_decided r.dialect b ≡ None
live_quiet r b l = quiet_at r b l.read (end_is r l.items l.rest l.at) l.below

-- bytes that end inside a field are refused
pub overruns : (r : HeadReader) (b : List ℕ) {items : List Item} {rest : List ℕ} → IsRead r.dialect b items rest
    → EndIs r items → IsNext (following_all (header_layout r.dialect) items) → r.end ≡ Some (length b)
    → header_decided r.dialect b ≡ Some r.overrun
overruns r b {items} {rest} read end next is =
    rw (read.cut_is, read.unjudged, next_overrun (length b) items (following_all (header_layout r.dialect) items) next)
    (overrun_at (length b) items
    ∙ just_at_end (overrun_from items) (length b) (end_from items) (sym end.end ∙ is)
    ∙ ap (λ (k : FaultKind). Some k) (sym end.overrun))

-- ---- what a header that goes on answers

-- the values of a header's fields are those that are cut off
header_items : (dialect : Dialect) (h : HeaderData) (b : List ℕ) (items : List Item) (rest : List ℕ)
    (w : IsHeader dialect h b) → cut dialect b ≡ cut_of items rest → items ≡ w.items
header_items dialect h b items rest w e =
    ap (λ (c : Cut). c.items) (sym e ∙ ap (λ (z : List ℕ). cut dialect z) (sym (append-nil b))
    ∙ header_cut dialect h b [] w)

not_header : (r : HeadReader) (b : List ℕ) {items : List Item} {rest : List ℕ} (h : HeaderData)
    → IsRead r.dialect b items rest → EndIs r items → Below (length b) r.end → IsHeader r.dialect h b → ⊥
not_header r b {items} {rest} h read end below w =
    let whole : header_end items ≡ Some (length b) =
    ap header_end (header_items r.dialect h b items rest w read.cut_is) ∙ w.end in
    let at : r.end ≡ Some (length b) = end.end ∙ ap (λ (o : Option ℕ). first_end o (unit_end items)) whole in
    let lt : length b < length b = subst (λ (o : Option ℕ). Below (length b) o) at below in omega arith

foreign_of : {dialect : Dialect} {b : List ℕ} {items : List Item} {rest : List ℕ} → IsRead dialect b items rest
    → foreign_in dialect b ≡ foreign_made (following_all (header_layout dialect) items)
foreign_of {dialect} read = ap (λ (c : Cut). foreign_made (following_all (header_layout dialect) c.items)) read.cut_is

pub not_foreign : (r : HeadReader) (p : Phase) (items : List Item) → ending p ≡ None → Place r p items
    → foreign_made (following_all (header_layout r.dialect) items) ≡ None
not_foreign r p items goes (in_field none out next) =
    next_not_foreign (following_all (header_layout r.dialect) items) next
not_foreign r p items goes (in_padding is tail) = ap foreign_made tail.follows
not_foreign r p items goes (in_foreign v is follows) = absurd (none_some goes (ap ending is))

-- bytes that end before the end, where no foreign version stands next, come to nothing
more_at : (r : HeadReader) (b : List ℕ) {items : List Item} {rest : List ℕ} → IsRead r.dialect b items rest
    → EndIs r items → foreign_made (following_all (header_layout r.dialect) items) ≡ None → Below (length b) r.end
    → Answers r.dialect b answer.More
more_at r b read end own below = (
  λ h w. not_header r b h read end below w,
  foreign_of read ∙ own,
  λ at kind w. none_some (quiet_at r b read end below) w.decided,
)

pub field_more : (r : HeadReader) (b : List ℕ) {items : List Item} {rest : List ℕ} → IsRead r.dialect b items rest
    → EndIs r items → IsNext (following_all (header_layout r.dialect) items) → Below (length b) r.end
    → Answers r.dialect b answer.More
field_more r b read end next below = more_at r b read end (next_not_foreign _ next) below

pub live_more : (r : HeadReader) (b : List ℕ) → ending r.phase ≡ None → Live r b → Answers r.dialect b answer.More
live_more r b goes l = more_at r b l.read (end_is r l.items l.rest l.at)
    (not_foreign r r.phase l.items goes (place_of r l.items l.rest l.at)) l.below
