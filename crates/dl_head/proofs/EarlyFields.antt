-- The header reader in the fields up to header_length.
use Rattle.std.proofs.Common.{◌≡◌, ◌≢◌, append_assoc, ℕ, ◌+◌, ◌-◌, ◌<◌, ◌≤◌, List, [], ◌∷◌, ◌++◌, length, take, drop}
use Rattle.std.proofs.Common.{Bool, if◌then◌else◌, Option, inl, inr, Some, None, refl, sym, ap, subst, ◌∙◌, arith}
use Rattle.std.proofs.Common.{length-append}
use Rattle.std.proofs.lemmas.Bool.{lt-ltb, le-leb, lt-leb, eq-eqb, ne_eqb}
use Rattle.std.proofs.lemmas.List.{take_at, drop_at}
use Rattle.dl_num.specs.declared.fixed.Order.{Order}
use Rattle.dl_num.specs.Fixed.{fixed}
use Rattle.dl_table.specs.declared.form.Format.{Format}
use Rattle.dl_table.specs.declared.form.Format.TheVariants.{Dwarf32, Dwarf64}
use Rattle.dl_field.specs.declared.field_step.FieldStep.{FieldStep}
use Rattle.dl_field.specs.declared.field_step.FieldStep.TheVariants as byte_makes
use Rattle.dl_head.specs.HeaderLayout.{older_params, from_older_version, from_header_length, from_address_size}
use Rattle.dl_head.specs.HeaderLayout.{format_alone, header_layout, initial_size, fixed_part, from_minimum_length}
use Rattle.dl_head.specs.Dialect.{older_size}
use Rattle.dl_head.specs.Place.{IsOlder, IsOfVersion, IsBefore, AtStart, InLong, Early, LateIn, At, Made, SameCounts}
use Rattle.dl_head.specs.Place.{Starts, StartsHeader, length_item, Parts, parts, EarlyIn, before_length}
use Rattle.dl_head.specs.Place.{before_header_length, end_of_unit}
use Rattle.dl_field.specs.declared.params.Params.{Params}
use Rattle.dl_field.specs.Layout.{Layout, following, header_length, foreign_version, Item, length_is, number_is}
use Rattle.dl_field.specs.Layout.{following_all, field_spelt, objection, judged, short_length, long_length}
use Rattle.dl_field.specs.Layout.{initial_length_spelt, unit_length_limit}
use Rattle.dl_head.proofs.HeaderEnds.{before_own, before_older}
use Rattle.dl_field.proofs.FieldLemmas.{following_all-append}
use Rattle.dl_head.specs.declared.reader.HeadReader.{HeadReader}
use Rattle.dl_table.specs.declared.fault.FaultKind.TheVariants as fault
use Rattle.dl_table.specs.Value.{Judgement, good, bad, offset_size}
use Rattle.dl_head.specs.Header.{header_end, unit_end}

-- ---- the initial length

pub short_spelt : (order : Order) (w : List ℕ) (n : ℕ) → length w ≡ 4 → n ≡ fixed order w
    → initial_length_spelt order w ≡ short_length n
short_spelt order w n four is = rw (eq-eqb _ _ four, ← is) refl

pub long_spelt : (order : Order) (front w : List ℕ) (n : ℕ) → length front ≡ 4 → fixed order front ≡ 0xffffffff
    → length w ≡ 8 → n ≡ fixed order w
    → initial_length_spelt order (front ++ w) ≡ long_length n
long_spelt order front w n four escape eight is =
    let twelve : length (front ++ w) ≡ 12 = omega (arith, length-append front w) in
    let a : length (front ++ w) ≢ 4 = λ e. omega arith in
    let t : take 4 (front ++ w) ≡ front = take_at front w 4 four in
    let d : drop 4 (front ++ w) ≡ w = drop_at front w 4 four in
    rw (ne_eqb _ _ a, eq-eqb _ _ twelve, t, d, escape, ← is) refl

pub short_good : (n : ℕ) → n < 0xfffffff0 → n ≤ unit_length_limit → short_length n ≡ good (length_is Dwarf32 n)
short_good n lt le = rw (lt-ltb n 0xfffffff0 lt, le-leb n unit_length_limit le) refl

pub short_bad : (n : ℕ) → n < 0xfffffff0 → unit_length_limit + 1 ≤ n → short_length n ≡ bad fault.UnitTooLong
short_bad n lt big = rw (lt-ltb n 0xfffffff0 lt, lt-leb n unit_length_limit (omega (arith, big))) refl

pub long_good : (n : ℕ) → n ≤ unit_length_limit → long_length n ≡ good (length_is Dwarf64 n)
long_good n le = rw (le-leb n unit_length_limit le) refl

pub long_bad : (n : ℕ) → unit_length_limit + 1 ≤ n → long_length n ≡ bad fault.UnitTooLong
long_bad n big = rw (lt-leb n unit_length_limit (omega (arith, big))) refl

-- the initial length is whole, and the unit starts or is too long
pub started : (old new : HeadReader) (format : Format) (n : ℕ) (items : List Item) (w : List ℕ) (result : FieldStep)
    (o : Judgement Item) → AtStart old items
    → initial_length_spelt old.dialect.order w ≡ o → (n ≤ unit_length_limit → o ≡ good (length_is format n))
    → (unit_length_limit + 1 ≤ n → o ≡ bad fault.UnitTooLong)
    → Starts old format n result new → Made old.dialect items w result new
started old new format n items w byte_makes.Ends o at spelt fine long s = (
  length_is format n,
  rw (at.none, spelt) (fine s.0),
  subst (λ (l : List Item). At new (l ++ length_is format n ∷ []) []) (sym at.none)
      (s.1 (subst (λ (l : List Item). AtStart old l) at.none at)),
)
started old new format n items w (byte_makes.Refuses kind) o at spelt fine long s =
    rw (at.none, spelt, s.1) (long s.0)
started old new format n items w byte_makes.Within o at spelt fine long s = absurd s
started old new format n items w byte_makes.NoMemory o at spelt fine long s = absurd s

pub starts_counts : (old new : HeadReader) (format : Format) (n : ℕ) (result : FieldStep)
    → Starts old format n result new → SameCounts old new
starts_counts old new format n byte_makes.Ends s = s.2
starts_counts old new format n (byte_makes.Refuses kind) s = s.2
starts_counts old new format n byte_makes.Within s = absurd s
starts_counts old new format n byte_makes.NoMemory s = absurd s

pub started_short : (old new : HeadReader) (n : ℕ) (items : List Item) (w : List ℕ) (result : FieldStep)
    → AtStart old items
    → length w ≡ 4 → n ≡ fixed old.dialect.order w → n < 0xfffffff0 → Starts old Dwarf32 n result new
    → Made old.dialect items w result new
started_short old new n items w result at four is lt s =
    started old new Dwarf32 n items w result (short_length n) at (short_spelt old.dialect.order w n four is)
    (short_good n lt)
    (short_bad n lt) s

pub started_long : (old new : HeadReader) (n : ℕ) (items : List Item) (rest number : List ℕ) (byte : ℕ)
    (result : FieldStep) → AtStart old items → InLong old.dialect.order rest number
    → length (number ++ byte ∷ []) ≡ 8 → n ≡ fixed old.dialect.order (number ++ byte ∷ [])
    → Starts old Dwarf64 n result new → Made old.dialect items (rest ++ byte ∷ []) result new
started_long old new n items rest number byte result at long eight is s =
    started old new Dwarf64 n items (rest ++ byte ∷ []) result (long_length n) at
    (rw (long.whole, append_assoc long.escape number (byte ∷ []))
    (long_spelt old.dialect.order long.escape (number ++ byte ∷ []) n long.size long.value eight is)) (long_good n)
    (long_bad n) s

-- ---- version

pub version_spelt : (r : HeadReader) (items : List Item) (rest : List ℕ) (first byte n : ℕ) → items ≡ length_item r ∷ []
    → rest ≡ first ∷ []
    → n ≡ fixed r.dialect.order (first ∷ byte ∷ [])
    → field_spelt r.dialect.order (following_all (header_layout r.dialect) items)
    (rest ++ byte ∷ []) ≡ good (number_is n)
version_spelt r items rest first byte n is one e = rw (is, one, ← e) refl

pub foreign_follows : (r : HeadReader) (items : List Item) (n : ℕ) → items ≡ length_item r ∷ [] → n ≢ 5
    → older_size r.dialect n ≡ None → following_all (header_layout r.dialect) (items ++ number_is n ∷ [])
    ≡ foreign_version n
foreign_follows r items n is other none = rw (is, ne_eqb n 5 other, none) refl

pub items_on : (items is : List Item) (i j : Item) → items ≡ is → i ≡ j → items ++ i ∷ [] ≡ is ++ j ∷ []
items_on items is i j e f = cc

-- after an older version that is read
pub older_early : (new : Parts) (items : List Item) → new.params.version ≢ 5
    → items ≡ length_is new.params.format new.unit_length ∷ number_is new.params.version ∷ []
    → new.end ≡ Some (initial_size new.params.format + new.unit_length) → new.overrun ≡ fault.UnitOverrun
    → IsBefore new.params.lengths.items new.table new.list → EarlyIn new items (before_length new)
older_early new items other is end overrun before = record {
  items_are = is ∙ sym (before_older new other);
  end = end;
  overrun = overrun;
  before = before;
}

-- ---- header_length

-- what is read next after the fields before header_length, by the version

pub record AtLength (r : HeadReader) : Type 0 where
  pub q : Params
  pub follows : following_all (header_layout r.dialect) (before_header_length r) ≡ from_header_length r.unit_length q
  pub format : q.format ≡ r.params.format
  pub number : q.version ≡ r.params.version
  pub late : from_minimum_length q ≡ from_minimum_length r.params

older_follows : (r : HeadReader) → (is : IsOlder r.dialect r.params)
    → following_all (header_layout r.dialect) (length_item r ∷ number_is r.params.version ∷ [])
    ≡ from_header_length r.unit_length (older_params r.params.format r.params.version r.params.address_size)
older_follows r is =
    ap (λ (own : Bool). if own then from_address_size r.unit_length (format_alone r.params.format)
    else from_older_version r.params.format r.unit_length r.params.version (older_size r.dialect r.params.version))
    (ne_eqb r.params.version 5 is.other)
    ∙ ap (λ (o : Option ℕ). from_older_version r.params.format r.unit_length r.params.version o) is.size

pub at_length : (r : HeadReader) → IsOfVersion r → AtLength r
at_length r (inl five) = record {
  q = record (format_alone r.params.format) {
    address_size = r.params.address_size;
    segment_selector_size = r.params.segment_selector_size;
  };
  follows = ap (λ (l : List Item). following_all (header_layout r.dialect) l) (before_own (parts r) five);
  format = refl;
  number = sym five;
  late = ap (λ (v : ℕ). from_minimum_length (record r.params { version = v })) (sym five);
}
at_length r (inr older) = record {
  q = older_params r.params.format r.params.version r.params.address_size;
  follows = ap (λ (l : List Item). following_all (header_layout r.dialect) l) (before_older (parts r) older.other)
      ∙ older_follows r older;
  format = refl;
  number = refl;
  late = ap (λ (s : ℕ). from_minimum_length (record r.params {
    segment_selector_size = s;
    maximum_operations_per_instruction = 1;
  })) (sym older.segments)
      ∙ ap (λ (m : ℕ). from_minimum_length (record r.params { maximum_operations_per_instruction = m }))
      (sym older.operations);
}

length_spelt : (order : Order) (unit n : ℕ) (q : Params) (w : List ℕ)
    → length w ≡ offset_size q.format → n ≡ fixed order w
    → field_spelt order (from_header_length unit q) w
    ≡ judged (objection (header_length q.format (unit - fixed_part q.format q.version)) n) n
length_spelt order unit n q w size e = rw (eq-eqb _ _ size, ← e) refl

header_length_spelt : (r : HeadReader) (items : List Item) (w : List ℕ) (n : ℕ) → items ≡ before_header_length r
    → IsOfVersion r → length w ≡ offset_size r.params.format → n ≡ fixed r.dialect.order w
    → field_spelt r.dialect.order (following_all (header_layout r.dialect) items) w
    ≡ judged (objection (header_length r.params.format (r.unit_length - fixed_part r.params.format r.params.version))
    n) n
header_length_spelt r items w n is of size e =
    let a = at_length r of in
    rw (is, a.follows) (length_spelt r.dialect.order r.unit_length n a.q w (size ∙ ap offset_size (sym a.format)) e
    ∙ ap (λ (f : Format). judged (objection (header_length f (r.unit_length - fixed_part f a.q.version)) n) n) a.format
    ∙ ap (λ (v : ℕ). judged (objection (header_length r.params.format (r.unit_length - fixed_part r.params.format v))
    n) n) a.number)

-- where the header ends by its header_length
before_ends : (r : HeadReader) (n : ℕ) → IsOfVersion r
    → header_end (before_header_length r ++ number_is n ∷ [])
    ≡ Some (initial_size r.params.format + fixed_part r.params.format r.params.version + n)
before_ends r n (inl five) = rw (before_own (parts r) five, five) refl
before_ends r n (inr older) = rw (before_older (parts r) older.other) (ends r.params.version older.other)
  where
    ends : (v : ℕ) → v ≢ 5 → header_end (length_item r ∷ number_is v ∷ number_is n ∷ [])
        ≡ Some (initial_size r.params.format + fixed_part r.params.format v + n)
    ends v other = rw (ne_eqb v 5 other) refl

before_unit : (r : HeadReader) (n : ℕ) → IsOfVersion r
    → unit_end (before_header_length r ++ number_is n ∷ []) ≡ Some (end_of_unit r)
before_unit r n (inl five) = ap (λ (l : List Item). unit_end (l ++ number_is n ∷ [])) (before_own (parts r) five)
before_unit r n (inr older) = ap (λ (l : List Item). unit_end (l ++ number_is n ∷ []))
    (before_older (parts r) older.other)

-- after header_length
pub header_length_late : (r : HeadReader) (end : Option ℕ) (items : List Item) (n : ℕ)
    → Early r items (before_header_length r) → IsOfVersion r
    → end ≡ Some (initial_size r.params.format + fixed_part r.params.format r.params.version + n)
    → LateIn (record { dialect = r.dialect; unit = end_of_unit r; end = end; overrun = fault.HeaderOverrun }) r.table
    r.list (items ++ number_is n ∷ []) (from_minimum_length r.params)
header_length_late r end items n early of is = record {
  tail = record {
    follows = ap (λ (k : List Item). following_all (header_layout r.dialect) (k ++ number_is n ∷ [])) early.items_are
        ∙ following_all-append (header_layout r.dialect) (before_header_length r) (number_is n ∷ [])
        ∙ ap (λ (l : Layout). following l (number_is n)) (at_length r of).follows ∙ (at_length r of).late;
    unit = ap (λ (k : List Item). unit_end (k ++ number_is n ∷ [])) early.items_are ∙ before_unit r n of;
    header = initial_size r.params.format + fixed_part r.params.format r.params.version + n;
    header_ends = ap (λ (k : List Item). header_end (k ++ number_is n ∷ [])) early.items_are ∙ before_ends r n of;
    end = is;
    overrun = refl;
  };
  fresh = early.before.fresh;
  unlisted = early.before.unlisted;
}

-- header_length is whole
pub started_header : (old new : HeadReader) (n : ℕ) (items : List Item) (w : List ℕ) (result : FieldStep)
    → Early old items (before_header_length old)
    → IsOfVersion old
    → length w ≡ offset_size old.params.format → n ≡ fixed old.dialect.order w → StartsHeader old n result new
    → Made old.dialect items w result new
started_header old new n items w byte_makes.Ends early of size is s = (
  number_is n,
  header_length_spelt old items w n early.items_are of size is ∙ rw (le-leb n _ s.0) refl,
  s.1 items early of,
)
started_header old new n items w (byte_makes.Refuses kind) early of size is s =
    rw s.1 (header_length_spelt old items w n early.items_are of size is
    ∙ rw (lt-leb n (old.unit_length - fixed_part old.params.format old.params.version) (omega (arith, s.0))) refl)
started_header old new n items w byte_makes.Within early of size is s = absurd s
started_header old new n items w byte_makes.NoMemory early of size is s = absurd s

pub header_counts : (old new : HeadReader) (n : ℕ) (result : FieldStep) → StartsHeader old n result new
    → SameCounts old new
header_counts old new n byte_makes.Ends s = s.2
header_counts old new n (byte_makes.Refuses kind) s = s.2
header_counts old new n byte_makes.Within s = absurd s
header_counts old new n byte_makes.NoMemory s = absurd s
