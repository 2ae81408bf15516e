-- What the bytes come to once the last one is counted.
use Rattle.std.proofs.Common.{◌≤◌, ◌≡◌, ◌≢◌, ℕ, ◌+◌, ◌⊎◌, inl, inr, List, [], length, Option, Some, None, refl, sym, ap}
use Rattle.std.proofs.Common.{subst, ◌∙◌, arith}
use Rattle.std.proofs.lemmas.Bool.{cases_eq}
use Rattle.dl_head.specs.declared.dialect.Dialect.{Dialect}
use Rattle.dl_head.specs.declared.reader.Phase.{Phase}
use Rattle.dl_head.specs.declared.reader.Phase.TheVariants as phase
use Rattle.dl_head.specs.declared.reader.HeadReader.{HeadReader}
use Rattle.dl_head.specs.declared.reader.HeadStep.{HeadStep}
use Rattle.dl_head.specs.declared.reader.HeadStep.TheVariants as answer
use Rattle.dl_table.specs.declared.fault.FaultKind.{FaultKind}
use Rattle.dl_field.specs.HeaderData.{HeaderData}
use Rattle.dl_field.specs.Layout.{foreign_version, Item, following_all}
use Rattle.dl_head.specs.HeaderLayout.{header_layout, from_end}
use Rattle.dl_head.specs.Header.{Cut, cut, unit_end, unit_len, header_made, foreign_in, IsHeader}
use Rattle.dl_head.specs.Refusal.{HeaderRefused}
use Rattle.dl_head.specs.Place.{Past, SameUnit, end_of_unit}
use Rattle.dl_head.specs.Standing.{IsRead, Below, Live, Unmade, ending, Stands, StandsFor, unit_known, Fails, Completes}
use Rattle.dl_head.specs.Standing.{SettlesAt, Settles}
use Rattle.dl_head.specs.Reading.{Answers}
use Rattle.dl_field.proofs.FieldLemmas.{none_some}
use Rattle.dl_head.proofs.CutLemmas.{cut_of, cut_sound, Sound}
use Rattle.dl_head.proofs.HeaderEnds.{end_from, EndsWithin, of_unit, EndIs, UpTo}
use Rattle.dl_head.proofs.TakenBytes.{end_is, IsNext, Place, in_field, in_padding, in_foreign, place_of, live_more}
use Rattle.dl_head.proofs.TakenBytes.{overruns}
use Rattle.dl_head.proofs.MovedReader.{Moved}

same_reader : {r fin : HeadReader} {b : List ℕ} {a result : HeadStep} → Answers r.dialect b a × StandsFor r b
    → (result ≡ a) × (fin ≡ r) → Answers r.dialect b result × StandsFor fin b
same_reader {r} {fin} {b} {a} {result} s q = (rw q.0 s.0, subst (λ (z : HeadReader). StandsFor z b) (sym q.1) s.1)

pub unit_of : (r : HeadReader) {b : List ℕ} {items : List Item} {rest : List ℕ} → IsRead r.dialect b items rest
    → EndIs r items → unit_known (end_of_unit r) r.end ≡ unit_len r.dialect b
unit_of r read end = end.unit ∙ sym (ap (λ (c : Cut). unit_end c.items) read.cut_is)

-- b is no longer than its unit
abbrev pub FitsUnit : Dialect → List ℕ → Type 0
FitsUnit dialect b = (n : ℕ) → unit_len dialect b ≡ Some n → length b ≤ n

pub fits_of : (dialect : Dialect) (b : List ℕ) {items : List Item} {rest : List ℕ} → cut dialect b ≡ cut_of items rest
    → EndsWithin items → UpTo (length b) (end_from items) → FitsUnit dialect b
fits_of dialect b {items} e ends up n unit =
    of_unit items n (length b) ends up (sym (ap (λ (c : Cut). unit_end c.items) e) ∙ unit)

-- the reader has counted the bytes, and knows of their unit what stands in them
pub record Counts (dialect : Dialect) (r : HeadReader) (b : List ℕ) : Type 0 where
  pub taken : r.taken ≡ length b
  pub unit : unit_known (end_of_unit r) r.end ≡ unit_len dialect b
  pub within : FitsUnit dialect b

moved_counts : {r : HeadReader} {b : List ℕ} → Moved r b → Counts r.dialect r b
moved_counts {r} {b} m =
    let at = end_is r m.items m.rest m.at in
    record {
      taken = m.taken_is;
      unit = unit_of r m.read at;
      within = fits_of r.dialect b m.read.cut_is m.read.ends_within
          (subst (λ (o : Option ℕ). UpTo (length b) o) at.end m.up_to);
    }

same_counts : {dialect : Dialect} {r : HeadReader} {b : List ℕ} (fin : HeadReader) → Counts dialect r b
    → fin.taken ≡ r.taken → SameUnit r fin → Counts dialect fin b
same_counts {dialect} {r} {b} fin c taken same = record {
  taken = taken ∙ c.taken;
  unit = (let e : unit_known (end_of_unit fin) fin.end ≡ unit_known (end_of_unit r) r.end = cc in e) ∙ c.unit;
  within = c.within;
}

pub stands_so : {dialect : Dialect} {r : HeadReader} {b : List ℕ} (o : Option HeadStep) → ending r.phase ≡ o
    → Stands r o b → r.dialect ≡ dialect → Counts dialect r b → StandsFor r b
stands_so {dialect} {r} {b} o is stands same c = record {
  stands = subst (λ (p : Option HeadStep). Stands r p b) (sym is) stands;
  taken = c.taken;
  unit = c.unit ∙ ap (λ (d : Dialect). unit_len d b) (sym same);
  within = subst (λ (d : Dialect). FitsUnit d b) (sym same) c.within;
}

below_of : (n : ℕ) (end : Option ℕ) → UpTo n end → end ≢ Some n → Below n end
below_of n None le other = tt
below_of n (Some e) le other = elim (cases_eq e n) [
  | inl same ↦ absurd (other (ap (λ (k : ℕ). Some k) same))
  | inr differs ↦ omega (arith, differs)
]

-- the header goes on
pub goes_on : {r : HeadReader} {b : List ℕ} → ending r.phase ≡ None → Moved r b → r.end ≢ Some r.taken
    → Answers r.dialect b answer.More × StandsFor r b
goes_on {r} {b} goes m other =
    let live : Live r b = record {
      items = m.items;
      rest = m.rest;
      read = m.read;
      at = m.at;
      start_is = m.start_is;
      below = below_of (length b) r.end m.up_to (λ same. other (same ∙ ap (λ (n : ℕ). Some n) (sym m.taken_is)));
    } in
    (live_more r b goes live, stands_so None goes (live, m.unmade) refl (moved_counts m))

-- the bytes are refused
pub failed : {r fin : HeadReader} {b : List ℕ} {kind : FaultKind} {result : HeadStep}
    → HeaderRefused r.dialect b r.start kind → Unmade r b → Counts r.dialect r b → Fails r kind result fin
    → Answers r.dialect b result × StandsFor fin b
failed {r} {fin} {b} {kind} refused u counts f =
    let same = f.2 in (
      rw f.0 refused,
      stands_so _ (ap ending f.1) (
        rw same.counts.dialect refused,
        record {
          header = same.counts.header ∙ u.header;
          cells_are = rw same.counts.dialect (same.cells ∙ u.cells_are);
        },
      ) same.counts.dialect (same_counts fin counts same.counts.taken same.unit),
    )

-- the bytes end inside a field
fails_at_end : {r fin : HeadReader} {b : List ℕ} {result : HeadStep} (m : Moved r b)
    → IsNext (following_all (header_layout r.dialect) m.items) → r.end ≡ Some r.taken
    → Fails r r.overrun result fin → Answers r.dialect b result × StandsFor fin b
fails_at_end {r} {fin} {b} m next end f =
    failed (record {
      place = ap (λ (c : Cut). r.start + length c.rest) m.read.cut_is ∙ m.start_is;
      decided = overruns r b m.read (end_is r m.items m.rest m.at) next (end ∙ ap (λ (n : ℕ). Some n) m.taken_is);
      shortest = m.read.nothing_before;
    }) m.unmade (moved_counts m) f

-- the header is whole
header_whole : {r : HeadReader} {b : List ℕ} (m : Moved r b)
    → Past r m.items (from_end r.params r.directories r.files) → r.end ≡ Some r.taken
    → IsHeader r.dialect (record { params = r.params; directories = r.directories; files = r.files }) b
header_whole {r} {b} m tail end =
    let s : Sound r.dialect.order (header_layout r.dialect) b (cut_of m.items m.rest) =
    subst (λ (c : Cut). Sound r.dialect.order (header_layout r.dialect) b c) m.read.cut_is
    (cut_sound r.dialect.order (header_layout r.dialect) [] b) in
    record {
      items = m.items;
      fields = s.front;
      padding = m.rest;
      whole = s.whole;
      spelt = s.spelt;
      made = ap header_made tail.follows;
      end = tail.header_ends ∙ sym tail.end ∙ end ∙ ap (λ (n : ℕ). Some n) m.taken_is;
    }

done : {r fin : HeadReader} {b : List ℕ} {result : HeadStep} (m : Moved r b)
    → Past r m.items (from_end r.params r.directories r.files) → r.end ≡ Some r.taken
    → (result ≡ answer.Done) × Completes r fin → Answers r.dialect b result × StandsFor fin b
done {r} {fin} {b} m tail end f =
    let h : HeaderData = record { params = r.params; directories = r.directories; files = r.files } in
    let whole = header_whole m tail end in
    let c = f.1 in (
      rw f.0 (h, whole),
      stands_so _ (ap ending c.phase) (record {
        h = h;
        header = c.header;
        is = subst (λ (d : Dialect). IsHeader d h b) (sym c.dialect) whole;
        start_is = rw (c.dialect, c.start, m.read.cut_is) m.start_is;
      }) c.dialect (same_counts fin (moved_counts m) c.taken c.unit),
    )

foreign : {r fin : HeadReader} {b : List ℕ} {result : HeadStep} (m : Moved r b) (v : ℕ) → r.phase ≡ phase.Foreign v
    → following_all (header_layout r.dialect) m.items ≡ foreign_version v
    → (result ≡ answer.Foreign v) × (fin ≡ r) → Answers r.dialect b result × StandsFor fin b
foreign {r} {fin} {b} m v is follows q =
    let f : foreign_in r.dialect b ≡ Some v = rw (m.read.cut_is, follows) refl in
    same_reader (f, stands_so _ (ap ending is) (f, m.unmade) refl (moved_counts m)) q

-- what `settle` says where a field comes next
abbrev SettlesField : HeadReader → HeadStep → HeadReader → Type 0
SettlesField r result fin = (r.end ≢ Some r.taken → (result ≡ answer.More) × (fin ≡ r))
    × (r.end ≡ Some r.taken → Fails r r.overrun result fin)

settles_field : (r fin : HeadReader) (result : HeadStep) (p : Phase) → ending p ≡ None → (p ≡ phase.Padding → ⊥)
    → SettlesAt r p result fin → SettlesField r result fin
settles_field r fin result (phase.UnitLength n) goes out s = s
settles_field r fin result (phase.LongUnitLength n) goes out s = s
settles_field r fin result phase.Version goes out s = s
settles_field r fin result (phase.VersionEnd n) goes out s = s
settles_field r fin result (phase.HeaderLength n) goes out s = s
settles_field r fin result (phase.Byte n) goes out s = s
settles_field r fin result phase.OpcodeLength goes out s = s
settles_field r fin result phase.Directories goes out s = s
settles_field r fin result phase.Files goes out s = s
settles_field r fin result phase.OlderDirectories goes out s = s
settles_field r fin result phase.OlderFiles goes out s = s
settles_field r fin result phase.Padding goes out s = absurd (out refl)
settles_field r fin result phase.Done goes out s = absurd (none_some goes refl)
settles_field r fin result (phase.Foreign v) goes out s = absurd (none_some goes refl)
settles_field r fin result (phase.Failed f) goes out s = absurd (none_some goes refl)

at_end_or_not : (r : HeadReader) → (r.end ≡ Some r.taken) ⊎ (r.end ≢ Some r.taken)
at_end_or_not r = on r.end refl where
  on : (end : Option ℕ) → r.end ≡ end → (r.end ≡ Some r.taken) ⊎ (r.end ≢ Some r.taken)
  on None is = inr (λ e. none_some is e)
  on (Some e) is = elim (cases_eq e r.taken) [
    | inl same ↦ inl (is ∙ ap (λ (k : ℕ). Some k) same)
    | inr differs ↦ inr (λ f. let g : ◌≡◌ {A = Option ℕ} (Some e) (Some r.taken) = sym is ∙ f in
        let h : e ≡ r.taken = cc in differs h)
  ]

pub settled : {r fin : HeadReader} {b : List ℕ} (result : HeadStep) → Moved r b → Settles r result fin
    → Answers r.dialect b result × StandsFor fin b
settled {r} {fin} {b} result m s = on (place_of r m.items m.rest m.at) (at_end_or_not r) where
  by : (p : Phase) → r.phase ≡ p → SettlesAt r p result fin
  by p is = subst (λ (p : Phase). SettlesAt r p result fin) is s

  on : Place r r.phase m.items → (r.end ≡ Some r.taken) ⊎ (r.end ≢ Some r.taken)
      → Answers r.dialect b result × StandsFor fin b
  on (in_field goes out next) (inl end) =
      fails_at_end m next end ((settles_field r fin result r.phase goes out s).1 end)
  on (in_field goes out next) (inr other) =
      same_reader (goes_on goes m other) ((settles_field r fin result r.phase goes out s).0 other)
  on (in_padding is tail) (inl end) = done m tail end ((by phase.Padding is).1 end)
  on (in_padding is tail) (inr other) = same_reader (goes_on (ap ending is) m other) ((by phase.Padding is).0 other)
  on (in_foreign v is follows) at = foreign m v is follows (by (phase.Foreign v) is)

-- `settle`, where the bytes don't end
pub settles_more : (r new : HeadReader) (p : Phase) → ((v : ℕ) → p ≡ phase.Foreign v → ⊥) → r.end ≢ Some r.taken
    → new ≡ r → SettlesAt r p answer.More new
settles_more r new (phase.Foreign v) none other same = absurd (none v refl)
settles_more r new (phase.UnitLength n) none other same = (λ e. (refl, same), λ e. absurd (other e))
settles_more r new (phase.LongUnitLength n) none other same = (λ e. (refl, same), λ e. absurd (other e))
settles_more r new phase.Version none other same = (λ e. (refl, same), λ e. absurd (other e))
settles_more r new (phase.VersionEnd n) none other same = (λ e. (refl, same), λ e. absurd (other e))
settles_more r new (phase.HeaderLength n) none other same = (λ e. (refl, same), λ e. absurd (other e))
settles_more r new (phase.Byte f) none other same = (λ e. (refl, same), λ e. absurd (other e))
settles_more r new phase.OpcodeLength none other same = (λ e. (refl, same), λ e. absurd (other e))
settles_more r new phase.Directories none other same = (λ e. (refl, same), λ e. absurd (other e))
settles_more r new phase.Files none other same = (λ e. (refl, same), λ e. absurd (other e))
settles_more r new phase.OlderDirectories none other same = (λ e. (refl, same), λ e. absurd (other e))
settles_more r new phase.OlderFiles none other same = (λ e. (refl, same), λ e. absurd (other e))
settles_more r new phase.Padding none other same = (λ e. (refl, same), λ e. absurd (other e))
settles_more r new phase.Done none other same = (λ e. (refl, same), λ e. absurd (other e))
settles_more r new (phase.Failed f) none other same = (λ e. (refl, same), λ e. absurd (other e))
