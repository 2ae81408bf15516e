-- A header is what is cut off the front of bytes: the laws of headers.
use Rattle.std.proofs.Common.{◌≡◌, ℕ, ◌+◌, ◌-◌, ◌≤◌, Bool, true, false, nat_le, ◌&&◌, if◌then◌else◌, List, [], ◌∷◌}
use Rattle.std.proofs.Common.{◌++◌, length, take, drop, Option, Some, None, Ok, Err, refl, sym, ap, subst, unwrap_or, ◌∙◌, arith}
use Rattle.std.proofs.Common.{inl, inr, length-append, append_assoc, append-nil}
use Rattle.std.proofs.lemmas.Bool.{cases_lt, le-leb, lt-leb}
use Rattle.std.proofs.lemmas.List.{take-append-drop, length-take-le}
use Rattle.std.proofs.Math.Seq.{drop-append_seam, take-append-add}
use Rattle.dl_num.specs.declared.fixed.Order.{Order}
use Rattle.dl_field.specs.Layout.{path_or_end, Layout, initial_length_then, number_then, form_then, value_then}
use Rattle.dl_field.specs.Layout.{foreign_version, last_entry, Item, following, following_all, field_spelt}
use Rattle.dl_head.specs.declared.dialect.Dialect.{Dialect}
use Rattle.dl_num.proofs.FrontLemmas.{front_before}
use Rattle.dl_num.proofs.LebFrontLemmas.{true_false, and_left, and_right}
use Rattle.dl_field.specs.HeaderData.{HeaderData}
use Rattle.dl_table.specs.declared.fault.FaultKind.{FaultKind}
use Rattle.dl_table.specs.Value.{Judgement, good, bad}
use Rattle.dl_head.specs.HeaderLayout.{fixed_part, header_layout, initial_size}
use Rattle.dl_head.specs.declared.header.HeaderLengths.{HeaderLengths}
use Rattle.dl_head.specs.Header.{Cut, cut_after, cut, header_made, header_end, header_up_to, IsHeader, IsFieldCut, lengths_by, lengths_in, unit_len}
use Rattle.dl_head.specs.Laws.{OneHeader, HeaderIsFound, FoundIsHeader, CutIsComputed, HeaderIsNotForeign}
use Rattle.dl_field.proofs.FieldLemmas.{field_empty, none_some}
use Rattle.dl_head.proofs.CutLemmas.{cut_of, cut_on, cut_fields, cut_last, cut_sound, Sound}

pub made_last : (layout : Layout) (h : HeaderData) → header_made layout ≡ Some h → layout ≡ last_entry h
made_last (last_entry g) h e = let f : ◌≡◌ {A = Option HeaderData} (Some g) (Some h) = e in cc
made_last (initial_length_then n) h e = absurd (none_some refl e)
made_last (number_then f n) h e = absurd (none_some refl e)
made_last (form_then n) h e = absurd (none_some refl e)
made_last (value_then f g n) h e = absurd (none_some refl e)
made_last (path_or_end f p t n) h e = absurd (none_some refl e)
made_last (foreign_version v) h e = absurd (none_some refl e)

-- what is cut off bytes that begin with a header
pub header_cut : (dialect : Dialect) (h : HeaderData) (w y : List ℕ) (is : IsHeader dialect h w)
    → cut dialect (w ++ y) ≡ cut_of is.items (is.padding ++ y)
header_cut dialect h w y is =
    let z = is.padding ++ y in
    rw (
      is.whole,
      append_assoc,
      cut_fields dialect.order (header_layout dialect) is.items is.fields z is.spelt,
      made_last _ h is.made,
      cut_last dialect.order h [] z,
      append-nil,
    ) refl

length_nil : (v : List ℕ) → length v ≡ 0 → v ≡ []
length_nil [] e = refl
length_nil (x ∷ v) e = absurd (omega arith)

pub one_header : OneHeader
one_header dialect h h2 w v a b =
    let one = header_cut dialect h w v a in
    let two = header_cut dialect h2 (w ++ v) [] b in
    let same : a.items ≡ b.items = ap (λ (c : Cut). c.items)
    (sym one ∙ ap (λ (z : List ℕ). cut dialect z) (sym (append-nil (w ++ v))) ∙ two) in
    let ends : Some (length w) ≡ Some (length (w ++ v)) = sym a.end ∙ ap header_end same ∙ b.end in
    let lengths : length w ≡ length (w ++ v) = cc in
    let made : ◌≡◌ {A = Option HeaderData} (Some h) (Some h2) = sym a.made
    ∙ ap (λ (l : List Item). header_made (following_all (header_layout dialect) l)) same ∙ b.made in
    (length_nil v (omega (arith, length-append w v)), cc)

-- ---- the header that is computed

abbrev found_if : Bool → HeaderData → List ℕ → Option (HeaderData × List ℕ)
found_if t h rest = if t then Some (h, rest) else None

-- by what was cut off
abbrev in_cut : Dialect → List ℕ → Cut → Option (HeaderData × List ℕ)
in_cut dialect b c = header_up_to b (length b - length c.rest)
    (header_made (following_all (header_layout dialect) c.items)) (header_end c.items)

pub header_is_found : HeaderIsFound
header_is_found dialect h w rest is =
    let fields_end : length (w ++ rest) - length (is.padding ++ rest) ≤ length w =
    (let e = ap length is.whole in omega
    (arith, e, length-append is.fields is.padding, length-append w rest, length-append is.padding rest)) in
    let within : (nat_le (length (w ++ rest) - length (is.padding ++ rest)) (length w)
    && nat_le (length w) (length (w ++ rest))) ≡ true =
    rw (le-leb _ _ fields_end) (le-leb _ _ (omega (arith, length-append w rest))) in
    ap (λ (c : Cut). in_cut dialect (w ++ rest) c) (header_cut dialect h w rest is)
    ∙ rw (is.made, is.end, within, drop-append_seam w rest) refl

-- what a header that is computed comes from
record Found (b : List ℕ) (fields : ℕ) (made : Option HeaderData) (end : Option ℕ) (h : HeaderData)
    (rest : List ℕ) : Type 0 where
  stop : ℕ
  made_is : made ≡ Some h
  end_is : end ≡ Some stop
  fields_le : fields ≤ stop
  stop_le : stop ≤ length b
  rest_is : drop stop b ≡ rest

le_of : (a b : ℕ) → nat_le a b ≡ true → a ≤ b
le_of a b h = elim (cases_lt b a) [ inl lt ↦ absurd (true_false h (lt-leb a b lt)) | inr le ↦ le ]

pair_same : (g h : HeaderData) (u v : List ℕ) → ◌≡◌ {A = Option (HeaderData × List ℕ)} (Some (g, u)) (Some (h, v))
    → (g ≡ h) × (u ≡ v)
pair_same g h u v e =
    let p : ◌≡◌ {A = HeaderData × List ℕ} (g, u) (h, v) = cc in (λ i. (p i).0, λ i. (p i).1)

found : (b : List ℕ) (fields : ℕ) (made : Option HeaderData) (end : Option ℕ) (h : HeaderData) (rest : List ℕ)
    → header_up_to b fields made end ≡ Some (h, rest) → Found b fields made end h rest
found b fields (Some g) (Some stop) h rest e = on (nat_le fields stop && nat_le stop (length b)) refl e where
  on : (t : Bool) → (nat_le fields stop && nat_le stop (length b)) ≡ t → found_if t g (drop stop b) ≡ Some (h, rest)
      → Found b fields (Some g) (Some stop) h rest
  on true t k =
      let same = pair_same g h (drop stop b) rest k in
      record {
        stop = stop;
        made_is = ap (λ (d : HeaderData). Some d) same.0;
        end_is = refl;
        fields_le = le_of fields stop (and_left (nat_le fields stop) (nat_le stop (length b)) t);
        stop_le = le_of stop (length b) (and_right (nat_le fields stop) (nat_le stop (length b)) t);
        rest_is = same.1;
      }
  on false t k = absurd (none_some refl k)
found b fields None end h rest e = absurd (none_some refl e)
found b fields (Some g) None h rest e = absurd (none_some refl e)

-- a front that is at least as long as x is x and some bytes
longer_front : (x y : List ℕ) (n : ℕ) → length x ≤ n → take n (x ++ y) ≡ x ++ take (n - length x) y
longer_front x y n le = ap (λ (k : ℕ). take k (x ++ y)) (let e : n ≡ length x + (n - length x) = omega (arith, le) in e)
    ∙ take-append-add x y (n - length x)

pub found_is_header : FoundIsHeader
found_is_header dialect h b rest e =
    let c = cut dialect b in
    let f = found b (length b - length c.rest) _ _ h rest e in
    let s : Sound dialect.order (header_layout dialect) b c = cut_sound dialect.order (header_layout dialect) [] b in
    let lengths = ap length s.whole in
    let front_le : length s.front ≤ f.stop =
    (let l = f.fields_le in omega (arith, lengths, length-append s.front c.rest, l)) in
    let w = take f.stop b in
    let whole : w ≡ s.front ++ take (f.stop - length s.front) c.rest = ap (λ (l : List ℕ). take f.stop l) s.whole
    ∙ longer_front s.front c.rest f.stop front_le in
    let size : length w ≡ f.stop = length-take-le f.stop b f.stop_le in (
      w,
      sym (take-append-drop f.stop b) ∙ ap (λ (l : List ℕ). w ++ l) f.rest_is,
      record {
        items = c.items;
        fields = s.front;
        padding = take (f.stop - length s.front) c.rest;
        whole = whole;
        spelt = s.spelt;
        made = f.made_is;
        end = f.end_is ∙ ap (λ (n : ℕ). Some n) (sym size);
      },
    )

-- ---- one cut

some_apart : {kind : FaultKind} {i : Item} → ◌≡◌ {A = Judgement Item} (bad kind) (good i) → ⊥
some_apart {kind = kind} {i = i} e = absurd cc

-- no good field stands at the front of some bytes
abbrev pub HasNone : Order → Layout → List ℕ → Type 0
HasNone order layout w = (front back : List ℕ) (i : Item) → w ≡ front ++ back → field_spelt order layout front ≡ good i
    → ⊥

nothing_on : (order : Order) (layout : Layout) (begun : List ℕ) (x : ℕ) (b : List ℕ)
    → HasNone order layout (begun ++ x ∷ b)
    → cut_after order layout (begun ++ x ∷ []) b ≡ cut_of [] (begun ++ x ∷ b)
    → (o : Judgement Item) → field_spelt order layout (begun ++ x ∷ []) ≡ o
    → cut_on order layout (begun ++ x ∷ []) o b ≡ cut_of [] (begun ++ x ∷ b)
nothing_on order layout begun x b no_more later (Some (Ok i)) e =
    absurd (no_more (begun ++ x ∷ []) b i (sym (append_assoc begun (x ∷ []) b)) e)
nothing_on order layout begun x b no_more later (Some (Err kind)) e = later
nothing_on order layout begun x b no_more later None e = later

-- then none is cut off
pub nothing_cut : (order : Order) (layout : Layout) (begun b : List ℕ)
    → HasNone order layout (begun ++ b) → cut_after order layout begun b ≡ cut_of [] (begun ++ b)
nothing_cut order layout begun [] no_more = ap (λ (z : List ℕ). cut_of [] z) (sym (append-nil begun))
nothing_cut order layout begun (x ∷ b) no_more =
    nothing_on order layout begun x b no_more
    (nothing_cut order layout (begun ++ x ∷ []) b
    (λ front back i e. no_more front back i (sym (append_assoc begun (x ∷ []) b) ∙ e))
    ∙ ap (λ (z : List ℕ). cut_of [] z) (append_assoc begun (x ∷ []) b)) (field_spelt order layout (begun ++ x ∷ []))
    refl

pub empty_has_none : (order : Order) (layout : Layout) → HasNone order layout []
empty_has_none order layout [] back i e f = none_some (field_empty order layout) f
empty_has_none order layout (x ∷ front) back i e f = absurd cc

one_more : (order : Order) (layout : Layout) (begun : List ℕ) (x : ℕ) → HasNone order layout begun
    → ((i : Item) → field_spelt order layout (begun ++ x ∷ []) ≡ good i → ⊥) → HasNone order layout (begun ++ x ∷ [])
one_more order layout begun x none not front [] i e f =
    not i (ap (λ (z : List ℕ). field_spelt order layout z) (e ∙ append-nil front) ∙ f)
one_more order layout begun x none not front (y ∷ back) i e f = let r = front_before begun front x y back e in
    none front r.0 i r.1 f

-- what is left has none
abbrev LeavesNone : Order → Layout → Cut → Type 0
LeavesNone order layout c = HasNone order (following_all layout c.items) c.rest

rest_on : (order : Order) (layout : Layout) (begun : List ℕ) (x : ℕ) (b : List ℕ)
    → ((i : Item) → LeavesNone order (following layout i) (cut_after order (following layout i) [] b))
    → (((i : Item) → field_spelt order layout (begun ++ x ∷ []) ≡ good i → ⊥)
    → LeavesNone order layout (cut_after order layout (begun ++ x ∷ []) b))
    → (o : Judgement Item) → field_spelt order layout (begun ++ x ∷ []) ≡ o
    → LeavesNone order layout (cut_on order layout (begun ++ x ∷ []) o b)
rest_on order layout begun x b next same (Some (Ok j)) e = next j
rest_on order layout begun x b next same (Some (Err kind)) e = same (λ i f. some_apart (sym e ∙ f))
rest_on order layout begun x b next same None e = same (λ i f. none_some e f)

rest_has_none : (order : Order) (layout : Layout) (begun b : List ℕ) → HasNone order layout begun
    → LeavesNone order layout (cut_after order layout begun b)
rest_has_none order layout begun [] none = none
rest_has_none order layout begun (x ∷ b) none =
    rest_on order layout begun x b
    (λ i. rest_has_none order (following layout i) [] b (empty_has_none order (following layout i)))
    (λ not. rest_has_none order layout (begun ++ x ∷ []) b (one_more order layout begun x none not))
    (field_spelt order layout (begun ++ x ∷ [])) refl

pub cut_is_computed : CutIsComputed
cut_is_computed dialect b items rest = (to, from) where
  to : IsFieldCut dialect b items rest → cut dialect b ≡ cut_of items rest
  to is = rw (
    is.whole,
    cut_fields dialect.order (header_layout dialect) items is.fields rest is.spelt,
    nothing_cut dialect.order (following_all (header_layout dialect) items) [] rest is.no_more,
    append-nil,
  ) refl

  computed : IsFieldCut dialect b (cut dialect b).items (cut dialect b).rest
  computed =
      let s : Sound dialect.order (header_layout dialect) b (cut dialect b) =
      cut_sound dialect.order (header_layout dialect) [] b in
      record {
        fields = s.front;
        whole = s.whole;
        spelt = s.spelt;
        no_more = rest_has_none dialect.order (header_layout dialect) [] b
            (empty_has_none dialect.order (header_layout dialect));
      }

  from : cut dialect b ≡ cut_of items rest → IsFieldCut dialect b items rest
  from e = subst (λ (c : Cut). IsFieldCut dialect b c.items c.rest) e computed

-- ---- own and foreign

pub header_is_not_foreign : HeaderIsNotForeign
header_is_not_foreign dialect h w v is = rw (header_cut dialect h w v is, made_last _ h is.made) refl

-- ---- how long a header is

-- by what was cut off
abbrev lengths_of : HeaderData → List ℕ → Cut → HeaderLengths
lengths_of h b c = lengths_by h c.items (length b - length c.rest)

-- what follows a header doesn't change its lengths
pub lengths_stay : (dialect : Dialect) (h g : HeaderData) (w y : List ℕ) → IsHeader dialect h w
    → lengths_in dialect (w ++ y) g ≡ lengths_in dialect w g
lengths_stay dialect h g w y is =
    let fields : length (w ++ y) - length (is.padding ++ y) ≡ length w - length (is.padding ++ []) =
    omega (
      arith,
      length-append w y,
      length-append is.padding y,
      length-append is.padding [],
      ap length is.whole,
      length-append is.fields is.padding,
    ) in
    ap (lengths_of g (w ++ y)) (header_cut dialect h w y is) ∙ ap (lengths_by g is.items) fields
    ∙ sym (ap (lengths_of g w) (ap (cut dialect) (sym (append-nil w)) ∙ header_cut dialect h w [] is))

-- of a header's bytes alone, whose fields end at `start`
pub lengths_are : (dialect : Dialect) (h : HeaderData) (b : List ℕ) (start : ℕ) → IsHeader dialect h b
    → start + length (cut dialect b).rest ≡ length b
    → lengths_in dialect b h ≡ record {
      unit_length = unwrap_or (unit_len dialect b) 0 - initial_size h.params.format;
      header_length = length b - (initial_size h.params.format + fixed_part h.params.format h.params.version);
      padding = length b - start;
    }
lengths_are dialect h b start is at =
    let end : header_end (cut dialect b).items ≡ Some (length b) =
    ap (λ (c : Cut). header_end c.items) (ap (cut dialect) (sym (append-nil b)) ∙ header_cut dialect h b [] is) ∙ is.end in
    let fields : length b - length (cut dialect b).rest ≡ start = omega (arith, at) in
    rw (end, fields) refl
