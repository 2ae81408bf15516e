-- What is found in the visits of a section.
use Rattle.dl_sections.proofs.Names.{◌++◌, ◌+◌, ◌∙◌, ◌∷◌, ◌≡◌, ◌⊎◌, [], answer, answer_under, ap, append-nil, append_assoc}
use Rattle.dl_sections.proofs.Names.{arith, Bool, concat, Dialect, ends_open, false, finds, fold, fold-append, fold_stays}
use Rattle.dl_sections.proofs.Names.{foreign_no_header, HasUnits, header_in, header_of, HeaderData, inl, inr, IsFound}
use Rattle.dl_sections.proofs.Names.{length, length-append, List, map, no_rows, None, NoneAnswers, of_end, of_item}
use Rattle.dl_sections.proofs.Names.{open_visit, Option, Place, refl, Row, same_from_push, Search, search_of}
use Rattle.dl_sections.proofs.Names.{section_visits, seeks, seen, Some, sym, told, true, unit_rows, units_visits, Visit}
use Rattle.dl_sections.proofs.Names.{visits, ℕ}
use Rattle.dl_rows.proofs.ItemLemmas.{rows_of_unit}
use Rattle.dl_rows.specs.Items.{Item, a_byte, a_row, an_operation, rows_of_items, unit_items}
use Rattle.dl_sections.proofs.Names.{end_visits, unit_visits}
use Rattle.dl_sections.proofs.CopyingVisits.{Foreign, Own, Neither, one_of, foreign_visits, own_visits, no_visits}
use Rattle.dl_sections.proofs.SectionLemmas.{has_front, section_visits-push}

-- u is the first of the units that answers for x: the row r; h is its header
pub record FirstOf (dialect : Dialect) (x : Place) (units : List (List ℕ)) (h : HeaderData) (r : Row) : Type 0 where
  pub before : List (List ℕ)
  pub u : List ℕ
  pub after : List (List ℕ)
  pub whole : units ≡ before ++ u ∷ after
  pub none_before : NoneAnswers dialect x before
  pub row : answer (unit_rows dialect u) x ≡ Some r
  pub header : header_of dialect u ≡ Some h

-- what a search over units came to; rows: those of the current unit
pub data Sought (dialect : Dialect) (x : Place) (units : List (List ℕ)) (rows : List Row) (p : Search) : Type 0 where
  none : NoneAnswers dialect x units → p ≡ seeks rows → Sought dialect x units rows p
  found : (h : HeaderData) (r : Row) → FirstOf dialect x units h r → p ≡ finds h r → Sought dialect x units rows p

-- the last of them apart
last_of : {A : Type 0} (xs : List A) → (xs ≡ []) ⊎ ((init : List A) × (last : A) × (xs ≡ init ++ last ∷ []))
last_of [] = inl refl
last_of (x ∷ xs) = elim (last_of xs) [
  | inl e ↦ inr ([], x, rw e refl)
  | inr s ↦ inr (x ∷ s.0, s.1, ap (λ l. x ∷ l) s.2)
]

module _ (dialect : Dialect) (x : Place) where
  -- ---- visits

  after_items : (before : List Row) (items : List Item) (more : List Visit)
      → fold (seen x) (seeks before) (map of_item items ++ more)
      ≡ fold (seen x) (seeks (before ++ rows_of_items items)) more
  after_items before [] more = rw append-nil refl
  after_items before (a_byte n ∷ items) more = after_items before items more
  after_items before (an_operation header o ∷ items) more = after_items before items more
  after_items before (a_row header r ∷ items) more =
      rw (append_assoc before (r ∷ []) (rows_of_items items)) at (after_items (before ++ r ∷ []) items more)

  after_visits : (n : ℕ) (c : List ℕ) (more : List Visit)
      → fold (seen x) (seeks []) (visits dialect n c ++ more) ≡ fold (seen x) (seeks (unit_rows dialect c)) more
  after_visits n c more = by (one_of dialect n c) where
    by : Foreign dialect n c ⊎ (Own dialect n c ⊎ Neither dialect n c)
        → fold (seen x) (seeks []) (visits dialect n c ++ more) ≡ fold (seen x) (seeks (unit_rows dialect c)) more
    by (inl v) =
        rw (foreign_visits dialect n c v, no_rows dialect c (foreign_no_header dialect c v.0 v.1)) refl
    by (inr (inl own)) = rw (own_visits dialect n c own, ← rows_of_unit dialect c) (after_items [] (unit_items dialect c) more)
    by (inr (inr neither)) = rw (no_visits dialect n c neither, no_rows dialect c neither.1) refl

  after_open : (rows : List Row) (is_open : Bool) (more : List Visit)
      → fold (seen x) (seeks rows) (open_visit is_open ++ more) ≡ fold (seen x) (seeks rows) more
  after_open rows true more = refl
  after_open rows false more = refl

  -- ---- units

  abbrev unit_seen : List ℕ → Search
  unit_seen u = answer_under (header_of dialect u) (answer (unit_rows dialect u) x)

  -- units, and visits after them that give no answer
  in_units : (n : ℕ) (units : List (List ℕ)) (more : List Visit) (rows : List Row)
      → fold (seen x) (seeks []) more ≡ seeks rows
      → Sought dialect x units rows (fold (seen x) (seeks []) (units_visits dialect n units ++ more))
  in_units n [] more rows e = none tt e
  in_units n (u ∷ units) more rows e =
      by (header_in dialect u) refl (answer (unit_rows dialect u) x) refl
      (in_units (n + length u) units more rows e) where
        rest : List Visit
        rest = units_visits dialect (n + length u) units ++ more

        all : List Visit
        all = units_visits dialect n (u ∷ units) ++ more

        after_unit : fold (seen x) (seeks []) all ≡ fold (seen x) (unit_seen u) rest
        after_unit =
            let is_open = ends_open (unit_rows dialect u) in
            let end_is = of_end (header_of dialect u) ∷ rest in
            let apart = append_assoc (unit_visits dialect n u) (units_visits dialect (n + length u) units) more
            ∙ append_assoc (visits dialect n u) (end_visits dialect u) rest
            ∙ ap (λ (z : List Visit). visits dialect n u ++ z)
            (append_assoc (open_visit is_open) (of_end (header_of dialect u) ∷ []) rest) in
            ap (fold (seen x) (seeks [])) apart ∙ after_visits n u (open_visit is_open ++ end_is)
            ∙ after_open (unit_rows dialect u) is_open end_is

        silent : answer (unit_rows dialect u) x ≡ None → unit_seen u ≡ seeks []
            → Sought dialect x units rows (fold (seen x) (seeks []) rest)
            → Sought dialect x (u ∷ units) rows (fold (seen x) (seeks []) all)
        silent quiet is (none each e) = none (quiet, each) (after_unit ∙ rw is e)
        silent quiet is (found h r f e) = found h r (record {
          before = u ∷ f.before;
          u = f.u;
          after = f.after;
          whole = ap (λ (l : List (List ℕ)). u ∷ l) f.whole;
          none_before = (quiet, f.none_before);
          row = f.row;
          header = f.header;
        }) (after_unit ∙ rw is e)

        by : (parts : Option (HeaderData × List ℕ)) → header_in dialect u ≡ parts → (a : Option Row)
            → answer (unit_rows dialect u) x ≡ a → Sought dialect x units rows (fold (seen x) (seeks []) rest)
            → Sought dialect x (u ∷ units) rows (fold (seen x) (seeks []) all)
        by None e a is later = silent (rw (no_rows dialect u e) refl) (rw e refl) later
        by (Some (h, program)) e None is later = silent is (rw (is, e) refl) later
        by (Some (h, program)) e (Some r) is later =
            let header : header_of dialect u ≡ Some h = rw e refl in
            found h r (record {
              before = [];
              u = u;
              after = units;
              whole = refl;
              none_before = tt;
              row = is;
              header = header;
            }) (after_unit ∙ rw (header, is) (fold_stays (seen x) (finds h r) (λ v. refl) rest))

  -- a section comes to what its units come to
  pub in_section : (units : List (List ℕ)) (b : List ℕ)
      → Sought dialect x units (unit_rows dialect b) (search_of x (section_visits dialect units b))
  in_section units b =
      let n = length (concat units) in
      in_units 0 units (visits dialect n b) (unit_rows dialect b) (rw append-nil at (after_visits n b []))

  -- where nothing is found, no unit answers
  pub none_answers : (units : List (List ℕ)) (b : List ℕ) (rows : List Row)
      → search_of x (section_visits dialect units b) ≡ seeks rows
      → NoneAnswers dialect x units × (rows ≡ unit_rows dialect b)
  none_answers units b rows is = elim (in_section units b) [
    | none all e ↦ (all, cc)
    | found h r f e ↦ absurd cc
  ]

  -- what is found is that of the first unit that answers
  pub split_first : (units : List (List ℕ)) (b : List ℕ) (h : HeaderData) (r : Row)
      → search_of x (section_visits dialect units b) ≡ finds h r → FirstOf dialect x units h r
  split_first units b h r is = elim (in_section units b) [
    | none all e ↦ absurd cc
    | found g q f e ↦
        let headers : h ≡ g = cc in
        let rows : r ≡ q = cc in
        rw (headers, rows) f
  ]

  -- that a sequence is open says nothing of answers
  at_open : (units : List (List ℕ)) (b : List ℕ) (rows : List Row) (is_open : Bool)
      → fold (seen x) (search_of x (section_visits dialect units b)) (open_visit is_open) ≡ seeks rows
      → search_of x (section_visits dialect units b) ≡ seeks rows
  at_open units b rows is_open e = by (search_of x (section_visits dialect units b)) is_open e where
    by : (p : Search) (is_open : Bool) → fold (seen x) p (open_visit is_open) ≡ seeks rows → p ≡ seeks rows
    by (seeks own) true e = e
    by (finds h r) true e = e
    by p false e = e

  -- what is found at the end of a unit is that unit's, which is the last
  pub last_first : (units : List (List ℕ)) (before : List Visit) (rows : List Row) (h : HeaderData) (r : Row)
      → section_visits dialect units [] ≡ before ++ of_end (Some h) ∷ [] → search_of x before ≡ seeks rows
      → answer rows x ≡ Some r → (f : FirstOf dialect x units h r) × (f.after ≡ [])
  last_first units before rows h r whole told row = by (last_of units) where
    by : (units ≡ []) ⊎ ((init : List (List ℕ)) × (u : List ℕ) × (units ≡ init ++ u ∷ []))
        → (f : FirstOf dialect x units h r) × (f.after ≡ [])
    by (inl e) =
        let nothing : [] ≡ before ++ of_end (Some h) ∷ [] = rw e at whole in
        absurd (omega (arith, ap length nothing, length-append before (of_end (Some h) ∷ [])))
    by (inr (init, u, e)) =
        let is_open = open_visit (ends_open (unit_rows dialect u)) in
        let parts = same_from_push (section_visits dialect init u ++ is_open) before (of_end (header_of dialect u))
        (of_end (Some h))
        (append_assoc (section_visits dialect init u) is_open (of_end (header_of dialect u) ∷ [])
        ∙ sym (section_visits-push dialect init u) ∙ rw e at whole) in
        let header : header_of dialect u ≡ Some h = cc (parts.1) in
        let init_is = at_open init u rows (ends_open (unit_rows dialect u))
        (sym (fold-append (seen x) (seeks []) (section_visits dialect init u) is_open)
        ∙ ap (search_of x) parts.0 ∙ told) in
        let none_init = none_answers init u rows init_is in (
          record {
            before = init;
            u = u;
            after = [];
            whole = e;
            none_before = none_init.0;
            row = rw none_init.1 at row;
            header = header;
          },
          refl,
        )

  -- the first unit that answers, in the bytes
  pub found_in_bytes : (s : List ℕ) (units : List (List ℕ)) (back : List ℕ) (h : HeaderData) (r : Row)
      → HasUnits dialect s units back → (f : FirstOf dialect x units h r)
      → IsFound dialect x s f.before f.u (concat f.after ++ back) h r
  found_in_bytes s units back h r has f = record {
    has = has_front dialect s units (f.before ++ f.u ∷ []) f.after back (f.whole ∙ simp append_assoc) has;
    none_before = f.none_before;
    row = f.row;
    header = f.header;
  }
