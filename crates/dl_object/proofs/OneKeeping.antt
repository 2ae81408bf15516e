-- What is left of bytes is one thing alone.
use Rattle.dl_head.specs.declared.dialect.Dialect.{Dialect}
use Rattle.std.proofs.Common.{◌≡◌, ◌⊎◌, inl, inr, ℕ, ◌+◌, ◌<◌, List, [], ◌∷◌, ◌++◌, length, take, drop, Some}
use Rattle.std.proofs.Common.{refl, sym, ap, subst, ◌∙◌, arith, append_assoc, append-nil, length-append}
use Rattle.std.proofs.lemmas.List.{take_at, drop_at}
use Rattle.dl_num.specs.declared.fixed.Order.{Order}
use Rattle.dl_field.specs.HeaderData.{HeaderData}
use Rattle.dl_field.proofs.FieldLemmas.{none_some, some_same}
use Rattle.dl_head.specs.Header.{IsHeader, foreign_in, unit_len}
use Rattle.dl_head.proofs.ForeignLemmas.{foreign_on}
use Rattle.dl_head.proofs.HeaderLaws.{one_header, header_is_not_foreign}
use Rattle.dl_head.proofs.QuietLemmas.{header_is_not_refused}
use Rattle.dl_reloc.specs.declared.placed.Placed.{Placed}
use Rattle.dl_rows.proofs.FirstLemmas.{split_front}
use Rattle.dl_rows.proofs.UnitLemmas.{unit_len_on}
use Rattle.dl_object.specs.Kept.{program_kept}
use Rattle.dl_object.specs.Section.{IsBody, IsUnread, NoneFollows, Keeps, ends, unread, own}
use Rattle.dl_object.specs.Laws.{OneKeeping}

-- bytes cut at one place
same_cut : (u after v back : List ℕ) → u ++ after ≡ v ++ back → length u ≡ length v → (u ≡ v) × (after ≡ back)
same_cut u after v back e n = (
  sym (take_at u after (length u) refl) ∙ ap (take (length u)) e ∙ take_at v back (length u) (sym n),
  sym (drop_at u after (length u) refl) ∙ ap (drop (length u)) e ∙ drop_at v back (length u) (sym n),
)

-- two fronts of bytes
abbrev Fronts : List ℕ → List ℕ → Type 0
Fronts w v = ((y : ℕ) × (z : List ℕ) × (w ≡ v ++ y ∷ z)) ⊎ ((u : List ℕ) × (v ≡ w ++ u))

fronts : (w after v back : List ℕ) → w ++ after ≡ v ++ back → Fronts w v
fronts w after v back e = elim (split_front w after v back e) [ inl p ↦ inl p | inr q ↦ inr (q.0, q.1) ]

-- the heads of a unit tell one length
len_same : (dialect : Dialect) (w v : List ℕ) (m n : ℕ) → Fronts w v → unit_len dialect w ≡ Some m
    → unit_len dialect v ≡ Some n → m ≡ n
len_same dialect w v m n (inl p) a b =
    some_same m n (sym a ∙ ap (unit_len dialect) p.2 ∙ unit_len_on dialect v (p.0 ∷ p.1) n b)
len_same dialect w v m n (inr q) a b =
    some_same m n (sym (unit_len_on dialect w q.0 m a) ∙ ap (unit_len dialect) (sym q.1) ∙ b)

sizes : (u after v back : List ℕ) (n : ℕ) → u ++ after ≡ v ++ back
    → (length u ≡ n) ⊎ ((length u < n) × (after ≡ [])) → (length v ≡ n) ⊎ ((length v < n) × (back ≡ []))
    → length u ≡ length v
sizes u after v back n e (inl a) (inl b) = a ∙ sym b
sizes u after v back n e (inl a) (inr b) =
    let all = ap length e in
    let left = length-append u after in
    let right = length-append v back in
    let none = ap length b.1 in
    let lt = b.0 in
    absurd (omega (arith, all, left, right, none, lt, a))
sizes u after v back n e (inr a) (inl b) =
    let all = ap length e in
    let left = length-append u after in
    let right = length-append v back in
    let none = ap length a.1 in
    let lt = a.0 in
    absurd (omega (arith, all, left, right, none, lt, b))
sizes u after v back n e (inr a) (inr b) =
    let all = ap length e in
    let left = length-append u after in
    let right = length-append v back in
    let none = ap length a.1 in
    let other = ap length b.1 in
    omega (arith, all, left, right, none, other)

regroup : (head body after b : List ℕ) → (head ++ body) ++ after ≡ b → head ++ (body ++ after) ≡ b
regroup head body after b e = sym (append_assoc head body after) ∙ e

module _ (dialect : Dialect) (head body after head2 body2 after2 : List ℕ)
    (e : (head ++ body) ++ after ≡ (head2 ++ body2) ++ after2) where
  both : Fronts head head2
  both = fronts head (body ++ after) head2 (body2 ++ after2)
      (regroup head body after _ e ∙ append_assoc head2 body2 after2)

  -- one unit stands at the front
  same_unit : IsBody dialect head body after → IsBody dialect head2 body2 after2
      → (head ++ body ≡ head2 ++ body2) × (after ≡ after2)
  same_unit one two =
      let n : one.len ≡ two.len = len_same dialect head head2 one.len two.len both one.told two.told in
      same_cut (head ++ body) after (head2 ++ body2) after2 e
      (sizes (head ++ body) after (head2 ++ body2) after2 one.len e one.size
      (subst (λ (k : ℕ). (length (head2 ++ body2) ≡ k) ⊎ ((length (head2 ++ body2) < k) × (after2 ≡ []))) (sym n)
      two.size))

  nil_or : (y : ℕ) (z : List ℕ) → ◌≡◌ {A = List ℕ} (y ∷ z) [] → ⊥
  nil_or y z f = absurd cc

  -- of one header
  same_header : (h h2 : HeaderData) → IsHeader dialect h head → IsHeader dialect h2 head2
      → Fronts head head2 → (head ≡ head2) × (h ≡ h2)
  same_header h h2 one two (inl p) =
      absurd (nil_or p.0 p.1 (one_header dialect h2 h head2 (p.0 ∷ p.1) two (subst (IsHeader dialect h) p.2 one)).0)
  same_header h h2 one two (inr q) =
      let same = one_header dialect h h2 head q.0 one (subst (IsHeader dialect h2) q.1 two) in
      (sym (q.1 ∙ ap (λ (u : List ℕ). head ++ u) same.0 ∙ append-nil head), same.1)

  -- a header is read
  not_foreign : (version : ℕ) (h2 : HeaderData) → foreign_in dialect head ≡ Some version → IsHeader dialect h2 head2
      → Fronts head head2 → ⊥
  not_foreign version h2 f two (inl p) =
      none_some (header_is_not_foreign dialect h2 head2 (p.0 ∷ p.1) two) (ap (foreign_in dialect) (sym p.2) ∙ f)
  not_foreign version h2 f two (inr q) =
      none_some (ap (foreign_in dialect) (sym (append-nil head2)) ∙ header_is_not_foreign dialect h2 head2 [] two)
      (ap (foreign_in dialect) q.1 ∙ foreign_on dialect head q.0 version f)

  not_both : (h2 : HeaderData) → IsUnread dialect head → IsHeader dialect h2 head2 → Fronts head head2 → ⊥
  not_both h2 (inl f) two front = not_foreign f.0 h2 f.1 two front
  not_both h2 (inr r) two front =
      header_is_not_refused dialect h2 head2 (body2 ++ after2) head (body ++ after) r.place r.kind two
      (sym (regroup head body after _ e ∙ append_assoc head2 body2 after2)) r.refused

  -- its program
  same_body : head ≡ head2 → head ++ body ≡ head2 ++ body2 → body ≡ body2
  same_body h u = (same_cut head body head2 body2 u (ap length h)).1

-- no unit begins where one does
none_own : (dialect : Dialect) (b : List ℕ) (h : HeaderData) (head body after : List ℕ) → NoneFollows dialect b
    → b ≡ (head ++ body) ++ after → IsHeader dialect h head → ⊥
none_own dialect b h head body after none e is =
    none.none.own h head (body ++ after) (e ∙ append_assoc head body after) is

none_unread : (dialect : Dialect) (b head body after : List ℕ) → NoneFollows dialect b → b ≡ (head ++ body) ++ after
    → IsUnread dialect head → IsBody dialect head body after → ⊥
none_unread dialect b head body after none e (inl f) is =
    none.none.foreign f.0 head (body ++ after) is.len (e ∙ append_assoc head body after) f.1 is.told is.head_within
none_unread dialect b head body after none e (inr r) is =
    none.refused head (body ++ after) is.len (e ∙ append_assoc head body after) r is.told

left_same : (order : Order) (places : List Placed) (section at : ℕ) (h h2 : HeaderData) (head head2 body body2 : List ℕ)
    → head ≡ head2 → h ≡ h2 → body ≡ body2
    → head ++ program_kept order h.params places section (at + length head) body
    ≡ head2 ++ program_kept order h2.params places section (at + length head2) body2
left_same order places section at h h2 head head2 body body2 s t u =
    ap (λ (z : List ℕ). z ++ program_kept order h.params places section (at + length z) body) s
    ∙ ap (λ (z : HeaderData). head2 ++ program_kept order z.params places section (at + length head2) body) t
    ∙ ap (λ (z : List ℕ). head2 ++ program_kept order h2.params places section (at + length head2) z) u

module _ (dialect : Dialect) (places : List Placed) (section : ℕ) where
  one : {at : ℕ} {b new b2 new2 : List ℕ} → Keeps dialect places section at b new
      → Keeps dialect places section at b2 new2 → b ≡ b2 → new ≡ new2
  one (ends n) (ends m) e = e
  one (ends {b = b} n) (unread {head = head} {body = body} {after = after} f is k) e =
      absurd (none_unread dialect b head body after n e f is)
  one (ends {b = b} n) (own {h = h} {head = head} {body = body} {after = after} a is k) e =
      absurd (none_own dialect b h head body after n e a)
  one (unread {head = head} {body = body} {after = after} f is k) (ends {b = b} n) e =
      absurd (none_unread dialect b head body after n (sym e) f is)
  one (unread {at = at} {head = head} {body = body} {after = after} {new = new} f is k)
      (unread {head = head2} {body = body2} {after = after2} {new = new2} f2 is2 k2) e =
      let u = same_unit dialect head body after head2 body2 after2 e is is2 in
      let later : new ≡ new2 =
      one k (subst (λ (z : List ℕ). Keeps dialect places section (at + length z) after2 new2) (sym u.0) k2) u.1 in
      ap (λ (z : List ℕ). z ++ new) u.0 ∙ ap (λ (z : List ℕ). (head2 ++ body2) ++ z) later
  one (unread {head = head} {body = body} {after = after} f is k)
      (own {h = h2} {head = head2} {body = body2} {after = after2} a2 is2 k2) e =
      absurd (not_both dialect head body after head2 body2 after2 e h2 f a2
      (both dialect head body after head2 body2 after2 e))
  one (own {h = h} {head = head} {body = body} {after = after} a is k) (ends {b = b} n) e =
      absurd (none_own dialect b h head body after n (sym e) a)
  one (own {h = h} {head = head} {body = body} {after = after} a is k)
      (unread {head = head2} {body = body2} {after = after2} f2 is2 k2) e =
      absurd (not_both dialect head2 body2 after2 head body after (sym e) h f2 a
      (both dialect head2 body2 after2 head body after (sym e)))
  one (own {at = at} {h = h} {head = head} {body = body} {after = after} {new = new} a is k)
      (own {h = h2} {head = head2} {body = body2} {after = after2} {new = new2} a2 is2 k2) e =
      let u = same_unit dialect head body after head2 body2 after2 e is is2 in
      let s = same_header dialect head body after head2 body2 after2 e h h2 a a2
      (both dialect head body after head2 body2 after2 e) in
      let t = same_body dialect head body after head2 body2 after2 e s.0 u.0 in
      let later : new ≡ new2 =
      one k (subst (λ (z : List ℕ). Keeps dialect places section (at + length z) after2 new2) (sym u.0) k2) u.1 in
      ap (λ (z : List ℕ). z ++ new) (left_same dialect.order places section at h h2 head head2 body body2 s.0 s.1 t)
      ∙ ap (λ (z : List ℕ). (head2 ++ program_kept dialect.order h2.params places section (at + length head2)
      body2) ++ z) later

pub one_keeping : OneKeeping
one_keeping dialect places section at b new new2 k k2 = one dialect places section k k2 refl
