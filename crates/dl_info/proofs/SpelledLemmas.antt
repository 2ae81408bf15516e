-- What is read of some bytes is spelled so.
use Rattle.std.proofs.Common.{◌≡◌, ℕ, suc, ◌+◌, ◌-◌, ◌^◌, ◌<◌, ◌≤◌, Bool, true, false, cond, List, [], ◌∷◌, ◌++◌}
use Rattle.std.proofs.Common.{length, take, drop, Option, Some, None, Result, Ok, Err, refl, sym, ap, ◌∙◌, arith}
use Rattle.std.proofs.Common.{inl, inr, length-append, length-take, nat_lt, IfSome, option_map}
use Rattle.std.specs.Prelude.{◌==◌}
use Rattle.std.proofs.lemmas.Bool.{cases_Bool, cases_lt, eqb-true, eqb-false, le-ltb, lt-ltb, ltb-true, ne_eqb}
use Rattle.std.proofs.Math.Seq.{drop-append-add}
use Rattle.std.proofs.lemmas.List.{drop_at, take_at, take-append-drop}
use Rattle.dl_num.specs.declared.fixed.Order.{Order}
use Rattle.dl_num.specs.Fixed.{fixed}
use Rattle.dl_num.specs.Leb.{groups, IsUleb}
use Rattle.dl_num.specs.LebFront.{is_leb, leb_front, after_leb}
use Rattle.dl_num.proofs.LebLaws.{leb_is}
use Rattle.dl_table.specs.Text.{text_in}
use Rattle.dl_info.specs.declared.front.FieldFault.{FieldFault}
use Rattle.dl_info.specs.declared.front.FieldFault.TheVariants.{Short, Damaged}
use Rattle.dl_info.specs.Front.{fixed_at, text_and_rest, text_at, uleb_at}
use Rattle.dl_info.specs.Grammar.{HasNoZero}

-- ---- what an answer is

-- this is read, and then the rest
abbrev pub Reads : {A : Type 0} → Result (A × List ℕ) FieldFault → A → List ℕ → Type 0
Reads {A = A} read x rest = ◌≡◌ {A = Result (A × List ℕ) FieldFault} read (Ok (x, rest))

abbrev told_or : {A : Type 0} → A × List ℕ → Result (A × List ℕ) FieldFault → A × List ℕ
told_or other (Ok p) = p
told_or other (Err s) = other

pub value_is : {A : Type 0} (x y : A) (u v : List ℕ) → Reads (Ok (x, u)) y v → (x ≡ y) × (u ≡ v)
value_is x y u v is =
    (ap (λ r. (told_or (x, u) r).0) is, ap (λ r. (told_or (x, u) r).1) is)

pub not_read : {A : Type 0} (s : FieldFault) (y : A) (v : List ℕ) → Reads (Err s) y v → ⊥
not_read s y v is = absurd cc

-- a test that has to hold
held : {A : Type 0} (t : Bool) (s : FieldFault) (x y : A) (u v : List ℕ) → Reads (cond t (Ok (x, u)) (Err s)) y v
    → (t ≡ true) × (x ≡ y) × (u ≡ v)
held true s x y u v is = let same = value_is x y u v is in (refl, same.0, same.1)
held false s x y u v is = absurd (not_read s y v is)

-- ---- numbers of fixed size

pub fixed_told : (order : Order) (k n : ℕ) (b rest : List ℕ) → Reads (fixed_at order k b) n rest
    → (w : List ℕ) × (b ≡ w ++ rest) × (length w ≡ k) × (n ≡ fixed order w)
unfolding fixed_at
fixed_told order k n b rest is = elim (cases_lt (length b) k) [
  | inl less ↦ absurd (not_read (Short (k - length b)) n rest (rw (lt-ltb (length b) k less) at is))
  | inr enough ↦
      let same = value_is (fixed order (take k b)) n (drop k b) rest (rw (le-ltb (length b) k enough) at is) in
      (take k b, rw (← same.1) (sym (take-append-drop k b)), omega (arith, length-take k b, enough), sym same.0)
]

pub fixed_read : (order : Order) (k n : ℕ) (b rest w : List ℕ) → b ≡ w ++ rest → length w ≡ k → n ≡ fixed order w
    → Reads (fixed_at order k b) n rest
unfolding fixed_at
fixed_read order k n b rest w parts size is =
    let enough : k ≤ length (w ++ rest) = omega (arith, length-append w rest, size) in
    rw (parts, is) (rw (le-ltb (length (w ++ rest)) k enough, take_at w rest k size, drop_at w rest k size) refl)

-- ---- numbers in LEB128

pub front_and_rest : (b : List ℕ) → b ≡ leb_front b ++ after_leb b
front_and_rest [] = refl
front_and_rest (a ∷ b) = elim (cases_lt a 128) [
  | inl less ↦ rw (lt-ltb a 128 less) refl
  | inr more ↦ rw (le-ltb a 128 more) (ap (λ w. a ∷ w) (front_and_rest b))
]

pub uleb_told : (n : ℕ) (b rest : List ℕ) → Reads (uleb_at b) n rest
    → (w : List ℕ) × (b ≡ w ++ rest) × IsUleb w n × (n < 2 ^ 64)
unfolding uleb_at
uleb_told n b rest is =
    let w = leb_front b in
    elim (cases_Bool (is_leb w)) [
      | inl whole ↦
          let same = held (nat_lt (groups w) (2 ^ 64)) Damaged (groups w) n (after_leb b) rest (rw whole at is) in
          let below : groups w < 2 ^ 64 = ltb-true (groups w) (2 ^ 64) same.0 in
          let leb = leb_is w whole in
          (w, rw (← same.2) (front_and_rest b), (leb.0, leb.1, leb.2, sym same.1), rw (← same.1) below)
      | inr none ↦ absurd (not_read (Short 1) n rest (rw none at is))
    ]

-- ---- texts

-- the bytes are the text, its zero byte, and what follows that
abbrev Parts : List ℕ → List ℕ → Type 0
Parts b t = (b ≡ t ++ 0 ∷ drop (length t + 1) b) × HasNoZero t

text_parts : (b : List ℕ) → IfSome (text_in b) (Parts b)
text_parts [] = tt
text_parts (x ∷ b) = elim (cases_Bool (x == 0)) [
  | inl is ↦ rw is (ap (λ y. y ∷ b) (eqb-true x 0 is), tt)
  | inr other ↦ rw other (longer x b (text_in b) (eqb-false x 0 other) (text_parts b))
] where
  longer : (x : ℕ) (b : List ℕ) (now : Option (List ℕ)) → (x ≡ 0 → ⊥) → IfSome now (Parts b)
      → IfSome (option_map (λ t. x ∷ t) now) (Parts (x ∷ b))
  longer x b None some h = tt
  longer x b (Some t) some h =
      let one_more : length (x ∷ t) + 1 ≡ suc (length t + 1) = omega arith in
      (rw one_more (ap (λ w. x ∷ w) h.0), (some, h.1))

text_is : (t rest : List ℕ) → HasNoZero t → text_in (t ++ 0 ∷ rest) ≡ Some t
text_is [] rest none = refl
text_is (x ∷ t) rest none = rw (ne_eqb x 0 none.0) (ap (option_map (λ w. x ∷ w)) (text_is t rest none.1))

pub text_read : (t b rest : List ℕ) → b ≡ t ++ 0 ∷ rest → HasNoZero t → Reads (text_at b) t rest
text_read t b rest parts none =
    let long : drop (length t + 1) (t ++ 0 ∷ rest) ≡ rest = drop-append-add t (0 ∷ rest) 1 in
    rw parts (ap (text_and_rest (t ++ 0 ∷ rest)) (text_is t rest none) ∙ ap (λ r. Ok (t, r)) long)

pub text_told : (t b rest : List ℕ) → Reads (text_at b) t rest → (b ≡ t ++ 0 ∷ rest) × HasNoZero t
text_told t b rest is = told b t rest (text_in b) (text_parts b) is where
  told : (b t rest : List ℕ) (now : Option (List ℕ)) → IfSome now (Parts b) → Reads (text_and_rest b now) t rest
      → (b ≡ t ++ 0 ∷ rest) × HasNoZero t
  told b t rest None h is = absurd (not_read (Short 1) t rest is)
  told b t rest (Some u) h is =
      let same = value_is u t (drop (length u + 1) b) rest is in
      rw (← same.0, ← same.1) h
