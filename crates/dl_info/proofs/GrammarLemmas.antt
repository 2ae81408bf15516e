-- What is read is spelled so, and what is spelled so is read.
use Rattle.std.proofs.Common.{◌≡◌, ℕ, Bool, true, false, cond, List, [], ◌++◌}
use Rattle.std.proofs.Common.{Option, Some, None, Result, Ok, Err, refl, sym, ap, subst, ◌∙◌}
use Rattle.std.proofs.Common.{append_assoc}
use Rattle.dl_info.specs.declared.front.FieldFault.{FieldFault}
use Rattle.dl_info.specs.declared.front.FieldFault.TheVariants.{Damaged}
use Rattle.dl_info.specs.Front.{◌>>=◌, or_damaged}
use Rattle.dl_info.specs.Grammar.{Done, Known, Never, Then, Which}
use Rattle.dl_info.proofs.SteadyLemmas.{afterwards}
use Rattle.dl_info.proofs.SpelledLemmas.{value_is}

-- read gives exactly what S spells, and leaves the bytes after it
pub record Reader {A : Type 0} (read : List ℕ → Result (A × List ℕ) FieldFault) (S : A → List ℕ → Type 0) : Type 0 where
  pub told : (b rest : List ℕ) (x : A) → ◌≡◌ {A = Result (A × List ℕ) FieldFault} (read b) (Ok (x, rest))
      → (w : List ℕ) × (b ≡ w ++ rest) × S x w
  pub gives : (x : A) (w rest : List ℕ) → S x w → ◌≡◌ {A = Result (A × List ℕ) FieldFault} (read (w ++ rest)) (Ok (x, rest))

-- the value of a reading that goes on
pub bound : {A B : Type 0} (r : Result A FieldFault) (f : A → Result B FieldFault) (y : B) → (r >>= f) ≡ Ok y
    → (x : A) × (r ≡ Ok x) × (f x ≡ Ok y)
bound (Ok x) f y e = (x, refl, e)
bound (Err s) f y e = absurd cc

pub then_reads : {A B : Type 0} (read : List ℕ → Result (A × List ℕ) FieldFault)
    (next : A → List ℕ → Result (B × List ℕ) FieldFault) (S : A → List ℕ → Type 0) (T : A → B → List ℕ → Type 0)
    → Reader read S → ((x : A) → Reader (next x) (T x)) → Reader (λ b. afterwards next (read b)) (Then S T)
then_reads read next S T first others =
    record {
      told = λ b rest y is.
          let step = bound (read b) (λ x. next x.0 x.1) (y, rest) is in
          let one = first.told b step.0.1 step.0.0 step.1 in
          let two = (others step.0.0).told step.0.1 rest y step.2 in
          let parts : b ≡ (one.0 ++ two.0) ++ rest =
          one.1 ∙ (ap (λ v. one.0 ++ v) two.1 ∙ sym (append_assoc one.0 two.0 rest)) in
          (one.0 ++ two.0, parts, (step.0.0, one.0, two.0, refl, one.2, two.2));
      gives = λ y w rest spelt.
          let x = spelt.0 in
          let u = spelt.1 in
          let v = spelt.2 in
          let parts : w ++ rest ≡ u ++ (v ++ rest) = ap (λ z. z ++ rest) spelt.3 ∙ append_assoc u v rest in
          ap (λ b. afterwards next (read b)) parts
          ∙ (ap (afterwards next) (first.gives x u (v ++ rest) spelt.4) ∙ (others x).gives y v rest spelt.5);
    }

pub done_reads : {A : Type 0} (x : A) → Reader (λ b. Ok (x, b)) (Done x)
done_reads x =
    record {
      told = λ b rest y is. let same = value_is x y b rest is in ([], same.1, (sym same.0, refl));
      gives = λ y w rest spelt. rw (spelt.0, spelt.1) refl;
    }

pub never_reads : {A : Type 0} (s : FieldFault) → Reader {A = A} (λ b. Err s) Never
never_reads s = record { told = λ b rest y is. absurd cc; gives = λ y w rest spelt. absurd spelt }

pub which_reads : {A : Type 0} (t : Bool) (f g : List ℕ → Result (A × List ℕ) FieldFault) (S T : A → List ℕ → Type 0)
    → Reader f S → Reader g T → Reader (λ b. cond t (f b) (g b)) (Which t S T)
which_reads true f g S T rf rg = rf
which_reads false f g S T rf rg = rg

pub known_reads : {A B : Type 0} (o : Option A) (next : A → List ℕ → Result (B × List ℕ) FieldFault)
    (S : A → B → List ℕ → Type 0) → ((x : A) → Reader (next x) (S x))
    → Reader (λ b. or_damaged o >>= λ x. next x b) (Known o S)
known_reads (Some x) next S others = others x
known_reads None next S others = never_reads Damaged

abbrev done_with : {A : Type 0} → A → Result A FieldFault → A
done_with other (Ok x) = x
done_with other (Err s) = other

-- what is known without bytes
pub answered_reads : {A B : Type 0} (r : Result A FieldFault) (next : A → List ℕ → Result (B × List ℕ) FieldFault)
    (S : A → B → List ℕ → Type 0) → ((x : A) → Reader (next x) (S x))
    → Reader (λ b. r >>= λ x. next x b) (λ y w. (x : A) × (r ≡ Ok x) × S x y w)
answered_reads (Ok x) next S others =
    record {
      told = λ b rest y is. let s = (others x).told b rest y is in (s.0, s.1, (x, refl, s.2));
      gives = λ y w rest spelt.
          let same : x ≡ spelt.0 = ap (done_with x) spelt.1 in
          (others x).gives y w rest (subst (λ z. S z y w) (sym same) spelt.2);
    }
answered_reads (Err s) next S others =
    record { told = λ b rest y is. absurd cc; gives = λ y w rest spelt. absurd (let e = spelt.1 in cc) }

-- the same bytes in other words
pub same_reads : {A : Type 0} (read : List ℕ → Result (A × List ℕ) FieldFault) (S T : A → List ℕ → Type 0) → Reader read S
    → ((x : A) (w : List ℕ) → S x w → T x w) → ((x : A) (w : List ℕ) → T x w → S x w) → Reader read T
same_reads read S T reader there back =
    record {
      told = λ b rest x is. let s = reader.told b rest x is in (s.0, s.1, there x s.0 s.2);
      gives = λ x w rest spelt. reader.gives x w rest (back x w spelt);
    }
