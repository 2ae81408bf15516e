-- The laws of numbers in LEB128.
use Rattle.std.proofs.Common.{◌≡◌, ℕ, true, nat_le, List, [], ◌∷◌, ◌++◌, refl, sym, ap, ◌∙◌}
use Rattle.std.proofs.lemmas.Bool.{ltb-true, leb-true}
use Rattle.std.proofs.Math.Seq.{drop-append_seam}
use Rattle.dl_num.specs.Leb.{IsLeb, signed_groups}
use Rattle.dl_num.specs.LebFront.{is_leb, leb_front}
use Rattle.dl_num.specs.Laws.{OneUnsignedValue, OneSignedValue, NoUlebBeginsAnother, NoSlebBeginsAnother, LebIsTested}
use Rattle.dl_num.specs.Laws.{LebIsFront}
use Rattle.dl_num.proofs.LebFrontLemmas.{is_leb-ends, is_leb-once, leb_front-append, leb_front-leb, and_left, and_right}
use Rattle.dl_num.proofs.LebFrontLemmas.{true_false}

last_same : (u v : List ℕ) (a b : ℕ) → u ++ a ∷ [] ≡ v ++ b ∷ [] → a ≡ b
last_same [] [] a b e = cc
last_same [] (y ∷ []) a b e = absurd cc
last_same [] (y ∷ z ∷ v) a b e = absurd cc
last_same (x ∷ []) [] a b e = absurd cc
last_same (x ∷ w ∷ u) [] a b e = absurd cc
last_same (x ∷ u) (y ∷ v) a b e = last_same u v a b (let f : u ++ a ∷ [] ≡ v ++ b ∷ [] = cc in f)

pub one_unsigned : OneUnsignedValue
one_unsigned w m n a b = a.3 ∙ sym b.3

pub one_signed : OneSignedValue
one_signed w i j a b =
    let e : a.1 ≡ b.1 = last_same a.0 b.0 a.1 b.1 (sym a.2.bytes ∙ b.2.bytes) in
    a.3 ∙ ap (λ (x : ℕ). signed_groups w x) e ∙ sym b.3

pub is_leb-of : (w front : List ℕ) (last : ℕ) → IsLeb w front last → is_leb w ≡ true
is_leb-of w front last is = rw is.bytes (is_leb-ends front last is.continue is.ends)

no_more : (w v : List ℕ) → is_leb w ≡ true → is_leb (w ++ v) ≡ true → v ≡ []
no_more w [] e f = refl
no_more w (x ∷ v) e f = absurd (true_false f (is_leb-once w x v e))

pub no_uleb_begins : NoUlebBeginsAnother
no_uleb_begins w v m n a b = no_more w v (is_leb-of w a.0 a.1 a.2) (is_leb-of (w ++ v) b.0 b.1 b.2)

pub no_sleb_begins : NoSlebBeginsAnother
no_sleb_begins w v i j a b = no_more w v (is_leb-of w a.0 a.1 a.2) (is_leb-of (w ++ v) b.0 b.1 b.2)

pub leb_is : (w : List ℕ) → is_leb w ≡ true → (front : List ℕ) × (last : ℕ) × IsLeb w front last
leb_is [] e = absurd cc
leb_is (b ∷ []) e = ([], b, record { bytes = refl; continue = tt; ends = ltb-true b 128 e })
leb_is (a ∷ c ∷ w) e =
    let r = leb_is (c ∷ w) (and_right (nat_le 128 a) (is_leb (c ∷ w)) e) in (
      a ∷ r.0,
      r.1,
      record {
        bytes = ap (λ (z : List ℕ). a ∷ z) r.2.bytes;
        continue =
            (leb-true 128 a (and_left (nat_le 128 a) (is_leb (c ∷ w)) e), r.2.continue);
        ends = r.2.ends;
      },
    )

pub leb_tested : LebIsTested
leb_tested w n = (λ a. (is_leb-of w a.0 a.1 a.2, a.3), λ t. (let r = leb_is w t.0 in (r.0, r.1, r.2, t.1)))

pub leb_is_front : LebIsFront
leb_is_front w v n a =
    let t : is_leb w ≡ true = is_leb-of w a.0 a.1 a.2 in
    let f : leb_front w ≡ w = leb_front-leb w t in
    let e : leb_front (w ++ v) ≡ w = leb_front-append w v (ap is_leb f ∙ t) ∙ f in
    (e, rw e (drop-append_seam w v))
