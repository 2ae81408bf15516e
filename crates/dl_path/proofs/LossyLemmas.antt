-- The text with U+FFFD for what isn't UTF-8 goes apart at a slash.
use Rattle.std.proofs.Common.{◌≡◌, ℕ, zero, suc, ◌+◌, ◌-◌, ◌<◌, ◌≤◌, Bool, true, false, List, [], ◌∷◌, ◌++◌, length}
use Rattle.std.proofs.Common.{take, drop, get_or, refl, sym, ap, ap₂, ◌∙◌, arith, append_assoc, subst, ⊎_elim}
use Rattle.std.proofs.Common.{length-append, length-drop, Option, Some, None}
use Rattle.std.specs.Prelude.{if◌then◌else◌, ◌&&◌, unwrap_or, nat_lt, nat_le, ◌==◌}
use Rattle.std.specs.Int.{is_in_range}
use Rattle.std.specs.Str.{IsUtf8, IsValidUpTo, is_utf8}
use Rattle.std.specs.Str.Lossy.{utf8_valid_len, utf8_invalid_len, utf8_lossy, utf8_error_len, error_len_after_two}
use Rattle.std.specs.Str.Lossy.{error_len_of_some}
use Rattle.std.specs.Str.Lossy.{replacement_bytes, valid_len_up_to, second_byte_min, second_byte_max}
use Rattle.std.proofs.lemmas.Bool.{cases_lt, le-ltb, ne_eqb, true≢false}
use Rattle.std.proofs.lemmas.List.{take_all, take_at, drop_at, take-append-le, drop-append-le}
use Rattle.std.proofs.Math.Seq.{take-append-add, drop-append-add, get_or-append_seam}
use Rattle.std.proofs.lemmas.Str.{IsCharBoundary-before_ascii, IsCharBoundary-from_take, IsUtf8-append, IsUtf8-drop}
use Rattle.std.proofs.lemmas.Str.{IsUtf8-from_ascii, IsUtf8-from_is_utf8, IsUtf8-nil, IsUtf8-take, is_utf8-from_IsUtf8}
use Rattle.std.proofs.lemmas.Str.{utf8_lossy-IsUtf8, utf8_lossy_step}
use Rattle.std.proofs.lemmas.Str.{utf8_valid_len-IsValidUpTo}

-- ---- texts

pub before_slash : (w rest : List ℕ) → IsUtf8 (w ++ 0x2f ∷ rest) → IsUtf8 w
before_slash w rest u =
    let bs = w ++ 0x2f ∷ rest in
    let lt : length w < length bs = omega (arith, length-append w (0x2f ∷ rest)) in
    let low : get_or bs (length w) 0 < 128 = omega (arith, get_or-append_seam w 0x2f rest 0) in
    subst IsUtf8 (take_at w (0x2f ∷ rest) (length w) refl)
    (IsUtf8-take bs (length w) u (IsCharBoundary-before_ascii bs (length w) lt low))

after_text : (p q : List ℕ) → IsUtf8 p → IsUtf8 (p ++ q) → IsUtf8 q
after_text p q text u =
    let bs = p ++ q in
    let le : length p ≤ length bs = omega (arith, length-append p q) in
    let front : IsUtf8 (take (length p) bs) = subst IsUtf8 (sym (take_at p q (length p) refl)) text in
    subst IsUtf8 (drop_at p q (length p) refl)
    (IsUtf8-drop bs (length p) u (IsCharBoundary-from_take bs (length p) u le front))

pub ascii_text : (b : ℕ) → b < 128 → IsUtf8 (b ∷ [])
ascii_text b low = IsUtf8-from_ascii (b ∷ []) each where
  each : (i : ℕ) → get_or (b ∷ []) i 0 < 128
  each zero = low
  each (suc i) = omega arith

-- ---- the longest front that is a text

abbrev Longest : List ℕ → (n v : ℕ) → Type 0
Longest bs n v = IsUtf8 (take v bs) × ((k : ℕ) → v < k → k ≤ n → IsUtf8 (take k bs) → ⊥)

longest_more : (bs : List ℕ) (n : ℕ) → Longest bs n (valid_len_up_to bs n) → (b : Bool) → is_utf8 (take (suc n) bs) ≡ b
    → Longest bs (suc n) (if b then suc n else valid_len_up_to bs n)
longest_more bs n l true e = (IsUtf8-from_is_utf8 (take (suc n) bs) e, λ k p q u. absurd (omega arith))
longest_more bs n l false e = (
  l.0,
  λ k p q u. ⊎_elim (λ less. l.1 k p (omega arith) u)
      (λ more. let same : k ≡ suc n = omega arith in
      true≢false (sym (is_utf8-from_IsUtf8 (take (suc n) bs) (subst (λ m. IsUtf8 (take m bs)) same u)) ∙ e))
      (cases_lt k (suc n)),
)

longest : (bs : List ℕ) (n : ℕ) → Longest bs n (valid_len_up_to bs n)
longest bs zero = (IsUtf8-nil, λ k p q u. absurd (omega arith))
longest bs (suc n) = longest_more bs n (longest bs n) (is_utf8 (take (suc n) bs)) refl

valid_is : (bs : List ℕ) → utf8_valid_len bs < length bs → IsValidUpTo bs (utf8_valid_len bs)
unfolding utf8_valid_len
valid_is bs short =
    let l = longest bs (length bs) in
    record {
      short = short;
      front = l.0;
      longest = λ m lt u. ⊎_elim (λ less. l.1 m lt (omega arith) u)
          (λ more. l.1 (length bs) short (omega arith)
          (subst IsUtf8 (take_all m bs more ∙ sym (take_all (length bs) bs (omega arith))) u))
          (cases_lt m (length bs));
    }

text_is : (bs : List ℕ) → length bs ≤ utf8_valid_len bs → IsUtf8 bs
unfolding utf8_valid_len
text_is bs le = subst IsUtf8 (take_all (valid_len_up_to bs (length bs)) bs le) (longest bs (length bs)).0

-- ---- a step of the definition, from a length that is known

abbrev step_at : List ℕ → ℕ → List ℕ
step_at bs n =
    take n bs ++ (replacement_bytes ++ utf8_lossy (drop (n + utf8_invalid_len (drop n bs)) bs))

steps_at : (bs : List ℕ) (n : ℕ) → IsValidUpTo bs n → utf8_lossy bs ≡ step_at bs n
steps_at bs n is =
    let same = utf8_valid_len-IsValidUpTo bs n is in
    let short = is.short in
    utf8_lossy_step bs (λ e. absurd (omega (arith, e, same))) ∙ ap (step_at bs) same

-- a text at the front stays
pub lossy_after_text : (p b : List ℕ) → IsUtf8 p → utf8_lossy (p ++ b) ≡ p ++ utf8_lossy b
lossy_after_text p b text = ⊎_elim faulty whole (cases_lt (utf8_valid_len b) (length b)) where
  whole : length b ≤ utf8_valid_len b → utf8_lossy (p ++ b) ≡ p ++ utf8_lossy b
  whole le =
      utf8_lossy-IsUtf8 (p ++ b) (IsUtf8-append p b text (text_is b le))
      ∙ ap (λ (l : List ℕ). p ++ l) (sym (utf8_lossy-IsUtf8 b (text_is b le)))

  faulty : utf8_valid_len b < length b → utf8_lossy (p ++ b) ≡ p ++ utf8_lossy b
  faulty lt =
      let v = utf8_valid_len b in
      let n = length p + v in
      let bs = p ++ b in
      let own = valid_is b lt in
      let i = utf8_invalid_len (drop v b) in
      let is : IsValidUpTo bs n = record {
        short = omega (arith, length-append p b);
        front = subst IsUtf8 (sym (take-append-add p b v)) (IsUtf8-append p (take v b) text own.front);
        longest = λ m more u.
            let k = m - length p in
            let same : m ≡ length p + k = omega arith in
            own.longest k (omega arith) (after_text p (take k b) text
            (subst IsUtf8 (ap (λ j. take j bs) same ∙ take-append-add p b k) u));
      } in
      let sum : n + i ≡ length p + (v + i) = omega arith in
      steps_at bs n is
      ∙ ap₂ (λ (x : List ℕ) (y : ℕ). x ++ (replacement_bytes ++ utf8_lossy (drop (n + y) bs)))
      (take-append-add p b v) (ap utf8_invalid_len (drop-append-add p b v))
      ∙ ap (λ (l : List ℕ). (p ++ take v b) ++ (replacement_bytes ++ utf8_lossy l))
      (ap (λ j. drop j bs) sum ∙ drop-append-add p b (v + i))
      ∙ append_assoc p (take v b) (replacement_bytes ++ utf8_lossy (drop (v + i) b))
      ∙ ap (λ (l : List ℕ). p ++ l) (sym (steps_at b v own))

-- ---- how many bytes aren't UTF-8

no_second : (p q more : Bool) → (nat_le (if p then 0xA0 else (if q then 0x90 else 0x80)) 0x2f && more) ≡ false
no_second true q more = refl
no_second false true more = refl
no_second false false more = refl

slash_second : (x : ℕ) → is_in_range (second_byte_min x) (second_byte_max x) 0x2f ≡ false
slash_second x = no_second (x == 0xE0) (x == 0xF0) (nat_le 0x2f (second_byte_max x))

-- r: the first byte begins a character, s, t: the second and the third may follow; l, l', l'': there are fewer than
-- two, three and four bytes
abbrev third : (t l' l'' : Bool) → Option ℕ
third t l' l'' = if l' then None else (if t then (if l'' then None else Some 3) else Some 2)

abbrev counted : (r s t l l' l'' : Bool) → Option ℕ
counted r s t l l' l'' = if r then (if l then None else (if s then third t l' l'' else Some 1)) else Some 1

one_more : (r s l : Bool) (o : Option ℕ) (n : ℕ) → l ≡ false → s ≡ false
    → unwrap_or (if r then (if l then None else (if s then o else Some 1)) else Some 1) n
    ≡ unwrap_or (if r then None else Some 1) 1
one_more true s l o n e e' = ap₂ (λ (x y : Bool). unwrap_or (if x then None else (if y then o else Some 1)) n) e e'
one_more false s l o n e e' = refl

two_more : (r s l l' l'' : Bool) (n : ℕ) → l ≡ false → l' ≡ false
    → unwrap_or (counted r s false l l' l'') n ≡ unwrap_or (if r then (if s then None else Some 1) else Some 1) 2
two_more true true l l' l'' n e e' = ap₂ (λ (x y : Bool). unwrap_or (counted true true false x y l'') n) e e'
two_more true false l l' l'' n e e' = ap (λ (x : Bool). unwrap_or (counted true false false x l' l'') n) e
two_more false s l l' l'' n e e' = refl

three_more : (r s t l l' l'' : Bool) (n : ℕ) → l ≡ false → l' ≡ false → l'' ≡ false
    → unwrap_or (counted r s t l l' l'') n
    ≡ unwrap_or (if r then (if s then (if t then None else Some 2) else Some 1) else Some 1) 3
three_more true true true l l' l'' n e e' e'' =
    ap₂ (λ (x y : Bool). unwrap_or (counted true true true x y l'') n) e e'
    ∙ ap (λ (x : Bool). unwrap_or (third true false x) n) e''
three_more true true false l l' l'' n e e' e'' =
    ap₂ (λ (x y : Bool). unwrap_or (counted true true false x y l'') n) e e'
three_more true false t l l' l'' n e e' e'' = ap (λ (x : Bool). unwrap_or (counted true false t x l' l'') n) e
three_more false s t l l' l'' n e e' e'' = refl

four_more : (r s t l l' l'' : Bool) (n : ℕ) → l ≡ false → l' ≡ false → l'' ≡ false
    → unwrap_or (counted r s t l l' l'') n
    ≡ unwrap_or (if r then (if s then (if t then Some 3 else Some 2) else Some 1) else Some 1) 0
four_more true true true l l' l'' n e e' e'' =
    ap₂ (λ (x y : Bool). unwrap_or (counted true true true x y l'') n) e e'
    ∙ ap (λ (x : Bool). unwrap_or (third true false x) n) e''
four_more true true false l l' l'' n e e' e'' =
    ap₂ (λ (x y : Bool). unwrap_or (counted true true false x y l'') n) e e'
four_more true false t l l' l'' n e e' e'' = ap (λ (x : Bool). unwrap_or (counted true false t x l' l'') n) e
four_more false s t l l' l'' n e e' e'' = refl

abbrev begins : ℕ → Bool
begins x = is_in_range 0xC2 0xF4 x

abbrev follows : (x y : ℕ) → Bool
follows x y = is_in_range (second_byte_min x) (second_byte_max x) y

abbrev goes_on : ℕ → Bool
goes_on z = is_in_range 0x80 0xBF z

invalid_of : (x : ℕ) (a : List ℕ)
    → utf8_invalid_len (x ∷ a) ≡ unwrap_or (error_len_of_some (x ∷ a)) (length (x ∷ a))
unfolding utf8_error_len
invalid_of x a =
    ap (λ (none : Bool). unwrap_or (if none then None else error_len_of_some (x ∷ a)) (length (x ∷ a)))
    (ne_eqb (length (x ∷ a)) 0 (λ e. absurd (omega (arith, e))))

four_of : (x y z w : ℕ) (a : List ℕ)
    → unwrap_or (error_len_of_some (x ∷ y ∷ z ∷ w ∷ a)) (length (x ∷ y ∷ z ∷ w ∷ a))
    ≡ unwrap_or (if begins x then (if follows x y then (if goes_on z then Some 3 else Some 2) else Some 1)
    else Some 1) 0
four_of x y z w a =
    let n = length (x ∷ y ∷ z ∷ w ∷ a) in
    four_more (begins x) (follows x y) (goes_on z) (nat_lt n 2) (nat_lt n 3) (nat_lt n 4) n (le-ltb n 2 (omega arith))
    (le-ltb n 3 (omega arith)) (le-ltb n 4 (omega arith))

same_of : (x : ℕ) (a b : List ℕ)
    → unwrap_or (error_len_of_some (x ∷ a ++ 0x2f ∷ b)) (length (x ∷ a ++ 0x2f ∷ b))
    ≡ unwrap_or (error_len_of_some (x ∷ a)) (length (x ∷ a))
same_of x [] b =
    let n = length (x ∷ 0x2f ∷ b) in
    one_more (begins x) (follows x 0x2f) (nat_lt n 2) (error_len_after_two (x ∷ 0x2f ∷ b)) n (le-ltb n 2 (omega arith))
    (slash_second x)
same_of x (y ∷ []) b =
    let n = length (x ∷ y ∷ 0x2f ∷ b) in
    two_more (begins x) (follows x y) (nat_lt n 2) (nat_lt n 3) (nat_lt n 4) n (le-ltb n 2 (omega arith))
    (le-ltb n 3 (omega arith))
same_of x (y ∷ z ∷ []) b =
    let n = length (x ∷ y ∷ z ∷ 0x2f ∷ b) in
    three_more (begins x) (follows x y) (goes_on z) (nat_lt n 2) (nat_lt n 3) (nat_lt n 4) n (le-ltb n 2 (omega arith))
    (le-ltb n 3 (omega arith)) (le-ltb n 4 (omega arith))
same_of x (y ∷ z ∷ w ∷ a) b = four_of x y z w (a ++ 0x2f ∷ b) ∙ sym (four_of x y z w a)

-- as many as without the slash
same_invalid : (x : ℕ) (a b : List ℕ) → utf8_invalid_len (x ∷ a ++ 0x2f ∷ b) ≡ utf8_invalid_len (x ∷ a)
same_invalid x a b = invalid_of x (a ++ 0x2f ∷ b) ∙ same_of x a b ∙ sym (invalid_of x a)

abbrev Within : (n len : ℕ) → Type 0
Within n len = (0 < n) × (n ≤ len)

one_in : (r : Bool) → Within (unwrap_or (if r then None else Some 1) 1) 1
one_in true = (omega arith, omega arith)
one_in false = (omega arith, omega arith)

two_in : (r s : Bool) → Within (unwrap_or (if r then (if s then None else Some 1) else Some 1) 2) 2
two_in true true = (omega arith, omega arith)
two_in true false = (omega arith, omega arith)
two_in false s = (omega arith, omega arith)

three_in : (r s t : Bool)
    → Within (unwrap_or (if r then (if s then (if t then None else Some 2) else Some 1) else Some 1) 3) 3
three_in true true true = (omega arith, omega arith)
three_in true true false = (omega arith, omega arith)
three_in true false t = (omega arith, omega arith)
three_in false s t = (omega arith, omega arith)

four_in : (r s t : Bool) (n : ℕ) → 3 ≤ n
    → Within (unwrap_or (if r then (if s then (if t then Some 3 else Some 2) else Some 1) else Some 1) 0) n
four_in true true true n le = (omega arith, le)
four_in true true false n le = (omega arith, omega arith)
four_in true false t n le = (omega arith, omega arith)
four_in false s t n le = (omega arith, omega arith)

invalid_within : (x : ℕ) (a : List ℕ) → Within (utf8_invalid_len (x ∷ a)) (length (x ∷ a))
invalid_within x a = subst (λ n. Within n (length (x ∷ a))) (sym (invalid_of x a)) (of_some x a) where
  of_some : (x : ℕ) (a : List ℕ) → Within (unwrap_or (error_len_of_some (x ∷ a)) (length (x ∷ a))) (length (x ∷ a))
  of_some x [] = one_in (begins x)
  of_some x (y ∷ []) = two_in (begins x) (follows x y)
  of_some x (y ∷ z ∷ []) = three_in (begins x) (follows x y) (goes_on z)
  of_some x (y ∷ z ∷ w ∷ a) =
      subst (λ n. Within n (length (x ∷ y ∷ z ∷ w ∷ a))) (sym (four_of x y z w a))
      (four_in (begins x) (follows x y) (goes_on z) (length (x ∷ y ∷ z ∷ w ∷ a)) (omega arith))

-- ---- at a slash

slash_ends : (a b : List ℕ) → utf8_valid_len a < length a → IsValidUpTo (a ++ 0x2f ∷ b) (utf8_valid_len a)
slash_ends a b lt =
    let v = utf8_valid_len a in
    let bs = a ++ 0x2f ∷ b in
    let own = valid_is a lt in
    record {
      short = omega (arith, length-append a (0x2f ∷ b));
      front = subst IsUtf8 (sym (take-append-le v a (0x2f ∷ b) (omega arith))) own.front;
      longest = λ m more u. ⊎_elim
          (λ less. own.longest m more (subst IsUtf8 (take-append-le m a (0x2f ∷ b) (omega arith)) u))
          (λ past.
          let k = m - suc (length a) in
          let same : m ≡ length a + suc k = omega arith in
          own.longest (length a) lt (subst IsUtf8 (sym (take_all (length a) a (omega arith)))
          (before_slash a (take k b)
          (subst IsUtf8 (ap (λ j. take j bs) same ∙ take-append-add a (0x2f ∷ b) (suc k)) u))))
          (cases_lt m (suc (length a)));
    }

invalid_at : (b rest : List ℕ) → 0 < length rest
    → (utf8_invalid_len (rest ++ 0x2f ∷ b) ≡ utf8_invalid_len rest) × Within (utf8_invalid_len rest) (length rest)
invalid_at b [] some = absurd (omega arith)
invalid_at b (x ∷ rest) some = (same_invalid x rest b, invalid_within x rest)

abbrev Splits : (a b : List ℕ) → Type 0
Splits a b = utf8_lossy (a ++ 0x2f ∷ b) ≡ utf8_lossy a ++ 0x2f ∷ utf8_lossy b

splits_text : (a b : List ℕ) → length a ≤ utf8_valid_len a → Splits a b
splits_text a b full =
    let text = text_is a full in
    ap utf8_lossy (sym (append_assoc a (0x2f ∷ []) b))
    ∙ lossy_after_text (a ++ 0x2f ∷ []) b (IsUtf8-append a (0x2f ∷ []) text (ascii_text 0x2f (omega arith)))
    ∙ append_assoc a (0x2f ∷ []) (utf8_lossy b)
    ∙ ap (λ (l : List ℕ). l ++ 0x2f ∷ utf8_lossy b) (sym (utf8_lossy-IsUtf8 a text))

splits_faulty : (a b : List ℕ) → ((rest : List ℕ) → length rest < length a → Splits rest b)
    → utf8_valid_len a < length a → Splits a b
splits_faulty a b shorter lt =
    let v = utf8_valid_len a in
    let bs = a ++ 0x2f ∷ b in
    let rest = drop v a in
    let left : length rest ≡ length a - v = length-drop v a in
    let at = invalid_at b rest (omega (arith, left)) in
    let i = utf8_invalid_len rest in
    let some = at.1.0 in
    let within = at.1.1 in
    let sum : v + i ≤ length a = omega (arith, left) in
    let less : length (drop (v + i) a) < length a = omega (arith, length-drop (v + i) a) in
    steps_at bs v (slash_ends a b lt)
    ∙ ap₂ (λ (x : List ℕ) (y : ℕ). x ++ (replacement_bytes ++ utf8_lossy (drop (v + y) bs)))
    (take-append-le v a (0x2f ∷ b) (omega arith))
    (ap utf8_invalid_len (drop-append-le v a (0x2f ∷ b) (omega arith)) ∙ at.0)
    ∙ ap (λ (l : List ℕ). take v a ++ (replacement_bytes ++ l))
    (ap utf8_lossy (drop-append-le (v + i) a (0x2f ∷ b) sum) ∙ shorter (drop (v + i) a) less)
    ∙ ap (λ (l : List ℕ). take v a ++ l)
    (sym (append_assoc replacement_bytes (utf8_lossy (drop (v + i) a)) (0x2f ∷ utf8_lossy b)))
    ∙ sym (append_assoc (take v a) (replacement_bytes ++ utf8_lossy (drop (v + i) a)) (0x2f ∷ utf8_lossy b))
    ∙ ap (λ (l : List ℕ). l ++ 0x2f ∷ utf8_lossy b) (sym (steps_at a v (valid_is a lt)))

splits_upto : (k : ℕ) (a b : List ℕ) → length a ≤ k → Splits a b
splits_upto zero a b le = splits_text a b (omega arith)
splits_upto (suc k) a b le =
    ⊎_elim (splits_faulty a b (λ rest less. splits_upto k rest b (omega arith))) (splits_text a b)
    (cases_lt (utf8_valid_len a) (length a))

pub lossy_at_slash : (a b : List ℕ) → utf8_lossy (a ++ 0x2f ∷ b) ≡ utf8_lossy a ++ 0x2f ∷ utf8_lossy b
lossy_at_slash a b = splits_upto (length a) a b (omega arith)
