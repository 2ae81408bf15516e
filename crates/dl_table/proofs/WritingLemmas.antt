-- How what is out grows with each write.
use Rattle.std.proofs.Common.{◌≡◌, ℕ, ◌+◌, ◌-◌, ◌/◌, ◌<◌, List, [], ◌∷◌, ◌++◌, length, take, drop, get_or, map, Option}
use Rattle.std.proofs.Common.{Result, MatchResult, refl, arith, sym, ap, subst, ◌∙◌, append_assoc, length-append}
use Rattle.std.proofs.Math.Seq.{take-add, take-append-add}
use Rattle.std.proofs.lemmas.List.{take_rest, take-append-le, take_more, take-append-drop, length-map, length-take}
use Rattle.std.proofs.lemmas.List.{append-nil}
use Rattle.std.specs.List.{flat_map}
use Rattle.std.proofs.lemmas.Grind.{flat_map-append}
use Rattle.std.specs.Io.KnownBytes.{Appends}
use Rattle.std.proofs.KnownBytes.{Appends-trans}
use Rattle.dl_num.specs.declared.fixed.Order.{Order}
use Rattle.dl_table.specs.declared.form.Format.{Format}
use Rattle.dl_table.specs.declared.table.Pair.{Pair}
use Rattle.dl_table.specs.declared.table.held.StoredValue.{StoredValue}
use Rattle.dl_table.specs.Value.{Value, number}
use Rattle.dl_num.specs.Shortest.{shortest_uleb}
use Rattle.dl_table.specs.Held.{table_of, value_held}
use Rattle.dl_table.specs.Spelled.{format_parts, table_parts}
use Rattle.dl_table.specs.Written.{entry_bytes, table_bytes, value_bytes}
use Rattle.dl_table.proofs.HeldLemmas.{length-rows, value_at}
use Rattle.dl_table.proofs.BuildLemmas.{no_pair}
use Rattle.dl_table.specs.declared.counted.HeadWrite.{HeadWrite}
use Rattle.dl_table.specs.declared.counted.HeadWrite.TheVariants.{TooLong, Write}
use Rattle.dl_table.specs.Writing.{IsOut, TellsOut, Writes, WroteMore}

-- k more bytes of a slice went out
pub Appends-slice : (start a b : Option (List ℕ)) (bytes : List ℕ) (out k : ℕ) → Appends start a (take out bytes)
    → Appends a b (take k (take (length bytes - out) (drop out bytes))) → Appends start b (take (out + k) bytes)
Appends-slice start a b bytes out k h p =
    subst (Appends start b) (sym (take-add out k bytes))
    (Appends-trans start a b _ _ h (subst (λ l. Appends a b (take k l)) (take_rest bytes out) p))

pub Appends-part : (start a b : Option (List ℕ)) (text bytes : List ℕ) (k : ℕ) → Appends start a text
    → Appends a b (take k bytes) → Appends start b (take (length text + k) (text ++ bytes))
Appends-part start a b text bytes k h p =
    subst (Appends start b) (sym (take-append-add text bytes k)) (Appends-trans start a b _ _ h p)

module _ (start now : Option (List ℕ)) where
  pub TellsOut-more : (text more : List ℕ) (f : HeadWrite) → TellsOut start now text f
      → TellsOut start now (text ++ more) f
  TellsOut-more text more (Write n) (out, t) = (
    out,
    record {
      within = let w = t.within in omega (arith, length-append text more);
      written = subst (Appends start now) (sym (take-append-le out text more (let w = t.within in omega arith)))
          t.written;
      counted = t.counted;
    },
  )
  TellsOut-more text more TooLong t = t

  -- of the text a, b, the part a was not written whole
  pub TellsOut-front : (text a b : List ℕ) (f : HeadWrite) → TellsOut start now (text ++ a) f
      → TellsOut start now (text ++ (a ++ b)) f
  TellsOut-front text a b f t = subst (λ l. TellsOut start now l f) (append_assoc text a b)
      (TellsOut-more (text ++ a) b f t)

  -- of a whole, the part v after what was done was not written whole
  pub TellsOut-piece : (text done v rest whole : List ℕ) (f : HeadWrite) → whole ≡ done ++ v ++ rest
      → TellsOut start now ((text ++ done) ++ v) f → TellsOut start now (text ++ whole) f
  TellsOut-piece text done v rest whole f is t =
      subst (λ l. TellsOut start now (text ++ l) f) (sym is)
      (TellsOut-front text (done ++ v) rest f (subst (λ l. TellsOut start now l f) (append_assoc text done v) t))

  pub IsOut-piece : (text done v more : List ℕ) (n : ℕ) → more ≡ done ++ v → IsOut start now ((text ++ done) ++ v) n
      → IsOut start now (text ++ more) n
  IsOut-piece text done v more n is h =
      subst (λ l. IsOut start now (text ++ l) n) (sym is)
      (subst (λ l. IsOut start now l n) (append_assoc text done v) h)

  pub IsOut-same : (text a b : List ℕ) (n : ℕ) → a ≡ b → IsOut start now (text ++ a) n → IsOut start now (text ++ b) n
  IsOut-same text a b n is h = subst (λ l. IsOut start now (text ++ l) n) is h

  pub IsOut-nothing : (text more : List ℕ) (n : ℕ) → more ≡ [] → IsOut start now text n
      → IsOut start now (text ++ more) n
  IsOut-nothing text more n is h =
      subst (λ l. IsOut start now l n) (sym (ap (λ l. text ++ l) is ∙ append-nil text)) h

  pub Written-same : (text a b : List ℕ) (result : Result ℕ HeadWrite) → a ≡ b
      → MatchResult result (λ n. IsOut start now (text ++ a) n) (λ f. TellsOut start now (text ++ a) f)
      → MatchResult result (λ n. IsOut start now (text ++ b) n) (λ f. TellsOut start now (text ++ b) f)
  Written-same text a b result is h =
      subst (λ l. MatchResult result (λ n. IsOut start now (text ++ l) n) (λ f. TellsOut start now (text ++ l) f)) is h

-- a part, and one more on top of it
pub both_written : (old mid new : Option (List ℕ)) (before n : ℕ) (a b : List ℕ) (result : Result ℕ HeadWrite)
    → WroteMore old mid before n a → Writes mid new n b result → Writes old new before (a ++ b) result
both_written old mid new before n a b result first second = λ start text h.
    subst (λ l. MatchResult result (λ m. IsOut start new l m) (λ f. TellsOut start new l f)) (append_assoc text a b)
    (second start (text ++ a) (first start text h))

-- one part more, and the parts before it, of it and after it
pub parts_more : {A : Type 0} (f : A → List ℕ) (xs : List A) (i : ℕ) (d : A) → i < length xs
    → flat_map f (take (i + 1) xs) ≡ flat_map f (take i xs) ++ f (get_or xs i d)
parts_more f xs i d h =
    rw (take_more xs i d h, flat_map-append f (take i xs) (get_or xs i d ∷ []), append-nil (f (get_or xs i d))) refl

pub parts_split : {A : Type 0} (f : A → List ℕ) (xs : List A) (i : ℕ) (d : A) → i < length xs
    → flat_map f xs ≡ flat_map f (take i xs) ++ f (get_or xs i d) ++ flat_map f (drop (i + 1) xs)
parts_split f xs i d h =
    ap (flat_map f) (sym (take-append-drop (i + 1) xs)) ∙ flat_map-append f (take (i + 1) xs) (drop (i + 1) xs)
    ∙ ap (λ (l : List ℕ). l ++ flat_map f (drop (i + 1) xs)) (parts_more f xs i d h)

-- the same of an entry
module _ (order : Order) (format : Format) where
  entry-append : (ps qs : List Pair) (vs ws : List Value) → length ps ≡ length vs
      → entry_bytes order format (ps ++ qs) (vs ++ ws)
      ≡ entry_bytes order format ps vs ++ entry_bytes order format qs ws
  entry-append [] qs [] ws h = refl
  entry-append [] qs (v ∷ vs) ws h = absurd (omega arith)
  entry-append (p ∷ ps) qs [] ws h = absurd (omega arith)
  entry-append (p ∷ ps) qs (v ∷ vs) ws h =
      ap (λ (l : List ℕ). value_bytes order format p.form v ++ l) (entry-append ps qs vs ws (omega arith))
      ∙ sym (append_assoc (value_bytes order format p.form v) (entry_bytes order format ps vs)
      (entry_bytes order format qs ws))

  pub entry_more : (pairs : List Pair) (pool : List ℕ) (held : List StoredValue) (i : ℕ) {h : StoredValue}
      → i < length pairs → i < length held → h ≡ get_or held i h → entry_bytes order format (take (i + 1) pairs)
      (take (i + 1) (map (value_held pool) held)) ≡ entry_bytes order format (take i pairs)
      (take i (map (value_held pool) held)) ++ value_bytes order format (get_or pairs i no_pair).form
      (value_held pool h)
  entry_more pairs pool held i {h} in_pairs in_held is =
      let all = map (value_held pool) held in
      let within : i < length all = omega (arith, length-map held (value_held pool)) in
      let even : length (take i pairs) ≡ length (take i all) = omega (arith, length-take i pairs, length-take i all) in
      let last = append-nil (value_bytes order format (get_or pairs i no_pair).form (value_held pool h)) in
      rw (take_more pairs i no_pair in_pairs, take_more all i (number 0) within, value_at pool held i in_held is)
      (entry-append (take i pairs) (get_or pairs i no_pair ∷ []) (take i all) (value_held pool h ∷ []) even ∙ ap (λ (l : List ℕ). entry_bytes order format (take i pairs) (take i all) ++ l) last)

  pub entry_split : (pairs : List Pair) (pool : List ℕ) (held : List StoredValue) (i : ℕ) {h : StoredValue}
      → i < length pairs → length held ≡ length pairs → h ≡ get_or held i h
      → entry_bytes order format pairs (map (value_held pool) held)
      ≡ entry_bytes order format (take i pairs) (take i (map (value_held pool) held))
      ++ value_bytes order format (get_or pairs i no_pair).form (value_held pool h)
      ++ entry_bytes order format (drop (i + 1) pairs) (drop (i + 1) (map (value_held pool) held))
  entry_split pairs pool held i in_pairs same is =
      let all = map (value_held pool) held in
      let even : length (take (i + 1) pairs) ≡ length (take (i + 1) all) =
      omega (arith, length-take (i + 1) pairs, length-take (i + 1) all, length-map held (value_held pool)) in
      ap (λ (ps : List Pair). entry_bytes order format ps all) (sym (take-append-drop (i + 1) pairs))
      ∙ ap (λ (vs : List Value). entry_bytes order format (take (i + 1) pairs ++ drop (i + 1) pairs) vs)
      (sym (take-append-drop (i + 1) all))
      ∙ entry-append (take (i + 1) pairs) (drop (i + 1) pairs) (take (i + 1) all) (drop (i + 1) all) even
      ∙ ap (λ (l : List ℕ). l ++ entry_bytes order format (drop (i + 1) pairs) (drop (i + 1) all))
      (entry_more pairs pool held i in_pairs (omega arith) is)

pub table_parts-is : (order : Order) (format : Format) (pairs : List Pair) (values : List StoredValue) (pool : List ℕ)
    → table_parts order format pairs values pool ≡ table_bytes order (table_of format pairs values pool)
table_parts-is order format pairs values pool =
    let count = length values / length pairs in
    let entries = flat_map (entry_bytes order format pairs) (table_of format pairs values pool).entries in
    sym (append_assoc (format_parts pairs) (shortest_uleb count) entries)
    ∙ ap (λ (n : ℕ). format_parts pairs ++ shortest_uleb n ++ entries)
    (sym (length-rows count (length pairs) (map (value_held pool) values)))
