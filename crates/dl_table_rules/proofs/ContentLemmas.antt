-- The content codes of two formats, one after the other.
use Rattle.std.proofs.Common.{◌≡◌, ◌∙◌, ℕ, ◌+◌, ◌-◌, ◌<◌, ◌≤◌, List, [], ◌∷◌, ◌++◌, Some, Bool, true, false, refl, sym, ap, arith}
use Rattle.std.proofs.Common.{length, take, length-append}
use Rattle.std.specs.Prelude.{◌==◌, ◌||◌, if◌then◌else◌, slice_get, slice_index_or, option_map}
use Rattle.std.specs.List.{list_any}
use Rattle.std.proofs.lemmas.List.{length-map, get_or-append_right, take-append-le, take-map}
use Rattle.std.proofs.lemmas.List.Folds.{list_any-append}
use Rattle.std.proofs.lemmas.Option.{slice_get-get_or, slice_get-map}
use Rattle.std.proofs.Math.Seq.{take-append-add}
use Rattle.dl_table.specs.declared.table.Pair.{Pair}
use Rattle.dl_findings.specs.declared.finding.Finding.{Finding}
use Rattle.dl_findings.specs.declared.finding.Found.TheVariants as found
use Rattle.dl_table_rules.specs.TableFindings.{in_header}
use Rattle.dl_table_rules.specs.HeaderFindings.{content_at, content_found, contents, is_unknown_content}

module _ (a b : List Pair) (i : ℕ) where
  -- of the second
  pub content_second : (d : Pair) → length a ≤ i → i < length a + length b
      → slice_get (contents (a ++ b)) i ≡ Some (slice_index_or b (i - length a) d).content
  content_second d le lt =
      slice_get-map (λ (p : Pair). p.content) (a ++ b) i
      ∙ ap (option_map (λ (p : Pair). p.content))
      (slice_get-get_or (a ++ b) i d (omega (arith, lt, length-append a b))
      ∙ ap (λ (x : Pair). Some x) (get_or-append_right a b (length a) i d refl le))

any_of : (code : ℕ) (pairs : List Pair) → list_any (λ other. other == code) (contents pairs) ≡ list_any (λ p. p.content == code) pairs
any_of code [] = refl
any_of code (p ∷ pairs) = ap (λ (b : Bool). (p.content == code) || b) (any_of code pairs)

front_of : (place : ℕ) (pairs : List Pair) → take place (contents pairs) ≡ contents (take place pairs)
front_of place pairs = take-map (λ (p : Pair). p.content) place pairs

module _ (a b : List Pair) (place code : ℕ) where
  -- before a place of the first, and of the second
  pub before_first : place ≤ length a
      → list_any (λ p. p.content == code) (take place a)
      ≡ list_any (λ other. other == code) (take place (contents (a ++ b)))
  before_first le =
      sym (any_of code (take place a))
      ∙ ap (λ (l : List Pair). list_any (λ other. other == code) (contents l)) (sym (take-append-le place a b le))
      ∙ ap (list_any (λ (other : ℕ). other == code)) (sym (front_of place (a ++ b)))

  pub before_second : length a ≤ place
      → (list_any (λ p. p.content == code) a || list_any (λ p. p.content == code) (take (place - length a) b))
      ≡ list_any (λ other. other == code) (take place (contents (a ++ b)))
  before_second le =
      let n : length a + (place - length a) ≡ place = omega (arith, le) in
      sym (list_any-append (λ (p : Pair). p.content == code) a (take (place - length a) b))
      ∙ sym (any_of code (a ++ take (place - length a) b))
      ∙ ap (λ (l : List Pair). list_any (λ other. other == code) (contents l))
      (sym (take-append-add a b (place - length a)) ∙ ap (λ (m : ℕ). take m (a ++ b)) n)
      ∙ ap (list_any (λ (other : ℕ). other == code)) (sym (front_of place (a ++ b)))

-- the same pairs, where tables have these
module _ (a b a' b' : List Pair) (place : ℕ) (first : a' ≡ a) (second : b' ≡ b) where
  pub within : place < length (contents (a ++ b)) → place < length a' + length b'
  within lt =
      rw (first, second) (omega (arith, lt, length-map (a ++ b) (λ (p : Pair). p.content), length-append a b))

  module _ (code offset : ℕ) (is : slice_get (contents (a' ++ b')) place ≡ Some code) (unknown : Bool)
      (judged : unknown ≡ is_unknown_content (take place (contents (a' ++ b'))) code) where
    found_at : content_at offset (contents (a ++ b)) place ≡ content_found offset (take place (contents (a ++ b))) (Some code)
    found_at =
        ap (content_found offset (take place (contents (a ++ b))))
        (rw (first, second) at is)

    as_judged : unknown ≡ is_unknown_content (take place (contents (a ++ b))) code
    as_judged = rw (first, second) at judged

    abbrev told : Bool → List Finding
    told is_one = if is_one then in_header offset (found.UnknownContent code) ∷ [] else []

    pub not_unknown : unknown ≡ false → [] ≡ content_at offset (contents (a ++ b)) place
    not_unknown isnt = ap told (sym isnt ∙ as_judged) ∙ sym found_at

    pub is_unknown : unknown ≡ true
        → in_header offset (found.UnknownContent code) ∷ [] ≡ content_at offset (contents (a ++ b)) place
    is_unknown so = ap told (sym so ∙ as_judged) ∙ sym found_at
