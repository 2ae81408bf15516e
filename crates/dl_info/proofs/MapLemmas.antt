-- Maps by numbers.
use Rattle.std.proofs.Common.{◌≡◌, ℕ, Bool, true, false, Ordering, refl, sym, ap, ◌∙◌}
use Rattle.std.specs.Prelude.{◌==◌}
use Rattle.std.specs.BTreeMap.{is_at}
use Rattle.std.specs.Cmp.{nat_cmp_is}
use Rattle.std.specs.Ordering.{is_eq, nat_cmp}
use Rattle.std.specs.declared.cmp.Ordering.TheVariants.{Less, Equal, Greater}
use Rattle.std.proofs.lemmas.Bool.{eq-eqb, true≢false}
use Rattle.std.proofs.lemmas.Bool.Decides.{Decides-eqb}
use Rattle.std.proofs.lemmas.Map.Lookups.{exact_unsigned}

equal : (o : Ordering) → is_eq o ≡ true → o ≡ Equal
equal Less e = absurd (true≢false (sym e))
equal Equal e = refl
equal Greater e = absurd (true≢false (sym e))

-- a query of a map finds a key by its number
pub query : (key n : ℕ) → is_at (nat_cmp key) n ≡ (key == n)
query key n = by (is_at (nat_cmp key) n) (key == n) refl refl where
  by : (a b : Bool) → is_at (nat_cmp key) n ≡ a → (key == n) ≡ b → is_at (nat_cmp key) n ≡ (key == n)
  by true b at is =
      let same : key ≡ n = exact_unsigned key n (equal (nat_cmp key n) at) in at ∙ sym (eq-eqb key n same)
  by false false at is = at ∙ sym is
  by false true at is =
      let same : key ≡ n = (Decides-eqb key n).0 is in
      absurd (true≢false (ap is_eq (nat_cmp_is key n Equal same) ∙ at))
