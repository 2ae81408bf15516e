-- How much is kept of paths, and for how many items memory is refused then.
use Rattle.std.proofs.Common.{◌≡◌, ℕ, ◌+◌, ◌*◌, ◌≤◌, List, [], ◌∷◌, ◌++◌, length, take, Option, Some, None, Result, Ok, Err}
use Rattle.std.proofs.Common.{arith, sym, ap, ◌∙◌, subst, length-append}
use Rattle.std.specs.Prelude.{cond, IfSome, OnErr}
use Rattle.std.specs.BTreeMap.{BTreeMap, IsOrdered, Updates, btree_map_len, is_at}
use Rattle.std.specs.Ordering.{nat_cmp}
use Rattle.std.proofs.Math.Seq.{take-append_seam}
use Rattle.std.proofs.lemmas.Cmp.{nat_cmp_total}
use Rattle.std.proofs.lemmas.List.Sums.{fold-append}
use Rattle.std.proofs.lemmas.Map.Views.{btree_map_len-le_from_list}
use Rattle.dl_memory.specs.Refusals.{IsRefused}
use Rattle.dl_path.specs.declared.parts.Parts.{Parts}
use Rattle.dl_path.specs.declared.parts.Directory.{Directory}
use Rattle.dl_path.specs.PathParts.{HeaderBytesWithin, header_bytes}
use Rattle.dl_addr.specs.declared.kept.Paths.{Paths}
use Rattle.dl_addr.specs.declared.texts.UnitNumbers.{UnitNumbers}
use Rattle.dl_addr.specs.Room.{HasFew, KeepsFew, WasPut}

-- ---- maps

-- a map is no longer than the list of what was put into it
pub few_entries : (m : BTreeMap ℕ ℕ) (count : ℕ) → IsOrdered nat_cmp m → WasPut m count → btree_map_len m ≤ count
few_entries m count ordered w =
    omega (arith, w.few, btree_map_len-le_from_list nat_cmp_total w.pairs m (w.all, ordered))

pub put_more : (m n : BTreeMap ℕ ℕ) (key v count : ℕ) → Updates nat_cmp m n key (Some v) → WasPut m count
    → WasPut n (count + 1)
put_more m n key v count updates w = record {
  pairs = w.pairs ++ (key, v) ∷ [];
  few = omega (arith, w.few, length-append w.pairs ((key, v) ∷ []));
  all = λ q. updates.0 q
      ∙ ap (λ (o : Option ℕ). cond (is_at (nat_cmp key) q) (Some v) o) (w.all q)
      ∙ sym (ap (λ (f : ℕ → Option ℕ). f q) (fold-append _ (λ _. None) w.pairs ((key, v) ∷ [])));
}

pub put_none : (m : BTreeMap ℕ ℕ) (count : ℕ) → ((q : ℕ) → Rattle.std.specs.BTreeMap.get nat_cmp m q ≡ None)
    → WasPut m count
put_none m count none = record { pairs = []; few = omega arith; all = none }

pub put_within : (m : BTreeMap ℕ ℕ) (a b : ℕ) → a ≤ b → WasPut m a → WasPut m b
put_within m a b le w = record { pairs = w.pairs; few = omega (arith, le, w.few); all = w.all }

-- ---- paths

pub few_within : (p : Paths) (a b : ℕ) → a ≤ b → HasFew p a → HasFew p b
few_within p a b le few = record { files = omega (arith, le, few.files); texts = omega (arith, le, few.texts) }

pub keeps_within : (m : UnitNumbers) (p : Paths) (a b : ℕ) → a ≤ b → KeepsFew m p a → KeepsFew m p b
keeps_within m p a b le few = record {
  few = few_within p a b le few.few;
  files = put_within m.files a b le few.files;
  directories = put_within m.directories (2 * a) (2 * b) (omega (arith, le)) few.directories;
}

pub few_same : (p q : Paths) (a b : ℕ) → q ≡ p → b ≡ a → HasFew p a → HasFew q b
few_same p q a b same count few =
    subst (λ (n : ℕ). HasFew q n) (sym count) (subst (λ (r : Paths). HasFew r a) (sym same) few)

-- what is added is taken back
pub cut_back : {A : Type 0} (old mid new : List A) (n : ℕ) (more : List A) → mid ≡ old ++ more → n ≡ length old
    → new ≡ take n mid → new ≡ old
cut_back old mid new n more grown count cut =
    cut ∙ ap (λ (k : ℕ). take k mid) count ∙ ap (take (length old)) grown ∙ take-append_seam old more

-- ---- texts of a header

within_some : (o : Option Directory) (a b : ℕ) → a ≤ b → IfSome o (λ d. header_bytes d.text ≤ a)
    → IfSome o (λ d. header_bytes d.text ≤ b)
within_some None a b le few = tt
within_some (Some d) a b le few = omega (arith, le, few)

parts_within : (p : Parts) (a b : ℕ) → a ≤ b → HeaderBytesWithin a p → HeaderBytesWithin b p
parts_within p a b le few = record {
  base = within_some p.base a b le few.base;
  directory = within_some p.directory a b le few.directory;
  name = omega (arith, le, few.name);
}

pub all_within : (o : Option Parts) (a b : ℕ) → a ≤ b → IfSome o (HeaderBytesWithin a) → IfSome o (HeaderBytesWithin b)
all_within None a b le few = tt
all_within (Some p) a b le few = parts_within p a b le few

-- ---- refusals

pub err_map : {A E P Q : Type 0} (r : Result A E) → OnErr r P → (P → Q) → OnErr r Q
err_map (Ok a) p f = tt
err_map (Err e) p f = f p

pub refused_within : (refuses : ℕ → Type 0) (a b : ℕ) → a ≤ b → IsRefused refuses a → IsRefused refuses b
refused_within refuses a b le (n, within, refused) = (n, omega (arith, le, within), refused)
