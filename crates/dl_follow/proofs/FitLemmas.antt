-- Whether a file has a build ID.
use Rattle.std.proofs.Common.{◌≡◌, Bool, true, false, List, ℕ, Option, Some, None, sym, ap, ◌∙◌, inl, inr, MatchBool, subst}
use Rattle.std.specs.Prelude.{bytes_eq}
use Rattle.std.specs.declared.io.Error.{Error}
use Rattle.std.proofs.lemmas.Bool.{true≢false}
use Rattle.std.proofs.lemmas.Slice.Eq.{bytes_eq-Decides}
use Rattle.dl_elf.specs.declared.fault.ElfFault.{ElfFault}
use Rattle.dl_elf.specs.declared.fault.ElfFault.TheVariants.{Read}
use Rattle.dl_open.specs.BuildIds.{IsBuildId, RefusesBuildId}
use Rattle.dl_follow.specs.Fits.{build, checked, FitData, Misses, MissesBuild}

inside : List ℕ → Option (List ℕ) → List ℕ
inside other None = other
inside other (Some w) = w

same_of : (a b : List ℕ) → Some a ≡ Some b → a ≡ b
unfolding inside
same_of a b is = ap (inside a) is

-- a build ID that is told is the one that is looked for, or another
pub told_build : (fails : Error → Type 0) (f own id : List ℕ) (b : Bool) → b ≡ bytes_eq own id → IsBuildId f (Some own)
    → MatchBool b (IsBuildId f (Some id)) (MissesBuild fails id f)
told_build fails f own id true is told =
    let same : own ≡ id = (bytes_eq-Decides own id).0 (sym is) in
    subst (λ w. IsBuildId f (Some w)) same told
told_build fails f own id false is told = inl (
  Some own,
  told,
  λ same.
      true≢false (sym ((bytes_eq-Decides own id).1 (same_of own id same)) ∙ sym is),
)

-- where errors of one kind may be given, more may be
refused_more : (fails more : Error → Type 0) → ((e : Error) → fails e → more e) → (f : List ℕ) (fault : ElfFault)
    → RefusesBuildId fails f fault → RefusesBuildId more f fault
refused_more fails more each f (Read e) is = each e is
refused_more fails more each f fault is = is

pub misses_more : (fails more : Error → Type 0) → ((e : Error) → fails e → more e) → (fit : FitData) (f : List ℕ)
    → Misses fails fit f → Misses more fit f
misses_more fails more each (build id) f (inl other) = inl other
misses_more fails more each (build id) f (inr told) = inr (told.0, refused_more fails more each f told.0 told.1)
misses_more fails more each (checked crc) f (inl other) = inl other
misses_more fails more each (checked crc) f (inr told) = inr (told.0, each told.0 told.1)
