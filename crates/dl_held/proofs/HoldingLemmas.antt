-- What is held of the bytes that were written, one write more. R: for how many items memory is refused. r: whether it was; v:
-- what was written, b: what of it is held.
use Rattle.std.proofs.Common.{◌≡◌, ◌+◌, ℕ, Bool, true, false, List, ◌++◌, length, length-append, arith, sym, ◌∙◌, ap}
use Rattle.std.proofs.Math.Logic.{∥∥₁_elim, ∥∥₁_map, ∥∥₁_prop}
use Rattle.std.proofs.Props.{props}
use Rattle.dl_held.specs.Holding.{AreHeld}

module _ (R : ℕ → Type 0) (more v w : List ℕ) (written : w ≡ v ++ more) where
  -- memory was refused before
  pub dropped : (b : List ℕ) (r : Bool) → r ≡ true → ∥ AreHeld R b r v ∥₁ → ∥ AreHeld R b r w ∥₁
  dropped b true is held = ∥∥₁_map held (λ (n, few, refused). (n, omega (arith, few, ap length written, length-append v more), refused))
  dropped b false is held = absurd (let e : false ≡ true = is in cc)

  -- these bytes are held too
  pub held_more : (b c : List ℕ) (r : Bool) → r ≡ false → c ≡ b ++ more → ∥ AreHeld R b r v ∥₁ → ∥ AreHeld R c r w ∥₁
  held_more b c true is all held = absurd (let e : true ≡ false = is in cc)
  held_more b c false is all held = ∥∥₁_map held (λ same. written ∙ ap (λ l. l ++ more) same ∙ sym all)

  -- memory is refused for them
  pub refused_now : {Q : ℕ → Type 0} (b c : List ℕ) (r : Bool) → r ≡ false → ∥ ((n : ℕ) → Q n → R n) ∥₁ → Q (length b + length more)
      → ∥ AreHeld R b r v ∥₁ → ∥ AreHeld R c true w ∥₁
  refused_now b c true is tied refused held = absurd (let e : true ≡ false = is in cc)
  refused_now b c false is tied refused held =
      ∥∥₁_elim tied ∥∥₁_prop (λ to. ∥∥₁_map held (λ same. (
        length b + length more,
        omega (arith, ap length same, ap length written, length-append v more),
        to _ refused,
      )))

-- all is held
pub all_held : (R : ℕ → Type 0) (b v : List ℕ) (r : Bool) → r ≡ false → ∥ AreHeld R b r v ∥₁ → b ≡ v
all_held R b v true is held = absurd (let e : true ≡ false = is in cc)
all_held R b v false is held = ∥∥₁_elim held (hlevel props) sym
