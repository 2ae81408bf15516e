-- What is copied out of a window, and what a fill of a buffer leaves in it.
use Rattle.std.proofs.Common.{◌≡◌, ℕ, ◌+◌, ◌-◌, ◌≤◌, List, length, take, drop, min, Option, sym, ap, ◌∙◌, arith}
use Rattle.std.proofs.Common.{length-take, length-drop}
use Rattle.std.proofs.lemmas.List.{length-take-le, take-take, take_min, drop-take, drop-drop}
use Rattle.dl_elf.specs.Source.{ForBytes}

-- len items from d on, of the first n
pub middle : (d len n : ℕ) (xs : List ℕ) → d + len ≤ n → take len (drop d xs) ≡ take len (drop d (take n xs))
middle d len n xs h =
    let split : d + (n - d) ≡ n = omega (arith, h) in
    let cut : drop d (take n xs) ≡ take (n - d) (drop d xs) =
    ap (λ k. drop d (take k xs)) (sym split) ∙ drop-take d (n - d) xs in
    rw cut (sym (take-take len (n - d) (drop d xs) (omega (arith, h))))

-- n bytes are shown, where they lie in the buffer
pub shown_len : (d n : ℕ) (buffer : List ℕ) → d + n ≤ length buffer → length (take n (drop d buffer)) ≡ n
shown_len d n buffer within =
    omega (arith, within, length-take n (drop d buffer), length-drop d buffer)

-- a buffer holds n bytes of a file from start on, and among them len from offset on
pub kept : (known : Option (List ℕ)) (start offset n len : ℕ) (buffer : List ℕ) → start ≤ offset
    → offset - start + len ≤ n → ForBytes known (λ f. take n buffer ≡ take n (drop start f))
    → ForBytes known (λ f. take len (drop (offset - start) buffer) ≡ take len (drop offset f))
kept known start offset n len buffer s l e = λ f is short.
    let d : ℕ = offset - start in
    let at : start + d ≡ offset = omega (arith, s) in
    middle d len n buffer l ∙ (ap (λ xs. take len (drop d xs)) (e f is short)
    ∙ (sym (middle d len n (drop start f) l)
    ∙ (ap (λ xs. take len xs) (drop-drop d start f) ∙ ap (λ k. take len (drop k f)) at)))

-- the front of a buffer into which as many bytes as fit were read
pub front_of_full : (n filled len most : ℕ) (buffer xs : List ℕ) → n ≡ min filled len → filled ≤ length buffer
    → len ≤ most
    → take filled buffer ≡ take most xs → take n buffer ≡ take len xs
front_of_full n filled len most buffer xs is fits h e =
    let all : filled ≡ length (take most xs) = sym (length-take-le filled buffer fits) ∙ ap length e in
    let same : n ≡ min len (length (take most xs)) = omega (arith, is, all) in
    sym (take-take n filled buffer (omega (arith, is)))
    ∙ (ap (λ ys. take n ys) e ∙ (ap (λ k. take k (take most xs)) same
    ∙ (take_min len (take most xs) ∙ take-take len most xs h)))

-- a full window that begins at the offset
pub moved : (known : Option (List ℕ)) (start offset n filled len most : ℕ) (buffer : List ℕ) → start ≡ offset
    → n ≡ min filled len → filled ≤ length buffer → len ≤ most
    → ForBytes known (λ f. take filled buffer ≡ take most (drop start f))
    → ForBytes known (λ f. take n (drop (offset - start) buffer) ≡ take len (drop offset f))
moved known start offset n filled len most buffer same is fits l e = λ f i short.
    let none : offset - start ≡ 0 = omega (arith, same) in
    ap (λ k. take n (drop k buffer)) none
    ∙ (front_of_full n filled len most buffer (drop start f) is fits l (e f i short)
    ∙ ap (λ k. take len (drop k f)) same)

-- a fill of a whole buffer
pub full_of : (known : Option (List ℕ)) (offset n most : ℕ) (buffer : List ℕ) → length buffer ≡ most
    → ForBytes known (λ f. take n buffer ≡ take (length buffer) (drop offset f))
    → ForBytes known (λ f. take n buffer ≡ take most (drop offset f))
full_of known offset n most buffer l e = λ f is short. e f is short ∙ ap (λ k. take k (drop offset f)) l
