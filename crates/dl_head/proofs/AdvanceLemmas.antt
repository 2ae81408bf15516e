-- The header reader takes the first bytes of a piece: a value of a table, or one byte.
use Rattle.std.proofs.Common.{◌≡◌, ◌≢◌, ℕ, ◌+◌, ◌-◌, ◌^◌, ◌<◌, ◌≤◌, min, true, List, [], ◌∷◌, ◌++◌, length, take, drop}
use Rattle.std.proofs.Common.{slice_index_or, Option, Some, None, refl, sym, ap, subst, ◌∙◌, arith, append-nil}
use Rattle.std.proofs.Common.{length-drop, length-take}
use Rattle.std.proofs.lemmas.Bool.{leb-true}
use Rattle.std.proofs.lemmas.List.{length-take-le, take-take, take_more, drop_more}
use Rattle.dl_memory.specs.Refusals.{SystemRefuses, WasRefused}
use Rattle.dl_head.specs.declared.dialect.Dialect.{Dialect}
use Rattle.dl_table.specs.declared.fault.FaultKind.{FaultKind}
use Rattle.dl_field.specs.declared.field_step.FieldStep.{FieldStep}
use Rattle.dl_field.specs.declared.field_step.FieldStep.TheVariants as byte_makes
use Rattle.dl_head.specs.declared.reader.HeadReader.{HeadReader}
use Rattle.dl_head.specs.declared.reader.HeadStep.{HeadStep}
use Rattle.dl_head.specs.declared.reader.HeadStep.TheVariants as answer
use Rattle.dl_head.specs.HeadStep.{end_near}
use Rattle.dl_head.specs.Place.{BytesFollow, PushFollows}
use Rattle.dl_head.specs.Standing.{Below, Live, Unmade, ending, StandsFor, Fails, Settles}
use Rattle.dl_head.specs.Reading.{Answers, Steps}
use Rattle.dl_head.specs.Whole.{IsFront, Pushed, Advances}
use Rattle.dl_head.proofs.ByteCounted.{settled}
use Rattle.dl_head.proofs.OfferLemmas.{so_far_same}
use Rattle.dl_head.proofs.OneAnswer.{one_answer}
use Rattle.dl_head.proofs.OneByteMore.{by_dialect, live_of, goes_more, within_step, refused_step, unfed_step}
use Rattle.dl_head.proofs.SamePlace.{Guards, counted}
use Rattle.dl_head.proofs.TakenBytes.{countable, live_more}
use Rattle.dl_head.proofs.TurnLemmas.{front_taken}
use Rattle.dl_head.proofs.WholeSteps.{whole_moved}

-- ---- the first bytes of a piece

one_byte : (piece : List ℕ) (n : ℕ) → n ≡ 1 → 1 ≤ length piece → take n piece ≡ slice_index_or piece 0 0 ∷ []
one_byte piece n one some = rw one (take_more piece 0 0 some)

-- ---- what was taken

-- n bytes were taken, and no shorter front came to anything
taken_bytes : (dialect : Dialect) (b piece : List ℕ) (n : ℕ) (result : HeadStep) (fin : HeadReader) → n ≤ length piece
    → Answers dialect (b ++ take n piece) result × StandsFor fin (b ++ take n piece)
    → ((j : ℕ) → j < n → Answers dialect (b ++ take j piece) answer.More) → Advances dialect b piece n result fin
taken_bytes dialect b piece n result fin le p before = record {
  took = record {
    within = le;
    answers = rw (so_far_same result fed) p.0;
    before = before;
    unfed = λ e. absurd (fed e);
  };
  stands = p.1;
} where
  fed : result ≢ answer.NoMemory
  fed e = rw e at p.0

-- one byte was taken
taken_byte : (dialect : Dialect) (b piece : List ℕ) (n : ℕ) (result : HeadStep) (fin : HeadReader) → n ≡ 1
    → 1 ≤ length piece → Answers dialect b answer.More
    → Answers dialect (b ++ slice_index_or piece 0 0 ∷ []) result × StandsFor fin (b ++ slice_index_or piece 0 0 ∷ [])
    → Advances dialect b piece n result fin
taken_byte dialect b piece n result fin one some more p =
    taken_bytes dialect b piece n result fin (omega (arith, one, some)) (rw (one_byte piece n one some) p)
    (λ j lt. let none : j ≡ 0 = omega (arith, one, lt) in rw (none, append-nil b) more)

-- ---- what the bytes make of the field

module _ {r new : HeadReader} {b piece bytes : List ℕ} {n : ℕ} {result : FieldStep} (front : IsFront r piece bytes)
    (p : Pushed r bytes n result new) (stands : StandsFor r b) (more : Answers r.dialect b answer.More) where
  goes : ending r.phase ≡ None
  goes = goes_more r b stands more

  live : Live r b × Unmade r b
  live = live_of r b goes stands

  same : take n bytes ≡ take n piece
  same = front_taken piece bytes front.len n front.bytes_are p.within

  within : n ≤ length piece
  within = omega (arith, p.within, ap length front.bytes_are, length-take front.len piece)

  size : length (take n piece) ≡ n
  size = length-take-le n piece within

  some_piece : 1 ≤ length piece
  some_piece = omega (arith, within, p.some)

  abbrev byte : ℕ
  byte = slice_index_or piece 0 0

  -- the bytes don't go past the end
  room : (o : Option ℕ) → r.end ≡ o → Below (length b) o → Below (length b + (n - 1)) o
  room None is lt = tt
  room (Some end) is lt = omega (
    arith,
    front.within end is (omega (arith, lt, stands.taken)),
    stands.taken,
    p.within,
    p.some,
  )

  near : (o : Option ℕ) → r.end ≡ o → Below (length b) o → end_near o ≡ true → length b + n ≤ 2 ^ 41
  near None is lt e = omega (arith, countable r b live.0, p.within, front.single is)
  near (Some end) is lt e =
      let le : end ≤ 2 ^ 41 = leb-true end (2 ^ 41) e in
      omega (arith, front.within end is (omega (arith, lt, stands.taken)), stands.taken, p.within, le)

  -- the counter doesn't reach its end
  pub counts_on : (t : ℕ) → t ≡ min (new.taken + n) (2 ^ 64 - 1) → t ≡ length b + n
  counts_on t e = omega
      (arith, near r.end refl live.0.below r.near, p.follows.counts.taken, stands.taken, e)

  one_follows : (made : FieldStep) → result ≡ made → made ≢ byte_makes.Ends → PushFollows r byte made new
  one_follows made is other =
      let one : n ≡ 1 = p.one (λ e. other (sym is ∙ e)) in
      rw (is, same, one_byte piece n one some_piece) at p.follows

  one_of : (made : FieldStep) → result ≡ made → made ≢ byte_makes.Ends → n ≡ 1
  one_of made is other = p.one (λ e. other (sym is ∙ e))

  pub within_advances : (g : Guards new) (t : ℕ) (last : HeadStep) (fin : HeadReader) → result ≡ byte_makes.Within
      → t ≡ min (new.taken + n) (2 ^ 64 - 1) → Settles (counted new g new.start t) last fin
      → Advances r.dialect b piece n last fin
  within_advances g t last fin is count s =
      let one = one_of byte_makes.Within is (λ e. cc) in
      taken_byte r.dialect b piece n last fin one some_piece more
      (within_step last g t live (one_follows byte_makes.Within is (λ e. cc))
      (counts_on t count ∙ ap (λ (k : ℕ). length b + k) one) s)

  pub refuses_advances : (g : Guards new) (t : ℕ) (kind : FaultKind) (last : HeadStep) (fin : HeadReader)
      → result ≡ byte_makes.Refuses kind → t ≡ min (new.taken + n) (2 ^ 64 - 1)
      → Fails (counted new g new.start t) kind last fin → Advances r.dialect b piece n last fin
  refuses_advances g t kind last fin is count f =
      let one = one_of (byte_makes.Refuses kind) is (λ e. cc) in
      taken_byte r.dialect b piece n last fin one some_piece more
      (refused_step g t stands live (one_follows (byte_makes.Refuses kind) is (λ e. cc))
      (rw is at p.kept)
      (counts_on t count ∙ ap (λ (k : ℕ). length b + k) one) f)

  pub ends_advances : (g : Guards new) (t : ℕ) (last : HeadStep) (fin : HeadReader) → result ≡ byte_makes.Ends
      → t ≡ min (new.taken + n) (2 ^ 64 - 1) → Settles (counted new g t t) last fin
      → Advances r.dialect b piece n last fin
  ends_advances g t last fin is count s =
      let follows : BytesFollow r (take n piece) byte_makes.Ends new = rw (is, same) at p.follows in
      let made = follows.made live.0.items live.0.rest live.0.at in
      let mid = counted new g t t in
      let total : t ≡ length b + length (take n piece) = counts_on t count ∙ ap (λ (k : ℕ). length b + k) (sym size) in
      let whole = whole_moved r mid b (take n piece) live
      made
      (follows.cells live.0.items live.0.rest live.0.at) follows.counts.dialect follows.counts.header total total
      (subst (λ (k : ℕ). Below (length b + (k - 1)) r.end) (sym size) (room r.end refl live.0.below)) in
      taken_bytes r.dialect b piece n last fin within
      (by_dialect last follows.counts.dialect (settled last whole.moved s))
      (λ j lt. rw (take-take j n piece (omega (arith, lt))) at (whole.more j (omega (arith, lt, size))))

  pub unfed_advances : result ≡ byte_makes.NoMemory → WasRefused SystemRefuses
      → Advances r.dialect b piece 0 answer.NoMemory new
  unfed_advances is refused =
      let u = unfed_step r new b byte goes stands live (one_follows byte_makes.NoMemory is (λ e. cc)) refused in
      record {
        took = record {
          within = omega arith;
          answers = rw (append-nil b) more;
          before = λ j lt. absurd (omega (arith, lt));
          unfed = λ e. (
            byte,
            drop 1 piece,
            (let e : drop 0 piece ≡ byte ∷ drop 1 piece = drop_more piece 0 0 some_piece in e),
            rw (append-nil b) u.0,
          );
        };
        stands = rw (append-nil b) u.1;
      }

-- ---- one byte

-- `step`, by what `advance` makes of it
pub steps_one : (r new : HeadReader) (b : List ℕ) (x n : ℕ) (result : HeadStep) → ending r.phase ≡ None → Live r b
    → Advances r.dialect b (x ∷ []) n result new → (result ≢ answer.NoMemory → 1 ≤ n) → Steps r.dialect b x result new
steps_one r new b x n result goes l a some = record {
  ended = λ q c other. absurd (other (one_answer r.dialect b q answer.More c (live_more r b goes l)));
  unfed = λ e.
      let u = a.took.unfed e in
      let none : n ≡ 0 = omega (arith, ap length u.2, length-drop n (x ∷ [])) in
      let same : x ∷ [] ≡ u.0 ∷ u.1 = ap (λ (k : ℕ). drop k (x ∷ [])) (sym none) ∙ u.2 in
      let byte : u.0 ≡ x = cc in
      let bytes : b ++ take n (x ∷ []) ≡ b = ap (λ (k : ℕ). b ++ take k (x ∷ [])) none ∙ append-nil b in (
        rw (← byte, ← bytes) u.3,
        rw bytes at a.stands,
      );
  taken = λ more fed.
      let one : n ≡ 1 = omega (arith, some fed, a.took.within) in
      let bytes : b ++ take n (x ∷ []) ≡ b ++ x ∷ [] = ap (λ (k : ℕ). b ++ take k (x ∷ [])) one in (
        rw (so_far_same result fed, bytes) at a.took.answers,
        rw bytes at a.stands,
      );
}
