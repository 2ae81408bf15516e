-- Bytes of a header that are offered at once: those that were taken, and the answer.
use Rattle.std.proofs.Common.{◌≡◌, ◌≢◌, ◌+◌, ◌-◌, ◌<◌, ◌≤◌, inl, inr, ℕ, List, [], ◌++◌, length, take, drop, refl, sym}
use Rattle.std.proofs.Common.{subst, ◌∙◌, arith, append-nil, append_assoc, length-append, length-drop, length-take}
use Rattle.std.proofs.lemmas.Bool.{cases_lt}
use Rattle.std.proofs.lemmas.List.{drop-drop, take-take, take-append-le}
use Rattle.std.proofs.Math.Seq.{take-add, take-append-add}
use Rattle.dl_head.specs.declared.dialect.Dialect.{Dialect}
use Rattle.dl_head.specs.declared.reader.HeadStep.{HeadStep}
use Rattle.dl_head.specs.declared.reader.HeadStep.TheVariants as answer
use Rattle.dl_head.specs.declared.reader.HeadReader.{HeadReader}
use Rattle.dl_head.specs.Standing.{StandsFor}
use Rattle.dl_head.specs.Reading.{Answers}
use Rattle.dl_head.specs.Runs.{so_far, Took, Offered}
use Rattle.dl_head.specs.Whole.{Advances, Before, TakesAll}
use Rattle.dl_head.proofs.TurnLemmas.{joined}

-- ---- fronts that come to nothing

pub before_join : (dialect : Dialect) (b v w : List ℕ) → Before dialect b v → Before dialect (b ++ v) w
    → Before dialect b (v ++ w)
before_join dialect b v w first later j lt = elim (cases_lt j (length v)) [
  | inl shorter ↦ rw (take-append-le j v w (omega (arith, shorter))) (first j shorter)
  | inr tail ↦
      let same : j ≡ length v + (j - length v) = omega (arith, tail) in
      subst (λ (k : ℕ). Answers dialect (b ++ take k (v ++ w)) answer.More) (sym same)
      (rw (take-append-add v w (j - length v), ← append_assoc b v (take (j - length v) w))
      (later (j - length v) (omega (arith, lt, tail, length-append v w))))
]

-- by the first bytes of a piece
all_before : {dialect : Dialect} (b piece : List ℕ) (n : ℕ) → n ≤ length piece → Before dialect b (take n piece)
    → (j : ℕ) → j < n → Answers dialect (b ++ take j piece) answer.More
all_before {dialect} b piece n le before j lt =
    rw (take-take j n piece (omega (arith, lt))) at (before j (omega (arith, lt, le, length-take n piece)))

took_before : {dialect : Dialect} {b piece : List ℕ} {n : ℕ} {last : HeadStep} → Took dialect b piece n last
    → Before dialect b (take n piece)
took_before {dialect} {b} {piece} {n} t j lt =
    let less : j < n = omega (arith, lt, length-take n piece) in
    rw (take-take j n piece (omega (arith, less))) (t.before j less)

-- ---- bytes that are taken

pub takes_none : (dialect : Dialect) (b : List ℕ) (r : HeadReader) → StandsFor r b → Answers dialect b answer.More
    → TakesAll dialect b [] r
takes_none dialect b r s more =
    record { stands = rw (append-nil b) s; goes = rw (append-nil b) more; before = λ j lt. absurd (omega (arith, lt)) }

-- and then others
pub takes_on : {dialect : Dialect} {b v w : List ℕ} {r new : HeadReader} → TakesAll dialect b v r
    → TakesAll dialect (b ++ v) w new → TakesAll dialect b (v ++ w) new
takes_on {dialect} {b} {v} {w} o t = record {
  stands = rw (append_assoc b v w) at t.stands;
  goes = rw (append_assoc b v w) at t.goes;
  before = before_join dialect b v w o.before t.before;
}

pub so_far_same : (last : HeadStep) → last ≢ answer.NoMemory → so_far last ≡ last
so_far_same answer.More other = refl
so_far_same (answer.Foreign v) other = refl
so_far_same answer.Done other = refl
so_far_same (answer.Fault f) other = refl
so_far_same answer.NoMemory other = absurd (other refl)

-- ---- bytes more of a piece, of which the reader has taken the first i

-- by `whole_values`
pub takes_more : {dialect : Dialect} {b rest : List ℕ} {r new : HeadReader} (piece : List ℕ) (i n : ℕ)
    → TakesAll dialect b (take i piece) r → r.dialect ≡ dialect → rest ≡ drop i piece
    → ((c : List ℕ) → StandsFor r c → Answers r.dialect c answer.More → TakesAll r.dialect c (take n rest) new)
    → TakesAll dialect b (take (i + n) piece) new
takes_more {dialect} {b} {rest} {r} {new} piece i n o same e takes =
    rw take-add (takes_on o (rw (← same, ← e) (takes (b ++ take i piece) o.stands (rw same o.goes))))

-- by `advance`
pub advanced : {dialect : Dialect} {b rest : List ℕ} {n : ℕ} {r new : HeadReader} {last : HeadStep}
    (piece : List ℕ) (i : ℕ)
    → TakesAll dialect b (take i piece) r → r.dialect ≡ dialect → rest ≡ drop i piece
    → ((c : List ℕ) → StandsFor r c → Answers r.dialect c answer.More → Advances r.dialect c rest n last new)
    → Advances dialect (b ++ take i piece) (drop i piece) n last new
advanced {dialect} {b} piece i o same e advances =
    rw (← same, ← e) (advances (b ++ take i piece) o.stands (rw same o.goes))

-- the header goes on
pub advances_on : {dialect : Dialect} {b : List ℕ} {n : ℕ} {r new : HeadReader} {last : HeadStep} (piece : List ℕ)
    (i : ℕ)
    → TakesAll dialect b (take i piece) r → last ≡ answer.More
    → Advances dialect (b ++ take i piece) (drop i piece) n last new → TakesAll dialect b (take (i + n) piece) new
advances_on {dialect} {b} {n} {r} {new} {last} piece i o is a = rw take-add (takes_on o (record {
  stands = a.stands;
  goes = subst (λ (q : HeadStep). Answers dialect ((b ++ take i piece) ++ take n (drop i piece)) (so_far q)) is
      a.took.answers;
  before = took_before a.took;
}))

-- memory was refused, or the header came to something
pub offered_last : {dialect : Dialect} {b piece : List ℕ} {n : ℕ} {r new : HeadReader} {last : HeadStep} (i : ℕ)
    → TakesAll dialect b (take i piece) r → i ≤ length piece → last ≢ answer.More
    → Advances dialect (b ++ take i piece) (drop i piece) n last new → Offered dialect b piece (i + n) last new
offered_last {dialect} {b} {piece} {n} {r} {new} {last} i o le ends a = record {
  answered = record {
    took = record {
      within = within;
      answers = rw (joined b piece i n) at a.took.answers;
      before = all_before b piece (i + n) within (rw take-add
          (before_join dialect b (take i piece) (take n (drop i piece)) o.before (took_before a.took)));
      unfed = λ e.
          let u = a.took.unfed e in (u.0, u.1, sym (drop-drop n i piece) ∙ u.2, rw (joined b piece i n) at u.3);
    };
    whole = λ e. absurd (ends e);
  };
  stands = rw (joined b piece i n) at a.stands;
} where
  within : i + n ≤ length piece
  within = omega (arith, le, a.took.within, length-drop i piece)

-- the whole piece was taken
pub offered_all : {dialect : Dialect} {b piece : List ℕ} {r : HeadReader} (i : ℕ)
    → TakesAll dialect b (take i piece) r → i ≤ length piece → length piece ≤ i
    → Offered dialect b piece i answer.More r
offered_all {dialect} {b} {piece} {r} i o le ge = record {
  answered = record {
    took = record { within = le; answers = o.goes; before = all_before b piece i le o.before; unfed = λ e. absurd cc };
    whole = λ e. omega (arith, le, ge);
  };
  stands = o.stands;
}
