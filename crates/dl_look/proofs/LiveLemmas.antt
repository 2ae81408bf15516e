-- The rows of live sequences.
use Rattle.std.proofs.Common.{◌≡◌, ℕ, ◌<◌, Bool, true, false, ◌&&◌, List, [], ◌∷◌, ◌++◌, length, filter, flat_map, find}
use Rattle.std.proofs.Common.{Some, arith, refl, sym, ap, ap₂, subst, ◌∙◌, append_assoc, append-nil}
use Rattle.std.specs.Prelude.{if◌then◌else◌}
use Rattle.std.specs.Option.{option_and_then}
use Rattle.std.proofs.lemmas.List.{length_push}
use Rattle.dl_rows.specs.declared.row.Row.{Row}
use Rattle.dl_look.specs.declared.live.At.{At}
use Rattle.dl_look.specs.declared.live.At.TheVariants.{Between, Live, Dead}
use Rattle.dl_look.specs.Answer.{sequences_after, sequences, is_rising, first_place, covers, last_upto}
use Rattle.dl_look.specs.FinderRows.{unended_after, unended}
use Rattle.dl_look.specs.LiveRows.{is_live, when_live, live_rows, IsAt}
use Rattle.dl_look.specs.Laws.{AnswersOfLiveRows}
use Rattle.dl_look.proofs.AnswerLaws.{Every, Every-append, NoEnd, IsSequence, sequences-are}
use Rattle.dl_look.proofs.MoreRows.{sequences-push, sequences-push_end, unended-push, unended-push_end}

flat_map-push : (f : List Row → List Row) (ss : List (List Row)) (s : List Row)
    → flat_map f (ss ++ s ∷ []) ≡ flat_map f ss ++ f s
flat_map-push f [] s = append-nil (f s)
flat_map-push f (t ∷ ss) s = ap (λ l. f t ++ l) (flat_map-push f ss s) ∙ sym (append_assoc (f t) (flat_map f ss) (f s))

either : (b : Bool) (l : List Row) → (if b then l else l) ≡ l
either true l = refl
either false l = refl

when_live-nil : (live : ℕ → Bool) → when_live live [] ≡ []
when_live-nil live = either (live 0) []

-- whether the sequence of the next row is live: told by the row, or before
abbrev pub Decided : At → Bool → Bool
Decided Between b = b
Decided Live b = true
Decided Dead b = false

first-more : (s : List Row) (r : Row) → 0 < length s → first_place (s ++ r ∷ []) ≡ first_place s
first-more [] r some = absurd (omega arith)
first-more (q ∷ s) r some = refl

pub lives : (at : At) (live : ℕ → Bool) (s : List Row) (r : Row) (b : Bool) → IsAt at live s
    → (s ≡ [] → b ≡ live r.address) → is_live live (s ++ r ∷ []) ≡ Decided at b
lives Between live s r b none says = ap (λ l. is_live live (l ++ r ∷ [])) none ∙ sym (says none)
lives Live live s r b (some, is) says = ap (λ p. live p.address) (first-more s r some) ∙ is
lives Dead live s r b (some, is) says = ap (λ p. live p.address) (first-more s r some) ∙ is

more_when : (at : At) (live : ℕ → Bool) (s : List Row) (r : Row) (b : Bool) → IsAt at live s
    → (s ≡ [] → b ≡ live r.address) → when_live live (s ++ r ∷ []) ≡ when_live live s ++ (if Decided at b then r ∷ []
    else [])
more_when Between live s r b none says =
    ap (λ (c : Bool). if c then s ++ r ∷ [] else []) (lives Between live s r b none says)
    ∙ ap (λ l. if b then l ++ r ∷ [] else []) none
    ∙ sym (ap (λ l. l ++ (if b then r ∷ [] else [])) (ap (when_live live) none ∙ when_live-nil live))
more_when Live live s r b (some, is) says =
    ap (λ (c : Bool). if c then s ++ r ∷ [] else []) (lives Live live s r b (some, is) says)
    ∙ sym (ap (λ (c : Bool). (if c then s else []) ++ r ∷ []) is)
more_when Dead live s r b (some, is) says =
    ap (λ (c : Bool). if c then s ++ r ∷ [] else []) (lives Dead live s r b (some, is) says)
    ∙ sym (ap (λ (c : Bool). (if c then s else []) ++ []) is)

-- one more row
pub live_more : (at : At) (live : ℕ → Bool) (rows : List Row) (r : Row) (b : Bool) → IsAt at live (unended rows)
    → (unended rows ≡ [] → b ≡ live r.address)
    → live_rows live (rows ++ r ∷ []) ≡ live_rows live rows ++ (if Decided at b then r ∷ [] else [])
live_more at live rows r b is says =
    let f = flat_map (when_live live) (sequences rows) in
    let more = more_when at live (unended rows) r b is says in
    let whole =
    ap (λ l. f ++ l) more
    ∙ sym (append_assoc f (when_live live (unended rows)) (if Decided at b then r ∷ [] else [])) in
    elim r.end_sequence as (λ e. r.end_sequence ≡ e
    → live_rows live (rows ++ r ∷ []) ≡ live_rows live rows ++ (if Decided at b then r ∷ [] else [])) [
      | true ↦ λ end. (
          ap₂ (λ (ss : List (List Row)) (u : List Row). flat_map (when_live live) ss ++ when_live live u)
          (sequences-push_end [] rows r end) (unended-push_end [] rows r end)
          ∙ ap₂ (λ (l u : List Row). l ++ u) (flat_map-push (when_live live) (sequences rows) (unended rows ++ r ∷ []))
          (when_live-nil live)
          ∙ append-nil (f ++ when_live live (unended rows ++ r ∷ []))
          ∙ whole)
      | false ↦ λ more'. (
          ap₂ (λ (ss : List (List Row)) (u : List Row). flat_map (when_live live) ss ++ when_live live u)
          (sequences-push [] rows r more') (unended-push [] rows r more')
          ∙ whole)
    ] refl

abbrev pub next_at : Bool → Bool → At
next_at end live = if end then Between else if live then Live else Dead

pub at_more : (at : At) (live : ℕ → Bool) (rows : List Row) (r : Row) (b : Bool) → IsAt at live (unended rows)
    → (unended rows ≡ [] → b ≡ live r.address)
    → IsAt (next_at r.end_sequence (Decided at b)) live (unended (rows ++ r ∷ []))
at_more at live rows r b is says =
    elim r.end_sequence as (λ e. r.end_sequence ≡ e → IsAt (next_at e (Decided at b)) live (unended (rows ++ r ∷ []))) [
      | true ↦ λ end. unended-push_end [] rows r end
      | false ↦ λ more. subst (λ u. IsAt (if Decided at b then Live else Dead) live u)
          (sym (unended-push [] rows r more)) (
          let some : 0 < length (unended rows ++ r ∷ []) = omega (arith, length_push (unended rows) r) in
          elim (Decided at b) as (λ d. Decided at b ≡ d
          → IsAt (if d then Live else Dead) live (unended rows ++ r ∷ [])) [
            | true ↦ λ d. (some, lives at live (unended rows) r b is says ∙ d)
            | false ↦ λ d. (some, lives at live (unended rows) r b is says ∙ d)
          ] refl)
    ] refl

-- ---- the answer of the rows of live sequences

cut : (begun inner : List Row) (last : Row) (rest : List Row) → Every NoEnd inner → last.end_sequence ≡ true
    → sequences_after begun (inner ++ last ∷ rest) ≡ (begun ++ (inner ++ last ∷ [])) ∷ sequences_after [] rest
cut begun [] last rest none end =
    ap (λ (b : Bool). if b then (begun ++ last ∷ []) ∷ sequences_after [] rest
    else sequences_after (begun ++ last ∷ []) rest) end
cut begun (q ∷ inner) last rest (goes, none) end =
    ap (λ (b : Bool). if b then (begun ++ q ∷ []) ∷ sequences_after [] (inner ++ last ∷ rest)
    else sequences_after (begun ++ q ∷ []) (inner ++ last ∷ rest)) goes
    ∙ cut (begun ++ q ∷ []) inner last rest none end
    ∙ ap (λ l. l ∷ sequences_after [] rest) (append_assoc begun (q ∷ []) (inner ++ last ∷ []))

none_in : (begun u : List Row) → Every NoEnd u → sequences_after begun u ≡ []
none_in begun [] none = refl
none_in begun (q ∷ u) (goes, none) =
    ap (λ (b : Bool). if b then (begun ++ q ∷ []) ∷ sequences_after [] u else sequences_after (begun ++ q ∷ []) u) goes
    ∙ none_in (begun ++ q ∷ []) u none

unended-are : (begun rows : List Row) → Every NoEnd begun → Every NoEnd (unended_after begun rows)
unended-are begun [] a = a
unended-are begun (r ∷ rows) a =
    elim r.end_sequence as (λ b. r.end_sequence ≡ b
    → Every NoEnd (if b then unended_after [] rows else unended_after (begun ++ r ∷ []) rows)) [
      | true ↦ λ e. unended-are [] rows tt
      | false ↦ λ e. unended-are (begun ++ r ∷ []) rows (Every-append NoEnd begun (r ∷ []) a (e, tt))
    ] refl

when-are : (live : ℕ → Bool) (u : List Row) → Every NoEnd u → Every NoEnd (when_live live u)
when-are live u a =
    elim (is_live live u) as (λ b. Every NoEnd (if b then u else [])) [ true ↦ a | false ↦ tt ]

sequences-live : (live : ℕ → Bool) (ss : List (List Row)) (u : List Row) → Every IsSequence ss → Every NoEnd u
    → sequences (flat_map (when_live live) ss ++ u) ≡ filter (is_live live) ss
sequences-live live [] u all none = none_in [] u none
sequences-live live (s ∷ ss) u (q, all) none =
    let rest = flat_map (when_live live) ss ++ u in
    ap sequences (append_assoc (when_live live s) (flat_map (when_live live) ss) u)
    ∙ elim (is_live live s) as (λ b. sequences ((if b then s else []) ++ rest) ≡ (if b then s ∷ filter (is_live live) ss
    else filter (is_live live) ss)) [
      | true ↦ ap (λ l. sequences (l ++ rest)) q.is
          ∙ ap sequences (append_assoc q.inner (q.last ∷ []) rest)
          ∙ cut [] q.inner q.last rest q.no_end q.ends
          ∙ ap₂ (λ (t : List Row) (l : List (List Row)). t ∷ l) (sym q.is) (sequences-live live ss u all none)
      | false ↦ sequences-live live ss u all none
    ]

find-filter : (p q : List Row → Bool) (ss : List (List Row)) → find p (filter q ss) ≡ find (λ s. q s && p s) ss
find-filter p q [] = refl
find-filter p q (s ∷ ss) =
    elim (q s) as (λ b. find p (if b then s ∷ filter q ss else filter q ss) ≡ (if b && p s then Some s
    else find (λ s. q s && p s) ss)) [
      | true ↦ elim (p s) as (λ c. (if c then Some s else find p (filter q ss)) ≡ (if c then Some s
          else find (λ s. q s && p s) ss)) [ true ↦ refl | false ↦ find-filter p q ss ]
      | false ↦ find-filter p q ss
    ]

pub of_live_rows : AnswersOfLiveRows
of_live_rows live rows x =
    ap (λ ss. option_and_then (last_upto x) (find (λ s. is_rising s && covers x s) ss))
    (sequences-live live (sequences rows) (when_live live (unended rows)) (sequences-are [] rows tt)
    (when-are live (unended rows) (unended-are [] rows tt)))
    ∙ ap (option_and_then (last_upto x)) (find-filter (λ s. is_rising s && covers x s) (is_live live) (sequences rows))
