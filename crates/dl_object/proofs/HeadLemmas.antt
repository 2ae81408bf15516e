-- What a reader of a header that has taken the front of bytes says of them.
use Rattle.std.proofs.Common.{◌≡◌, ◌⊎◌, inl, inr, ℕ, ◌≤◌, List, [], ◌∷◌, ◌++◌, length, take, drop, Option, Some, None}
use Rattle.std.proofs.Common.{refl, sym, ap, subst, ◌∙◌, append-nil, arith, length-append}
use Rattle.std.proofs.lemmas.Bool.{cases_eq}
use Rattle.std.proofs.lemmas.List.{take-append-drop, take_at}
use Rattle.dl_head.specs.declared.dialect.Dialect.{Dialect}
use Rattle.dl_head.specs.declared.fault.Fault.{Fault}
use Rattle.dl_field.specs.HeaderData.{HeaderData}
use Rattle.dl_field.proofs.FieldLemmas.{none_some}
use Rattle.dl_head.specs.declared.reader.HeadReader.{HeadReader}
use Rattle.dl_head.specs.declared.reader.HeadStep.{HeadStep}
use Rattle.dl_head.specs.declared.reader.HeadStep.TheVariants as answer
use Rattle.dl_head.specs.Header.{foreign_in, unit_len}
use Rattle.dl_head.specs.Reading.{Answers, Gives}
use Rattle.dl_head.specs.Runs.{so_far, Took}
use Rattle.dl_head.specs.Standing.{StandsFor}
use Rattle.dl_head.proofs.QuietLemmas.{header_is_not_refused, foreign_is_not_refused}
use Rattle.dl_rows.proofs.FirstLemmas.{split_front}
use Rattle.dl_rows.proofs.UnitKnown.{foreign_known, header_known}
use Rattle.dl_rows.proofs.UnitLemmas.{unit_len_on}
use Rattle.dl_object.specs.Section.{RefusesCell, IsRefused, NoneFollows}
use Rattle.dl_object.specs.Fronts.{KindIs}

-- after a head that is refused, whose unit has no known length, none follows
module _ (dialect : Dialect) (w rest : List ℕ) (r : IsRefused dialect w) (unknown : unit_len dialect w ≡ None) where
  -- a shorter front tells no length
  no_shorter : (head more : List ℕ) (len : ℕ) → w ≡ head ++ more → unit_len dialect head ≡ Some len → ⊥
  no_shorter head more len e told =
      none_some unknown (ap (unit_len dialect) e ∙ unit_len_on dialect head more len told)

  no_foreign : (version : ℕ) (head back : List ℕ) (len : ℕ) → w ++ rest ≡ head ++ back
      → foreign_in dialect head ≡ Some version → unit_len dialect head ≡ Some len → length head ≤ len → ⊥
  no_foreign version head back len e foreign told le = elim (split_front w rest head back e) [
    | inl p ↦ no_shorter head (p.0 ∷ p.1) len p.2 told
    | inr q ↦ foreign_is_not_refused dialect head w q.0 version len r.place r.kind foreign told le q.1 r.refused
  ]

  -- nor is a longer one refused
  no_longer : (head more : List ℕ) (len : ℕ) → head ≡ w ++ more → IsRefused dialect head
      → unit_len dialect head ≡ Some len → ⊥
  no_longer head [] len e other told =
      none_some unknown (ap (unit_len dialect) (sym (append-nil w) ∙ sym e) ∙ told)
  no_longer head (x ∷ more) len e other told =
      none_some (other.refused.shortest w x more e) r.refused.decided

  pub none_after_refused : NoneFollows dialect (w ++ rest)
  none_after_refused = record {
    none = record {
      own = λ h head back e is. header_is_not_refused dialect h head back w rest r.place r.kind is (sym e) r.refused;
      foreign = no_foreign;
    };
    refused = λ head back len e other told. elim (split_front w rest head back e) [
      | inl p ↦ no_shorter head (p.0 ∷ p.1) len p.2 told
      | inr q ↦ no_longer head q.0 len q.1 other told
    ];
  }

module _ (dialect : Dialect) (b : List ℕ) (used : ℕ) (step : HeadStep) (took : Took dialect [] b used step) where
  abbrev Came : HeadStep → Type 0
  Came s = Answers dialect (take used b) (so_far s)

  came : (s : HeadStep) → step ≡ s → Came s
  came s e = subst Came e took.answers

  split : (head back : List ℕ) → b ≡ head ++ back → take (length head) b ≡ head
  split head back e = ap (take (length head)) e ∙ take_at head back (length head) refl

  -- ---- no header, and no foreign version

  module _ (more : step ≡ answer.More) (whole : used ≡ length b) where
    goes : (i : ℕ) → i ≤ used → Answers dialect (take i b) answer.More
    goes i le = elim (cases_eq i used) [
      | inl same ↦ subst (λ (n : ℕ). Answers dialect (take n b) answer.More) (sym same) (came answer.More more)
      | inr other ↦ took.before i (omega (arith, le, other))
    ]

    at_head : (head back : List ℕ) → b ≡ head ++ back → Answers dialect head answer.More
    at_head head back e =
        let len = ap length e ∙ length-append head back in
        subst (λ (w : List ℕ). Answers dialect w answer.More) (split head back e)
        (goes (length head) (omega (arith, len, whole)))

    pub none_more : NoneFollows dialect b
    none_more = record {
      none = record {
        own = λ h head back e is. (at_head head back e).0 h is;
        foreign = λ version head back len e foreign told le. none_some (at_head head back e).1 foreign;
      };
      refused = λ head back len e r told. (at_head head back e).2 r.place r.kind r.refused;
    }

  -- ---- memory is refused

  pub adds_cell : step ≡ answer.NoMemory → RefusesCell dialect b
  adds_cell e =
      let cell = took.unfed e in (
        take used b,
        cell.0,
        cell.1,
        sym (take-append-drop used b) ∙ ap (λ (z : List ℕ). take used b ++ z) cell.2,
        cell.3,
      )

  -- ---- a header, a foreign version, or a fault

  abbrev Ends : Type 0
  Ends = (step ≡ answer.Done) ⊎ (((version : ℕ) × (step ≡ answer.Foreign version)) ⊎ ((f : Fault) × (step ≡ answer.Fault f)))

  refused_by : (f : Fault) × (step ≡ answer.Fault f) → IsRefused dialect (take used b)
  refused_by fault = record {
    place = fault.0.offset;
    kind = fault.0.kind;
    refused = came (answer.Fault fault.0) fault.1;
  }

  -- its length isn't known
  pub none_known : Ends → unit_len dialect (take used b) ≡ None → NoneFollows dialect b
  none_known (inl done) unknown =
      let h = came answer.Done done in
      absurd (none_some unknown (header_known dialect h.0 (take used b) h.1).1)
  none_known (inr (inl foreign)) unknown =
      absurd (none_some unknown
      (foreign_known dialect (take used b) foreign.0 (came (answer.Foreign foreign.0) foreign.1)).1)
  none_known (inr (inr fault)) unknown =
      subst (NoneFollows dialect) (take-append-drop used b)
      (none_after_refused dialect (take used b) (drop used b) (refused_by fault) unknown)

  pub kind_is : (new : HeadReader) → StandsFor new (take used b) → (o : Option HeaderData) → Gives dialect new o → Ends
      → KindIs dialect (take used b) o
  kind_is new stands (Some h) gives e = gives (take used b) stands
  kind_is new stands None gives (inl done) =
      let h = came answer.Done done in absurd (gives (take used b) stands h.0 h.1)
  kind_is new stands None gives (inr (inl foreign)) =
      inl (foreign.0, came (answer.Foreign foreign.0) foreign.1)
  kind_is new stands None gives (inr (inr fault)) =
      inr (refused_by fault)
