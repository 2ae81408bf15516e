-- How a dump of one unit goes on.
use Rattle.std.proofs.Common.{◌≡◌, ◌∙◌, ◌++◌, ◌∷◌, ◌||◌, ◌&&◌, ℕ, List, [], Option, Ok, Err, refl, sym, ap, ap₂, subst}
use Rattle.std.proofs.Common.{append-nil, append_assoc, Bool, true, false}
use Rattle.std.proofs.lemmas.List.Folds.{list_any-append}
use Rattle.std.specs.Option.{option_or}
use Rattle.std.specs.Prelude.{⊤, map, ◌==◌, if◌then◌else◌, MatchResult, None, Some, Result}
use Rattle.dl_field.specs.HeaderData.{HeaderData}
use Rattle.dl_rows.specs.Items.{Item}
use Rattle.dl_rows.specs.declared.sink.Flow.{Flow}
use Rattle.dl_rows.specs.declared.sink.Flow.TheVariants as flow
use Rattle.dl_sections.specs.DamageTold.{damages_told}
use Rattle.dl_print.specs.Output.{HasPrinted}
use Rattle.dl_dump.specs.declared.dumping.Dumper.{Dumper}
use Rattle.dl_dump.specs.declared.dumping.NoneTold.{NoneTold}
use Rattle.dl_dump.specs.declared.reached.Reached.{Reached}
use Rattle.std.specs.Io.KnownBytes.{Appends}
use Rattle.dl_dump.proofs.ShowingLemmas.{shown_damage, shows_nothing, tells_damage}
use Rattle.dl_sections.specs.declared.around.Damage.{Damage}
use Rattle.dl_sections.specs.declared.fault.RunFault.{RunFault}
use Rattle.dl_sections.specs.declared.fault.RunFault.TheVariants as fault
use Rattle.dl_sections.specs.RunOutput.{TellsOut}
use Rattle.dl_sections.specs.Section.{Visit, of_damage, of_end, of_item}
use Rattle.dl_sections.specs.Visiting.{GoesOn, Settles, Stopped, StopsIn}
use Rattle.dl_dump.specs.declared.unit_dumping.UnitDumper.{UnitDumper}
use Rattle.dl_dump.specs.DetailText.{reached, shown_after, shown_visit}
use Rattle.dl_dump.specs.Dumping.{HasShown, dump_story, style_of}
use Rattle.dl_dump.specs.UnitCommand.{begins_at, damage_of, ends_unit, first_damage, is_of, is_over, visit_of, visits_of}
use Rattle.dl_dump.specs.UnitDumping.{EndsWithUnit, GoesOnWithUnit, HasShownUnit, ends_in, none_heard, told_since, unit_story}

or_or : (a b c : Bool) → (a || (b || c)) ≡ ((a || b) || c)
or_or true b c = refl
or_or false b c = refl

pub or-false : (a : Bool) → (a || false) ≡ a
or-false true = refl
or-false false = refl

-- ---- the visits of a unit

module _ (unit : ℕ) where
  pub ends-append : (was : Bool) (a b : List Visit) → ends_in unit was (a ++ b) ≡ ends_in unit (ends_in unit was a) b
  ends-append was [] b = refl
  ends-append was (v ∷ a) b = ends-append (is_of unit was v) a b

  pub of-append : (was : Bool) (a b : List Visit)
      → visits_of unit was (a ++ b) ≡ visits_of unit was a ++ visits_of unit (ends_in unit was a) b
  of-append was [] b = refl
  of-append was (v ∷ a) b =
      ap (λ (l : List Visit). visit_of unit was v ++ l) (of-append (is_of unit was v) a b)
      ∙ sym (append_assoc (visit_of unit was v) (visits_of unit (is_of unit was v) a)
      (visits_of unit (ends_in unit (is_of unit was v) a) b))

  -- each of the visits is of it
  abbrev pub EachOf : (was : Bool) → List Visit → Type 0
  EachOf was [] = ⊤
  EachOf was (v ∷ visits) = (is_of unit was v ≡ true) × EachOf true visits

  front_of : (was : Bool) (heard back : List Visit) → EachOf was (heard ++ back) → visits_of unit was heard ≡ heard
  front_of was [] back each = refl
  front_of was (v ∷ heard) back each =
      ap (λ (is : Bool). (if is then v ∷ [] else []) ++ visits_of unit is heard) each.0
      ∙ ap (λ (l : List Visit). v ∷ l) (front_of true heard back each.1)

  pub each_item : (was : Bool) → was ≡ true → (items : List Item) → EachOf was (map of_item items)
  each_item was is [] = tt
  each_item was is (i ∷ items) = (is, each_item true refl items)

  pub no_item : (items : List Item) → visits_of unit false (map of_item items) ≡ []
  no_item [] = refl
  no_item (i ∷ items) = no_item items

  pub ends_item : (was : Bool) (items : List Item) → ends_in unit was (map of_item items) ≡ was
  ends_item was [] = refl
  ends_item was (i ∷ items) = ends_item was items

  pub begins_no_item : (items : List Item) → begins_at unit (map of_item items) ≡ false
  begins_no_item [] = refl
  begins_no_item (i ∷ items) = begins_no_item items

  pub over_no_item : (begun : Bool) (items : List Item) → is_over unit begun (map of_item items) ≡ false
  over_no_item begun [] = refl
  over_no_item begun (i ∷ items) = over_no_item (begun || false) items

  pub over-append : (begun : Bool) (a b : List Visit)
      → is_over unit begun (a ++ b) ≡ (is_over unit begun a || is_over unit (begun || begins_at unit a) b)
  over-append begun [] b = sym (ap (λ (is : Bool). is_over unit is b) (or-false begun))
  over-append begun (v ∷ a) b =
      let w = is_of unit false v in
      ap (λ (is : Bool). (ends_unit v && begun) || is) (over-append (begun || w) a b)
      ∙ or_or (ends_unit v && begun) (is_over unit (begun || w) a) (is_over unit ((begun || w) || begins_at unit a) b)
      ∙ ap (λ (is : Bool). ((ends_unit v && begun) || is_over unit (begun || w) a) || is_over unit is b)
      (sym (or_or begun w (begins_at unit a)))

-- ---- damage

or_none : {A : Type 0} (a b : Option A) → option_or a b ≡ None → (a ≡ None) × (b ≡ None)
or_none None b none = (refl, none)
or_none {A = A} (Some x) b none = absurd (let e = none in cc)

option_or_or : {A : Type 0} (a b c : Option A) → option_or (option_or a b) c ≡ option_or a (option_or b c)
option_or_or None b c = refl
option_or_or (Some x) b c = refl

pub option_or-none : {A : Type 0} (a : Option A) → option_or a None ≡ a
option_or-none None = refl
option_or-none (Some x) = refl

damage-append : (a b : List Visit) → first_damage (a ++ b) ≡ option_or (first_damage a) (first_damage b)
damage-append [] b = refl
damage-append (v ∷ a) b =
    ap (λ (d : Option Damage). option_or (damage_of v) d) (damage-append a b)
    ∙ sym (option_or_or (damage_of v) (first_damage a) (first_damage b))

-- where none is told, none is told of the unit
pub none_of : (unit : ℕ) (was : Bool) (visits : List Visit) → first_damage visits ≡ None
    → first_damage (visits_of unit was visits) ≡ None
none_of unit was [] none = refl
none_of unit was (v ∷ visits) none =
    let both = or_none (damage_of v) (first_damage visits) none in
    by (is_of unit was v) both.0 (none_of unit true visits both.1) (none_of unit false visits both.1) where
      by : (is : Bool) → damage_of v ≡ None → first_damage (visits_of unit true visits) ≡ None
          → first_damage (visits_of unit false visits) ≡ None
          → first_damage ((if is then v ∷ [] else []) ++ visits_of unit is visits) ≡ None
      by true none of other = ap (λ (d : Option Damage). option_or d (first_damage (visits_of unit true visits))) none ∙ of
      by false none of other = other

pub no_item_damage : (items : List Item) → first_damage (map of_item items) ≡ None
no_item_damage [] = refl
no_item_damage (i ∷ items) = no_item_damage items

-- ---- a dump goes on

module _ {first old : UnitDumper} {start before : Option (List ℕ)} {visits : List Visit}
    (showed : GoesOnWithUnit first old start before visits) (new : UnitDumper) (after : Option (List ℕ)) where
  since : (more : List Visit) → told_since first visits ++ told_since old more ≡ told_since first (visits ++ more)
  since more =
      ap₂ (λ (unit : ℕ) (was : Bool). told_since first visits ++ visits_of unit was more) showed.told.unit showed.told.current
      ∙ sym (of-append first.unit first.is_current visits more)

  all_told : (more : List Visit) → new.unit ≡ old.unit → new.is_current ≡ ends_in old.unit old.is_current more
      → new.has_begun ≡ (old.has_begun || begins_at old.unit more)
      → new.damage ≡ option_or old.damage (first_damage (told_since old more))
      → HasShown none_heard first.dumper new.dumper start after (told_since first visits ++ told_since old more)
      → HasShownUnit first new start after (visits ++ more)
  all_told more unit current begun damage shown = record {
    unit = unit ∙ showed.told.unit;
    current = current ∙ ap₂ (λ (u : ℕ) (was : Bool). ends_in u was more) showed.told.unit showed.told.current
        ∙ sym (ends-append first.unit first.is_current visits more);
    begun = begun ∙ ap₂ (λ (is : Bool) (u : ℕ). is || begins_at u more) showed.told.begun showed.told.unit
        ∙ sym (or_or first.has_begun (begins_at first.unit visits) (begins_at first.unit more))
        ∙ sym (ap (λ (is : Bool). first.has_begun || is)
        (list_any-append (λ (v : Visit). is_of first.unit false v) visits more));
    damage = damage ∙ ap (λ (d : Option Damage). option_or d (first_damage (told_since old more))) showed.told.damage
        ∙ option_or_or first.damage (first_damage (told_since first visits)) (first_damage (told_since old more))
        ∙ ap (λ (d : Option Damage). option_or first.damage d)
        (sym (damage-append (told_since first visits) (told_since old more)) ∙ ap first_damage (since more));
    shown = subst (λ (l : List Visit). HasShown none_heard first.dumper new.dumper start after l) (since more) shown;
  }

  pub goes_on : (more : List Visit) → new.unit ≡ old.unit → new.is_current ≡ ends_in old.unit old.is_current more
      → new.has_begun ≡ (old.has_begun || begins_at old.unit more)
      → new.damage ≡ option_or old.damage (first_damage (told_since old more))
      → is_over old.unit old.has_begun more ≡ false
      → HasShown none_heard first.dumper new.dumper start after (told_since first visits ++ told_since old more)
      → GoesOnWithUnit first new start after (visits ++ more)
  goes_on more unit current begun damage unended shown = record {
    told = all_told more unit current begun damage shown;
    going = over-append first.unit first.has_begun visits more
        ∙ ap₂ (λ (a b : Bool). a || b) showed.going
        (ap₂ (λ (u : ℕ) (b : Bool). is_over u b more) (sym showed.told.unit) (sym showed.told.begun) ∙ unended);
  }

  -- the visits aren't of the unit
  pub passes : (more : List Visit) → new.unit ≡ old.unit → new.is_current ≡ ends_in old.unit old.is_current more
      → new.has_begun ≡ (old.has_begun || begins_at old.unit more)
      → new.damage ≡ old.damage → is_over old.unit old.has_begun more ≡ false → new.dumper ≡ old.dumper → before ≡ after
      → told_since old more ≡ [] → GoesOnWithUnit first new start after (visits ++ more)
  passes more unit current begun damage unended dumper same none =
      goes_on more unit current begun
      (damage ∙ sym (ap (λ (l : List Visit). option_or old.damage (first_damage l)) none ∙ option_or-none old.damage)) unended
      (subst (λ (l : List Visit). HasShown none_heard first.dumper new.dumper start after (told_since first visits ++ l)) (sym none)
      (rw (append-nil, dumper, ← same) showed.told.shown))

  -- or a write failed
  loses : (more : List Visit) (f : RunFault) → EachOf old.unit old.is_current more
      → StopsIn (dump_story none_heard) first.dumper new.dumper start after (told_since first visits) more f
      → StopsIn unit_story first new start after visits more f
  loses more f each (heard, back, is, stopped) = (heard, back, is, by f stopped) where
    by : (f : RunFault) → Stopped (dump_story none_heard) first.dumper new.dumper start after (told_since first visits ++ heard) f
        → Stopped unit_story first new start after (visits ++ heard) f
    by (fault.Write out) tells =
        subst (λ (l : List Visit). TellsOut start after (shown_after (style_of first.dumper) first.dumper.at l) (fault.Write out))
        (ap (λ (l : List Visit). told_since first visits ++ l)
        (sym (front_of old.unit old.is_current heard back (rw (← is) each))) ∙ since heard) tells
    by other reason = absurd reason.4

  -- the visits are of the unit, of which none is damage
  pub hears : {A : Type 0} (more : List Visit) (result : Result A RunFault) → EachOf old.unit old.is_current more
      → first_damage more ≡ None → new.unit ≡ old.unit → new.is_current ≡ ends_in old.unit old.is_current more
      → new.has_begun ≡ (old.has_begun || begins_at old.unit more) → new.damage ≡ old.damage
      → is_over old.unit old.has_begun more ≡ false
      → MatchResult result
      (λ _. HasShown none_heard first.dumper new.dumper start after (told_since first visits ++ more))
      (StopsIn (dump_story none_heard) first.dumper new.dumper start after (told_since first visits) more)
      → MatchResult result (λ _. GoesOnWithUnit first new start after (visits ++ more))
      (StopsIn unit_story first new start after visits more)
  hears more (Ok a) each none unit current begun damage unended shown =
      goes_on more unit current begun
      (damage ∙ sym (ap (λ (d : Option Damage). option_or old.damage d) (none_of old.unit old.is_current more none)
      ∙ option_or-none old.damage)) unended
      (subst (λ (l : List Visit). HasShown none_heard first.dumper new.dumper start after (told_since first visits ++ l))
      (sym (front_of old.unit old.is_current more [] (rw append-nil each))) shown)
  hears more (Err f) each none unit current begun damage unended stops = loses more f each stops

abbrev pub damage_visit : (unit : ℕ) → Damage → Visit
damage_visit unit damage = of_damage unit damage.offset damage.kind

-- the state after a unit begins at that offset
abbrev pub begun_at : UnitDumper → ℕ → UnitDumper
begun_at old offset =
    record old { is_current = offset == old.unit; has_begun = old.has_begun || (offset == old.unit) }

module _ {first old : UnitDumper} {start before : Option (List ℕ)} {visits : List Visit}
    (showed : GoesOnWithUnit first old start before visits) where
  -- of what ends or is damaged nothing is printed
  quietly : (v : Visit) → damages_told (v ∷ []) ≡ [] → (at : (at : Reached) → shown_visit (style_of old.dumper) at v ≡ [])
      → ((at : Reached) → reached (style_of old.dumper) at v ≡ at) → (is : Bool)
      → HasShown none_heard first.dumper old.dumper start before (told_since first visits ++ ((if is then v ∷ [] else []) ++ []))
  quietly v none text stays true =
      shows_nothing showed.told.shown (v ∷ []) (ap (λ (l : List ℕ). l ++ []) (text old.dumper.at)) none (sym (stays old.dumper.at))
  quietly v none text stays false = rw append-nil showed.told.shown

  ended : (h : Option HeaderData) → HasShownUnit first old start before (visits ++ of_end h ∷ [])
  ended h =
      all_told showed old before (of_end h ∷ []) refl refl (sym (or-false old.has_begun))
      (sym (ap (λ (d : Option Damage). option_or old.damage d) (none_of old.unit old.is_current (of_end h ∷ []) refl)
      ∙ option_or-none old.damage))
      (quietly (of_end h) refl (λ at. refl) (λ at. refl) old.is_current)

  over_at : (h : Option HeaderData) (is : Bool) → old.has_begun ≡ is
      → is_over first.unit first.has_begun (visits ++ of_end h ∷ []) ≡ is
  over_at h is begun =
      over-append first.unit first.has_begun visits (of_end h ∷ [])
      ∙ ap₂ (λ (a b : Bool). a || (b || false)) showed.going (sym showed.told.begun ∙ begun) ∙ or-false is

  pub ends_here : (h : Option HeaderData) → old.has_begun ≡ true
      → EndsWithUnit first old start before (visits ++ of_end h ∷ [])
  ends_here h begun = record { told = ended h; over = over_at h true begun }

  pub ends_other : (h : Option HeaderData) → old.has_begun ≡ false
      → GoesOnWithUnit first old start before (visits ++ of_end h ∷ [])
  ends_other h begun = record { told = ended h; going = over_at h false begun }

  module _ (unit : ℕ) (damage : Damage) (new : UnitDumper) (begun : new ≡ record (begun_at old unit) { damage = new.damage }) where
    shown_damaged : (is : Bool) → HasShown none_heard first.dumper old.dumper start before
        (told_since first visits ++ ((if is then damage_visit unit damage ∷ [] else []) ++ []))
    shown_damaged true = tells_damage showed.told.shown old.dumper.damages.now unit damage tt
    shown_damaged false = rw append-nil showed.told.shown

    pub tells_damaged : new.damage
        ≡ option_or old.damage (first_damage ((if unit == old.unit then damage_visit unit damage ∷ [] else []) ++ []))
        → GoesOnWithUnit first new start before (visits ++ damage_visit unit damage ∷ [])
    tells_damaged is =
        goes_on showed new before (damage_visit unit damage ∷ []) (ap (λ (u : UnitDumper). u.unit) begun)
        (ap (λ (u : UnitDumper). u.is_current) begun)
        (ap (λ (u : UnitDumper). u.has_begun) begun
        ∙ ap (λ (b : Bool). old.has_begun || b) (sym (or-false (unit == old.unit))))
        is refl (rw (ap (λ (u : UnitDumper). u.dumper) begun) (shown_damaged (unit == old.unit)))

-- nothing is printed of damage
pub quiet_damage : (first : UnitDumper) (visits : List Visit) (unit : ℕ) (damage : Damage)
    → unit_story.text first (visits ++ damage_visit unit damage ∷ []) ≡ unit_story.text first visits
quiet_damage first visits unit damage =
    ap (shown_after (style_of first.dumper) first.dumper.at)
    (of-append first.unit first.is_current visits (damage_visit unit damage ∷ []))
    ∙ by (is_of first.unit (ends_in first.unit first.is_current visits) (damage_visit unit damage)) where
      by : (is : Bool) → shown_after (style_of first.dumper) first.dumper.at
          (told_since first visits ++ ((if is then damage_visit unit damage ∷ [] else []) ++ []))
          ≡ shown_after (style_of first.dumper) first.dumper.at (told_since first visits)
      by true = shown_damage (style_of first.dumper) first.dumper.at (told_since first visits) unit damage.offset damage.kind
      by false = ap (shown_after (style_of first.dumper) first.dumper.at) (append-nil (told_since first visits))

-- all that was printed goes out
module _ (first old : UnitDumper) (start before after : Option (List ℕ)) (visits : List Visit) (dumper : Dumper NoneTold) where
  same : HasShownUnit first old start before visits
      → HasShown none_heard first.dumper dumper start after (told_since first visits)
      → HasShownUnit first (record old { dumper = dumper }) start after visits
  same showed shown =
      record { unit = showed.unit; current = showed.current; begun = showed.begun; damage = showed.damage; shown = shown }

  pub settles_unit : (flow : Flow) → GoesOn unit_story first old start before visits flow → (result : Result ⊤ RunFault)
      → ((flow : Flow) → Settles (dump_story none_heard) old.dumper dumper before after flow result)
      → MatchResult result (λ _. GoesOn unit_story first (record old { dumper = dumper }) start after visits flow
      × Appends start after (unit_story.text first visits)) (TellsOut start after (unit_story.text first visits))
  settles_unit flow.On showed (Ok done) settles =
      let s = settles flow.On first.dumper start (told_since first visits) showed.told.shown in
      (record { told = same showed.told s.0; going = showed.going }, s.1)
  settles_unit flow.Stop is (Ok done) settles =
      let s = settles flow.On first.dumper start (told_since first visits) is.told.shown in
      (record { told = same is.told s.0; over = is.over }, s.1)
  settles_unit flow.On showed (Err f) settles =
      settles flow.On first.dumper start (told_since first visits) showed.told.shown
  settles_unit flow.Stop is (Err f) settles =
      settles flow.On first.dumper start (told_since first visits) is.told.shown

-- nothing was told
pub begins : {first : UnitDumper} {start : Option (List ℕ)}
    → HasPrinted start start [] first.dumper.printer.now → GoesOnWithUnit first first start start []
begins {first = first} nothing = record {
  told = record {
    unit = refl;
    current = refl;
    begun = sym (or-false first.has_begun);
    damage = sym (option_or-none first.damage);
    shown = record { style = refl; damages = refl; heard = tt; reached = refl; printed = nothing };
  };
  going = refl;
}
