-- A section of which the units at the front are worked through.
use Rattle.std.proofs.Common.{◌≡◌, ◌⊎◌, inl, inr, ℕ, ◌+◌, ◌-◌, ◌<◌, ◌≤◌, min, List, [], ◌++◌, length, take, drop}
use Rattle.std.proofs.Common.{Option, Some}
use Rattle.std.proofs.Common.{None}
use Rattle.std.proofs.Common.{sym, ap, subst, ◌∙◌, arith, append_assoc, length-drop, length-take-le}
use Rattle.std.proofs.lemmas.Bool.{cases_lt}
use Rattle.std.proofs.lemmas.List.{take-append-drop, take-take, drop-drop, drop_all}
use Rattle.std.proofs.lemmas.Slice.{between_to_end}
use borrow.Rule.Slice.PartMut.{put_mid}
use Rattle.dl_head.specs.declared.dialect.Dialect.{Dialect}
use Rattle.dl_field.specs.HeaderData.{HeaderData}
use Rattle.dl_head.specs.Header.{IsHeader, unit_len}
use Rattle.dl_reloc.specs.declared.placed.Placed.{Placed}
use Rattle.dl_object.specs.Kept.{program_kept}
use Rattle.dl_object.specs.Section.{IsBody, IsUnread, NoneFollows, Keeps, ends, unread, own, RefusesCell, WantsCell}
use Rattle.dl_object.specs.declared.head.UnitHead.{UnitHead}
use Rattle.dl_object.specs.Fronts.{KindIs, HeadIs, HeadWithin, unit_kept}
use Rattle.dl_object.proofs.PartLemmas.{PutIn, part_len, put_in}

module _ (dialect : Dialect) (places : List Placed) (section : ℕ) (old : List ℕ) where
  -- what is left of the whole, by what is left from a place on
  pub record UnitsReplaced (bytes : List ℕ) (at : ℕ) : Type 0 where
    pub rest : drop at bytes ≡ drop at old
    pub kept : (new : List ℕ) → Keeps dialect places section at (drop at old) new
        → Keeps dialect places section 0 old (take at bytes ++ new)

  module _ (bytes : List ℕ) (at : ℕ) (so : UnitsReplaced bytes at) (b : List ℕ) (same : b ≡ drop at bytes) where
    -- no unit more
    pub no_more : NoneFollows dialect b → Keeps dialect places section 0 old bytes
    no_more none =
        subst (Keeps dialect places section 0 old)
        (ap (λ (z : List ℕ). take at bytes ++ z) (sym so.rest) ∙ take-append-drop at bytes)
        (so.kept (drop at old) (ends (subst (NoneFollows dialect) (same ∙ so.rest) none)))

    pub cell_wanted : RefusesCell dialect b → WantsCell dialect old
    cell_wanted cell =
        (take at old, drop at old, sym (take-append-drop at old), subst (RefusesCell dialect) (same ∙ so.rest) cell)

    -- a unit more, whose head has `len` bytes, of `unit`
    module _ (len unit told : ℕ) (first : len ≤ unit) (room : unit ≤ length b)
        (known : unit_len dialect (take len b) ≡ Some told) (is : unit ≡ min told (length b)) where
      abbrev u : List ℕ
      u = take unit b

      abbrev head : List ℕ
      head = take len u

      abbrev body : List ℕ
      body = drop len u

      abbrev after : List ℕ
      after = drop unit b

      front_is : head ++ body ≡ u
      front_is = take-append-drop len u

      front_len : length (head ++ body) ≡ unit
      front_len = ap length front_is ∙ length-take-le unit b room

      head_is : take len b ≡ head
      head_is = sym (take-take len unit b first)

      head_len : length head ≡ len
      head_len = ap length (sym head_is) ∙ length-take-le len b (omega (arith, first, room))

      split : (head ++ body) ++ after ≡ drop at old
      split = ap (λ (z : List ℕ). z ++ after) front_is ∙ take-append-drop unit b ∙ same ∙ so.rest

      cut_short : (unit ≡ told) ⊎ (unit < told) → (length (head ++ body) ≡ told)
          ⊎ ((length (head ++ body) < told) × (after ≡ []))
      cut_short (inl e) = inl (front_len ∙ e)
      cut_short (inr lt) =
          let size = front_len in
          let all : length b ≤ unit = omega (arith, is, lt) in
          inr (omega (arith, size, lt), drop_all unit b all)

      same_or_less : (unit ≡ told) ⊎ (unit < told)
      same_or_less = elim (cases_lt unit told) [ inl lt ↦ inr lt | inr ge ↦ inl (omega (arith, is, ge)) ]

      body_is : IsBody dialect head body after
      body_is = record {
        len = told;
        told = ap (unit_len dialect) (sym head_is) ∙ known;
        head_within = (let size = head_len in omega (arith, size, first, is));
        size = cut_short same_or_less;
      }

      later : after ≡ drop (at + unit) old
      later = ap (drop unit) (same ∙ so.rest) ∙ drop-drop unit at old

      place : at + unit ≡ at + length (head ++ body)
      place = ap (λ (n : ℕ). at + n) (sym front_len)

      after_it : (z : List ℕ) → Keeps dialect places section (at + unit) (drop (at + unit) old) z
          → Keeps dialect places section (at + length (head ++ body)) after z
      after_it z k =
          subst (λ (n : ℕ). Keeps dialect places section n after z) place
          (subst (λ (y : List ℕ). Keeps dialect places section (at + unit) y z) (sym later) k)

      -- new is what is left of it, and next the bytes then
      module _ (new next : List ℕ) (rest : drop (at + unit) next ≡ drop (at + unit) bytes)
          (front : take (at + unit) next ≡ take at bytes ++ new) where
        rest_is : drop (at + unit) next ≡ drop (at + unit) old
        rest_is = rest ∙ sym (drop-drop unit at bytes) ∙ ap (drop unit) (sym same) ∙ later

        joined : (z : List ℕ) → Keeps dialect places section at ((head ++ body) ++ after) (new ++ z)
            → Keeps dialect places section 0 old (take (at + unit) next ++ z)
        joined z k =
            subst (Keeps dialect places section 0 old)
            (sym (append_assoc (take at bytes) new z) ∙ ap (λ (y : List ℕ). y ++ z) (sym front))
            (so.kept (new ++ z) (subst (λ (y : List ℕ). Keeps dialect places section at y (new ++ z)) split k))

        -- one that isn't read
        unread_more : IsUnread dialect head → new ≡ u → UnitsReplaced next (at + unit)
        unread_more f e = record {
          rest = rest_is;
          kept = λ z k. joined z (subst (λ (y : List ℕ). Keeps dialect places section at
              ((head ++ body) ++ after) (y ++ z))
              (front_is ∙ sym e) (unread f body_is (after_it z k)));
        }

        -- one with a header, whose program is replaced
        module _ (h : HeaderData) (header : IsHeader dialect h head)
            (e : new ≡ head ++ program_kept dialect.order h.params places section (at + len) body) where
          left_is : head ++ program_kept dialect.order h.params places section (at + length head) body ≡ new
          left_is =
              ap (λ (n : ℕ). head ++ program_kept dialect.order h.params places section (at + n) body) head_len ∙ sym e

          own_more : UnitsReplaced next (at + unit)
          own_more = record {
            rest = rest_is;
            kept = λ z k. joined z (subst (λ (y : List ℕ). Keeps dialect places section at
                ((head ++ body) ++ after) (y ++ z))
                left_is (own header body_is (after_it z k)));
          }

        -- by its kind
        pub unit_more : (o : Option HeaderData) → KindIs dialect (take len b) o
            → new ≡ unit_kept dialect.order places section at o len u → UnitsReplaced next (at + unit)
        unit_more None kind kept = unread_more (subst (IsUnread dialect) head_is kind) kept
        unit_more (Some h) kind kept = own_more h (subst (IsHeader dialect h) head_is kind) kept

  -- the unit whose head a reader has found, as it is in the bytes
  module _ (bytes : List ℕ) (at : ℕ) (so : UnitsReplaced bytes at) (le : at ≤ length bytes) (found : UnitHead)
      (is : HeadIs dialect (take (length bytes - at) (drop at bytes)) found)
      (within : HeadWithin (length (take (length bytes - at) (drop at bytes))) (Some found)) (new : List ℕ)
      (kept : new ≡ unit_kept dialect.order places section at found.header found.len
      (take (at + found.unit_len - at) (drop at bytes)))
      (size : length new ≡ length (take (at + found.unit_len - at) (drop at bytes))) where
    abbrev b : List ℕ
    b = take (length bytes - at) (drop at bytes)

    abbrev unit : ℕ
    unit = found.unit_len

    abbrev next : List ℕ
    next = put_mid at (at + unit - at) bytes new

    same : b ≡ drop at bytes
    same = between_to_end bytes at (length bytes) (omega arith)

    room : unit ≤ length (drop at bytes)
    room = let n = ap length same in omega (arith, n, within.2)

    put : PutIn bytes new next at unit
    put = put_in bytes new at unit le room (size ∙ part_len bytes at unit room)

    part : take (at + unit - at) (drop at bytes) ≡ take unit b
    part =
        let k : at + unit - at ≡ unit = omega arith in
        ap (λ (n : ℕ). take n (drop at bytes)) k ∙ ap (take unit) (sym same)

    kept_so : new ≡ unit_kept dialect.order places section at found.header found.len (take unit b)
    kept_so = kept ∙ ap (unit_kept dialect.order places section at found.header found.len) part

    pub unit_size : length next ≡ length bytes
    unit_size = put.size

    pub unit_within : at + unit ≤ length next
    unit_within = let n = put.size in let m = length-drop at bytes in omega (arith, n, m, room, le)

    pub unit_goes : UnitsReplaced next (at + unit)
    unit_goes =
        unit_more bytes at so b same found.len unit is.len within.1 within.2 is.told is.unit new next put.rest put.front
        found.header is.kind kept_so
