use Rattle.std.specs.Prelude.{slice_get}
use Rattle.std.proofs.Common.{arith, rules, map, List, ◌≡◌, ◌≤◌, ◌+◌, ◌∙◌, ◌++◌, ap, ap₂, sym, subst, ℕ, length, Some, Decides}
use Rattle.std.specs.Global.{Vec}
use Rattle.std.specs.List.{All}
use Rattle.std.proofs.lemmas.List.{length-map}
use Rattle.std.proofs.lemmas.Slice.Eq.{bytes_eq-Decides}
use Rattle.dl_pack.specs.declared.names.FileTexts.{FileTexts}
use Rattle.dl_pack.specs.contracts.names.FileTextsPartialEq.TheImpl.{eq-value}
use Rattle.dl_pack.specs.Named.{named}
use Rattle.dl_pack.specs.Within.{HasTexts, Packed, texts_in}
use Rattle.dl_pack.proofs.NameLemmas.{same_items}
use Rattle.dl_pack.proofs.OnceLemmas.{once_mapped, once_named, keys_after, all_after, grows_mapped, number_mapped, three_within}
use Rattle.dl_pack.proofs.names.Names.add_file.Goals as goal

few_mapped : {A B : Type 0} (f : A → B) (old new : List A) → length new ≤ length old + 1
    → length (map f new) ≤ length (map f old) + 1
few_mapped f old new few = omega (arith, few, length-map old f, length-map new f)

decides : (f g : FileTexts) → Decides (eq-value.it f g) (f ≡ g)
decides f g = search rules

pub invariant_of-self-clause-packed : goal.invariant_of-self-clause-packed
invariant_of-self-clause-packed g c =
    let file : FileTexts = record { unit = c.args.unit; texts = c.packed-texts.result } in
    all_after (λ (f : FileTexts). Packed f.texts) c.args.self.now.files.keys c.insert_item.new.set.keys file
    (keys_after eq-value.it c.args.self.now.files.keys c.insert_item.new.set.keys file c.insert_item.result c.insert_item.ensures.keys c.insert_item.ensures.kept)
    c.args.self.now.packed c.packed-texts.ensures.packed

pub invariant_of-self-clause-within : goal.invariant_of-self-clause-within
invariant_of-self-clause-within g c =
    let file : FileTexts = record { unit = c.args.unit; texts = c.packed-texts.result } in
    let count = length c.args.self.now.texts.keys in
    all_after (HasTexts count) c.args.self.now.files.keys c.insert_item.new.set.keys file
    (keys_after eq-value.it c.args.self.now.files.keys c.insert_item.new.set.keys file c.insert_item.result c.insert_item.ensures.keys c.insert_item.ensures.kept)
    c.args.self.now.within (c.packed-texts.ensures.within count (three_within c.len-count.result _ _ _ _ c.len-count.ensures.len
    c.known.ensures.within c.known-2.ensures.within c.known-3.ensures.within))

pub invariant_of-self-clause-once : goal.invariant_of-self-clause-once
invariant_of-self-clause-once g c =
    let texts = c.args.self.now.texts in
    once_named (texts_in texts) (once_mapped (λ (v : Vec ℕ). v.items) same_items (λ a b is. (bytes_eq-Decides a.items b.items).1 is)
    texts.keys c.len-count.ensures.unique) eq-value.it decides c.insert_item.new.set.keys c.insert_item.ensures.unique
    (invariant_of-self-clause-packed g c)
    (subst (λ (n : ℕ). All (HasTexts n) c.insert_item.new.set.keys) (sym (length-map texts.keys (λ (v : Vec ℕ). v.items)))
    (invariant_of-self-clause-within g c))

pub returns-in-Ok-clause-number : goal.returns-in-Ok-clause-number
returns-in-Ok-clause-number g c =
    let texts = texts_in c.args.self.now.texts in
    let few = c.len-count.ensures.len ∙ sym (length-map c.args.self.now.texts.keys (λ (v : Vec ℕ). v.items)) in
    ap (slice_get (map (named texts) c.insert_item.new.set.keys)) c.number_at.ensures.same
    ∙ number_mapped (named texts) eq-value.it decides c.insert_item.new.set.keys (record { unit = c.args.unit; texts = c.packed-texts.result })
    c.in-Ok.place c.in-Ok.ensures.stored
    ∙ ap (λ parts. Some (record { unit = c.args.unit; parts = parts })) (c.packed-texts.ensures.same texts
    ∙ ap₂ (λ x y. x ++ y) (c.known.ensures.same texts few)
    (ap₂ (λ x y. x ++ y) (c.known-2.ensures.same texts few) (c.known-3.ensures.same texts few)))

pub returns-in-Ok-clause-grows : goal.returns-in-Ok-clause-grows
returns-in-Ok-clause-grows g c =
    grows_mapped (named (texts_in c.args.self.now.texts)) c.args.self.now.files.keys c.insert_item.new.set.keys
    (record { unit = c.args.unit; texts = c.packed-texts.result })
    (keys_after eq-value.it c.args.self.now.files.keys c.insert_item.new.set.keys (record { unit = c.args.unit; texts = c.packed-texts.result })
    c.insert_item.result c.insert_item.ensures.keys c.insert_item.ensures.kept)

pub returns-in-Ok-clause-few : goal.returns-in-Ok-clause-few
returns-in-Ok-clause-few g c =
    few_mapped (named (texts_in c.args.self.now.texts)) c.args.self.now.files.keys c.insert_item.new.set.keys c.insert_item.ensures.few

pub returns-in-Err-clause-few : goal.returns-in-Err-clause-few
returns-in-Err-clause-few g c =
    few_mapped (named (texts_in c.args.self.now.texts)) c.args.self.now.files.keys c.insert_item.new.set.keys c.insert_item.ensures.few
