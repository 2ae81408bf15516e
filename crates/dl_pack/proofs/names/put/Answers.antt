use Rattle.std.proofs.Common.{◌≡◌, ap, ◌∙◌, ◌++◌, map, ℕ, List, Result, Ok, Err}
use Rattle.std.specs.Prelude.{IfOk, OnErr, is_ok, if◌then◌else◌}
use Rattle.std.specs.Global.{Vec}
use Rattle.std.proofs.lemmas.Result.{IfOk-weaker}
use Rattle.dl_pack.proofs.NameLemmas.{placed, texts_put}
use Rattle.dl_pack.proofs.names.put.Goals as goal

-- what there is, by whether it was put
by_result : {A E : Type 0} (r : Result A E) (x y z : List (List ℕ)) (K U : Type 0) → (K → x ≡ y) → (U → x ≡ z)
    → IfOk r (λ _. K) → OnErr r U → x ≡ (if is_ok r then y else z)
by_result (Ok a) x y z K U put same k u = put k
by_result (Err e) x y z K U put same k u = same u

pub returns-clause-index : goal.returns-clause-index
returns-clause-index g c =
    IfOk-weaker c.insert_item.result _ _ (λ i s. placed c.insert_item.new.set c.extend_from_slice.new.list _ _ s.0 (c.in_ok-extend_from_slice.ensures.items ∙ ap (λ l. l ++ c.args.text.now) c.in_ok-copy.ensures.items) s.1 s.2)
    c.insert_item.ensures.stored

pub returns-clause-texts : goal.returns-clause-texts
returns-clause-texts g c =
    by_result c.insert_item.result _ _ _ _ _
    (λ keys. ap (map (λ (v : Vec ℕ). v.items)) keys ∙ texts_put c.args.texts.now.keys c.extend_from_slice.new.list c.args.text.now
    (c.in_ok-extend_from_slice.ensures.items ∙ ap (λ l. l ++ c.args.text.now) c.in_ok-copy.ensures.items))
    (λ kept. ap (map (λ (v : Vec ℕ). v.items)) kept) c.insert_item.ensures.keys c.insert_item.ensures.kept
