-- Bytes that are gathered before they are written.
use Rattle.std.proofs.Common.{◌≡◌, ℕ, ◌+◌, ◌<◌, ◌≤◌, List, [], ◌++◌, length, drop, get_or, Option, Result, MatchResult}
use Rattle.std.proofs.Common.{refl, sym, ap, subst, ◌∙◌, append_assoc}
use Rattle.std.proofs.lemmas.List.{drop_all, append-nil}
use Rattle.dl_num.specs.declared.fixed.Order.{Order}
use Rattle.dl_table.specs.declared.counted.HeadWrite.{HeadWrite}
use Rattle.dl_field.specs.declared.params.Params.{Params}
use Rattle.dl_table.specs.Writing.{IsOut, TellsOut}
use Rattle.dl_table.proofs.WritingLemmas.{TellsOut-front}
use Rattle.dl_rows.specs.declared.row.Row.{Row}
use Rattle.dl_emit.specs.Gathered.{IsGathered}
use Rattle.dl_emit.specs.Program.{row_operations, operations_from, kept}
use Rattle.dl_emit.specs.WrittenUnit.{operations_bytes, program_bytes}
use Rattle.dl_emit.proofs.ProgramLemmas.{program_cons, rows_from}

module _ (order : Order) (h : Params) (rows : List Row) where
  -- after the text, what is done of the program is out or held, and the rows from i on are left
  pub record Gone (start now : Option (List ℕ)) (text held : List ℕ) (count i : ℕ) (before : Option Row) : Type 0 where
    pub done : List ℕ
    pub gathered : IsGathered start now (text ++ done) held count
    pub whole : done ++ operations_bytes order h (operations_from h before (drop i rows)) ≡ program_bytes order h rows

  -- a row more is held
  pub gone_more : (start now : Option (List ℕ)) (text held more new done : List ℕ) (count i : ℕ) (d : Row)
      (before : Option Row) → i < length rows
      → more ≡ operations_bytes order h (row_operations h before (get_or rows i d)) → new ≡ held ++ more
      → done ++ operations_bytes order h (operations_from h before (drop i rows)) ≡ program_bytes order h rows
      → IsGathered start now (text ++ done) held count
      → Gone start now text new count (i + 1) (kept (get_or rows i d))
  gone_more start now text held more new done count i d before lt e is whole g =
      let rest = operations_bytes order h (operations_from h (kept (get_or rows i d)) (drop (i + 1) rows)) in
      let split : operations_bytes order h (operations_from h before (drop i rows)) ≡ more ++ rest =
      rw (rows_from h rows i d lt, e) (program_cons order h before (get_or rows i d) (drop (i + 1) rows)) in
      record {
        done = done ++ more;
        gathered = record {
          front = g.front;
          whole = rw is (sym (append_assoc text done more) ∙ ap (λ (l : List ℕ). l ++ more) g.whole
              ∙ append_assoc g.front held more);
          out = g.out;
        };
        whole = append_assoc done more rest ∙ ap (λ (l : List ℕ). done ++ l) (sym split) ∙ whole;
      }

  -- a write failed
  pub gone_part : (start now : Option (List ℕ)) (text rest done : List ℕ) (f : HeadWrite)
      → done ++ rest ≡ program_bytes order h rows → TellsOut start now (text ++ done) f
      → TellsOut start now (text ++ program_bytes order h rows) f
  gone_part start now text rest done f whole t =
      subst (λ (l : List ℕ). TellsOut start now (text ++ l) f) whole (TellsOut-front start now text done rest f t)

  -- no row is left, and what is held is written
  pub gone_all : (start old new : Option (List ℕ)) (text held : List ℕ) (count i : ℕ) (before : Option Row)
      (result : Result ℕ HeadWrite) → length rows ≤ i → (g : Gone start old text held count i before)
      → MatchResult result (λ n. IsOut start new (g.gathered.front ++ held) n)
      (λ f. TellsOut start new (g.gathered.front ++ held) f)
      → MatchResult result (λ n. IsOut start new (text ++ program_bytes order h rows) n)
      (λ f. TellsOut start new (text ++ program_bytes order h rows) f)
  gone_all start old new text held count i before result le g written =
      let none : operations_bytes order h (operations_from h before (drop i rows)) ≡ [] =
      rw (drop_all i rows le) refl in
      let all : g.done ≡ program_bytes order h rows =
      sym (append-nil g.done) ∙ ap (λ (l : List ℕ). g.done ++ l) (sym none) ∙ g.whole in
      subst (λ (l : List ℕ). MatchResult result (λ n. IsOut start new l n) (λ f. TellsOut start new l f))
      (sym g.gathered.whole ∙ ap (λ (l : List ℕ). text ++ l) all) written
