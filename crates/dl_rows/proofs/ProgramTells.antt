-- What a sink is told of one operation more.
use Rattle.std.proofs.Common.{◌≡◌, ℕ, ◌-◌, List, [], ◌∷◌, ◌++◌, length, map, take, None, Some, ap, subst, arith, append-nil}
use Rattle.std.proofs.Common.{length-append}
use Rattle.std.proofs.Math.Seq.{take-append_seam}
use Rattle.dl_num.specs.declared.fixed.Order.{Order}
use Rattle.dl_field.specs.declared.params.Params.{Params}
use Rattle.dl_field.specs.HeaderData.{HeaderData}
use Rattle.dl_rows.specs.declared.operation.Operation.{Operation}
use Rattle.dl_rows.specs.declared.program.Program.{Program}
use Rattle.dl_rows.specs.declared.row.Row.{Row}
use Rattle.dl_rows.specs.Items.{Item, a_byte, a_row, an_operation}
use Rattle.dl_rows.specs.Programs.{Telling}
use Rattle.dl_rows.specs.Sinks.{Story}
use Rattle.dl_rows.proofs.ProgramSteps.{Turned, items_told}

pub front_taken : (bytes front tail : List ℕ) → bytes ≡ front ++ tail → take (length bytes - length tail) bytes ≡ front
front_taken bytes front tail e =
    let count : length bytes - length tail ≡ length front = omega (arith, ap length e, length-append front tail) in
    rw (count, e) (take-append_seam front tail)

-- what a sink has heard with an operation
abbrev with_operation : (heard : List Item) (front : List ℕ) → HeaderData → Operation → List Item
with_operation heard front header o = heard ++ (map a_byte front ++ an_operation header o ∷ [])

module _ {S : Type 0} {story : Story S} {order : Order} {h : Params} {header : HeaderData} {b front bytes tail : List ℕ} {o : Operation}
    {heard : List Item} {new : Program} {s : S} where
  -- no row came of it
  pub telling_on : Turned order h b front o None new → bytes ≡ front ++ tail
      → story.hears s (with_operation heard front header o) → Telling story order h header b bytes heard new tail s
  telling_on t e hears = record {
    rows = [];
    walked = record { done = front; split = e; stands = t.stands; grown = t.rows; unrefused = t.unrefused };
    hears = subst (story.hears s) (items_told t header heard) (rw (append-nil (with_operation heard front header o)) hears);
  }

  -- its row, after which the sink goes on
  pub telling_row : {row : Row} → Turned order h b front o (Some row) new → bytes ≡ front ++ tail
      → story.hears s (with_operation heard front header o ++ a_row header row ∷ []) → Telling story order h header b bytes heard new tail s
  telling_row {row} t e hears = record {
    rows = row ∷ [];
    walked = record { done = front; split = e; stands = t.stands; grown = t.rows; unrefused = t.unrefused };
    hears = subst (story.hears s) (items_told t header heard) hears;
  }
