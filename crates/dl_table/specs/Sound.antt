-- Which tables there are: those that can be built, whose numbers are of the program's types. DWARF 5, section 6.2.4.1.
use Rattle.std.specs.Prelude.{◌≡◌, ◌^◌, ◌<◌, List, length, None}
use Rattle.std.specs.List.{AllByRecursion}
use Rattle.dl_table.specs.declared.table.Pair.{Pair}
use Rattle.dl_table.specs.TableData.{TableData}
use Rattle.dl_table.specs.Value.{Value}
use Rattle.dl_table.specs.Built.{entry_fault}

-- each content code has 64 bits
abbrev pub AreContents : List Pair → Type 0
AreContents pairs = AllByRecursion (λ (p : Pair). p.content < 2 ^ 64) pairs

-- each entry can be pushed, and the content codes and the count have 64 bits
pub record IsSoundTable (t : TableData) : Type 0 where
  pub contents : AreContents t.pairs
  pub entries : AllByRecursion (λ (values : List Value). entry_fault t values ≡ None) t.entries
  pub count : length t.entries < 2 ^ 64
