-- What is kept of mentions. No promise rests on this file.
use Rattle.std.specs.Prelude.{ℕ, List, length}
use Rattle.dl_pack.specs.declared.mentions.Mentions.{Mentions}

abbrev pub order_of : Mentions → List ℕ
order_of m = m.order.items

abbrev pub count_of : Mentions → ℕ
count_of m = length m.numbers.items
