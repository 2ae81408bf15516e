-- What a locator is made of. No promise rests on this file.
use Rattle.std.specs.Prelude.{◌≡◌}
use Rattle.dl_print.specs.ValueText.{Strings, strings_of}
use Rattle.dl_addr.specs.declared.locating.Locator.{Locator}
use Rattle.dl_addr.specs.declared.question.Question.{Question}

pub record Knows {M : Type 0} (l : Locator M) (q : Question) (s : Strings) : Type 0 where
  pub code : l.code ≡ q.code
  pub directories : l.directories ≡ q.directories
  pub style : l.style ≡ q.style
  pub strings : strings_of l.strings.now ≡ s
