-- What the words of `addr` say, as it is handed on. No promise rests on this file.
use Rattle.std.specs.Prelude.{◌≡◌, true, Some}
use Rattle.dl_cmd.specs.Job.{AddrTexts}
use Rattle.dl_locating.specs.declared.addr_words.AskedWords.{AskedWords}
use Rattle.dl_locating.specs.Locate.{are_addresses, asked_in_words, base_in}

pub record IsUnderstood (w : AddrTexts) (u : AskedWords) : Type 0 where
  pub base : base_in w ≡ Some u.base
  pub asked : u.asked.items ≡ asked_in_words w
  pub understood : are_addresses w ≡ true
