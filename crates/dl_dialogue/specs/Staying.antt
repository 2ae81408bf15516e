-- What stays as it is of what tells of addresses, while it is asked.
use Rattle.std.specs.Prelude.{ℕ, Option}
use Rattle.std.specs.declared.io.Error.{Error}
use Rattle.dl_addr.specs.Location.{Location}

-- now it tells of an address what it told at first, or may tell, its reads fail with no other errors, and it asks memory for no
-- other numbers of items
pub record Stays {T : Type 0} (tells : T → ℕ → Option Location → Type 0) (Fails : T → Error → Type 0) (Asks : T → ℕ → Type 0)
    (first now : T) : Type 0 where
  pub told : (address : ℕ) (told : Option Location) → tells now address told → tells first address told
  pub fails : (error : Error) → Fails now error → Fails first error
  pub asks : (n : ℕ) → Asks now n → Asks first n
