-- Numbers of fixed size, in either order of their bytes. DWARF 5, sections 7.4 and 7.5.5.
use Rattle.std.specs.Prelude.{ℕ, zero, suc, ◌+◌, ◌*◌, ◌/◌, ◌%◌, ◌^◌, Bool, ◌||◌, ◌==◌, List, [], ◌∷◌, length, reverse}
use Rattle.dl_num.specs.declared.fixed.Order.{Order}
use Rattle.dl_num.specs.declared.fixed.Order.TheVariants.{Little, Big}

-- the sum of the bytes, byte i times 256^i
abbrev pub little : List ℕ → ℕ
little [] = 0
little (b ∷ bs) = b + 256 * little bs

-- the sum of the bytes, byte i of n times 256^(n - 1 - i)
abbrev pub big : List ℕ → ℕ
big [] = 0
big (b ∷ bs) = b * 256 ^ length bs + big bs

-- the number that the bytes spell
abbrev pub fixed : Order → List ℕ → ℕ
fixed Little bytes = little bytes
fixed Big bytes = big bytes

-- the sizes of a number
abbrev pub is_number_size : ℕ → Bool
is_number_size n = (n == 1) || (n == 2) || (n == 4) || (n == 8)

-- the lowest k bytes of n, the lowest first
abbrev pub little_bytes : ℕ → ℕ → List ℕ
little_bytes zero n = []
little_bytes (suc k) n = n % 256 ∷ little_bytes k (n / 256)

-- the k bytes that spell n, which is below 256^k
abbrev pub fixed_bytes : Order → ℕ → ℕ → List ℕ
fixed_bytes Little k n = little_bytes k n
fixed_bytes Big k n = reverse (little_bytes k n)
