-- Abbreviation declarations. DWARF 2, 3, 4 and 5, section 7.5.3. b: bytes.
use Rattle.std.specs.Prelude.{◌≡◌, ℕ, zero, suc, ◌==◌, ◌&&◌, Bool, if◌then◌else◌, List, [], ◌∷◌, length, drop}
use Rattle.std.specs.Prelude.{Result, Ok, Err}
use Rattle.dl_info.specs.declared.front.FieldFault.{FieldFault}
use Rattle.dl_info.specs.declared.front.FieldFault.TheVariants.{Short, Damaged}
use Rattle.dl_info.specs.declared.abbreviation.Attribute.{Attribute}
use Rattle.dl_info.specs.declared.abbreviation.Declaration.{Declaration}
use Rattle.dl_info.specs.Front.{◌>>=◌, bytes_at, leb_at, uleb_at}

-- an attribute's name and form; where the form is implicit_const (0x21), its value follows, a signed number in LEB128
unfoldable pub attribute_at : List ℕ → Result (Attribute × List ℕ) FieldFault
attribute_at b = do
  name ← uleb_at b
  form ← uleb_at name.1
  if form.0 == 0x21
      then (leb_at form.1 >>= λ value. Ok (record { name = name.0; form = form.0 }, value.1))
      else Ok (record { name = name.0; form = form.0 }, form.1)

-- the pair that ends the attributes
abbrev pub is_end : Attribute → Bool
is_end a = (a.name == 0) && (a.form == 0)

-- attributes up to the pair of zeros; they and the pair are at most n
unfoldable pub attributes_at : (n : ℕ) → List ℕ → Result (List Attribute × List ℕ) FieldFault
attributes_at zero b = Err (Short 1)
attributes_at (suc n) b = do
  a ← attribute_at b
  if is_end a.0
      then Ok ([], a.1)
      else (attributes_at n a.1 >>= λ others. Ok (a.0 ∷ others.0, others.1))

-- the attributes that b begins with, of which there are no more than bytes; none where they don't end
abbrev pub first_of : Result (List Attribute × List ℕ) FieldFault → List Attribute
first_of (Ok x) = x.0
first_of (Err s) = []

abbrev pub attributes_in : List ℕ → List Attribute
attributes_in b = first_of (attributes_at (length b) b)

-- b begins with attributes that end
abbrev pub HasEnd : List ℕ → Type 0
HasEnd b = (attributes : List Attribute) × (rest : List ℕ) × (attributes_at (length b) b ≡ Ok (attributes, rest))

-- an abbreviation: the code that entries name it by, and its attributes
pub record Abbreviation : Type 0 where
  pub code : ℕ
  pub attributes : List Attribute

-- what a declaration in memory says
abbrev pub declaration : Declaration → Abbreviation
declaration d = record { code = d.code; attributes = attributes_in d.attributes.now }

-- a code, which isn't 0, a tag, a byte that says whether entries have children, and attributes
unfoldable pub declaration_at : List ℕ → Result (Abbreviation × List ℕ) FieldFault
declaration_at b = do
  code ← uleb_at b
  if code.0 == 0 then Err Damaged else (uleb_at code.1 >>= λ tag. bytes_at 1 tag.1 >>= λ children.
      attributes_at (length children.1) children.1 >>= λ attributes.
      Ok (record { code = code.0; attributes = attributes.0 }, attributes.1))

-- the attributes of the first abbreviation with this code, among at most n
unfoldable pub declared_in : (n code : ℕ) → List ℕ → Result (List Attribute) FieldFault
declared_in zero code b = Err (Short 1)
declared_in (suc n) code b = do
  d ← declaration_at b
  if d.0.code == code then Ok d.0.attributes else declared_in n code d.1

-- a table of abbreviations begins at an offset of the section; whatever is wrong with it is damage
abbrev pub or_none : {A : Type 0} → Result A FieldFault → Result A FieldFault
or_none (Ok x) = Ok x
or_none (Err s) = Err Damaged

abbrev pub declared_from : (offset code : ℕ) → List ℕ → Result (List Attribute) FieldFault
declared_from offset code abbreviations =
    or_none (declared_in (length (drop offset abbreviations)) code (drop offset abbreviations))
