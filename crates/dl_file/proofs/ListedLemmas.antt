-- What is done section after section is done over the list of all section headers.
use Rattle.std.proofs.Common.{◌≡◌, ◌∙◌, if◌then◌else◌, ℕ, zero, suc, ◌+◌, ◌-◌, Bool, true, false, cond, List, [], ◌∷◌, ◌++◌, length, Option, None, Some}
use Rattle.std.proofs.Common.{Result, Ok, Err, refl, ap, sym}
use Rattle.std.specs.Prelude.{filter, option_map, slice_get}
use Rattle.std.specs.List.{cons_option, filter_map}
use Rattle.std.specs.Option.{option_and_then}
use Rattle.std.proofs.lemmas.List.{append-nil, length-append}
use Rattle.std.proofs.lemmas.List.Elements.{filter-append, filter_map-append}
use Rattle.dl_elf.specs.declared.file.Elf.{Elf}
use Rattle.dl_elf.specs.declared.fault.ElfFault.{ElfFault}
use Rattle.dl_elf.specs.declared.named.NamedSection.{NamedSection}
use Rattle.dl_elf.specs.declared.section.SectionHeader.{SectionHeader}
use Rattle.dl_elf.specs.Elf.{is_object, relocates}
use Rattle.dl_elf.specs.Sections.{headers_upto, section_headers, section_in}
use Rattle.dl_file.specs.declared.code.ExecutableRange.{ExecutableRange}
use Rattle.dl_file.specs.Code.{executable_range}
use Rattle.dl_file.specs.LineTable.{option_or}
use Rattle.dl_file.specs.OneByOne.{and_range, placed_if, placed_upto, ranges_upto, relocated_if}
use Rattle.dl_file.specs.OneByOne.{relocated_upto, relocations_in, relocations_upto, sum_of, wide_at, wide_upto}
use Rattle.dl_file.specs.Places.{is_wide, placed_of, there}
use Rattle.dl_file.specs.Relocations.{all_there, and_then, by_each, relocated_by, relocation_sections, relocations_of}

-- ---- one more of a list

-- all are there with one more
abbrev and_there : {A : Type 0} → Option (List A) → Option A → Option (List A)
and_there (Some xs) (Some x) = Some (xs ++ x ∷ [])
and_there (Some xs) None = None
and_there None other = None

in_front : {A : Type 0} (x : A) (xs : Option (List A)) (o : Option A)
    → option_map (λ ys. x ∷ ys) (and_there xs o) ≡ and_there (option_map (λ ys. x ∷ ys) xs) o
in_front x None o = refl
in_front x (Some xs) None = refl
in_front x (Some xs) (Some y) = refl

all_there-next : {A : Type 0} (xs : List (Option A)) (o : Option A) → all_there (xs ++ o ∷ []) ≡ and_there (all_there xs) o
all_there-next [] None = refl
all_there-next [] (Some x) = refl
all_there-next (None ∷ xs) o = refl
all_there-next (Some x ∷ xs) o = ap (option_map (λ ys. x ∷ ys)) (all_there-next xs o) ∙ in_front x (all_there xs) o

-- and what they are then
record AreMore {A : Type 0} (before : Option (List A)) (o : Option A) (all : List A) : Type 0 where
  pub first : List A
  pub last : A
  pub so_far : before ≡ Some first
  pub next : o ≡ Some last
  pub are : all ≡ first ++ last ∷ []

are_more : {A : Type 0} (before : Option (List A)) (o : Option A) (all : List A) → and_there before o ≡ Some all
    → AreMore before o all
are_more None o all is = absurd (cc is)
are_more (Some xs) None all is = absurd (cc is)
are_more (Some xs) (Some x) all is = let e : xs ++ x ∷ [] ≡ all = cc is in
    record { first = xs; last = x; so_far = refl; next = refl; are = sym e }

-- ---- code

range_more : (h : Option SectionHeader → Option ExecutableRange) (ranges : List ExecutableRange) (s : Option SectionHeader)
    (o : Option ExecutableRange) → h s ≡ o → ranges ++ filter_map h (s ∷ []) ≡ and_range ranges o
range_more h ranges s None is = ap (λ x. ranges ++ cons_option x []) is ∙ append-nil ranges
range_more h ranges s (Some range) is = ap (λ x. ranges ++ cons_option x []) is

pub ranges_listed : (e : Elf) (f : List ℕ) (n : ℕ)
    → ranges_upto e f n ≡ filter_map (option_and_then executable_range) (headers_upto e.header f n)
ranges_listed e f zero = refl
ranges_listed e f (suc n) =
    let s = section_in e.header f (suc n) in
    let h = option_and_then executable_range in
    ap (λ r. and_range r (h s)) (ranges_listed e f n)
    ∙ sym (filter_map-append h (headers_upto e.header f n) (s ∷ [])
    ∙ range_more h (filter_map h (headers_upto e.header f n)) s (h s) refl)

-- ---- how many sections of relocations there are

abbrev count : (number : ℕ) → Option (List SectionHeader) → Option ℕ
count number headers = option_map (λ hs. length (filter (relocates number) hs)) headers

filter-more : (t : Bool) (s : SectionHeader) (test : SectionHeader → Bool) (hs : List SectionHeader) → test s ≡ t
    → filter test (hs ++ s ∷ []) ≡ filter test hs ++ cond t (s ∷ []) []
filter-more t s test hs is = filter-append test hs (s ∷ []) ∙ ap (λ b. filter test hs ++ cond b (s ∷ []) []) is

one_more : (t : Bool) (s : SectionHeader) (test : SectionHeader → Bool) (hs : List SectionHeader) → test s ≡ t
    → length (filter test hs) + cond t 1 0 ≡ length (filter test (hs ++ s ∷ []))
one_more true s test hs is =
    sym (ap (λ l. length l) (filter-more true s test hs is) ∙ length-append (filter test hs) (s ∷ []))
one_more false s test hs is =
    sym (ap (λ l. length l) (filter-more false s test hs is) ∙ length-append (filter test hs) [])

counted_more : (number : ℕ) (headers : Option (List SectionHeader)) (s : Option SectionHeader)
    → sum_of (count number headers) (relocations_in number s) ≡ count number (and_there headers s)
counted_more number None s = refl
counted_more number (Some hs) None = refl
counted_more number (Some hs) (Some s) = ap Some (one_more (relocates number s) s (relocates number) hs refl)

pub counted_listed : (e : Elf) (f : List ℕ) (number n : ℕ)
    → relocations_upto e f number n ≡ count number (all_there (headers_upto e.header f n))
counted_listed e f number zero = refl
counted_listed e f number (suc n) =
    let s = section_in e.header f (suc n) in
    ap (λ r. sum_of r (relocations_in number s)) (counted_listed e f number n)
    ∙ counted_more number (all_there (headers_upto e.header f n)) s
    ∙ ap (count number) (sym (all_there-next (headers_upto e.header f n) s))

-- ---- what they make of something

-- after some sections, others
each-append : {A : Type 0} (by : SectionHeader → A → Result A ElfFault) (ss more : List SectionHeader) (x : A)
    → by_each by (ss ++ more) x ≡ and_then (by_each by more) (by_each by ss x)
each-append by [] more x = refl
each-append {A = A} by (s ∷ ss) more x = go (λ y. each-append by ss more y) (by s x)
  where
    go : ((y : A) → by_each by (ss ++ more) y ≡ and_then (by_each by more) (by_each by ss y)) → (made : Result A ElfFault)
        → and_then (by_each by (ss ++ more)) made ≡ and_then (by_each by more) (and_then (by_each by ss) made)
    go on (Ok y) = on y
    go on (Err first) = refl

-- one section more, which is one of them where the test says so
-- nothing more is made, or the same of one section
made-same : {A : Type 0} (made : Result A ElfFault) → made ≡ and_then (λ y. Ok y) made
made-same (Ok y) = refl
made-same (Err first) = refl

made-one : {A : Type 0} (by : SectionHeader → A → Result A ElfFault) (s : SectionHeader) (made : Result A ElfFault)
    → and_then (by_each by (s ∷ [])) made ≡ and_then (by s) made
made-one by s (Ok y) = sym (made-same (by s y))
made-one by s (Err first) = refl

each-more : {A : Type 0} (by : SectionHeader → A → Result A ElfFault) (test : SectionHeader → Bool) (hs : List SectionHeader)
    (s : SectionHeader) (t : Bool) (x : A) → test s ≡ t
    → by_each by (filter test (hs ++ s ∷ [])) x
    ≡ and_then (λ y. if t then by s y else Ok y) (by_each by (filter test hs) x)
each-more by test hs s true x is =
    ap (λ ss. by_each by ss x) (filter-more true s test hs is) ∙ each-append by (filter test hs) (s ∷ []) x
    ∙ made-one by s (by_each by (filter test hs) x)
each-more by test hs s false x is =
    ap (λ ss. by_each by ss x) (filter-more false s test hs is ∙ append-nil (filter test hs))
    ∙ made-same (by_each by (filter test hs) x)

pub relocated_listed : (e : Elf) (f : List ℕ) (line : NamedSection) (b : List ℕ) (n : ℕ) (hs : List SectionHeader)
    → all_there (headers_upto e.header f n) ≡ Some hs
    → relocated_upto e f line b n ≡ by_each (relocated_by e f line.name) (filter (relocates line.number) hs) b
relocated_listed e f line b zero hs is = let same : [] ≡ hs = cc is in
    ap (λ l. by_each (relocated_by e f line.name) (filter (relocates line.number) l) b) same
relocated_listed e f line b (suc n) hs is =
    let s = section_in e.header f (suc n) in
    let by = relocated_by e f line.name in
    let m = are_more (all_there (headers_upto e.header f n)) s hs
    (sym (all_there-next (headers_upto e.header f n) s) ∙ is) in
    ap (and_then (relocated_if e f line s)) (relocated_listed e f line b n m.first m.so_far)
    ∙ ap (λ o. and_then (relocated_if e f line o) (by_each by (filter (relocates line.number) m.first) b)) m.next
    ∙ sym (ap (λ l. by_each by (filter (relocates line.number) l) b) m.are
    ∙ each-more by (relocates line.number) m.first m.last (relocates line.number m.last) b refl)

pub placed_listed : (e : Elf) (f : List ℕ) (line : NamedSection) (n : ℕ) (hs : List SectionHeader)
    → all_there (headers_upto e.header f n) ≡ Some hs
    → placed_upto e f line n ≡ by_each (placed_of e f line.name) (filter (relocates line.number) hs) []
placed_listed e f line zero hs is = let same : [] ≡ hs = cc is in
    ap (λ l. by_each (placed_of e f line.name) (filter (relocates line.number) l) []) same
placed_listed e f line (suc n) hs is =
    let s = section_in e.header f (suc n) in
    let by = placed_of e f line.name in
    let m = are_more (all_there (headers_upto e.header f n)) s hs
    (sym (all_there-next (headers_upto e.header f n) s) ∙ is) in
    ap (and_then (placed_if e f line s)) (placed_listed e f line n m.first m.so_far)
    ∙ ap (λ o. and_then (placed_if e f line o) (by_each by (filter (relocates line.number) m.first) [])) m.next
    ∙ sym (ap (λ l. by_each by (filter (relocates line.number) l) []) m.are
    ∙ each-more by (relocates line.number) m.first m.last (relocates line.number m.last) [] refl)

-- ---- the section with numbers that don't fit

-- the first of some, or else of others
first-append : {A : Type 0} (xs ys : List A) → slice_get (xs ++ ys) 0 ≡ option_or (slice_get xs 0) (slice_get ys 0)
first-append [] ys = refl
first-append (x ∷ xs) ys = refl

wide_one : (number : ℕ) (s : Option SectionHeader)
    → slice_get (filter (is_wide number) (there (s ∷ []))) 0 ≡ option_and_then (λ s. if is_wide number s then Some s else None) s
wide_one number None = refl
wide_one number (Some s) = by (is_wide number s)
  where
    by : (t : Bool) → slice_get (cond t (s ∷ []) []) 0 ≡ (if t then Some s else None)
    by true = refl
    by false = refl

pub wide_listed : (e : Elf) (f : List ℕ) (number n : ℕ)
    → wide_upto e f number n ≡ slice_get (filter (is_wide number) (there (headers_upto e.header f n))) 0
wide_listed e f number zero = refl
wide_listed e f number (suc n) =
    let s = section_in e.header f (suc n) in
    let hs = headers_upto e.header f n in
    let test = is_wide number in
    ap (λ o. option_or o (wide_at e f number (suc n))) (wide_listed e f number n)
    ∙ ap (option_or (slice_get (filter test (there hs)) 0)) (sym (wide_one number s))
    ∙ sym (ap (λ l. slice_get (filter test l) 0) (filter_map-append (λ x. x) hs (s ∷ []))
    ∙ ap (λ l. slice_get l 0) (filter-append test (there hs) (there (s ∷ [])))
    ∙ first-append (filter test (there hs)) (filter test (there (s ∷ []))))

-- ---- the line section

-- what is known of its sections of relocations where there are so many
pub record AreListed (e : Elf) (f : List ℕ) (line : NamedSection) (n : ℕ) : Type 0 where
  pub sections : List SectionHeader
  pub are : relocation_sections e f line.number ≡ Some sections
  pub many : length sections ≡ n
  pub relocated : (b : List ℕ) → ¬ (n ≡ 0)
      → by_each (relocated_by e f line.name) sections b ≡ relocated_upto e f line b (e.count - 1)
  pub placed : ¬ (n ≡ 0) → by_each (placed_of e f line.name) sections [] ≡ placed_upto e f line (e.count - 1)

are_listed : (e : Elf) (f : List ℕ) (line : NamedSection) (n : ℕ) (object : Bool) (headers : Option (List SectionHeader))
    → is_object e.header ≡ object → all_there (section_headers e f) ≡ headers
    → option_map (λ ss. length ss) (if object then option_map (filter (relocates line.number)) headers else Some []) ≡ Some n
    → AreListed e f line n
are_listed e f line n false headers is known told = let none : 0 ≡ n = cc told in
    record {
      sections = [];
      are = rw is refl;
      many = none;
      relocated = λ b some. absurd (some (sym none));
      placed = λ some. absurd (some (sym none));
    }
are_listed e f line n true None is known told = absurd (cc told)
are_listed e f line n true (Some hs) is known told = let many : length (filter (relocates line.number) hs) ≡ n = cc told in
    record {
      sections = filter (relocates line.number) hs;
      are = rw is (ap (option_map (filter (relocates line.number))) known);
      many = many;
      relocated = λ b some. sym (relocated_listed e f line b (e.count - 1) hs known);
      placed = λ some. sym (placed_listed e f line (e.count - 1) hs known);
    }

pub listed : (e : Elf) (f : List ℕ) (line : NamedSection) (n : ℕ) → relocations_of e f line.number ≡ Some n
    → AreListed e f line n
listed e f line n told =
    are_listed e f line n (is_object e.header) (all_there (section_headers e f)) refl refl told

-- a section header isn't there
pub none_listed : (sections : Option (List SectionHeader)) → ◌≡◌ {A = Option ℕ} (option_map (λ ss. length ss) sections) None
    → ◌≡◌ {A = Option (List SectionHeader)} sections None
none_listed None is = refl
none_listed (Some sections) is = absurd (cc is)

counted_of : (number : ℕ) (headers : Option (List SectionHeader))
    → option_map (λ ss. length ss) (option_map (filter (relocates number)) headers) ≡ count number headers
counted_of number None = refl
counted_of number (Some hs) = refl

pub counted_in_object : (e : Elf) (f : List ℕ) (number : ℕ) → is_object e.header ≡ true
    → relocations_of e f number ≡ relocations_upto e f number (e.count - 1)
counted_in_object e f number object =
    rw object (counted_of number (all_there (section_headers e f)) ∙ sym (counted_listed e f number (e.count - 1)))
