-- Whether a table of a line section names `.debug_str`.
use Rattle.std.proofs.Common.{◌≡◌, ◌↔◌, inl, inr, ℕ, ◌+◌, ◌<◌, Bool, true, false, ◌==◌, IsTrue, List, [], ◌++◌, length}
use Rattle.std.proofs.Common.{Option, Some, None, Result, Ok, Err}
use Rattle.std.proofs.Common.{refl, sym, ap, subst, ◌∙◌, arith, append_assoc, append-nil, length-append}
use Rattle.std.proofs.Common.{◌∷◌}
use Rattle.std.proofs.lemmas.Bool.{eqb-true}
use Rattle.std.specs.Prelude.{◌⊎◌, IfSome, MatchResult, is_some, option_map}
use Rattle.std.specs.declared.io.Error.{Error}
use Rattle.dl_file.specs.declared.line_file.LineFile.{LineFile}
use Rattle.dl_file.specs.declared.line_file.Wanted.TheVariants.{LineAndLineStrings}
use Rattle.dl_file.specs.declared.line_reader.LineReader.{LineReader}
use Rattle.dl_file.specs.declared.line_reader.LineReader.TheVariants.{File, Held}
use Rattle.dl_file.specs.LineReader.{line_held}
use Rattle.dl_file.specs.LineTable.{Content, GivesLine, GivesTable, HasLineTable, Inflated, LineTable, Plain}
use Rattle.dl_open.specs.declared.dialect.FileUnits.{FileUnits}
use Rattle.dl_open.specs.declared.named.Sections.TheVariants.{LinesAndTexts}
use Rattle.dl_open.specs.declared.stop.FileStop.{FileStop}
use Rattle.dl_open.specs.Tables.{HasTable, IsNamed, NamedStops, NamingStops, OpeningStops, TableStops, file_dialect}
use Rattle.dl_open.specs.Tables.{HasNoDamage, bytes_of, stream_of, with_strings}
use Rattle.dl_sections.specs.declared.fault.RunFault.{RunFault}
use Rattle.dl_elf.specs.declared.fault.ElfFault.TheVariants.{DamagedStream, Read}
use Rattle.dl_elf.specs.declared.name.SectionName.{SectionName}
use Rattle.dl_file.specs.declared.read_fault.ReadFault.{ReadFault}
use Rattle.dl_file.specs.declared.read_fault.ReadFault.TheVariants.{Read as ReadOf, DamagedStream as DamageOf}
use Rattle.dl_open.specs.Stops.{Stream}
use Rattle.dl_open.proofs.ReaderLemmas.{IsToldOf}
use Rattle.dl_open.proofs.WiderLemmas.{stops_at_wider}
use Rattle.std.specs.Io.KnownBytes.{Consumes, IsAtEnd}
use Rattle.dl_head.specs.declared.dialect.Dialect.{Dialect}
use Rattle.dl_sections.specs.declared.options.TheConstants.{SECTION_LIMIT}
use Rattle.dl_forms.specs.Names.{RefusesCellFrom, Names}

-- it is told of all bytes, where those that were read settle it
settled : (dialect : Dialect) (known left : Option (List ℕ)) (bs : List ℕ) (names : Bool) → Consumes known left bs
    → IsTrue names ↔ Names dialect bs → ((rest : List ℕ) → left ≡ Some rest → Names dialect (bs ++ rest)
    ↔ Names dialect bs) → IfSome known (λ bytes. IsTrue names ↔ Names dialect bytes)
settled dialect None left bs names consumes told same = tt
settled dialect (Some bytes) None bs names consumes told same = absurd consumes
settled dialect (Some bytes) (Some rest) bs names consumes told same = (
  λ said. subst (Names dialect) (sym consumes) ((same rest refl).1 (told.0 said)),
  λ named. told.1 ((same rest refl).0 (subst (Names dialect) consumes named)),
)

-- all bytes were read
pub at_end : (dialect : Dialect) (known left : Option (List ℕ)) (bs : List ℕ) (names : Bool) → Consumes known left bs
    → IsTrue names ↔ Names dialect bs → IsAtEnd left → IfSome known (λ bytes. IsTrue names ↔ Names dialect bytes)
at_end dialect known left bs names consumes told ended =
    settled dialect known left bs names consumes told (λ rest is. same rest is)
  where
    nothing : (left : Option (List ℕ)) (rest : List ℕ) → left ≡ Some rest → IsAtEnd left → rest ≡ []
    nothing None rest is ended = absurd (cc is)
    nothing (Some other) rest is ended = let e : other ≡ rest = cc is in sym e ∙ ended

    same : (rest : List ℕ) → left ≡ Some rest → Names dialect (bs ++ rest) ↔ Names dialect bs
    same rest is =
        let e : bs ++ rest ≡ bs = ap (λ (z : List ℕ). bs ++ z) (nothing left rest is ended) ∙ append-nil bs in
        (λ named. subst (Names dialect) e named, λ named. subst (Names dialect) (sym e) named)

-- the walk is over
pub over : (dialect : Dialect) (known left : Option (List ℕ)) (bs : List ℕ) (names : Bool) → Consumes known left bs
    → IsTrue names ↔ Names dialect bs → ((rest : List ℕ) → Names dialect (bs ++ rest) ↔ Names dialect bs)
    → IfSome known (λ bytes. IsTrue names ↔ Names dialect bytes)
over dialect known left bs names consumes told same =
    settled dialect known left bs names consumes told (λ rest is. same rest)

-- then no table names it, whatever bytes follow
pub none_follow : (dialect : Dialect) (known left : Option (List ℕ)) (bs : List ℕ) (names : Bool) → Consumes known left bs
    → IsTrue names ↔ Names dialect bs → ((rest : List ℕ) → Names dialect (bs ++ rest) ↔ Names dialect bs) → names ≡ false
    → IfSome known (λ bytes. (rest : List ℕ) → Names dialect (bytes ++ rest) → ⊥)
none_follow dialect None left bs names consumes told same none = tt
none_follow dialect (Some bytes) None bs names consumes told same none = absurd consumes
none_follow dialect (Some bytes) (Some back) bs names consumes told same none = λ rest named.
    let split : bytes ++ rest ≡ bs ++ (back ++ rest) = ap (λ (z : List ℕ). z ++ rest) consumes ∙ append_assoc bs back rest in
    let is : names ≡ true = told.1 ((same (back ++ rest)).0 (subst (Names dialect) split named)) in
    let no : false ≡ true = sym none ∙ is in cc no

pub said : (names : Bool) → ◌≡◌ {A = Result Bool RunFault} (Ok names) (Ok false) → names ≡ false
said names is = cc

-- memory was refused
pub wants : (dialect : Dialect) (known left : Option (List ℕ)) (bs : List ℕ) (n : ℕ) → Consumes known left bs
    → RefusesCellFrom dialect n bs → IfSome known (RefusesCellFrom dialect 0)
wants dialect None left bs n consumes cell = tt
wants dialect (Some bytes) None bs n consumes cell = absurd consumes
wants dialect (Some bytes) (Some rest) bs n consumes (before, front, byte, back, split, past, adds) = (
  before,
  front,
  byte,
  back ++ rest,
  consumes ∙ ap (λ (z : List ℕ). z ++ rest) split ∙ append_assoc before (front ++ byte ∷ back) rest
      ∙ ap (λ (z : List ℕ). before ++ z) (append_assoc front (byte ∷ back) rest),
  omega arith,
  adds,
)

-- it is too long
pub too_long : (known left : Option (List ℕ)) (bs piece : List ℕ) (room : ℕ) → Consumes known left (bs ++ piece)
    → length bs + room ≡ SECTION_LIMIT → room < length piece → IfSome known (λ bytes. SECTION_LIMIT < length bytes)
too_long None left bs piece room consumes limit past = tt
too_long (Some bytes) None bs piece room consumes limit past = absurd consumes
too_long (Some bytes) (Some rest) bs piece room consumes limit past =
    let size = ap length consumes ∙ length-append (bs ++ piece) rest in
    let read = length-append bs piece in
    omega (arith, size, read, limit, past)

pub empty_is : (xs : List ℕ) → (length xs == 0) ≡ true → xs ≡ []
empty_is [] e = refl
empty_is (x ∷ xs) e = let n = eqb-true (length (x ∷ xs)) 0 e in absurd (omega (arith, n))

-- the same in the dialect of the section, of the same bytes
pub told_in : (own dialect : Dialect) (bs all : List ℕ) (names : Bool) → own ≡ dialect → bs ≡ all
    → IsTrue names ↔ Names own bs → IsTrue names ↔ Names dialect all
told_in own dialect bs all names same alike told =
    subst (λ (b : List ℕ). IsTrue names ↔ Names dialect b) alike
    (subst (λ (d : Dialect). IsTrue names ↔ Names d bs) same told)

pub same_over : (own dialect : Dialect) (bs : List ℕ) → own ≡ dialect
    → ((rest : List ℕ) → Names own (bs ++ rest) ↔ Names own bs)
    → (rest : List ℕ) → Names dialect (bs ++ rest) ↔ Names dialect bs
same_over own dialect bs same settled rest =
    subst (λ (d : Dialect). Names d (bs ++ rest) ↔ Names d bs) same (settled rest)

-- ---- the line section of a file

-- bytes that are held are those of the section
pub held_plain : {S : Type 0} {g : _} (all_bytes : S → Option (List ℕ)) (fails_with : S → Error → Type 0)
    (fails : Error → Type 0) (reader : LineReader S g) (content : Content)
    (bytes : List ℕ) → Some bytes ≡ line_held reader → GivesLine all_bytes fails_with fails reader content → content ≡ Plain bytes
held_plain all_bytes fails_with fails (File reader) content bytes is gives = absurd (cc is)
held_plain all_bytes fails_with fails (Held cursor) (Inflated name known damage) bytes is gives = let n = gives.3 in absurd (cc n)
held_plain all_bytes fails_with fails (Held cursor) (Plain own) bytes is gives =
    let same : Some bytes ≡ Some own = is ∙ gives.0 in
    let e : bytes ≡ own = cc same in ap Plain (sym e)

-- it is read up to its end, or to where it is settled
pub read_named : (fails : Error → Type 0) (dialect : Dialect) (content : Content) (names : Bool)
    → IsTrue names ↔ Names dialect (bytes_of content)
    → (names ≡ false → HasNoDamage content ⊎ ((rest : List ℕ) → Names dialect (bytes_of content ++ rest) → ⊥))
    → IsNamed fails dialect content names
read_named fails dialect (Plain bytes) names told settles = told
read_named fails dialect (Inflated name bytes damage) true told settles = inl (told.0 refl)
read_named fails dialect (Inflated name bytes damage) false told settles =
    (λ named. (let no : false ≡ true = told.1 named in cc no), settles refl)

-- a read of one that is inflated as it is read failed
pub unread_named : (fails : Error → Type 0) (dialect : Dialect) (content : Content) (stream : Option SectionName)
    (read : Option ReadFault) → option_map (λ (s : Stream). s.0) (stream_of content) ≡ stream → is_some stream ≡ true
    → IsToldOf fails (stream_of content) read → IsNamed fails dialect content true
unread_named fails dialect (Plain bytes) stream read named some told =
    let none : false ≡ true = ap (λ (o : Option SectionName). is_some o) named ∙ some in absurd (cc none)
unread_named fails dialect (Inflated name bytes damage) stream None named some told = absurd told
unread_named fails dialect (Inflated name bytes damage) stream (Some (ReadOf error)) named some told =
    inr (Read error, told)
unread_named fails dialect (Inflated name bytes damage) stream (Some (DamageOf at)) named some (own, told) =
    inr (DamagedStream own at, told)

-- ---- the sections that a command looks into

-- what stops the naming in bytes that are held does so of any file
naming_any : (fails : Error → Type 0) (path : List ℕ) (dialect : Dialect) (content : Content) (stop : FileStop)
    → NamingStops (λ error. ⊥) path dialect content stop → NamingStops fails path dialect content stop
naming_any fails path dialect content stop (f, stops, at) =
    (f, stops, stops_at_wider (λ error. ⊥) fails path (stream_of content) f stop (λ error no. absurd no) at)

told_any : (fails : Error → Type 0) (path : List ℕ) (dialect : Dialect) (content : Content) (names : Bool → Type 0)
    (answer : Result Bool FileStop) → MatchResult answer names (NamingStops (λ error. ⊥) path dialect content)
    → MatchResult answer names (NamingStops fails path dialect content)
told_any fails path dialect content names (Ok b) told = told
told_any fails path dialect content names (Err stop) told = naming_any fails path dialect content stop told

-- it is told whether its tables name .debug_str, or why it can't be
abbrev pub IsTold : FileUnits → (fails : Error → Type 0) → (path : List ℕ) → LineTable → Result Bool FileStop → Type 0
IsTold read fails path t answer = MatchResult answer (IsNamed fails (file_dialect read t) t.line) (NamingStops fails path (file_dialect read t) t.line)

-- it is told of bytes that are held
pub held_answer : (read : FileUnits) {S : Type 0} {g : _} (all_bytes : S → Option (List ℕ)) (fails_with : S → Error → Type 0)
    (fails : Error → Type 0) (reader : LineReader S g) (t : LineTable)
    (dialect : Dialect) (path : List ℕ) (bytes : List ℕ) (answer : Result Bool FileStop) → Some bytes ≡ line_held reader
    → GivesLine all_bytes fails_with fails reader t.line → dialect ≡ file_dialect read t
    → MatchResult answer (λ names. IsTrue names ↔ Names dialect bytes) (NamingStops (λ error. ⊥) path dialect (Plain bytes))
    → IsTold read fails path t answer
held_answer read all_bytes fails_with fails reader t dialect path bytes answer is gives same told =
    subst (λ (c : Content). MatchResult answer (IsNamed fails (file_dialect read t) c) (NamingStops fails path (file_dialect read t) c))
    (sym (held_plain all_bytes fails_with fails reader t.line bytes is gives))
    (subst (λ (d : Dialect). MatchResult answer (IsNamed fails d (Plain bytes)) (NamingStops fails path d (Plain bytes))) same
    (told_any fails path dialect (Plain bytes) (IsNamed fails dialect (Plain bytes)) answer told))

-- the line table of a file, with .debug_str where its tables name it
abbrev pub IsOpened : (refuses : ℕ → Type 0) → FileUnits → {S : Type 0} {g : _} (all_bytes : S → Option (List ℕ)) (fails_with : S → Error → Type 0)
    (fails : Error → Type 0) (path : List ℕ)
    (f : List ℕ) (t : LineTable) (result : Result (LineFile S g) FileStop) → Type 0
IsOpened refuses read all_bytes fails_with fails path f t result = MatchResult result
    (λ table. (names : Bool) × IsNamed fails (file_dialect read t) t.line names
    × ((t2 : LineTable) × HasLineTable f (with_strings names) (Ok t2) × GivesTable all_bytes fails_with fails table t2))
    (NamedStops refuses read fails path f t)

pub answered : (answer : Result Bool FileStop) (names value : Bool) → answer ≡ Ok names → names ≡ value → answer ≡ Ok value
answered answer names value is same = subst (λ (b : Bool). answer ≡ Ok b) same is

-- the file is opened anew
pub anew : (refuses : ℕ → Type 0) (read : FileUnits) {S : Type 0} {g : _} (all_bytes : S → Option (List ℕ)) (fails_with : S → Error → Type 0)
    (fails : Error → Type 0) (path : List ℕ) (f : List ℕ)
    (t : LineTable) (names : Bool) (answer : Result Bool FileStop) (result own : Result (LineFile S g) FileStop)
    → answer ≡ Ok names → IsTold read fails path t answer → result ≡ own
    → MatchResult own (λ table. (t2 : LineTable) × HasLineTable f (with_strings names) (Ok t2)
    × GivesTable all_bytes fails_with fails table t2) (OpeningStops refuses fails path f (with_strings names))
    → IsOpened refuses read all_bytes fails_with fails path f t result
anew refuses read {S = S} {g = g} all_bytes fails_with fails path f t names answer result own said told is opens =
    subst (λ (r : Result (LineFile S g) FileStop). IsOpened refuses read all_bytes fails_with fails path f t r) (sym is) (by_own own opens)
  where
    by_own : (own : Result (LineFile S g) FileStop) → MatchResult own (λ table. (t2 : LineTable)
        × HasLineTable f (with_strings names) (Ok t2) × GivesTable all_bytes fails_with fails table t2)
        (OpeningStops refuses fails path f (with_strings names)) → IsOpened refuses read all_bytes fails_with fails path f t own
    by_own (Ok table) opens = (names, subst (IsTold read fails path t) said told, opens)
    by_own (Err stop) stops = inr (names, subst (IsTold read fails path t) said told, stops)

-- the file stays as it was opened
pub as_opened : (refuses : ℕ → Type 0) (read : FileUnits) {S : Type 0} {g : _} (all_bytes : S → Option (List ℕ)) (fails_with : S → Error → Type 0)
    (fails : Error → Type 0) (path : List ℕ)
    (f : List ℕ) (t : LineTable) (answer : Result Bool FileStop) (result : Result (LineFile S g) FileStop)
    (table : LineFile S g) → answer ≡ Ok false
    → IsTold read fails path t answer → result ≡ Ok table
    → HasLineTable f LineAndLineStrings (Ok t) → GivesTable all_bytes fails_with fails table t
    → IsOpened refuses read all_bytes fails_with fails path f t result
as_opened refuses read {S = S} {g = g} all_bytes fails_with fails path f t answer result table said told is has given =
    let named = subst (IsTold read fails path t) said told in
    subst (λ (r : Result (LineFile S g) FileStop). IsOpened refuses read all_bytes fails_with fails path f t r) (sym is)
    (false, named, (t, has, given))

-- it can't be told what they name
pub not_told : (refuses : ℕ → Type 0) (read : FileUnits) {S : Type 0} {g : _} (all_bytes : S → Option (List ℕ)) (fails_with : S → Error → Type 0)
    (fails : Error → Type 0) (path : List ℕ)
    (f : List ℕ) (t : LineTable) (answer : Result Bool FileStop) (result : Result (LineFile S g) FileStop) (stop : FileStop)
    → answer ≡ Err stop → IsTold read fails path t answer
    → result ≡ Err stop → IsOpened refuses read all_bytes fails_with fails path f t result
not_told refuses read {S = S} {g = g} all_bytes fails_with fails path f t answer result stop said told is =
    let stops = subst (IsTold read fails path t) said told in
    subst (λ (r : Result (LineFile S g) FileStop). IsOpened refuses read all_bytes fails_with fails path f t r) (sym is) (inl stops)

-- texts are printed, and the file has no such section
pub without_section : (read : FileUnits) (fails : Error → Type 0) (f : List ℕ) (t : LineTable) → t.has_str ≡ false → HasLineTable f LineAndLineStrings (Ok t)
    → HasTable read fails LinesAndTexts f t
without_section read fails f t none has = (LineAndLineStrings, (t, has, inl (none, refl)), has)

-- it has one, and it is told whether its tables name it
pub with_section : (refuses : ℕ → Type 0) (read : FileUnits) {S : Type 0} {g : _} (all_bytes : S → Option (List ℕ)) (fails_with : S → Error → Type 0)
    (fails : Error → Type 0) (path : List ℕ)
    (f : List ℕ) (t : LineTable) (result : Result (LineFile S g) FileStop) → t.has_str ≡ true
    → HasLineTable f LineAndLineStrings (Ok t) → IsOpened refuses read all_bytes fails_with fails path f t result
    → MatchResult result (λ table. (t : LineTable) × HasTable read fails LinesAndTexts f t × GivesTable all_bytes fails_with fails table t)
    (TableStops refuses read fails path LinesAndTexts f)
with_section refuses read all_bytes fails_with fails path f t (Ok table) some has (names, named, (t2, has2, given)) =
    (t2, (with_strings names, (t, has, inr (names, some, named, refl)), has2), given)
with_section refuses read all_bytes fails_with fails path f t (Err stop) some has stops = inr (t, has, some, stops)
