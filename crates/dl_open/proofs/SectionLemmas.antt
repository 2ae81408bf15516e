-- The bytes of a section, read one piece after the other.
use Rattle.std.proofs.Common.{◌≡◌, ◌≢◌, ◌⊎◌, inl, inr, ℕ, ◌+◌, ◌<◌, ◌≤◌, List, [], ◌++◌, length, take, Option, Some, None}
use Rattle.std.proofs.Common.{refl, sym, ap, subst, ◌∙◌, arith, append-nil}
use Rattle.std.proofs.Common.{Bor, length-append, le-leb, Bool, if◌then◌else◌}
use Rattle.std.proofs.lemmas.Bool.{lt-leb}
use Rattle.std.proofs.KnownBytes.{Consumes-trans}
use Rattle.std.specs.Io.KnownBytes.{Consumes, IsAtEnd, Keeps}
use Rattle.std.specs.Prelude.{IfSome}
use Rattle.std.specs.declared.io.Error.{Error}
use Rattle.dl_file.specs.Faults.{IsDamage}
use Rattle.dl_file.specs.LineReader.{line_damage, line_remaining}
use Rattle.dl_file.specs.LineTable.{Content, Gives, GivesLine, Inflated, Plain}
use Rattle.dl_file.specs.declared.content_reader.ContentReader.{ContentReader}
use Rattle.dl_file.specs.declared.line_reader.LineReader.{LineReader}
use Rattle.dl_file.specs.declared.line_reader.LineReader.TheVariants.{File}
use Rattle.dl_file.specs.declared.read_fault.ReadFault.{ReadFault}
use Rattle.dl_file.specs.declared.read_fault.ReadFault.TheVariants.{DamagedStream}
use Rattle.dl_file.proofs.DamageLemmas.{plain_damage}
use Rattle.dl_open.specs.Directories.{bytes_had, within}
use Rattle.dl_open.specs.Tables.{bytes_of}
use Rattle.dl_open.specs.Pieces.{IsDamaged, IsPiece, IsRead, IsWhole}
use Rattle.dl_open.specs.declared.section.Piece.{Piece}
use Rattle.dl_open.specs.declared.section.Piece.TheVariants.{Bytes, End, Lost}

-- ---- one read

-- it gave bytes, after reads that failed
pub read_some : (damage other : Option (Option ℕ)) (old now new : Option (List ℕ)) (n : ℕ) (buffer : List ℕ)
    → other ≡ damage → Keeps old now → n ≤ length buffer
    → Consumes now new (take n buffer) × (n ≡ 0 → 0 < length buffer → IsAtEnd new)
    → (n ≡ 0 → 0 < length buffer → IsWhole other) → IsRead damage old new buffer (Some n)
read_some damage other old now new n buffer same kept bound (consumes, ended) whole = (
  bound,
  Consumes-trans old now new [] (take n buffer) (nothing old now kept) consumes,
  λ zero room. (ended zero room, subst IsWhole same (whole zero room)),
)
  where
    nothing : (old now : Option (List ℕ)) → Keeps old now → Consumes old now []
    nothing None now kept = tt
    nothing (Some own) None kept = absurd kept
    nothing (Some own) (Some rest) kept = sym kept

-- it failed since the stream is damaged
pub damaged : (damage other : Option (Option ℕ)) (fault : Option ReadFault) (n : ℕ) → other ≡ damage
    → fault ≡ Some (DamagedStream n) → IfSome other (λ at. IfSome fault (IsDamage at)) → IsDamaged damage
damaged damage other fault n same is ends = subst IsDamaged same (by other ends) where
  by : (other : Option (Option ℕ)) → IfSome other (λ at. IfSome fault (IsDamage at)) → IsDamaged other
  by None ends = tt
  by (Some at) ends = λ none.
      let told : at ≡ Some n = subst (λ (o : Option ReadFault). IfSome o (IsDamage at)) is ends in
      let bad : None ≡ Some n = sym none ∙ told in absurd (cc bad)

-- ---- what was read

-- the reader of a section that isn't held gives its bytes
pub gives_file : {S : Type 0} {g : _} (all_bytes : S → Option (List ℕ)) (fails_with : S → Error → Type 0)
    (fails : Error → Type 0) (reader : ContentReader S g) (c : Content)
    → Gives all_bytes fails_with fails reader c → GivesLine all_bytes fails_with fails (File reader) c
gives_file all_bytes fails_with fails reader (Plain bytes) gives = gives
gives_file all_bytes fails_with fails reader (Inflated name bytes damage) gives = gives

known_all : (known left : Option (List ℕ)) (bytes bs : List ℕ) → known ≡ Some bytes → Consumes known left bs
    → IsAtEnd left → bs ≡ bytes
known_all None left bytes bs is consumes ended = absurd (cc is)
known_all (Some own) None bytes bs is consumes ended = absurd consumes
known_all (Some own) (Some rest) bytes bs is consumes ended =
    let same : own ≡ bytes = cc is in
    sym (append-nil bs) ∙ ap (λ (z : List ℕ). bs ++ z) (sym ended) ∙ sym consumes ∙ same

known_more : (known left : Option (List ℕ)) (bytes bs : List ℕ) → known ≡ Some bytes → Consumes known left bs
    → (rest : List ℕ) × (bytes ≡ bs ++ rest)
known_more None left bytes bs is consumes = absurd (cc is)
known_more (Some own) None bytes bs is consumes = absurd consumes
known_more (Some own) (Some rest) bytes bs is consumes =
    let same : own ≡ bytes = cc is in (rest, sym same ∙ consumes)

fits : (limit : ℕ) (bs bytes : List ℕ) → bs ≡ bytes → length bs ≤ limit → Some bs ≡ within limit bytes
fits limit bs bytes is few =
    subst (λ (z : List ℕ). Some bs ≡ within limit z) is
    (sym (ap (λ (t : Bool). if t then Some bs else None) (le-leb (length bs) limit few)))

too_long : (limit room : ℕ) (bytes bs p rest : List ℕ) → bytes ≡ (bs ++ p) ++ rest → length bs + room ≡ limit
    → room < length p → within limit bytes ≡ None
too_long limit room bytes bs p rest is all more =
    let size : length bytes ≡ (length bs + length p) + length rest =
    ap length is ∙ length-append (bs ++ p) rest ∙ ap (λ (n : ℕ). n + length rest) (length-append bs p) in
    ap (λ (t : Bool). if t then Some bytes else None) (lt-leb (length bytes) limit (omega (arith, size, all, more)))

-- all bytes of a section were read, and it isn't damaged
all_read : {S : Type 0} {g : _} (all_bytes : S → Option (List ℕ)) (fails_with : S → Error → Type 0)
    (fails : Error → Type 0) (reader : LineReader S g) (c : Content)
    (left : Option (List ℕ)) (limit : ℕ) (bs : List ℕ) → GivesLine all_bytes fails_with fails reader c
    → Consumes (line_remaining all_bytes reader) left bs → IsAtEnd left → IsWhole (line_damage all_bytes reader)
    → length bs ≤ limit → Some bs ≡ bytes_had limit c
all_read all_bytes fails_with fails reader (Plain bytes) left limit bs gives consumes ended whole few =
    fits limit bs bytes (known_all _ left bytes bs gives.0 consumes ended) few
all_read all_bytes fails_with fails reader (Inflated name bytes (Some at)) left limit bs gives consumes ended whole few =
    let bad : Some at ≡ None = subst IsWhole gives.1 whole in absurd (cc bad)
all_read all_bytes fails_with fails reader (Inflated name bytes None) left limit bs gives consumes ended whole few =
    fits limit bs bytes (known_all _ left bytes bs gives.0 consumes ended) few

-- a section can't be had: after bs it is damaged, or has more than `room` bytes
not_had : {S : Type 0} {g : _} (all_bytes : S → Option (List ℕ)) (fails_with : S → Error → Type 0)
    (fails : Error → Type 0) (reader : LineReader S g) (c : Content)
    (now new : Option (List ℕ)) (limit room : ℕ) (bs : List ℕ) → GivesLine all_bytes fails_with fails reader c
    → Consumes (line_remaining all_bytes reader) now bs → length bs + room ≡ limit
    → IsDamaged (line_damage all_bytes reader) ⊎ ((p : List ℕ) × (room < length p) × Consumes now new p)
    → None ≡ bytes_had limit c
not_had all_bytes fails_with fails reader (Inflated name bytes (Some at)) now new limit room bs gives consumes all why = refl
not_had all_bytes fails_with fails reader (Plain bytes) now new limit room bs gives consumes all (inl damaged) =
    let bad : None ≢ None = subst IsDamaged (plain_damage all_bytes reader gives.2) damaged in absurd (bad refl)
not_had all_bytes fails_with fails reader (Inflated name bytes None) now new limit room bs gives consumes all (inl damaged) =
    let bad : None ≢ None = subst IsDamaged gives.1 damaged in absurd (bad refl)
not_had all_bytes fails_with fails reader (Plain bytes) now new limit room bs gives consumes all (inr (p, more, next)) =
    let known = known_more _ new bytes (bs ++ p) gives.0 (Consumes-trans _ _ _ bs p consumes next) in
    sym (too_long limit room bytes bs p known.0 known.1 all more)
not_had all_bytes fails_with fails reader (Inflated name bytes None) now new limit room bs gives consumes all (inr (p, more, next)) =
    let known = known_more _ new bytes (bs ++ p) gives.0 (Consumes-trans _ _ _ bs p consumes next) in
    sym (too_long limit room bytes bs p known.0 known.1 all more)

-- ---- a walk through a section. first, now: its bytes that were left at first, and after bs

-- the next piece was taken
pub taken : (damage : Option (Option ℕ)) (first now new : Option (List ℕ)) (limit room left : ℕ) (bs : List ℕ) (at : Piece)
    {p : Bor (List ℕ)} → at ≡ Bytes p → Consumes first now bs → length bs + room ≡ limit
    → IsPiece damage now new room left at
    → Consumes first new (bs ++ p.now) × (length (bs ++ p.now) + left ≡ limit) × (left < room)
taken damage first now new limit room left bs End is consumes all piece = absurd (cc is)
taken damage first now new limit room left bs Lost is consumes all piece = absurd (cc is)
taken damage first now new limit room left bs (Bytes own) {p = p} is consumes all (some, size, next) =
    let same : own ≡ p = cc is in
    subst (λ (q : Bor (List ℕ)). Consumes first new (bs ++ q.now) × (length (bs ++ q.now) + left ≡ limit) × (left < room)) same (
      Consumes-trans first now new bs own.now consumes next,
      omega (arith, length-append bs own.now, size, all),
      omega (arith, some, size),
    )

-- no more bytes were taken than the section has
pub taken_few : {S : Type 0} {g : _} (all_bytes : S → Option (List ℕ)) (fails_with : S → Error → Type 0)
    (fails : Error → Type 0) (reader : LineReader S g) (c : Content) (new : Option (List ℕ)) (bs : List ℕ)
    → GivesLine all_bytes fails_with fails reader c → Consumes (line_remaining all_bytes reader) new bs
    → length bs ≤ length (bytes_of c)
taken_few all_bytes fails_with fails reader (Plain bytes) new bs gives consumes =
    let known = known_more _ new bytes bs gives.0 consumes in omega (arith, ap length known.1, length-append bs known.0)
taken_few all_bytes fails_with fails reader (Inflated name bytes damage) new bs gives consumes =
    let known = known_more _ new bytes bs gives.0 consumes in omega (arith, ap length known.1, length-append bs known.0)

-- it has ended
pub had_all : {S : Type 0} {g : _} (all_bytes : S → Option (List ℕ)) (fails_with : S → Error → Type 0)
    (fails : Error → Type 0) (reader now new : LineReader S g) (c : Content)
    (limit room left : ℕ) (bs : List ℕ) (at : Piece) → at ≡ End → GivesLine all_bytes fails_with fails reader c
    → Consumes (line_remaining all_bytes reader) (line_remaining all_bytes now) bs → length bs + room ≡ limit
    → line_damage all_bytes now ≡ line_damage all_bytes reader
    → IsPiece (line_damage all_bytes now) (line_remaining all_bytes now) (line_remaining all_bytes new) room left at
    → Some bs ≡ bytes_had limit c
had_all all_bytes fails_with fails reader now new c limit room left bs (Bytes p) is gives consumes all same piece = absurd (cc is)
had_all all_bytes fails_with fails reader now new c limit room left bs Lost is gives consumes all same piece = absurd (cc is)
had_all all_bytes fails_with fails reader now new c limit room left bs End is gives consumes all same (next, ended, whole) =
    all_read all_bytes fails_with fails reader c (line_remaining all_bytes new) limit bs gives
    (subst (Consumes (line_remaining all_bytes reader) (line_remaining all_bytes new)) (append-nil bs)
    (Consumes-trans _ _ _ bs [] consumes next))
    ended (subst IsWhole same whole) (omega (arith, all))

-- it can't be had
pub lost : {S : Type 0} {g : _} (all_bytes : S → Option (List ℕ)) (fails_with : S → Error → Type 0)
    (fails : Error → Type 0) (reader now new : LineReader S g) (c : Content)
    (limit room left : ℕ) (bs : List ℕ) (at : Piece) → at ≡ Lost → GivesLine all_bytes fails_with fails reader c
    → Consumes (line_remaining all_bytes reader) (line_remaining all_bytes now) bs → length bs + room ≡ limit
    → line_damage all_bytes now ≡ line_damage all_bytes reader
    → IsPiece (line_damage all_bytes now) (line_remaining all_bytes now) (line_remaining all_bytes new) room left at
    → None ≡ bytes_had limit c
lost all_bytes fails_with fails reader now new c limit room left bs (Bytes p) is gives consumes all same piece = absurd (cc is)
lost all_bytes fails_with fails reader now new c limit room left bs End is gives consumes all same piece = absurd (cc is)
lost all_bytes fails_with fails reader now new c limit room left bs Lost is gives consumes all same (inl damaged) =
    not_had all_bytes fails_with fails reader c (line_remaining all_bytes now) (line_remaining all_bytes new) limit room bs gives consumes all
    (inl (subst IsDamaged same damaged))
lost all_bytes fails_with fails reader now new c limit room left bs Lost is gives consumes all same (inr more) =
    not_had all_bytes fails_with fails reader c (line_remaining all_bytes now) (line_remaining all_bytes new) limit room bs gives consumes all
    (inr more)
