-- Readers of the sections of a file, and what stops the reading of one.
use Rattle.std.proofs.Common.{◌≡◌, ◌∙◌, ℕ, ◌+◌, List, length, Option, None, Some, arith, inl, inr}
use Rattle.std.proofs.Common.{refl, ap, sym, subst, length-append, append-nil, ◌≤◌, Result, Err, Vec, Global}
use Rattle.std.specs.Io.KnownBytes.{Consumes, IsAtEnd}
use Rattle.std.specs.Prelude.{◌⊎◌, ◌++◌, [], drop, take}
use Rattle.std.proofs.Common.{length-drop}
use Rattle.std.proofs.lemmas.List.{nil_from_length, take_all}
use Rattle.dl_elf.specs.declared.name.SectionName.{SectionName}
use Rattle.std.specs.Prelude.{IfSome, option_map}
use Rattle.std.specs.declared.io.Error.{Error}
use Rattle.dl_input.specs.Failing.{Became, Blames, Failed}
use Rattle.dl_file.specs.ContentReader.{content_remaining, stream_name}
use Rattle.dl_file.specs.ContentReader.{ContentFails, ContentFollows, ContentMayFail, ContentOver, content_damage, content_fault}
use Rattle.dl_file.specs.Faults.{FailsOnly, FollowsBy, IsDamage, IsReadOf, IsUndamaged, MayFailBy}
use Rattle.dl_file.proofs.DamageLemmas.{plain_damage}
use Rattle.dl_file.specs.LineReader.{line_damage, line_fault, line_remaining, line_stream}
use Rattle.dl_file.specs.LineReader.{LineReaderFails, LineReaderFollows, LineReaderMayFail, LineReaderOver}
use Rattle.dl_file.specs.LineTable.{Content, Gives, GivesLine, GivesOption, Inflated, Plain}
use Rattle.dl_file.specs.declared.content_reader.ContentReader.{ContentReader}
use Rattle.dl_file.specs.declared.content_reader.ContentReader.TheVariants.{Plain as PlainReader, Inflated as InflatedReader}
use Rattle.dl_file.specs.declared.read_fault.ReadFault.{ReadFault}
use Rattle.dl_file.specs.declared.read_fault.ReadFault.TheVariants.{Read as ReadOf, DamagedStream as DamageOf}
use Rattle.dl_file.specs.declared.line_reader.LineReader.{LineReader}
use Rattle.dl_head.specs.declared.dialect.Dialect.{Dialect}
use Rattle.dl_memory.specs.Refusals.{IsRefused}
use Rattle.dl_object.specs.Kept.{Rises}
use Rattle.dl_object.specs.Section.{Keeps, WantsCell}
use Rattle.dl_reloc.specs.declared.placed.Placed.{Placed}
use Rattle.dl_sections.specs.Strings.{StopsReading}
use Rattle.dl_sections.specs.declared.fault.RunFault.{RunFault}
use Rattle.dl_sections.specs.declared.fault.RunFault.TheVariants as fault
use Rattle.dl_open.specs.declared.fault.FileFault.TheVariants.{NoMemory as Refused}
use Rattle.dl_open.specs.declared.object_part.Part.{Part}
use Rattle.dl_open.specs.declared.stop.FileStop.{FileStop}
use Rattle.dl_open.specs.declared.strings.TheConstants.{STRINGS_LIMIT}
use Rattle.dl_open.specs.Files.{FileStops}
use Rattle.dl_elf.specs.declared.fault.ElfFault.{ElfFault}
use Rattle.dl_open.specs.Stops.{IsAt, IsReadFault, IsTold, StopsAs, StopsAt, Stream}
use Rattle.dl_open.specs.Tables.{HasNoDamage, IsHeld, KeepingStops, SectionStops, bytes_of, stream_of}

-- a reader of a line section has the bytes that are known
pub reader_known : {S : Type 0} {g : _} (all_bytes : S → Option (List ℕ)) (fails_with : S → Error → Type 0)
    (fails : Error → Type 0) (reader : LineReader S g) (content : Content)
    (left : Option (List ℕ)) (read : List ℕ) → GivesLine all_bytes fails_with fails reader content
    → Consumes (line_remaining all_bytes reader) left read → Consumes (Some (bytes_of content)) left read
reader_known all_bytes fails_with fails reader (Plain bytes) left read gives consumes =
    subst (λ (r : Option (List ℕ)). Consumes r left read) gives.0 consumes
reader_known all_bytes fails_with fails reader (Inflated name bytes damage) left read gives consumes =
    subst (λ (r : Option (List ℕ)). Consumes r left read) gives.0 consumes

pub reader_bytes : {S : Type 0} {g : _} (all_bytes : S → Option (List ℕ)) (fails_with : S → Error → Type 0)
    (fails : Error → Type 0) (reader : LineReader S g) (content : Content)
    → GivesLine all_bytes fails_with fails reader content → line_remaining all_bytes reader ≡ Some (bytes_of content)
reader_bytes all_bytes fails_with fails reader (Plain bytes) gives = gives.0
reader_bytes all_bytes fails_with fails reader (Inflated name bytes damage) gives = gives.0

-- and its name where it is inflated
pub reader_stream : {S : Type 0} {g : _} (all_bytes : S → Option (List ℕ)) (fails_with : S → Error → Type 0)
    (fails : Error → Type 0) (reader : LineReader S g) (content : Content)
    → GivesLine all_bytes fails_with fails reader content → option_map (λ (s : Stream). s.0) (stream_of content) ≡ line_stream reader
reader_stream all_bytes fails_with fails reader (Plain bytes) gives = sym gives.2
reader_stream all_bytes fails_with fails reader (Inflated name bytes damage) gives = sym gives.3

-- ---- why a read failed

-- it is true of the file and of the stream
abbrev pub IsToldOf : (fails : Error → Type 0) (stream : Option Stream) → Option ReadFault → Type 0
IsToldOf fails stream None = ⊥
IsToldOf fails stream (Some (ReadOf error)) = fails error
IsToldOf fails stream (Some (DamageOf at)) = (name : SectionName) × (stream ≡ Some (name, Some at))

-- so is what is told of the file
told_fault : (fails : Error → Type 0) (told : Option Stream) (stream : Option SectionName) (read : Option ReadFault)
    (f : ElfFault) → option_map (λ s. s.0) told ≡ stream → IsToldOf fails told read → IsTold stream read f
    → IsReadFault fails told f
told_fault fails told stream None f named of is = absurd of
told_fault fails told (Some name) (Some (ReadOf error)) f named of is = rw is of
told_fault fails told None (Some (ReadOf error)) f named of is = rw is of
told_fault fails told None (Some (DamageOf at)) f named (own, of) is =
    let some : Some own ≡ None = ap (option_map (λ s. s.0)) (sym of) ∙ named in absurd (cc some)
told_fault fails told (Some name) (Some (DamageOf at)) f named (own, of) is =
    let same : own ≡ name = cc (ap (option_map (λ s. s.0)) (sym of) ∙ named) in
    rw is (of ∙ ap (λ (n : SectionName). Some (n, Some at)) same)

pub stops_at : (fails : Error → Type 0) (path : List ℕ) (told : Option Stream) (stream : Option SectionName)
    (read : Option ReadFault) (f : RunFault) (stop : FileStop) → option_map (λ s. s.0) told ≡ stream
    → (f ≡ fault.Read → IsToldOf fails told read) → StopsAs path stream read f stop → StopsAt fails path told f stop
stops_at fails path told stream read fault.Read stop named of (f, is, at) =
    (f, told_fault fails told stream read f named (of refl) is, at)
stops_at fails path told stream read fault.NoMemory stop named of at = at
stops_at fails path told stream read other stop named of at = at

-- the damage of a section, which only one that is inflated has
damage_of : Content → Option ℕ
damage_of (Plain bytes) = None
damage_of (Inflated name bytes damage) = damage

-- what is told of it
is_told : (fails : Error → Type 0) (content : Content) (why : ReadFault) → IsDamage (damage_of content) why
    → IsReadOf fails why → IsToldOf fails (stream_of content) (Some why)
unfolding damage_of
is_told fails content (ReadOf error) damaged read = read
is_told fails (Plain bytes) (DamageOf at) damaged read = absurd (cc damaged)
is_told fails (Inflated name bytes damage) (DamageOf at) damaged read =
    (name, ap (λ (d : Option ℕ). Some (name, d)) damaged)

-- a reader of which no read failed is what it became
follows_itself : {R : Type 0} (damage : R → Option (Option ℕ)) (fault : R → Option ReadFault) (Fails : R → Error → Type 0)
    (r : R) → fault r ≡ None → FollowsBy damage fault Fails r 0 r
follows_itself damage fault Fails r none = record {
  same = refl;
  told = by (damage r) (fault r) none;
  later = λ error at. at;
  read = rw none tt;
  kept = inl refl;
}
  where
    by : (known : Option (Option ℕ)) (told : Option ReadFault) → told ≡ None → IfSome known (λ at. IfSome told (IsDamage at))
    by None told is = tt
    by (Some at) told is = rw is tt

read_only : (Fails fails : Error → Type 0) (why : ReadFault) → FailsOnly Fails fails → IsReadOf Fails why
    → IsReadOf fails why
read_only Fails fails (ReadOf error) only read = only error read
read_only Fails fails (DamageOf at) only read = tt

-- after reads of it, of which the last one failed, why that failed is true
told_after : {R : Type 0} (damage : R → Option (Option ℕ)) (fault : R → Option ReadFault) (Fails : R → Error → Type 0)
    (fails : Error → Type 0) (old new : R) (content : Content) → damage old ≡ Some (damage_of content)
    → FailsOnly (Fails old) fails
    → Failed (FollowsBy damage fault Fails) old new → IsToldOf fails (stream_of content) (fault new)
told_after damage fault Fails fails old new content known only (failed, some, so) = by so.kept
  where
    by : (failed ≡ 0) ⊎ ((why : ReadFault) × (fault new ≡ Some why)) → IsToldOf fails (stream_of content) (fault new)
    by (inl none) = absurd (omega (arith, some, none))
    by (inr (why, is)) =
        let damaged = subst (λ (d : Option (Option ℕ)). IfSome d (λ k. IfSome (fault new) (IsDamage k))) known so.told in
        let why_damaged = subst (λ (o : Option ReadFault). IfSome o (IsDamage (damage_of content))) is damaged in
        let read = subst (λ (o : Option ReadFault). IfSome o (IsReadOf (Fails old))) is so.read in
        subst (λ (o : Option ReadFault). IsToldOf fails (stream_of content) o) (sym is)
        (is_told fails content why why_damaged (read_only (Fails old) fails why only read))

blamed : {R B : Type 0} (damage : R → Option (Option ℕ)) (fault : R → Option ReadFault) (Fails : R → Error → Type 0)
    (fails : Error → Type 0) (old new : R) (content : Content) → damage old ≡ Some (damage_of content) → fault old ≡ None
    → FailsOnly (Fails old) fails → Blames (FollowsBy damage fault Fails) (MayFailBy damage Fails) old new B → B
    → IsToldOf fails (stream_of content) (fault new)
blamed damage fault Fails fails old new content known none only blames told =
    told_after damage fault Fails fails old new content known only
    ((blames old (0, follows_itself damage fault Fails old none)).1 told).1

pub reader_told : {S : Type 0} {g : _} {B : Type 0} (all_bytes : S → Option (List ℕ)) (fails_with : S → Error → Type 0)
    (fails : Error → Type 0) (old new : LineReader S g) (content : Content) → GivesLine all_bytes fails_with fails old content
    → Blames (LineReaderFollows all_bytes fails_with) (LineReaderMayFail all_bytes fails_with) old new B → B
    → IsToldOf fails (stream_of content) (line_fault new)
unfolding damage_of
reader_told all_bytes fails_with fails old new (Plain bytes) gives blames told =
    blamed (line_damage all_bytes) line_fault (LineReaderFails all_bytes fails_with) fails old new (Plain bytes)
    (plain_damage all_bytes old gives.2) gives.1 gives.3 blames told
reader_told all_bytes fails_with fails old new (Inflated name bytes damage) gives blames told =
    blamed (line_damage all_bytes) line_fault (LineReaderFails all_bytes fails_with) fails old new
    (Inflated name bytes damage) gives.1 gives.2 gives.4 blames told

plain_content : {S : Type 0} {g : _} (all_bytes : S → Option (List ℕ)) (reader : ContentReader S g)
    → stream_name reader ≡ None → content_damage all_bytes reader ≡ Some None
plain_content all_bytes (PlainReader section) is = refl
plain_content all_bytes (InflatedReader stream) is = absurd (cc is)

content_told : {S : Type 0} {g : _} {B : Type 0} (all_bytes : S → Option (List ℕ)) (fails_with : S → Error → Type 0)
    (fails : Error → Type 0) (old new : ContentReader S g) (content : Content) → Gives all_bytes fails_with fails old content
    → Blames (ContentFollows all_bytes fails_with) (ContentMayFail all_bytes fails_with) old new B → B
    → IsToldOf fails (stream_of content) (content_fault new)
unfolding damage_of
content_told all_bytes fails_with fails old new (Plain bytes) gives blames told =
    blamed (content_damage all_bytes) content_fault (ContentFails all_bytes fails_with) fails old new (Plain bytes)
    (plain_content all_bytes old gives.2) gives.1 gives.3 blames told
content_told all_bytes fails_with fails old new (Inflated name bytes damage) gives blames told =
    blamed (content_damage all_bytes) content_fault (ContentFails all_bytes fails_with) fails old new
    (Inflated name bytes damage) gives.1 gives.2 gives.4 blames told

-- ---- the stream of a section is whole

-- of a reader that became another one, whose bytes are over
undamaged_after : {R : Type 0} (damage : R → Option (Option ℕ)) (fault : R → Option ReadFault) (Fails : R → Error → Type 0)
    (old new : R) (at : Option ℕ) → damage old ≡ Some at → fault old ≡ None
    → ((first : R) → Became (FollowsBy damage fault Fails) first old → Became (FollowsBy damage fault Fails) first new)
    → IsUndamaged (damage new) → at ≡ None
undamaged_after damage fault Fails old new at known none became over =
    let so = (became old (0, follows_itself damage fault Fails old none)).1 in
    subst IsUndamaged (so.same ∙ known) over

pub line_whole : {S : Type 0} {g : _} {B : Type 0} (all_bytes : S → Option (List ℕ)) (fails_with : S → Error → Type 0)
    (fails : Error → Type 0) (old new : LineReader S g) (content : Content) → GivesLine all_bytes fails_with fails old content
    → Blames (LineReaderFollows all_bytes fails_with) (LineReaderMayFail all_bytes fails_with) old new B
    → LineReaderOver all_bytes new → HasNoDamage content
line_whole all_bytes fails_with fails old new (Plain bytes) gives blames over = tt
line_whole all_bytes fails_with fails old new (Inflated name bytes damage) gives blames over =
    undamaged_after (line_damage all_bytes) line_fault (LineReaderFails all_bytes fails_with) old new damage gives.1 gives.2
    (λ first is. (blames first is).0) over

content_whole : {S : Type 0} {g : _} {B : Type 0} (all_bytes : S → Option (List ℕ)) (fails_with : S → Error → Type 0)
    (fails : Error → Type 0) (old new : ContentReader S g) (content : Content) → Gives all_bytes fails_with fails old content
    → Blames (ContentFollows all_bytes fails_with) (ContentMayFail all_bytes fails_with) old new B
    → ContentOver all_bytes new → HasNoDamage content
content_whole all_bytes fails_with fails old new (Plain bytes) gives blames over = tt
content_whole all_bytes fails_with fails old new (Inflated name bytes damage) gives blames over =
    undamaged_after (content_damage all_bytes) content_fault (ContentFails all_bytes fails_with) old new damage gives.1 gives.2
    (λ first is. (blames first is).0) over

-- ---- a string section

-- what stops the reading of bytes stops that of a section of which they are the first
pub stops_known : (refuses : ℕ → Type 0) (limit : ℕ) (known left : Option (List ℕ)) (bs : List ℕ) (f : RunFault)
    → Consumes known left bs → StopsReading refuses limit bs f → FileStops (Unit {0}) refuses known limit f
stops_known refuses limit known left bs fault.Read consumes stops = tt
stops_known refuses limit None left bs fault.NoMemory consumes stops = (length bs, stops.0, stops.1)
stops_known refuses limit (Some xs) None bs fault.NoMemory consumes stops = absurd consumes
stops_known refuses limit (Some xs) (Some ys) bs fault.NoMemory consumes stops =
    let size : length xs ≡ length bs + length ys = ap (λ l. length l) consumes ∙ length-append bs ys in
    (length bs, omega (arith, size, stops.0), stops.1)
stops_known refuses limit None left bs fault.SectionTooLong consumes stops = tt
stops_known refuses limit (Some xs) None bs fault.SectionTooLong consumes stops = absurd consumes
stops_known refuses limit (Some xs) (Some ys) bs fault.SectionTooLong consumes stops =
    let size : length xs ≡ length bs + length ys = ap (λ l. length l) consumes ∙ length-append bs ys in
    omega (arith, size, stops)
stops_known refuses limit known left bs other consumes stops = absurd stops

-- the reading of a section stops
pub section_stops : {S : Type 0} {g : _} (refuses : ℕ → Type 0) (all_bytes : S → Option (List ℕ)) (fails_with : S → Error → Type 0)
    (fails : Error → Type 0) (path : List ℕ) (section : Option (ContentReader S g)) (reader new : ContentReader S g) (content : Option Content)
    (stream : Option SectionName)
    (result : Result (Vec ℕ Global) RunFault) (f : RunFault) (stop : FileStop) → section ≡ Some reader
    → GivesOption all_bytes fails_with fails section content → stream ≡ stream_name reader
    → (bs : List ℕ) × Consumes (content_remaining all_bytes reader) (content_remaining all_bytes new) bs
    × StopsReading refuses STRINGS_LIMIT bs f
    → Blames (ContentFollows all_bytes fails_with) (ContentMayFail all_bytes fails_with) reader new
    (result ≡ Err fault.Read) → result ≡ Err f
    → StopsAs path stream (content_fault new) f stop
    → (c : Content) × (content ≡ Some c) × SectionStops refuses fails path c stop
section_stops {S} {g} refuses all_bytes fails_with fails path section reader new content stream result f stop is gives named read blames said at =
    by content (subst (λ (o : Option (ContentReader S g)). GivesOption all_bytes fails_with fails o content) is gives)
  where
    told : (c : Content) → Gives all_bytes fails_with fails reader c → f ≡ fault.Read
        → IsToldOf fails (stream_of c) (content_fault new)
    told c gives is = content_told all_bytes fails_with fails reader new c gives blames
        (said ∙ ap (λ (x : RunFault). Err x) is)

    of : (c : Content) → Gives all_bytes fails_with fails reader c → SectionStops refuses fails path c stop
    of (Plain bytes) gives = (
      f,
      stops_known refuses STRINGS_LIMIT (Some bytes) _ read.0 f
          (subst (λ (r : Option (List ℕ)). Consumes r (content_remaining all_bytes new) read.0) gives.0 read.1) read.2,
      stops_at fails path None stream (content_fault new) f stop (sym (named ∙ gives.2)) (told (Plain bytes) gives) at,
    )
    of (Inflated name bytes damage) gives = (
      f,
      stops_known refuses STRINGS_LIMIT (Some bytes) _ read.0 f
          (subst (λ (r : Option (List ℕ)). Consumes r (content_remaining all_bytes new) read.0) gives.0 read.1) read.2,
      stops_at fails path (Some (name, damage)) stream (content_fault new) f stop (sym (named ∙ gives.3))
          (told (Inflated name bytes damage) gives) at,
    )

    by : (content : Option Content) → GivesOption all_bytes fails_with fails (Some reader) content
        → (c : Content) × (content ≡ Some c) × SectionStops refuses fails path c stop
    by None gives = absurd gives
    by (Some c) gives = (c, refl, of c gives)

-- ---- all bytes of a section

-- bytes that were read up to the end are all
pub all_read : (whole : List ℕ) (left : Option (List ℕ)) (bs : List ℕ) → Consumes (Some whole) left bs → IsAtEnd left
    → bs ≡ whole
all_read whole None bs consumes at_end = absurd consumes
all_read whole (Some rest) bs consumes at_end =
    sym (consumes ∙ (ap (λ (l : List ℕ). bs ++ l) at_end ∙ append-nil bs))

-- all bytes of a section were read
pub section_held : {S : Type 0} {g : _} {B : Type 0} (all_bytes : S → Option (List ℕ)) (fails_with : S → Error → Type 0)
    (fails : Error → Type 0) (section : Option (ContentReader S g)) (reader new : ContentReader S g) (content : Option Content)
    (items : List ℕ) → section ≡ Some reader → GivesOption all_bytes fails_with fails section content
    → (bs : List ℕ) × Consumes (content_remaining all_bytes reader) (content_remaining all_bytes new) bs
    × ((items ≡ bs) × (length bs ≤ STRINGS_LIMIT) × IsAtEnd (content_remaining all_bytes new))
    → Blames (ContentFollows all_bytes fails_with) (ContentMayFail all_bytes fails_with) reader new B
    → ContentOver all_bytes new → IsHeld content (Some items)
section_held {S} {g} all_bytes fails_with fails section reader new content items is gives (bs, consumes, (are, few, ended)) blames over =
    by content (subst (λ (o : Option (ContentReader S g)). GivesOption all_bytes fails_with fails o content) is gives)
  where
    short : length items ≤ STRINGS_LIMIT
    short = subst (λ (l : List ℕ). length l ≤ STRINGS_LIMIT) (sym are) few

    known : (bytes : List ℕ) → content_remaining all_bytes reader ≡ Some bytes → Some items ≡ Some bytes
    known bytes own = ap (λ (l : List ℕ). Some l) (are ∙ all_read bytes (content_remaining all_bytes new) bs
        (subst (λ (r : Option (List ℕ)). Consumes r (content_remaining all_bytes new) bs) own consumes) ended)

    by : (content : Option Content) → GivesOption all_bytes fails_with fails (Some reader) content → IsHeld content (Some items)
    by None gives = absurd gives
    by (Some (Plain bytes)) gives = (known bytes gives.0, short, tt)
    by (Some (Inflated name bytes damage)) gives =
        (known bytes gives.0, short, content_whole all_bytes fails_with fails reader new (Inflated name bytes damage) gives blames over)

-- ---- what is left of a line section

-- memory is refused for what is left of them
pub keeping_refused : (refuses : ℕ → Type 0) (fails : Error → Type 0) (path : List ℕ) (dialect : Dialect) (part : Part) (content : Content) (items bs slice : List ℕ)
    (places : List Placed) (stop : FileStop) → bs ≡ bytes_of content → items ≡ bs
    → slice ≡ items → places ≡ part.places.items
    → ((Rises places → ⊥) × IsRefused refuses (length places)) ⊎ WantsCell dialect slice → IsAt path Refused stop
    → KeepingStops refuses fails path dialect part content stop
keeping_refused refuses fails path dialect part content items bs slice places stop whole read viewed placed why at =
    let own = subst (λ (p : List Placed). ((Rises p → ⊥) × IsRefused refuses (length p)) ⊎ WantsCell dialect slice) placed why in
    inr (
      subst (λ (b : List ℕ). ((Rises part.places.items → ⊥) × IsRefused refuses (length part.places.items)) ⊎ WantsCell dialect b) (viewed ∙ (read ∙ whole)) own,
      at,
    )

-- a slice of a list was written, which is the list
written_back : (items slice new : List ℕ) (len : ℕ) → slice ≡ items → length new ≡ length slice → len ≡ length items
    → take len (new ++ drop (length new) items) ≡ new
written_back items slice new len viewed kept long =
    let same = ap length viewed in
    let none : drop (length new) items ≡ [] =
    nil_from_length (drop (length new) items) (omega (arith, length-drop (length new) items, same, kept)) in
    ap (λ (r : List ℕ). take len (new ++ r)) none
    ∙ (ap (λ (l : List ℕ). take len l) (append-nil new) ∙ take_all len new (omega (arith, same, kept, long)))

-- what is left of a section is left of all its bytes
pub kept_of_all : (dialect : Dialect) (places own : List Placed) (section : ℕ) (content : Content) (items bs slice new : List ℕ)
    (len : ℕ) → bs ≡ bytes_of content → items ≡ bs → slice ≡ items → own ≡ places → length new ≡ length slice
    → len ≡ length items → Keeps dialect own section 0 slice new
    → Keeps dialect places section 0 (bytes_of content) (take len (new ++ drop (length new) items))
kept_of_all dialect places own section content items bs slice new len whole read viewed placed same long keeps =
    subst (λ (z : List ℕ). Keeps dialect places section 0 (bytes_of content) z)
    (sym (written_back items slice new len viewed same long))
    (subst (λ (b : List ℕ). Keeps dialect places section 0 b new) (viewed ∙ (read ∙ whole))
    (subst (λ (p : List Placed). Keeps dialect p section 0 slice new) placed keeps))
