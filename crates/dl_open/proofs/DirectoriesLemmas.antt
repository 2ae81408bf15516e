-- The directories that the units of a file say.
use Rattle.std.proofs.Common.{◌≡◌, ℕ, ◌+◌, ◌≤◌, Bool, true, false, IsTrue, List, length, Option, Some, None}
use Rattle.std.proofs.Common.{Result, Ok, Err, IfOk, Vec, Global, option_map, refl, sym, ap, subst, ◌∙◌, arith}
use Rattle.std.specs.Option.{option_and_then, option_map_or}
use Rattle.std.specs.Prelude.{MatchOption, if◌then◌else◌, nat_le}
use Rattle.dl_num.specs.declared.fixed.Order.{Order}
use Rattle.dl_info.specs.Entries.{EntryData, TextData, here, str, line_str, index}
use Rattle.dl_dirs.specs.declared.places.Places.{Places}
use Rattle.dl_dirs.specs.Holding.{AreOf}
use Rattle.dl_dirs.specs.Texts.{TextsData, directory_text, index_text, text_of}
use Rattle.dl_dirs.specs.Units.{directory, entries, has_index, has_line_str, has_str, saying, Stands}
use Rattle.dl_file.specs.InfoTable.{GivesInfo, GivesInfoOption, HasInfo, InfoTable}
use Rattle.std.specs.Prelude.{IfErr, MatchResult}
use Rattle.std.specs.declared.io.Error.{Error}
use Rattle.dl_file.specs.Faults.{FailsOnly}
use Rattle.dl_file.specs.LineReader.{LineReaderFails}
use Rattle.dl_file.specs.LineTable.{Content, Gives, GivesLine, GivesOption, Inflated, Plain}
use Rattle.dl_file.specs.declared.line_reader.LineReader.{LineReader}
use Rattle.dl_file.specs.declared.content_reader.ContentReader.{ContentReader}
use Rattle.dl_file.specs.declared.info_file.InfoFile.{InfoFile}
use Rattle.dl_sections.specs.declared.options.TheConstants.{SECTION_LIMIT}
use Rattle.dl_open.specs.declared.section.Unread.{Unread}
use Rattle.dl_open.specs.declared.section.Unread.TheVariants.{Read, NoMemory}
use Rattle.dl_open.specs.Pieces.{IsReadError, IsUnread}
use Rattle.dl_open.specs.declared.strings.TheConstants.{STRINGS_LIMIT}
use Rattle.dl_open.specs.Directories.{bytes_had, said_in, section_size, texts_had, within}
use Rattle.dl_open.specs.Tables.{bytes_of}
use Rattle.dl_open.specs.Walked.{AreFound, AreHad, ArePlaces, IsHadWhere}

-- ---- reads that fail

pub line_only : {S : Type 0} {g : _} (all_bytes : S → Option (List ℕ)) (fails_with : S → Error → Type 0)
    (fails : Error → Type 0) (reader : LineReader S g) (c : Content) → GivesLine all_bytes fails_with fails reader c
    → FailsOnly (LineReaderFails all_bytes fails_with reader) fails
line_only all_bytes fails_with fails reader (Plain bytes) gives = gives.3
line_only all_bytes fails_with fails reader (Inflated name bytes damage) gives = gives.4

-- a read of a section failed, after others
pub read_unread : (refuses : ℕ → Type 0) (most : ℕ) (Now First fails : Error → Type 0) (why : Unread) → FailsOnly Now First
    → FailsOnly First fails → IsReadError Now why → IsUnread refuses most fails why
read_unread refuses most Now First fails (Read error) later only unread = only error (later error unread)
read_unread refuses most Now First fails NoMemory later only unread = absurd unread

-- memory was refused for no more items than some, and than more
pub unread_more : (refuses : ℕ → Type 0) (n most : ℕ) (fails : Error → Type 0) (why : Unread) → n ≤ most
    → IsUnread refuses n fails why → IsUnread refuses most fails why
unread_more refuses n most fails (Read error) within unread = unread
unread_more refuses n most fails NoMemory within (k, few, refused) = (k, omega (arith, few, within), refused)

-- ---- sections

-- one that the file has is held, where it can be had
had_where : {S : Type 0} {g : _} (all_bytes : S → Option (List ℕ)) (fails_with : S → Error → Type 0)
    (fails : Error → Type 0) (wanted : Bool)
    (section : Option (ContentReader S g)) (reader : ContentReader S g) (content : Option Content) (held : Option (List ℕ))
    → section ≡ Some reader → GivesOption all_bytes fails_with fails section content
    → ((c : Content) → Gives all_bytes fails_with fails reader c → held ≡ bytes_had STRINGS_LIMIT c)
    → IsHadWhere (IsTrue wanted) content held
had_where all_bytes fails_with fails wanted None reader content held is gives had = absurd (cc is)
had_where all_bytes fails_with fails wanted (Some other) reader None held is gives had = absurd gives
had_where {S = S} {g = g} all_bytes fails_with fails wanted (Some other) reader (Some c) held is gives had =
    let same : other ≡ reader = cc is in
    λ wanted. had c (subst (λ (r : ContentReader S g). Gives all_bytes fails_with fails r c) same gives)

pub had_where_read : {S : Type 0} {g : _} (refuses : ℕ → Type 0) (all_bytes : S → Option (List ℕ)) (fails_with : S → Error → Type 0)
    (fails : Error → Type 0) (wanted : Bool)
    (section : Option (ContentReader S g)) (reader : ContentReader S g) (content : Option Content)
    (result : Result (Option (Vec ℕ Global)) Unread) → section ≡ Some reader → GivesOption all_bytes fails_with fails section content
    → ((c : Content) → Gives all_bytes fails_with fails reader c
    → IfOk result (λ held. option_map (λ v. v.items) held ≡ bytes_had STRINGS_LIMIT c))
    → ((c : Content) → Gives all_bytes fails_with fails reader c → IfErr result (IsUnread refuses (length (bytes_of c)) fails))
    → MatchResult result (λ held. IsHadWhere (IsTrue wanted) content (option_map (λ v. v.items) held))
    (IsUnread refuses (section_size content) fails)
had_where_read {S = S} {g = g} refuses all_bytes fails_with fails wanted section reader content (Err why) is gives had unread =
    by content (subst (λ (o : Option (ContentReader S g)). GivesOption all_bytes fails_with fails o content) is gives)
  where
    by : (content : Option Content) → GivesOption all_bytes fails_with fails (Some reader) content
        → IsUnread refuses (section_size content) fails why
    by None gives = absurd gives
    by (Some c) gives = unread c gives
had_where_read refuses all_bytes fails_with fails wanted section reader content (Ok held) is gives had unread =
    had_where all_bytes fails_with fails wanted section reader content (option_map (λ v. v.items) held) is gives had

-- one that is wanted where another fact holds
pub had_for : (Wanted Other : Type 0) (content : Option Content) (held : Option (List ℕ)) → (Other → Wanted)
    → IsHadWhere Wanted content held → IsHadWhere Other content held
had_for Wanted Other content held so is = λ other. is (so other)

-- the bytes of one that can be had are all that it has
within_size : (limit : ℕ) (bytes b : List ℕ) → within limit bytes ≡ Some b → length b ≡ length bytes
within_size limit bytes b is = by (nat_le (length bytes) limit) is where
  by : (t : Bool) → (if t then Some bytes else None) ≡ Some b → length b ≡ length bytes
  by true is = let same : bytes ≡ b = cc is in ap (λ (l : List ℕ). length l) (sym same)
  by false is = absurd (cc is)

pub had_size : (limit : ℕ) (c : Content) (b : List ℕ) → bytes_had limit c ≡ Some b → length b ≡ length (bytes_of c)
had_size limit (Plain bytes) b is = within_size limit bytes b is
had_size limit (Inflated name bytes None) b is = within_size limit bytes b is
had_size limit (Inflated name bytes (Some at)) b is = absurd (cc is)

-- ---- texts

-- a text is the same with the sections in which it stands
same_text : (order : Order) (own t : TextsData) (e : EntryData) (said : TextData)
    → (has_str said ≡ true → own.debug_str ≡ t.debug_str)
    → (has_line_str said ≡ true → own.debug_line_str ≡ t.debug_line_str)
    → (has_index said ≡ true → own.str_offsets ≡ t.str_offsets)
    → text_of order own e said ≡ text_of order t e said
same_text order own t e (here w) strings lines offsets = refl
same_text order own t e (str n) strings lines offsets = let s = strings refl in cc s
same_text order own t e (line_str n) strings lines offsets = let s = lines refl in cc s
same_text order own t e (index n) strings lines offsets =
    ap (λ (o : Option (List ℕ)). by_index o own.debug_str) (offsets refl)
    ∙ ap (λ (s : Option (List ℕ)). by_index t.str_offsets s) (strings refl)
  where
    sections : (offsets strings : Option (List ℕ)) → TextsData
    sections offsets strings = record {
      str_offsets = offsets;
      debug_str = strings;
      debug_line_str = None;
    }

    by_index : (offsets strings : Option (List ℕ)) → Option (List ℕ)
    by_index offsets strings = index_text order (sections offsets strings) e.format e.str_offsets_base n

-- the directory of an entry is
same_directory : (order : Order) (own t : TextsData) (es : List EntryData) (n : ℕ) (said : Option EntryData)
    → saying n es ≡ said
    → (Stands has_str es → own.debug_str ≡ t.debug_str)
    → (Stands has_line_str es → own.debug_line_str ≡ t.debug_line_str)
    → (Stands has_index es → own.str_offsets ≡ t.str_offsets)
    → option_and_then (directory_text order own) said ≡ option_and_then (directory_text order t) said
same_directory order own t es n None is strings lines offsets = refl
same_directory order own t es n (Some e) is strings lines offsets = by_text e.comp_dir refl
  where
    by_text : (text : Option TextData) → e.comp_dir ≡ text
        → option_and_then (text_of order own e) text ≡ option_and_then (text_of order t e) text
    by_text None own_is = refl
    by_text (Some said) own_is = same_text order own t e said
        (λ has. strings (n, e, is, stands has_str said own_is has))
        (λ has. lines (n, e, is, stands has_line_str said own_is has))
        (λ has. offsets (n, e, is, stands has_index said own_is has))
      where
        stands : (test : TextData → Bool) (said : TextData) → e.comp_dir ≡ Some said → test said ≡ true
            → option_map_or test e.comp_dir false ≡ true
        stands test said own_is has = ap (λ (o : Option TextData). option_map_or test o false) own_is ∙ has

-- ---- the directories

-- no directory is known where .debug_abbrev can't be had
pub without_abbreviations : (t : InfoTable) (n : ℕ) → None ≡ bytes_had STRINGS_LIMIT t.abbreviations → said_in t n ≡ None
without_abbreviations t n lost = by (bytes_had SECTION_LIMIT t.info) (bytes_had STRINGS_LIMIT t.abbreviations) (sym lost)
  where
    by : (info abbreviations : Option (List ℕ)) → abbreviations ≡ None
        → option_and_then (λ info. option_and_then (λ a. directory t.order a (texts_had t) info n) abbreviations) info ≡ None
    by None abbreviations is = refl
    by (Some info) None is = refl
    by (Some info) (Some a) is = absurd (cc is)

-- nor where .debug_info can't be
pub without_info : (t : InfoTable) (n : ℕ) → bytes_had SECTION_LIMIT t.info ≡ None → said_in t n ≡ None
without_info t n lost = ap (option_and_then (λ info. option_and_then
    (λ a. directory t.order a (texts_had t) info n) (bytes_had STRINGS_LIMIT t.abbreviations))) lost

-- those of both, by the sections that are held
pub with_both : (t : InfoTable) (order : Order) (a b : List ℕ) (own : TextsData) (n : ℕ) → order ≡ t.order
    → Some a ≡ bytes_had STRINGS_LIMIT t.abbreviations → bytes_had SECTION_LIMIT t.info ≡ Some b
    → AreHad order a b t own → directory order a own b n ≡ said_in t n
with_both t order a b own n ordered abbreviations info held =
    same_directory order own (texts_had t) (entries order a b) n (saying n (entries order a b)) refl
    held.str held.line_str held.str_offsets
    ∙ ap (λ (o : Order). directory o a (texts_had t) b n) ordered
    ∙ ap (option_and_then (λ (a : List ℕ). directory t.order a (texts_had t) b n)) abbreviations
    ∙ sym (ap (option_and_then (λ (info : List ℕ). option_and_then
    (λ (a : List ℕ). directory t.order a (texts_had t) info n) (bytes_had STRINGS_LIMIT t.abbreviations))) info)

-- the places are found by the abbreviations that can be had
pub through : (refuses : ℕ → Type 0) (order : Order) (held : List ℕ) (a i : Content) (result : Result (Option Places) Unread)
    (fails : Error → Type 0) → Some held ≡ bytes_had STRINGS_LIMIT a → IfOk result (ArePlaces order held i)
    → IfErr result (IsUnread refuses (length (bytes_of i)) fails)
    → MatchResult result (AreFound order a i) (IsUnread refuses (length (bytes_of a) + length (bytes_of i)) fails)
through refuses order held a i (Ok places) fails had are unread =
    subst (λ (o : Option (List ℕ)). MatchOption o (◌≡◌ {A = Option Places} places None) (λ x. ArePlaces order x i places)) had are
through refuses order held a i (Err why) fails had are unread =
    unread_more refuses (length (bytes_of i)) (length (bytes_of a) + length (bytes_of i)) fails why (omega arith) unread

pub none_had : (order : Order) (a i : Content) → None ≡ bytes_had STRINGS_LIMIT a → AreFound order a i None
none_had order a i had =
    subst (λ (o : Option (List ℕ)). MatchOption o (◌≡◌ {A = Option Places} None None) (λ x. ArePlaces order x i None)) had refl

-- none, where the places can't be had
pub none_found : (t : InfoTable) (order : Order) (found : Option Places) (n : ℕ) → found ≡ None
    → AreFound order t.abbreviations t.info found → said_in t n ≡ None
none_found t order (Some places) n is found = absurd (cc is)
none_found t order None n is found = by (bytes_had STRINGS_LIMIT t.abbreviations) refl found
  where
    by : (a : Option (List ℕ)) → bytes_had STRINGS_LIMIT t.abbreviations ≡ a
        → MatchOption a (◌≡◌ {A = Option Places} None None) (λ a. ArePlaces order a t.info None) → said_in t n ≡ None
    by None is found = without_abbreviations t n (sym is)
    by (Some a) is found = without_info t n found

-- those with the places that were found
pub some_found : (t : InfoTable) (order : Order) (found : Option Places) (places : Places) (held : TextsData)
    (f : ℕ → Option (List ℕ)) → found ≡ Some places → AreFound order t.abbreviations t.info found → order ≡ t.order
    → ((a b : List ℕ) → AreOf places order a b → AreHad order a b t held)
    → ((a b : List ℕ) → AreOf places order a b → (n : ℕ) → f n ≡ directory order a held b n)
    → (n : ℕ) → f n ≡ said_in t n
some_found t order None places held f is found ordered had directories = absurd (cc is)
some_found t order (Some own) places held f is found ordered had directories =
    by (bytes_had STRINGS_LIMIT t.abbreviations) refl found
  where
    by : (a : Option (List ℕ)) → bytes_had STRINGS_LIMIT t.abbreviations ≡ a
        → MatchOption a (◌≡◌ {A = Option Places} (Some own) None) (λ a. ArePlaces order a t.info (Some own))
        → (n : ℕ) → f n ≡ said_in t n
    by None with_none found = absurd (cc found)
    by (Some a) with_some (b, info, own_are) =
        let one : own ≡ places = cc is in
        let are = subst (λ (p : Places). AreOf p order a b) one own_are in
        λ n. directories a b are n ∙ with_both t order a b held n ordered (sym with_some) info (had a b are)

-- a file that was opened has these units
pub has_units : {S : Type 0} {g : _} (all_bytes : S → Option (List ℕ)) (fails_with : S → Error → Type 0)
    (fails : Error → Type 0) (bytes : List ℕ) (opened : Option (InfoFile S g))
    (file : InfoFile S g) → opened ≡ Some file
    → (t : Option InfoTable) × HasInfo bytes t × GivesInfoOption all_bytes fails_with fails opened t
    → (t : InfoTable) × HasInfo bytes (Some t) × GivesInfo all_bytes fails_with fails file t
has_units all_bytes fails_with fails bytes None file is given = absurd (cc is)
has_units all_bytes fails_with fails bytes (Some other) file is (None, has, gives) = absurd gives
has_units {S} {g} all_bytes fails_with fails bytes (Some other) file is (Some t, has, gives) =
    let same : other ≡ file = cc is in
    (t, has, subst (λ (o : InfoFile S g). GivesInfo all_bytes fails_with fails o t) same gives)
