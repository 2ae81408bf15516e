-- Which places answer for a line, and in which order.
use Rattle.std.specs.Prelude.{ℕ, ◌-◌, Bool, true, false, ◌&&◌, ◌==◌, nat_le, if◌then◌else◌, List, []}
use Rattle.std.specs.Prelude.{◌∷◌, ◌++◌, length, take, filter, Option, Some, None}
use Rattle.std.specs.List.{ends_with, list_all, list_any}
use Rattle.std.specs.Str.{bytes_eq}
use Rattle.std.specs.Option.{option_map_or}
use Rattle.dl_path.specs.Paths.{slash_after}
use Rattle.dl_lines.specs.declared.question.Wanted.{Wanted}
use Rattle.dl_lines.specs.Places.{CodePlace}

-- ---- which

abbrev pub is_nothing : {A : Type 0} → List A → Bool
is_nothing [] = true
is_nothing (a ∷ list) = false

-- the path is the wanted one, or ends in it after a slash
abbrev pub matches : (wanted path : List ℕ) → Bool
matches wanted path =
    ends_with ◌==◌ path wanted && is_nothing (slash_after (take (length path - length wanted) path))

-- exact: no line above the wanted one answers for it
abbrev pub is_line : (exact : Bool) → (wanted line : ℕ) → Bool
is_line exact wanted line = if exact then line == wanted else nat_le wanted line

-- it may answer
abbrev pub fits : (exact : Bool) → Wanted → CodePlace → Bool
fits exact w p = is_line exact w.line p.line && option_map_or (matches w.path.now) p.path false

-- those of the least line
abbrev pub least_of : List CodePlace → List CodePlace
least_of places = filter (λ p. list_all (λ q. nat_le p.line q.line) places) places

-- those that answer
abbrev pub answering : (exact : Bool) → Wanted → List CodePlace → List CodePlace
answering exact w places = least_of (filter (fits exact w) places)

-- ---- in which order

-- before the first of a greater address, or of the same
abbrev pub insert : CodePlace → List CodePlace → List CodePlace
insert p [] = p ∷ []
insert p (q ∷ places) = if nat_le p.address q.address then p ∷ q ∷ places else q ∷ insert p places

-- by their addresses; those of one address stay in their order
abbrev pub by_address : List CodePlace → List CodePlace
by_address [] = []
by_address (p ∷ places) = insert p (by_address places)

abbrev pub is_same_path : Option (List ℕ) → Option (List ℕ) → Bool
is_same_path (Some a) (Some b) = bytes_eq a b
is_same_path None None = true
is_same_path a b = false

abbrev pub is_same_bool : Bool → Bool → Bool
is_same_bool true b = b
is_same_bool false true = false
is_same_bool false false = true

-- the same is told of both
abbrev pub is_same : CodePlace → CodePlace → Bool
is_same p q =
    p.address == q.address && (p.line == q.line && (p.column == q.column
    && (is_same_bool p.prologue_end q.prologue_end && is_same_path p.path q.path)))

-- but for those of which the same was told before
abbrev pub told_once : (before : List CodePlace) → List CodePlace → List CodePlace
told_once before [] = []
told_once before (p ∷ places) =
    (if list_any (is_same p) before then [] else p ∷ []) ++ told_once (before ++ p ∷ []) places
