-- Which bytes a walk over the units of a section has taken. No promise rests on how this is said.
use Rattle.std.specs.Prelude.{◌≡◌, ◌≤◌, ◌⊎◌, ◌↔◌, ℕ, List, ◌++◌, length, take, drop}
use Rattle.dl_head.specs.declared.dialect.Dialect.{Dialect}
use Rattle.dl_field.specs.HeaderData.{HeaderData}
use Rattle.dl_head.specs.declared.reader.HeadReader.{HeadReader}
use Rattle.dl_head.specs.declared.reader.HeadStep.TheVariants as answer
use Rattle.dl_head.specs.Header.{IsHeader}
use Rattle.dl_head.specs.Reading.{Answers}
use Rattle.dl_head.specs.Standing.{StandsFor as HeadStandsFor}
use Rattle.dl_object.specs.Section.{IsUnread}
use Rattle.dl_forms.specs.declared.state.WalkStage.{WalkStage}
use Rattle.dl_forms.specs.declared.state.WalkStage.TheVariants as state
use Rattle.dl_forms.specs.declared.walk.StringWalk.{StringWalk}
use Rattle.dl_forms.specs.Names.{Names}

-- b ends with u, and what b names, with bytes that follow, is what u names, with the same
pub record Onward (dialect : Dialect) (b u : List ℕ) : Type 0 where
  pub before : List ℕ
  pub split : b ≡ before ++ u
  pub same : (rest : List ℕ) → Names dialect (b ++ rest) ↔ Names dialect (u ++ rest)

-- the header of a unit goes on after u and each shorter front of it
pub record Begins (reader : HeadReader) (u : List ℕ) : Type 0 where
  pub stands : HeadStandsFor reader u
  pub goes : (i : ℕ) → i ≤ length u → Answers reader.dialect (take i u) answer.More

-- w is the header of a unit, or the front of one that isn't read
pub record IsHead (reader : HeadReader) (w : List ℕ) : Type 0 where
  pub stands : HeadStandsFor reader w
  pub kind : ((h : HeaderData) × IsHeader reader.dialect h w) ⊎ IsUnread reader.dialect w

abbrev pub StandsAt : Dialect → WalkStage → List ℕ → Type 0
StandsAt dialect (state.Head reader) b = (u : List ℕ) × (reader.dialect ≡ dialect) × Begins reader u
    × Onward dialect b u
StandsAt dialect (state.Body left) b = (rest : List ℕ) → Names dialect (b ++ rest) ↔ Names dialect (drop left rest)
StandsAt dialect state.Named b = (rest : List ℕ) → Names dialect (b ++ rest)
StandsAt dialect state.Ended b = (rest : List ℕ) → Names dialect (b ++ rest) → ⊥

-- the walk has taken the bytes b
abbrev pub StandsFor : StringWalk → List ℕ → Type 0
StandsFor walk b = StandsAt walk.dialect walk.state b
