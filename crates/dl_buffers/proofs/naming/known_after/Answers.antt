use Rattle.std.proofs.Common.{◌≡◌, ℕ, List, ◌++◌, sym, ap, ap₂, ◌∙◌, append_assoc}
use Rattle.dl_buffers.specs.UnitCalls.{length_told, written_over}
use Rattle.dl_path.specs.declared.path.Path.{Path}
use Rattle.dl_path.specs.Parts.{path_seen}
use Rattle.dl_path.specs.Paths.{slash_after}
use Rattle.dl_path.proofs.PathLemmas.{slash_after-under}
use Rattle.dl_buffers.proofs.naming.known_after.Goals as goal

-- what five texts come to after another one
after : (text a b c d e : List ℕ)
    → ((((text ++ a) ++ b) ++ c) ++ d) ++ e ≡ text ++ ((((a ++ b) ++ c) ++ d) ++ e)
after text a b c d e =
    ap (λ (l : List ℕ). ((l ++ c) ++ d) ++ e) (append_assoc text a b)
    ∙ (ap (λ (l : List ℕ). (l ++ d) ++ e) (append_assoc text (a ++ b) c)
    ∙ (ap (λ (l : List ℕ). l ++ e) (append_assoc text ((a ++ b) ++ c) d)
    ∙ append_assoc text (((a ++ b) ++ c) ++ d) e))

-- a path is its parts, each directory with what stands after it
joined : (p : Path) (slash slash' : List ℕ) → slash ≡ slash_after p.base.now → slash' ≡ slash_after p.directory.now
    → (((p.base.now ++ slash) ++ p.directory.now) ++ slash') ++ p.name.now ≡ path_seen p
joined p slash slash' e e' =
    ap₂ (λ (x y : List ℕ). (((p.base.now ++ x) ++ p.directory.now) ++ y) ++ p.name.now) e
    (e' ∙ sym (slash_after-under p.base.now p.directory.now))

pub returns-clause-written : goal.returns-clause-written
returns-clause-written c first text is at =
    let p = c.args.path in
    let base = p.base.now in
    let slash = c.slash_after.result.now in
    let directory = p.directory.now in
    let slash' = c.slash_after-2.result.now in
    let w1 = c.add-at.ensures.written first text is at in
    let l1 = c.add-at.ensures.len text at in
    let w2 = c.add-at-2.ensures.written first (text ++ base) w1 l1 in
    let l2 = c.add-at-2.ensures.len (text ++ base) l1 in
    let w3 = c.add-at-3.ensures.written first ((text ++ base) ++ slash) w2 l2 in
    let l3 = c.add-at-3.ensures.len ((text ++ base) ++ slash) l2 in
    let w4 = c.add-at-4.ensures.written first (((text ++ base) ++ slash) ++ directory) w3 l3 in
    let l4 = c.add-at-4.ensures.len (((text ++ base) ++ slash) ++ directory) l3 in
    c.add.ensures.written first ((((text ++ base) ++ slash) ++ directory) ++ slash') w4 l4
    ∙ ap (written_over first) (after text base slash directory slash' p.name.now
    ∙ ap (λ (l : List ℕ). text ++ l) (joined p slash slash' c.slash_after.ensures c.slash_after-2.ensures))

pub returns-clause-len : goal.returns-clause-len
returns-clause-len c text at =
    let p = c.args.path in
    let base = p.base.now in
    let slash = c.slash_after.result.now in
    let directory = p.directory.now in
    let slash' = c.slash_after-2.result.now in
    let l1 = c.add-at.ensures.len text at in
    let l2 = c.add-at-2.ensures.len (text ++ base) l1 in
    let l3 = c.add-at-3.ensures.len ((text ++ base) ++ slash) l2 in
    let l4 = c.add-at-4.ensures.len (((text ++ base) ++ slash) ++ directory) l3 in
    c.add.ensures.len ((((text ++ base) ++ slash) ++ directory) ++ slash') l4
    ∙ ap length_told (after text base slash directory slash' p.name.now
    ∙ ap (λ (l : List ℕ). text ++ l) (joined p slash slash' c.slash_after.ensures c.slash_after-2.ensures))
