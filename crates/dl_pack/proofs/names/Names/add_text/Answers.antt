use Rattle.std.proofs.Common.{sym, ℕ, subst, length}
use Rattle.std.specs.Global.{Vec}
use Rattle.std.specs.List.{All}
use Rattle.dl_pack.specs.Named.{Once}
use Rattle.dl_pack.specs.Within.{HasTexts}
use Rattle.std.proofs.lemmas.List.{length-map}
use Rattle.dl_pack.proofs.NameLemmas.{files_stay, still_within}
use Rattle.dl_pack.proofs.names.Names.add_text.Goals as goal

pub returns-clause-files : goal.returns-clause-files
returns-clause-files g c =
    files_stay _ _ _ _ _
    (subst (λ (n : ℕ). All (HasTexts n) c.args.self.now.files.keys) (sym (length-map c.args.self.now.texts.keys (λ (v : Vec ℕ). v.items))) c.args.self.now.within)
    c.put.ensures.texts

pub invariant_of-self-clause-once : goal.invariant_of-self-clause-once
invariant_of-self-clause-once g c =
    subst Once (sym (files_stay _ _ _ _ _
    (subst (λ (n : ℕ). All (HasTexts n) c.args.self.now.files.keys) (sym (length-map c.args.self.now.texts.keys (λ (v : Vec ℕ). v.items))) c.args.self.now.within)
    c.put.ensures.texts)) c.args.self.now.once

pub invariant_of-self-clause-within : goal.invariant_of-self-clause-within
invariant_of-self-clause-within g c =
    still_within (length c.args.self.now.texts.keys) (length c.put.new.texts.keys) c.args.self.now.files.keys c.put.ensures.more
    c.args.self.now.within
