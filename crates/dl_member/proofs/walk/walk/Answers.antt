use Rattle.std.proofs.Common.{◌≡◌, [], Option, None, inl, inr, refl, sym, subst}
use Rattle.std.specs.Prelude.{IfSome, MatchOption}
use Rattle.std.proofs.lemmas.Result.{err_from_is_err_and}
use Rattle.dl_archive.specs.Archive.{kind_of}
use Rattle.dl_archive.specs.Told.{AreAll, archive_of}
use Rattle.dl_archive.specs.declared.members.Members.{Members}
use Rattle.dl_member.proofs.WalkLemmas.{adds_none}
use Rattle.dl_member.proofs.walk.walk.Goals as goal

pub returns-in_err-members : goal.returns-in_err-members
returns-in_err-members g c = λ hears f is short.
    let p = err_from_is_err_and c.from_residual.result c.from_residual.ensures.1 in
    ([], adds_none _, rw (p.1, p.2) (inl (c.in_err-members.ensures.fails, refl, refl, refl)))

pub returns-in_default : goal.returns-in_default
returns-in_default g c = λ hears f is short.
    let all = c.in_ok-members.ensures.all f is short in
    ([], adds_none _, inl (subst (λ (o : Option (Members g.row.S.Denot)). MatchOption o (kind_of f ≡ None) (AreAll f)) c.in_default.is all, refl, refl, refl))

pub returns : goal.returns
returns g c = λ hears f is short.
    let all = subst (λ (o : Option (Members g.row.S.Denot)). MatchOption o (kind_of f ≡ None) (AreAll f)) c.in-Some.is
    (c.in_ok-members.ensures.all f is short) in
    let source = subst (λ (o : Option (Members g.row.S.Denot)). IfSome o (λ m. archive_of m ≡ c.args.archive.now)) c.in-Some.is
    c.in_ok-members.ensures.source in
    let (steps, adds, ends) = c.walk_left.ensures.walked source hears f is short in
    (steps, adds, inr (c.in-Some.members.kind, all.0, rw (sym all.1) ends))
