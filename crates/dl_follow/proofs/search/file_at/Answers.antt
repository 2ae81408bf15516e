use Rattle.std.proofs.Common.{◌≡◌, ◌∙◌, ap, subst, inr}
use Rattle.dl_follow.specs.Fits.{fit_seen, Misses}
use Rattle.dl_follow.specs.Places.{place_path}
use Rattle.dl_follow.proofs.FitLemmas.{misses_more}
use Rattle.dl_follow.proofs.search.file_at.Goals as goal

pub returns-else-fits-clause-taken : goal.returns-else-fits-clause-taken
returns-else-fits-clause-taken g c =
    let held = g.F.FileSource.held c.args.files.now in
    let fails = g.F.FileSource.fails_with c.args.files.now in
    let text = c.in-Ok-from_utf8.text.now in
    let same : text ≡ place_path c.args.candidate.now.place =
    c.in-Ok-from_utf8.ensures.cases.0 ∙ c.as_slice.ensures.value ∙ c.in-Ok.ensures in
    inr (inr (inr (inr (λ f is short. subst (λ p. Misses (fails p) (fit_seen c.args.candidate.now.fit) f) same
    (misses_more _ (fails text) c.in-Ok-open.ensures.reads (fit_seen c.args.candidate.now.fit) f
    (c.if-fits.ensures f (c.in-Ok-open.ensures.bytes ∙ ap held same ∙ is) short))))))
