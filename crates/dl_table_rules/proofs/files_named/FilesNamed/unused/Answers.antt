use Rattle.std.proofs.Common.{◌∙◌, ℕ, ◌+◌, Bool, List, ap, arith, false}
use Rattle.std.specs.Prelude.{slice_index_or}
use Rattle.dl_head.specs.Numbers.{first_number}
use Rattle.dl_table_rules.proofs.NamedLemmas.{unused_more, unused_upto}
use Rattle.dl_table_rules.proofs.files_named.FilesNamed.unused.Goals as goal

pub loop-place-preserved : goal.loop-place-preserved
loop-place-preserved c = (
  omega (arith, c.with-unused.ensures.files, c.loop-place.invariant.0),
  λ h files named.
      let place = c.loop-place.place in
      let first = first_number h.params in
      unused_more c.with-unused.result first place _ files _ (ap (λ (n : ℕ). n + place) (c.from.ensures ∙ named.first))
      (ap (λ (l : List Bool). slice_index_or l place false) c.deref-named-items.ensures.value
      ∙ named.each place (omega (arith, c.loop-place-test.true, c.deref-named-items.ensures.len, named.all)))
      (c.with-unused.ensures.numbers (unused_upto first files place) (c.loop-place.invariant.1 h files named)),
)
