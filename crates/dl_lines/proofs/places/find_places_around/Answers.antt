use Rattle.std.proofs.Common.{None, ap, ◌∙◌}
use Rattle.std.proofs.KnownBytes.{Appends-nil}
use Rattle.dl_sections.specs.Ending.{WhereWhole}
use Rattle.dl_sections.specs.Commands.{strings_in}
use Rattle.dl_sections.proofs.BlameLemmas.{blames_where}
use Rattle.dl_sections.proofs.EndLemmas.{only_where}
use Rattle.dl_lines.specs.FoundPlaces.{known_to}
use Rattle.dl_lines.proofs.AnsweringLemmas.{never_read}
use Rattle.dl_lines.proofs.FindingLemmas.{are_found_around, ends_with, read_before}
use Rattle.dl_lines.proofs.places.find_places_around.Goals as goal

pub returns-clause-ran : goal.returns-clause-ran
returns-clause-ran g c =
    let options = c.args.options.now in
    let q = c.args.question.now in
    let s = strings_in options in
    let first = c.in-Ok.seeker in
    let left = g.R.Read.remaining c.read_units_around-ended.new.input in
    let read = c.read_units_around-ended.ensures.ran in
    let ran = read.2 (c.in-Ok.ensures.begins None (Appends-nil None)) (Appends-nil None) in
    let known = c.in-Ok.ensures.known ∙ ap (λ t. known_to t q) c.new-strings.ensures in
    let made = c.in-Ok.ensures.made in (
      read.0,
      read.1,
      are_found_around g.M.Memory.refuses options.dialect s q first c.read_units_around-ended.new.visitor options.limit read.0 left None None known
          c.args.memory.now c.in-Ok.ensures.memory made c.read_units_around-ended.result c.collect.result c.collect.ensures.refused
          (λ visits whole stands. c.collect.ensures.collected first None None visits q.wanted q.exact whole c.in-Ok.ensures.memory stands
          made) ran,
    )

pub returns-clause-blames : goal.returns-clause-blames
returns-clause-blames g c =
    blames_where c.read_units_around-ended.ensures.blames (λ e. (
      record {
        tells = c.in-Ok.ensures.begins None (Appends-nil None);
        out = Appends-nil None;
        never = never_read g.M.Memory.refuses c.in-Ok.seeker;
      },
      read_before c.collect.result c.read_units_around-ended.result c.collect.ensures.ends e,
    ))

pub returns-clause-over : goal.returns-clause-over
returns-clause-over g c =
    let over = g.R.Source.over c.read_units_around-ended.new.input in
    ends_with c.collect.result c.read_units_around-ended.result c.collect.ensures.ends (λ r. WhereWhole over r) tt
    (only_where over c.read_units_around-ended.result
    (c.read_units_around-ended.ensures.over (c.in-Ok.ensures.begins None (Appends-nil None)) (Appends-nil None)))
