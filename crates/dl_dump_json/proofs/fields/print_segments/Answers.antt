use Rattle.std.proofs.Common.{◌≡◌, codes, refl}
use Rattle.dl_field.specs.declared.params.Params.{Params}
use Rattle.dl_dump_json.specs.Fields.{segments_member}
use Rattle.dl_dump_json.specs.Members.{number_member}
use Rattle.dl_dump_json.proofs.fields.print_segments.Goals as goal

segments_of : (p : Params) → p.version ≡ 5 → segments_member p
    ≡ number_member (codes "segment_selector_size") p.segment_selector_size
unfolding segments_member
segments_of p five = rw five refl

pub returns-clause-printed : goal.returns-clause-printed
returns-clause-printed g c = rw (segments_of c.args.params.now c.if-params-ne5.false) c.print_byte.ensures.printed
