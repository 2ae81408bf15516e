use Rattle.dl_field.proofs.FieldLaws.{field_is_judged}
use Rattle.dl_head.proofs.laws.good_fields.Goals as goal

pub returns : goal.returns
returns c = field_is_judged
