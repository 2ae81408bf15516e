use Rattle.std.proofs.Common.{refl}
use Rattle.dl_print.specs.HeaderFields.{form_name}
use Rattle.dl_dump_json.proofs.array.form_name.Goals as goal

pub returns-in-Block2 : goal.returns-in-Block2
unfolding form_name
returns-in-Block2 c = rw c.in-Block2.is refl

pub returns-in-Block4 : goal.returns-in-Block4
unfolding form_name
returns-in-Block4 c = rw c.in-Block4.is refl

pub returns-in-Data2 : goal.returns-in-Data2
unfolding form_name
returns-in-Data2 c = rw c.in-Data2.is refl

pub returns-in-Data4 : goal.returns-in-Data4
unfolding form_name
returns-in-Data4 c = rw c.in-Data4.is refl

pub returns-in-Data8 : goal.returns-in-Data8
unfolding form_name
returns-in-Data8 c = rw c.in-Data8.is refl

pub returns-in-String : goal.returns-in-String
unfolding form_name
returns-in-String c = rw c.in-String.is refl

pub returns-in-Block : goal.returns-in-Block
unfolding form_name
returns-in-Block c = rw c.in-Block.is refl

pub returns-in-Block1 : goal.returns-in-Block1
unfolding form_name
returns-in-Block1 c = rw c.in-Block1.is refl

pub returns-in-Data1 : goal.returns-in-Data1
unfolding form_name
returns-in-Data1 c = rw c.in-Data1.is refl

pub returns-in-Strp : goal.returns-in-Strp
unfolding form_name
returns-in-Strp c = rw c.in-Strp.is refl

pub returns-in-Udata : goal.returns-in-Udata
unfolding form_name
returns-in-Udata c = rw c.in-Udata.is refl

pub returns-in-StrpSup : goal.returns-in-StrpSup
unfolding form_name
returns-in-StrpSup c = rw c.in-StrpSup.is refl

pub returns-in-Data16 : goal.returns-in-Data16
unfolding form_name
returns-in-Data16 c = rw c.in-Data16.is refl

pub returns-in-LineStrp : goal.returns-in-LineStrp
unfolding form_name
returns-in-LineStrp c = rw c.in-LineStrp.is refl
