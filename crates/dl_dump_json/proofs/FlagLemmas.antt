-- The flags of a row that has none beside is_stmt.
use Rattle.std.proofs.Common.{◌≡◌, ◌++◌, ◌||◌, Bool, true, false, ℕ, List, codes, refl, sym, ap}
use Rattle.dl_rows.specs.declared.row.Row.{Row}
use Rattle.dl_dump_json.specs.Rows.{flag_member, flags_members, has_flags}

abbrev rest_of : (block end prologue epilogue : Bool) → List ℕ
rest_of block end prologue epilogue =
    flag_member (codes ",\"basic_block\":") block
    ++ (flag_member (codes ",\"end_sequence\":") end
    ++ (flag_member (codes ",\"prologue_end\":") prologue ++ flag_member (codes ",\"epilogue_begin\":") epilogue))

none_set : (block end prologue epilogue : Bool) → (block || (end || (prologue || epilogue))) ≡ false
    → rest_of block end prologue epilogue
    ≡ codes ",\"basic_block\":false,\"end_sequence\":false,\"prologue_end\":false,\"epilogue_begin\":false"
unfolding flag_member
none_set false false false false none = refl
none_set true end prologue epilogue none = absurd cc
none_set false true prologue epilogue none = absurd cc
none_set false false true epilogue none = absurd cc
none_set false false false true none = absurd cc

pub flags_alone : (r : Row) → has_flags r ≡ false
    → flag_member (codes ",\"is_stmt\":") r.is_stmt
    ++ codes ",\"basic_block\":false,\"end_sequence\":false,\"prologue_end\":false,\"epilogue_begin\":false"
    ≡ flags_members r
unfolding flags_members
flags_alone r none =
    ap (λ (l : List ℕ). flag_member (codes ",\"is_stmt\":") r.is_stmt ++ l)
    (sym (none_set r.basic_block r.end_sequence r.prologue_end r.epilogue_begin none))
