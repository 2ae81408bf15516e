-- Bytes of which a part is replaced by as many others.
use Rattle.std.proofs.Common.{◌≡◌, ℕ, ◌+◌, ◌-◌, ◌≤◌, List, ◌++◌, length, take, drop, sym, ap, arith, length-append, length-drop}
use Rattle.std.proofs.Common.{length-take, length-take-le}
use Rattle.std.proofs.lemmas.List.{take-append-drop}
use Rattle.std.proofs.lemmas.Slice.{take-put_mid, drop-put_mid}
use borrow.Rule.Slice.PartMut.{put_mid}

-- of bytes len of them, from a place on, are now ys
pub record PutIn (bytes ys next : List ℕ) (at len : ℕ) : Type 0 where
  pub size : length next ≡ length bytes
  pub rest : drop (at + len) next ≡ drop (at + len) bytes
  pub front : take (at + len) next ≡ take at bytes ++ ys

pub part_len : (bytes : List ℕ) (at len : ℕ) → len ≤ length (drop at bytes)
    → length (take (at + len - at) (drop at bytes)) ≡ len
part_len bytes at len room =
    let taken = length-take (at + len - at) (drop at bytes) in
    let k : at + len - at ≡ len = omega arith in
    omega (arith, room, taken, k)

pub put_in : (bytes ys : List ℕ) (at len : ℕ) → at ≤ length bytes → len ≤ length (drop at bytes) → length ys ≡ len
    → PutIn bytes ys (put_mid at (at + len - at) bytes ys) at len
put_in bytes ys at len le room size =
    let dropped = length-drop at bytes in
    let next : List ℕ = put_mid at (at + len - at) bytes ys in
    let rest : drop (at + len) next ≡ drop (at + len) bytes =
    drop-put_mid at (at + len - at) bytes ys (at + len) (omega arith) le (omega (arith, size)) in
    let front : take (at + len) next ≡ take at bytes ++ ys =
    take-put_mid at (at + len - at) bytes ys (at + len) (omega (arith, size)) le in
    let whole = ap length (sym (take-append-drop (at + len) next)) in
    let sum = length-append (take (at + len) next) (drop (at + len) next) in
    let head = ap length front in
    let heads = length-append (take at bytes) ys in
    let short = length-take-le at bytes le in
    let tail = ap length rest in
    let tails = length-drop (at + len) bytes in
    record {
      size = omega (arith, whole, sum, head, heads, short, tail, tails, size, dropped, room);
      rest = rest;
      front = front;
    }
