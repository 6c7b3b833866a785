-- Parts of the work words, lent and given back.
--
--   put_mid_written       a part lent and given back is a list written over the words
--   part_room            a part of n words lies before a later one
-- Assumes nothing.
use Prim.Native.Nat.{ℕ, suc, ◌+◌, ◌-◌, ◌*◌, ◌≤◌, ◌<◌}
use native.Mathlib.Nat.{mul-le-mul_right}
use native.Mathlib.Omega.{arith}
use mathlib.Core.Path.{◌≡◌, ◌∙◌, ap}
use mathlib.Core.List.{List, ◌++◌}
use lib.ListN.{length, take, drop}
use lib.Seq.{drop-drop}
use borrow.Rule.Slice.PartMut.{put_mid}
use Rattle.ring.specs.Work.{written}

pub put_mid_written : (at n : ℕ) (old new : List ℕ) → length new ≡ n → put_mid at (at + n - at) old new ≡ written at new old
unfolding written
put_mid_written at n old new e =
    let here : at + (at + n - at) ≡ at + length new = omega arith in
    ap (λ (l : List ℕ). take at old ++ (new ++ l)) (drop-drop (at + n - at) at old ∙ ap (λ (m : ℕ). drop m old) here)

pub part_room : (n j most : ℕ) → j < most → j * n + n ≤ most * n
part_room n j most l = let h : suc j * n ≤ most * n = mul-le-mul_right n l in omega arith
