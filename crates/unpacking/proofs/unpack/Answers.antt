-- `unpacking::unpack` is right because whole groups, the last one and zeros are all that there is.
-- Assumes nothing.
use Rattle.std.proofs.Common.{◌≡◌, ℕ, ◌+◌, ◌-◌, ◌*◌, ◌/◌, ◌≤◌, ◌++◌, List, ◌∙◌, length, take, drop, ap, length-append, length-drop, arith}
use lib.Seq.{drop-drop, length-take-le}
use borrow.Rule.Slice.PartMut.{put_mid}
use Rattle.definitions.specs.Octets.{unpacked}
use Rattle.definitions.proofs.Filling.{put_take, length_borrowed}
use Rattle.packing.specs.Fields.{fields_of}
use Rattle.packing.proofs.Fields.{number_of-value, parts_whole, filled}
use Rattle.packing.proofs.Groups.{group_of, turned, many_last, four_over_fits, four_over_some, groups-within, part_end}
use Rattle.unpacking.proofs.unpack.Goals as goal

-- a part lent and given back
module _ (at count : ℕ) (l part : List ℕ) (room : at + count ≤ length l) (len : length part ≡ count) where
  given : put_mid at (at + count - at) l part ≡ take at l ++ (part ++ drop (at + count) l)
  given = let size : at + count - at ≡ count = omega arith in rw (size, drop-drop count at l)

  given_front : take (at + count) (put_mid at (at + count - at) l part) ≡ take at l ++ part
  given_front = put_take l part at count (omega arith) len given

  given_length : length (put_mid at (at + count - at) l part) ≡ length l
  given_length =
      rw given (omega (
        arith,
        length-append (take at l) (part ++ drop (at + count) l),
        length-append part (drop (at + count) l),
        length-take-le at l (omega arith),
        length-drop (at + count) l,
      ))

pub spread-requires : goal.spread-requires
spread-requires c =
    let a = c.args in
    let places : c.min-groups.result * (4 / a.b * 8) ≤ length c.unpack_groups.new.words
    = rw c.unpack_groups.auto.words (groups-within c.min-groups.result (length a.words.now) (4 / a.b * 8) (omega arith)) in
    let size = length_borrowed (c.min-groups.result * (4 / a.b * 8)) c.min-count.result c.unpack_groups.new.words (part_end _ places c.min-count.ensures) in
    (c.requires.0, c.requires.1, rw size (many_last a.b _ (four_over_fits a.b) _ c.min-count.ensures))

pub returns : goal.returns
unfolding unpacked
returns c =
    let a = c.args in
    let group = turned (group_of a.b (4 / a.b) c.requires.0 (four_over_some a.b c.requires.0 c.requires.1)) in
    let kept = c.unpack_groups.auto.words in
    let at = c.min-groups.result * (4 / a.b * 8) in
    let count = c.min-count.result in
    let words = c.unpack_groups.new.words in
    let part = c.spread.new.words in
    let places : at ≤ length words = rw kept (groups-within c.min-groups.result (length a.words.now) (4 / a.b * 8) (omega arith)) in
    let room = part_end _ places c.min-count.ensures in
    let size = length_borrowed at count words room in
    let full = given_length at count words part room (c.spread.auto.words ∙ size) in
    let fields = c.spread.ensures ∙ ap (λ (n : ℕ). fields_of a.b n c.number.result) size in
    let front = given_front at count words part room (c.spread.auto.words ∙ size) ∙ ap (λ (p : List ℕ). take at words ++ p) fields in
    parts_whole group _ a.octets.now c.min-groups.result c.min-groups.ensures (λ i h. (c.type_inv.octets i).fits) count
    c.min-rest.result (rw kept at c.min-count.ensures) c.min-rest.ensures _ _ c.unpack_groups.ensures (c.number.ensures ∙ number_of-value _) front
    (full ∙ kept) (filled (at + count) _ (rw full room) (c.fill.ensures.after (λ y e. e)))
