-- `load_key` is right because the i-th element lies inside the key's octets.
-- Assumes nothing.
use Rattle.std.proofs.Common.{arith}
use Rattle.definitions.proofs.Parameters.{modulus_positive, modulus_word, qlen-least, qlen-most}
use Rattle.mask_products.proofs.Sums.{inputs-set, inputs-room, key-few, key-room}
use Rattle.mask_products.proofs.load_key.Goals as goal

pub element-requires : goal.element-requires
element-requires c =
    let g = c.requires.0 in
    let set = inputs-set g in
    let room = inputs-room g in
    rw c.octets_of_coefficient.ensures (
      record {
        places = omega (arith, set.ring_least);
        most = set.ring_most;
        octets-least = qlen-least _ (modulus_positive _ set) (modulus_word _ set);
        octets-most = qlen-most _;
        room = room;
      },
      omega (arith, key-few g c.requires.1),
      key-room g c.requires.1,
      omega arith,
    )

pub returns : goal.returns
returns c = rw (← c.octets_of_coefficient.ensures) c.element.ensures
