-- `add_square` leaves the sum where the square is another monomial, and otherwise adds the product from the diagonal.
-- Assumes nothing.
use Rattle.std.proofs.Common.{rules, true, ◌≡◌, arith}
use Rattle.definitions.proofs.Parameters.{key-degree-most, mask-degree-most}
use Rattle.parameters.specs.Answers.{set_from}
use Rattle.std.proofs.lemmas.Bool.{not_from_true}
use Rattle.monomials.proofs.Table.{flag_one}
use Rattle.ring.proofs.Work.{wrote}
use Rattle.mask_products.proofs.Sums.{sum_gains}
use Rattle.shared_products.proofs.Terms.{shared_set, shared_room, place-few, diagonal_inside, diagonal_below, gains_square}
use Rattle.shared_products.proofs.add_square.Goals as goal

pub same_monomial-requires : goal.same_monomial-requires
same_monomial-requires c =
    let g = c.requires.0.inputs in
    let set = shared_set g in
    (key-degree-most _ set, mask-degree-most _ set, c.requires.1, rw (← g.one-degree) c.requires.1, c.requires.0.place)

pub diagonal_at-requires : goal.diagonal_at-requires
diagonal_at-requires c = place-few c.requires.0.inputs c.requires.1

pub add_from-requires-clause-n_in_bounds : goal.add_from-requires-clause-n_in_bounds
add_from-requires-clause-n_in_bounds c =
    let g = c.requires.0.inputs in
    (omega (arith, shared_room g), diagonal_inside g c.diagonal_at.ensures c.requires.1, omega (arith, (shared_set g).modulus-most))

pub add_from-requires-clause-in_ring : goal.add_from-requires-clause-in_ring
add_from-requires-clause-in_ring c =
    let g = c.requires.0.inputs in
    (c.requires.0.below, diagonal_below g c.diagonal_at.ensures c.requires.1)

pub returns : goal.returns
returns c =
    let g = c.requires.0.inputs in
    let same : c.same_monomial.result ≡ true = search rules in
    let one = flag_one c.same_monomial.result c.same_monomial.ensures (not_from_true _ same) in
    gains_square g c.args.m c.args.i c.requires.1 one c.diagonal_at.ensures
    (sum_gains (set_from c.args.p) (wrote (omega (arith, shared_room g)) c.add_from.ensures))
