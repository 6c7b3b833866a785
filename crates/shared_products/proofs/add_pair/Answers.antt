-- `add_pair` leaves the sum where the pair's product is another monomial, and otherwise adds the product of the sums and takes both of the diagonal away.
-- Assumes nothing.
use Rattle.std.proofs.Common.{rules, true, ◌≡◌, ◌-◌, ◌<◌, ◌∙◌, arith}
use Rattle.definitions.specs.Parameters.{monomial_count}
use Rattle.definitions.proofs.Parameters.{modulus_positive, key-degree-most, mask-degree-most}
use Rattle.parameters.specs.Answers.{set_from}
use Rattle.std.proofs.lemmas.Bool.{not_from_true}
use Rattle.monomials.proofs.Table.{flag_one}
use Rattle.ring.specs.Work.{part}
use Rattle.ring.proofs.Work.{wrote}
use Rattle.mask_products.specs.Products.{SumGains}
use Rattle.mask_products.proofs.Sums.{sum_in_ring, sum_gains}
use Rattle.shared_products.proofs.Terms.{shared_set, shared_room, place-few, diagonal_inside, diagonal_below, gains_both, gains_untaken}
use Rattle.shared_products.proofs.add_pair.Goals as goal
use Rattle.shared_products.proofs.add_pair.Goals.{After-subtract_from}

-- the first product of the diagonal is taken away
taken : (c : After-subtract_from) →
    SumGains (set_from c.args.p) (λ mask k. c.args.p.set.q - part c.args.list.now c.diagonal_at-first.result k) c.multiply_sums.new.work c.subtract_from.new.work
taken c = sum_gains (set_from c.args.p) (wrote (omega (arith, c.multiply_sums.ensures.is.as_long, shared_room c.requires.0.inputs)) c.subtract_from.ensures)

pub same_monomial-requires : goal.same_monomial-requires
same_monomial-requires c =
    let g = c.requires.0.inputs in
    let set = shared_set g in
    let second : c.args.j < monomial_count c.args.p.set.dx = omega (arith, c.requires.1, c.requires.2) in
    (key-degree-most _ set, mask-degree-most _ set, c.requires.1, rw (← g.one-degree) second, c.requires.0.place)

pub diagonal_at-first-requires : goal.diagonal_at-first-requires
diagonal_at-first-requires c = place-few c.requires.0.inputs c.requires.1

pub diagonal_at-second-requires : goal.diagonal_at-second-requires
diagonal_at-second-requires c =
    let second : c.args.j < monomial_count c.args.p.set.dx = omega (arith, c.requires.1, c.requires.2) in
    place-few c.requires.0.inputs second

pub subtract_from-requires-clause-n_in_bounds : goal.subtract_from-requires-clause-n_in_bounds
subtract_from-requires-clause-n_in_bounds c =
    let g = c.requires.0.inputs in (
      omega (arith, c.multiply_sums.ensures.is.as_long, shared_room g),
      diagonal_inside g c.diagonal_at-first.ensures c.requires.1,
      omega (arith, (shared_set g).modulus-most),
    )

pub subtract_from-requires-clause-in_ring : goal.subtract_from-requires-clause-in_ring
subtract_from-requires-clause-in_ring c =
    let g = c.requires.0.inputs in
    (sum_in_ring (modulus_positive _ (shared_set g)) c.multiply_sums.ensures.is, diagonal_below g c.diagonal_at-first.ensures c.requires.1)

pub subtract_from-requires-2-clause-n_in_bounds : goal.subtract_from-requires-2-clause-n_in_bounds
subtract_from-requires-2-clause-n_in_bounds c =
    let g = c.requires.0.inputs in
    let sum = (taken (goal.at.subtract_from-requires-2-clause-n_in_bounds c).After-subtract_from).is in
    let second : c.args.j < monomial_count c.args.p.set.dx = omega (arith, c.requires.1, c.requires.2) in (
      omega (arith, sum.as_long, c.multiply_sums.ensures.is.as_long, shared_room g),
      diagonal_inside g c.diagonal_at-second.ensures second,
      omega (arith, (shared_set g).modulus-most),
    )

pub subtract_from-requires-2-clause-in_ring : goal.subtract_from-requires-2-clause-in_ring
subtract_from-requires-2-clause-in_ring c =
    let g = c.requires.0.inputs in
    let sum = (taken (goal.at.subtract_from-requires-2-clause-in_ring c).After-subtract_from).is in
    let second : c.args.j < monomial_count c.args.p.set.dx = omega (arith, c.requires.1, c.requires.2) in
    (sum_in_ring (modulus_positive _ (shared_set g)) sum, diagonal_below g c.diagonal_at-second.ensures second)

pub returns : goal.returns
returns c =
    let g = c.requires.0.inputs in
    let product = c.multiply_sums.ensures in
    let less = taken (goal.at.returns c).After-subtract_from in
    let same : c.same_monomial.result ≡ true = search rules in
    let one = flag_one c.same_monomial.result c.same_monomial.ensures (not_from_true _ same) in
    let long = less.is.as_long ∙ product.is.as_long ∙ shared_room g in
    gains_both g c.args.m c.args.i c.args.j c.requires.1 c.requires.2 one c.diagonal_at-first.ensures c.diagonal_at-second.ensures product less
    (sum_gains (set_from c.args.p) (wrote (omega arith) c.subtract_from-2.ensures))

pub returns-then-not-same_monomial : goal.returns-then-not-same_monomial
returns-then-not-same_monomial c = search (rules, gains_untaken)
