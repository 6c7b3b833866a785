-- `load_sum` copies X_i and adds X_j to it.
-- Assumes nothing.
use Rattle.std.proofs.Common.{◌*◌, ◌<◌, arith}
use Rattle.definitions.specs.Parameters.{monomial_count}
use Rattle.parameters.specs.Answers.{set_from}
use Rattle.ring.proofs.Work.{wrote, inside_ring}
use Rattle.shared_products.specs.Sharing.{key_in}
use Rattle.shared_products.proofs.Turns.{sum-written}
use Rattle.shared_products.proofs.Terms.{shared_set, shared_room, key-inside}
use Rattle.shared_products.proofs.load_sum.Goals as goal

pub copy_from-requires : goal.copy_from-requires
copy_from-requires c = (omega (arith, shared_room c.requires.0), key-inside c.requires.0 c.requires.1)

pub add_from-requires-clause-n_in_bounds : goal.add_from-requires-clause-n_in_bounds
add_from-requires-clause-n_in_bounds c =
    let g = c.requires.0 in
    let w = wrote (omega (arith, shared_room g)) c.copy_from.ensures in
    let second : c.args.j < monomial_count c.args.p.set.dx = omega (arith, c.requires.1, c.requires.2) in
    (omega (arith, w.as_long, shared_room g), key-inside g second, omega (arith, (shared_set g).modulus-most))

pub add_from-requires-clause-in_ring : goal.add_from-requires-clause-in_ring
add_from-requires-clause-in_ring c =
    let g = c.requires.0 in
    let w = wrote (omega (arith, shared_room g)) c.copy_from.ensures in
    let second : c.args.j < monomial_count c.args.p.set.dx = omega (arith, c.requires.1, c.requires.2) in
    (inside_ring w (g.key c.args.i c.requires.1), g.key c.args.j second)

pub returns : goal.returns
returns c =
    let key = key_in (set_from c.args.p) c.args.list.now in
    sum-written c.args.p.set.n c.args.p.set.q (6 * c.args.p.set.n) (key c.args.i) (key c.args.j) c.args.work.now
    (omega (arith, shared_room c.requires.0)) c.copy_from.ensures c.add_from.ensures
