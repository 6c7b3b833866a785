-- `write_half` is right because a small element has b bits to a coefficient, and the packing is lent just its octets.
-- Assumes nothing.
use Rattle.std.proofs.Common.{◌+◌, arith}
use Rattle.definitions.proofs.Parameters.{accepted-set}
use Rattle.parameters.specs.Answers.{set_from}
use Rattle.key_draws.proofs.Parts.{borrowed_slice}
use Rattle.key_generation.proofs.Words.{small_packs, half-packed}
use Rattle.key_generation.proofs.write_half.Goals as goal

pub pack-requires : goal.pack-requires
pack-requires c =
    let words = borrowed_slice c.args.at (c.args.at + c.args.p.set.n) c.args.work.now (omega arith) c.requires.0 in
    small_packs (set_from c.args.p) (accepted-set _ c.args.p.accepted) _ c.bits.ensures words c.requires.1

pub returns : goal.returns
returns c =
    half-packed (set_from c.args.p) c.args.work.now c.args.secret.now c.pack.new.octets c.args.at c.args.to c.bits.ensures
    c.small_length.ensures c.requires.0 (omega (arith, c.requires.2, c.small_length.ensures)) c.pack.auto.octets c.pack.ensures
