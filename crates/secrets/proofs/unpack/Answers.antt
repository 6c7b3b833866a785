-- `unpack` unpacks one half after the other, into the first two parts of the work words.
-- Assumes nothing.
use Rattle.std.proofs.Common.{◌≡◌, ℕ, ◌*◌, List, length, ap, ◌∙◌, arith}
use Rattle.definitions.specs.Parameters.{small_bits, work_length}
use Rattle.definitions.specs.Octets.{unpacked}
use Rattle.parameters.specs.Answers.{set_from}
use Rattle.ring.specs.Work.{written}
use Rattle.secrets.specs.Secrets.{half}
use Rattle.secrets.proofs.Halves.{first-room, second-room, unpacked_halves}
use Rattle.secrets.proofs.unpack.Goals as goal

pub unpack_half-requires : goal.unpack_half-requires
unfolding work_length
unpack_half-requires c =
    let room : length c.args.work.now ≡ 8 * c.args.p.set.n = c.requires.1 in
    (first-room (set_from c.args.p) c.args.secret.now c.requires.0, omega arith)

pub unpack_half-requires-2 : goal.unpack_half-requires-2
unfolding work_length
unpack_half-requires-2 c =
    let room : length c.unpack_half.new.work ≡ 8 * c.args.p.set.n = c.unpack_half.auto.work ∙ c.requires.1 in
    (omega (arith, second-room (set_from c.args.p) c.args.secret.now c.requires.0), omega arith)

pub returns : goal.returns
returns c =
    let a = c.args in
    let mid : List ℕ = c.unpack_half.new.work in
    let second : ℕ → List ℕ = λ from. written a.p.set.n (unpacked (small_bits a.p.set.l) a.p.set.n (half (set_from a.p) from a.secret.now)) mid in
    unpacked_halves (set_from a.p) a.secret.now c.requires.0 a.work.now mid c.requires.1 c.unpack_half.ensures
    (c.unpack_half-2.ensures ∙ ap second c.small_length-second.ensures)
