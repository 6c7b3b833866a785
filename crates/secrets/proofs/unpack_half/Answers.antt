-- `unpack_half` unpacks the half's n coefficients into a part of the work words.
-- Assumes nothing.
use Rattle.std.proofs.Common.{◌≡◌, ℕ, ◌+◌, ◌-◌, List, length, take, drop, ap, ap₂, ◌∙◌, arith}
use Rattle.definitions.specs.Parameters.{small_bits}
use Rattle.definitions.specs.Octets.{unpacked}
use Rattle.definitions.proofs.Packing.{length-unpacked}
use Rattle.definitions.proofs.Filling.{length_borrowed}
use Rattle.parameters.specs.Answers.{set_from}
use Rattle.parameters.proofs.Bounds.{small_bits-within}
use Rattle.ring.specs.Work.{written}
use Rattle.ring.proofs.Borrowed.{put_mid_written}
use Rattle.secrets.specs.Secrets.{half}
use Rattle.secrets.proofs.unpack_half.Goals as goal

pub unpack-requires : goal.unpack-requires
unpack-requires c = omega (arith, small_bits-within c.args.p.set.l)

pub returns : goal.returns
returns c =
    let a = c.args in
    let len : ℕ = c.small_length.result in
    let octets : a.from + len - a.from ≡ len = omega arith in
    let words = length_borrowed a.at a.p.set.n a.work.now c.requires.1 in
    let given : c.unpack.new.words ≡ unpacked (small_bits a.p.set.l) a.p.set.n (half (set_from a.p) a.from a.secret.now) =
    c.unpack.ensures
    ∙ ap (λ (m : ℕ). unpacked c.bits-b.result m (take (a.from + len - a.from) (drop a.from a.secret.now))) words
    ∙ ap₂ (λ (x m : ℕ). unpacked x a.p.set.n (take m (drop a.from a.secret.now))) c.bits-b.ensures (octets ∙ c.small_length.ensures) in
    put_mid_written a.at a.p.set.n a.work.now _ (ap length given ∙ length-unpacked _ _ _)
    ∙ ap (λ (l : List ℕ). written a.at l a.work.now) given
