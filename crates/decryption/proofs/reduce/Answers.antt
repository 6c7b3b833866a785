-- `reduce` writes one word a turn: after k turns the first k words are modulo l, since l is a power of two and the bits below it are kept.
-- Assumes nothing.
use Rattle.std.proofs.Common.{◌≡◌, ℕ, ◌-◌, ◌%◌, ◌^◌, sym, subst, arith}
use lib.Bits.{bit_and, and_mask}
use Rattle.definitions.specs.Parameters.{small_bits}
use Rattle.ring.proofs.Work.{writing_none, writing_one}
use Rattle.decryption.proofs.reduce.Goals as goal

-- the bits below l
masked : (l x : ℕ) → l ≡ 2 ^ small_bits l → bit_and x (l - 1) ≡ x % l
masked l x e = subst (λ (m : ℕ). bit_and x (m - 1) ≡ x % m) (sym e) (and_mask x (small_bits l))

pub loop-k-init : goal.loop-k-init
loop-k-init c = writing_none (omega arith)

pub loop-k-preserved : goal.loop-k-preserved
loop-k-preserved c = writing_one (λ j x. x % c.args.l) c.loop-k.invariant (omega arith) (masked c.args.l _ c.requires.1)
