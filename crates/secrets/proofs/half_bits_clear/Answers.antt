-- `half_bits_clear` judges the bits of the half past those of n coefficients.
-- Assumes nothing.
use Rattle.std.proofs.Common.{◌≡◌, ℕ, ◌+◌, ◌-◌, ◌*◌, take, drop, ap₂, ◌∙◌, arith}
use Rattle.packing.specs.Fields.{padding_number}
use Rattle.packing.proofs.Unused.{padding_ok}
use Rattle.secrets.proofs.half_bits_clear.Goals as goal

pub returns : goal.returns
returns c =
    let a = c.args in
    let whole : a.from + c.small_length.result - a.from ≡ c.small_length.result = omega arith in
    let number : ℕ → ℕ → ℕ = λ x m. padding_number (a.p.set.n * x) (take m (drop a.from a.secret.now)) in
    c.is_ok.ensures.value ∙ padding_ok _ _ _ (c.padding.ensures ∙ ap₂ number c.bits.ensures (whole ∙ c.small_length.ensures))
