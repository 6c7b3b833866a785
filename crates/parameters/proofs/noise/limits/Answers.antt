-- `limits` computes the definitions: the bound of an accepted set is below q, so it is not cut off at 2^31, and it is not 0.
-- Assumes nothing.
use Rattle.std.proofs.Common.{◌≡◌, ◌∙◌, arith}
use Rattle.definitions.specs.Parameters.{bound, headroom}
use Rattle.definitions.proofs.Parameters.{bound_positive, passed_set}
use Rattle.parameters.specs.Answers.{set_from}
use Rattle.parameters.proofs.NoiseBound.{bound_uncapped, modulus_fits-within}
use Rattle.parameters.proofs.noise.limits.Goals as goal
use Rattle.parameters.proofs.noise.limits.Goals.{After-capped_bound-bound}

bound-is : (c : After-capped_bound-bound) → c.capped_bound-bound.result ≡ bound (set_from c.args.p)
bound-is c = c.capped_bound-bound.ensures ∙ bound_uncapped _ (passed_set _ c.args.p.accepted).modulus

pub capped_bound-bound-requires : goal.capped_bound-bound-requires
capped_bound-bound-requires c = let t = passed_set _ c.args.p.accepted in record { range = t.range; ring = t.ring; degrees = t.degrees }

pub overflow_sub-result : goal.overflow_sub-result
overflow_sub-result c = omega (arith, modulus_fits-within _ (passed_set _ c.args.p.accepted).modulus)

pub nonzero_div-result : goal.nonzero_div-result
nonzero_div-result c =
    omega (arith, bound-is (goal.at.nonzero_div-result c).After-capped_bound-bound, bound_positive _ (passed_set _ c.args.p.accepted).range)

pub returns : goal.returns
unfolding headroom
returns c = rw (bound-is (goal.at.returns c).After-capped_bound-bound)
