-- `write_constant` is right because the constant is the negative of the key's value, and its octets are the last of the key's.
-- Assumes nothing.
use Rattle.std.proofs.Common.{ℕ, ◌≡◌, ◌+◌, ◌-◌, ◌*◌, ◌%◌, ◌≤◌, ◌<◌, length, sym, ap, ◌∙◌, arith}
use native.Mathlib.Nat.{mod-lt, mul-le-mul, mul-le-mul_right}
use borrow.Rule.Slice.PartMut.{mid_len}
use Rattle.definitions.specs.Monomials.{value}
use Rattle.definitions.specs.Calls.{polynomial_in}
use Rattle.definitions.proofs.Monomials.{monomial_count_pos}
use Rattle.ring.specs.Work.{part}
use Rattle.judging.proofs.Laws.{fit_number-zero}
use Rattle.key_generation.proofs.Constant.{given_ok, constant_placed}
use Rattle.key_generation.proofs.write_constant.Goals as goal
use Rattle.key_generation.proofs.write_constant.Goals.{After-evaluate}

-- nothing is refused: the octets were just written, each coefficient below q
found : (c : After-evaluate) → (k : ℕ) → k < c.args.n → part c.evaluate.new.work (2 * c.args.n) k
    ≡ value c.args.n c.args.d (polynomial_in c.args.n c.args.qlen c.args.public.now) (part c.args.work.now 0) (part c.args.work.now c.args.n) k % c.args.q
found c =
    given_ok c.evaluate.result (c.evaluate.ensures.judged ∙ sym (fit_number-zero _ _ c.requires.fit.0)) c.evaluate.ensures.evaluated

-- the third part lies inside the work words
words : (c : After-evaluate) → 2 * c.args.n + c.args.n ≤ length c.evaluate.new.work
words c = omega (arith, c.evaluate.auto.work, c.requires.sizes.0.room)

-- and the octets of the constant among the key's
octets : (c : After-evaluate) → c.args.n * c.args.qlen ≤ length c.args.public.now
octets c =
    let one : 1 * c.args.n ≤ _ = mul-le-mul_right c.args.n (monomial_count_pos c.args.d) in
    omega (arith, c.requires.sizes.2, mul-le-mul_right c.args.qlen one)

pub evaluate-requires : goal.evaluate-requires
evaluate-requires c = record { sizes = c.requires.sizes; in_ring = (c.requires.fit.1, c.requires.fit.2) }

pub negate-requires : goal.negate-requires
negate-requires c =
    let v = (goal.at.negate-requires c).After-evaluate in
    (omega (arith, words v), c.requires.sizes.4, (λ k l. rw (found v k (omega arith)) (mod-lt _ (omega (arith, c.requires.sizes.3)))))

pub overflow_mul-from : goal.overflow_mul-from
overflow_mul-from c = record { fits = omega (arith, mul-le-mul c.requires.sizes.0.most c.requires.sizes.0.octets-most) }

pub overflow_sub-from : goal.overflow_sub-from
overflow_sub-from c = octets (goal.at.overflow_sub-from c).After-evaluate

pub encode-requires : goal.encode-requires
encode-requires c =
    let v = (goal.at.encode-requires c).After-evaluate in
    let n = c.args.n in
    let all = length c.args.public.now in
    let left : 2 * n + n - 2 * n ≡ n = omega arith in
    let many = mid_len (2 * n) (2 * n + n) c.negate.new.work (omega (arith, words v, c.negate.auto.work)) ∙ left in (
      c.requires.sizes.0.octets-least,
      c.requires.sizes.0.octets-most,
      mid_len (all - n * c.args.qlen) all c.args.public.now (omega arith) ∙ omega (arith, octets v, ap (λ (m : ℕ). m * c.args.qlen) many),
    )

pub returns : goal.returns
returns c =
    let v = (goal.at.returns c).After-evaluate in
    constant_placed c.args.d c.args.n c.args.qlen c.args.q c.args.public.now c.evaluate.new.work c.args.work.now c.negate.new.work
    c.encode.new.octets (omega (arith, words v)) (found v) c.negate.ensures c.encode.auto.octets c.encode.ensures
