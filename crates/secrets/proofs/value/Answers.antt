-- `value` is right because its tests come in the table's order: taking the value judges what the second one asks, and the third asks of the
-- secret what was read before the value was taken.
-- Assumes nothing.
use Rattle.std.proofs.lemmas.Result.{err_from_is_err_and}
use Rattle.std.proofs.Common.{◌≡◌, ◌*◌, ◌≤◌, sym, ◌∙◌, arith}
use Rattle.definitions.specs.Parameters.{qlen, monomial_count}
use Rattle.definitions.specs.Octets.{decoded}
use Rattle.definitions.specs.Calls.{secret_full}
use Rattle.parameters.specs.Answers.{set_from}
use Rattle.parameters.specs.Refusals.{number_in}
use Rattle.parameters.proofs.Answers.{refusal-some}
use Rattle.judging.specs.Reading.{fit_number}
use Rattle.secrets.proofs.Laws.{value_sizes, value-tops, value-octets, value-modulus, unpacked-x, unpacked-y, unpacked-full}
use Rattle.secrets.proofs.Laws.{valued_padding, valued_coefficient, valued_top, valued_found}
use Rattle.secrets.proofs.value.Goals as goal
use Rattle.secrets.proofs.value.Goals.{After-evaluate}

-- ---- what each place tells

module _ (c : After-evaluate) where
  full : c.full_degree-full.result ≡ secret_full (set_from c.args.p) c.args.secret.now
  full = c.full_degree-full.ensures ∙ unpacked-full _ _ _ _ c.requires c.unpack.ensures

  number : let a = c.args in
      number_in c.evaluate.result ≡ fit_number a.p.set.q (decoded (qlen a.p.set.q) (monomial_count a.d * a.p.set.n) a.octets.now)
  number = rw c.octets_of_coefficient-qlen.ensures at c.evaluate.ensures.judged

-- ---- answers

pub returns-then-not-bits_clear : goal.returns-then-not-bits_clear
returns-then-not-bits_clear c = valued_padding _ _ _ _ _ (sym c.if-not-bits_clear.ensures)

pub full_degree-full-requires : goal.full_degree-full-requires
full_degree-full-requires c = (value-tops _ _ _ _ c.requires c.unpack.auto.work).1

pub evaluate-requires-clause-sizes : goal.evaluate-requires-clause-sizes
evaluate-requires-clause-sizes c =
    let e = c.requires in
    let most : c.args.d ≤ 8 = omega arith in
    rw c.octets_of_coefficient-qlen.ensures
    (value_sizes _ _ _ _ e c.unpack.auto.work, most, value-octets _ _ _ _ e, (value-modulus _ _ _ _ e).0, (value-modulus _ _ _ _ e).1)

pub evaluate-requires-clause-in_ring : goal.evaluate-requires-clause-in_ring
evaluate-requires-clause-in_ring c =
    (unpacked-x _ _ _ _ c.requires c.unpack.ensures, unpacked-y _ _ _ _ c.requires c.unpack.ensures)

pub returns-in_err-evaluate : goal.returns-in_err-evaluate
returns-in_err-evaluate c =
    let same = err_from_is_err_and c.from_residual.result c.from_residual.ensures.1 in
    let told = rw (c.octets_of_coefficient-qlen.ensures) at c.in_err-evaluate.ensures.judged in
    rw (same.1, same.2) (valued_coefficient _ _ _ _ (sym c.if-not-bits_clear.ensures) told _ (refusal-some _))

pub returns-then-not-full : goal.returns-then-not-full
returns-then-not-full c =
    let e = (goal.at.returns-then-not-full c).After-evaluate in
    let none : number_in c.evaluate.result ≡ 0 = rw c.in_ok-evaluate.was in
    valued_top _ _ _ _ (sym c.if-not-bits_clear.ensures) (number e) none _ (sym (full e) ∙ c.if-not-full.true)

pub returns : goal.returns
returns c =
    let e = (goal.at.returns c).After-evaluate in
    let none : number_in c.evaluate.result ≡ 0 = rw c.in_ok-evaluate.was in
    valued_found _ _ _ _ (sym c.if-not-bits_clear.ensures) (number e) none (sym (full e) ∙ c.if-not-full.false) c.unpack.ensures
    (rw c.octets_of_coefficient-qlen.ensures at c.in_ok-evaluate.ensures.evaluated)
