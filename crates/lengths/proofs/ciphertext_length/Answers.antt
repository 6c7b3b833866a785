-- `ciphertext_length` meets its contract: it is as many elements as there are monomials of degree dX + dr.
-- Assumes nothing.
use Rattle.std.proofs.Common.{ap, ◌∙◌, arith}
use Rattle.definitions.specs.Parameters.{elements_length, ciphertext_length}
use Rattle.parameters.specs.Answers.{numbers_from}
use Rattle.definitions.proofs.Monomials.{count_fifteen}
use Rattle.lengths.proofs.ciphertext_length.Goals as goal

pub elements_length-requires : goal.elements_length-requires
elements_length-requires c = omega (arith, count_fifteen)

pub returns : goal.returns
unfolding ciphertext_length
returns c = c.elements_length.ensures ∙ ap (elements_length (numbers_from c.args.set)) c.monomial_count.ensures
