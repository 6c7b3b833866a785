-- `giophantus_lengths` writes the five lengths of the set that the constructor accepted.
-- Assumes nothing.
use Rattle.std.proofs.Common.{ap}
use Rattle.definitions.specs.Refusals.{Answer, number, output}
use Rattle.definitions.specs.Parameters.{Lengths, LengthsExit, lengths_of, lengths_answer, lengths_exit}
use Rattle.definitions.proofs.Parameters.{accepted-set, key-degree-most, mask-degree-most}
use Rattle.parameters.proofs.Answers.{accepted-answer, refused-answer}
use Rattle.giophantus.proofs.giophantus_lengths.Goals as goal

abbrev leaves : Lengths → Answer Lengths → LengthsExit
leaves old a = record { refusal = number a; lengths = output (λ l. l) a old }

pub public_length-requires : goal.public_length-requires
public_length-requires c = key-degree-most _ (accepted-set _ c.in-Ok.p.accepted)

pub ciphertext_length-requires-clause-dx_bound : goal.ciphertext_length-requires-clause-dx_bound
ciphertext_length-requires-clause-dx_bound c = key-degree-most _ (accepted-set _ c.in-Ok.p.accepted)

pub ciphertext_length-requires-clause-dr_bound : goal.ciphertext_length-requires-clause-dr_bound
ciphertext_length-requires-clause-dr_bound c = mask-degree-most _ (accepted-set _ c.in-Ok.p.accepted)

pub returns-in-Ok : goal.returns-in-Ok
unfolding lengths_exit lengths_answer
returns-in-Ok c =
    ap (leaves _) (accepted-answer _ c.new.ensures c.in-Ok.is lengths_of _
    (λ i.
    record {
      secret = c.secret_length.ensures i;
      public = c.public_length.ensures i;
      message = c.message_length.ensures i;
      ciphertext = c.ciphertext_length.ensures i;
      work = c.work_length.ensures i;
    }))

pub returns-in-Err : goal.returns-in-Err
unfolding lengths_exit lengths_answer
returns-in-Err c = rw c.from.ensures (ap (leaves _) (refused-answer _ c.new.ensures c.in-Err.is _))
