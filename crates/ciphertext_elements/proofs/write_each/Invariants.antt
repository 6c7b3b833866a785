-- `write_each`: after m turns the octets of the first m elements are written, and the mask is as it was.
-- Assumes nothing.
use Rattle.std.proofs.Common.{◌*◌, ◌≡◌, length, take}
use Rattle.parameters.specs.Answers.{set_from}
use Rattle.ciphertext_elements.proofs.Ciphertext.{ElementsWritten}
use Rattle.ciphertext_elements.proofs.write_each.Given as goal

abbrev pub invariant-loop-m : goal.invariant-loop-m
invariant-loop-m l =
    (take (6 * l.p.set.n) l.work ≡ take (6 * l.p.set.n) l.initial.work)
    × (length l.work ≡ length l.initial.work)
    × (length l.ciphertext ≡ length l.initial.ciphertext)
    × ElementsWritten (set_from l.p) l.public l.message l.noise l.initial.work l.m l.ciphertext
