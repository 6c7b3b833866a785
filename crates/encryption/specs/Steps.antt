-- What encryption leaves before its work words are cleared.
--
--   EncryptsOnceCleared   the definitions' Encrypts holds as soon as every work word is 0
-- Assumes nothing.
use Rattle.std.specs.Prelude.{ℕ, ◌≡◌, length, replicate}
use Rattle.definitions.specs.Parameters.{Parameters}
use Rattle.definitions.specs.Calls.{EncryptExit, encrypt_exit}
use Rattle.definitions.specs.Promises.{Read, Buffer, Cell, given, before, after}

abbrev pub EncryptsOnceCleared : Parameters → Read → Read → Read → Buffer → Buffer → Cell → Cell → ℕ → Type 0
EncryptsOnceCleared p public message random ciphertext work used dropped_groups r =
    ◌≡◌ {A = EncryptExit}
    (record {
      refusal = r;
      ciphertext = after ciphertext;
      used = after used;
      dropped_groups = after dropped_groups;
      work = replicate (length (before work)) 0;
    })
    (encrypt_exit p (given public) (given message) (given random) (before ciphertext) (before used) (before dropped_groups) (before work))
