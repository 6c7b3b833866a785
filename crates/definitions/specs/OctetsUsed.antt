-- 01, "Draws from lent random octets": what the octets used mean. They are taken from the front, each of them is needed, and no octet after them
-- is examined.
--
--   Needed           of a call's exit, as its random octets vary: those used are there; any others may follow them, and the exit is the same; with
--                    fewer of them the number is 9
--   KeygenNeeds      so it is with the octets that key generation reports, wherever it does not refuse;  EncryptNeeds: and encryption
--
-- The hypotheses are those of KeygenReports (DroppedElements.antt) and EncryptReports (DroppedGroups.antt), with their witnesses.
-- Assumes nothing.
use Rattle.std.specs.Prelude.{ℕ, ◌≤◌, ◌<◌, ◌≡◌, List, ◌++◌, length, take}
use Rattle.definitions.specs.Parameters.{Parameters}
use Rattle.definitions.specs.Calls.{KeygenExit, keygen_exit, EncryptExit, encrypt_exit}

pub record Needed {E : Type 0} (refusal : E → ℕ) (exit : List ℕ → E) (random : List ℕ) (used : ℕ) : Type 0 where
  pub there : used ≤ length random
  pub suffice : (others : List ℕ) → exit (take used random ++ others) ≡ exit random
  pub fewer : (m : ℕ) → m < used → refusal (exit (take m random)) ≡ 9

abbrev pub KeygenNeeds : Type 0
KeygenNeeds =
    (p : Parameters) (random secret public : List ℕ) (used dropped_groups dropped_elements : ℕ) (work : List ℕ) →
    (let exit : List ℕ → KeygenExit = λ octets. keygen_exit p octets secret public used dropped_groups dropped_elements work in
    (exit random).refusal ≡ 0 → Needed (λ e. e.refusal) exit random (exit random).used)

abbrev pub EncryptNeeds : Type 0
EncryptNeeds =
    (p : Parameters) (public message random ciphertext : List ℕ) (used dropped_groups : ℕ) (work : List ℕ) →
    (let exit : List ℕ → EncryptExit = λ octets. encrypt_exit p public message octets ciphertext used dropped_groups work in
    (exit random).refusal ≡ 0 → Needed (λ e. e.refusal) exit random (exit random).used)
