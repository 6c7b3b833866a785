-- Why the zero test is right: the tests that led to a return decide its answer, and the third part holds the key's value at the secret.
--
--   bool_number      an answer as a number
--   tested-..        what the tests after the length test leave: the answer where they pass, and what was there where one does not
--   is-zero-..       what each return leaves
-- Assumes nothing.
use Prim.Native.Nat.{ℕ, zero, suc, ◌+◌, ◌-◌, ◌*◌}
use mathlib.Core.Path.{◌≡◌, refl, sym, ap, ◌∙◌}
use mathlib.Core.Bool.{Bool, true, false, cond}
use mathlib.Core.List.{List}
use mathlib.Core.Logic.{⊎_elim}
use native.Mathlib.Omega.{arith}
use mir.Val.{bool_byte}
use lib.Dec.{eqb}
use lib.ListN.{length, replicate}
use Rattle.definitions.specs.Sequences.{every}
use Rattle.definitions.specs.Refusals.{untouched}
use Rattle.definitions.specs.Parameters.{Parameters, public_length}
use Rattle.definitions.specs.Calls.{keys_exact, IsZeroExit, is_zero_at, is_zero_answer, is_zero_leaves, is_zero_exit}
use Rattle.definitions.specs.Demand3.{AcceptedSet}
use Rattle.definitions.proofs.Sums.{every_cong}
use Rattle.definitions.proofs.Parameters.{Accepted, accepted-set, key-degree-most}
use Rattle.definitions.proofs.Calls.{keys_exact-told}
use Rattle.ring.specs.Work.{part}
use Rattle.definitions.proofs.Exits.{exit_length, exit_refused, exit_accepted}
use Rattle.secrets.specs.Secrets.{ValueInputs, Valued}
use Rattle.zero_test.specs.Tested.{Tested}

-- an answer as a number
pub bool_number : (t : Bool) → bool_byte t ≡ cond t 1 0
bool_number true = refl
bool_number false = refl

module _ (p : Parameters) (secret public : List ℕ) {refusal : ℕ} {work : List ℕ} (v : Valued p p.dx secret public refusal work) where
  pub tested-refused : (old : ℕ) → (refusal ≡ 0 → ⊥) → Tested p secret public refusal old old
  tested-refused old h = record { number = v.number; holds = λ e. absurd (h e); kept = λ _. refl }

  pub tested-accepted : (old : ℕ) {zero : ℕ} → refusal ≡ 0
      → zero ≡ cond (every (2 * p.n + p.n - 2 * p.n) (λ k. eqb (part work (2 * p.n) k) 0)) 1 0 → Tested p secret public 0 old zero
  unfolding is_zero_at
  tested-accepted old none e =
      let whole : 2 * p.n + p.n - 2 * p.n ≡ p.n = omega arith in
      record {
        number = sym none ∙ v.number;
        holds = λ _.
            e
            ∙ ap (λ (t : Bool). cond t 1 0)
            (ap (λ (m : ℕ). every m (λ k. eqb (part work (2 * p.n) k) 0)) whole
            ∙ every_cong p.n (λ k l. ap (λ (x : ℕ). eqb x 0) (v.value none k l)));
        kept = λ h. absurd (h refl);
      }

module _ (p : Parameters) (set : AcceptedSet p) (secret public : List ℕ) (old : ℕ) (work : List ℕ) where
  pub is-zero-length : keys_exact p (length secret) (length public) (length work) ≡ false
      → is_zero_leaves (untouched 6) old work ≡ is_zero_exit p secret public old work
  unfolding is_zero_exit is_zero_answer
  is-zero-length e = exit_length (λ x. is_zero_leaves x old work) p _ _ _ set e

  module _ (exact : keys_exact p (length secret) (length public) (length work) ≡ true) where
    pub is-zero-inputs : ValueInputs p p.dx secret public work
    unfolding public_length
    is-zero-inputs =
        let a : Accepted p = accepted-set p set in
        let lengths = keys_exact-told p exact in
        record {
          set = set;
          degree-least = ⊎_elim (λ e. omega arith) (λ e. omega arith) a.key-degree;
          degree-most = omega (arith, key-degree-most p a);
          secret-length = lengths.0;
          octets-length = lengths.1;
          work-length = lengths.2;
        }

    -- past the length test: the words are cleared, whatever the tests said
    pub is-zero-tested : (refusal : ℕ) {zero : ℕ} {words : List ℕ} → Tested p secret public refusal old zero → words ≡ replicate (length work) 0
        → ◌≡◌ {A = IsZeroExit} (record { refusal = refusal; zero = zero; work = words }) (is_zero_exit p secret public old work)
    unfolding is_zero_exit is_zero_answer
    is-zero-tested zero t e =
        rw (t.holds refl, e) (exit_accepted (λ x. is_zero_leaves x old work) p _ _ _ set exact (sym t.number))
    is-zero-tested (suc k) t e =
        rw (t.kept (λ z. omega arith), e) (exit_refused (λ x. is_zero_leaves x old work) p _ _ _ set exact k (sym t.number))
