-- Why the two halves of a secret's octets are its two elements: each has the octets of one, and no more.
--
--   half-second      the octets from the second half on are that half
--   unpacked_halves  both halves unpacked into the first two parts
-- Assumes nothing.
use Prim.Native.Nat.{ℕ, ◌+◌, ◌≤◌, zero-le}
use mathlib.Core.Path.{◌≡◌, ap, ◌∙◌}
use mathlib.Core.List.{List}
use native.Mathlib.Omega.{arith}
use lib.ListN.{length, get_or, drop, length-drop}
use lib.Seq.{take_all}
use Rattle.definitions.specs.Parameters.{Parameters, small_bits, small_length, secret_length, work_length}
use Rattle.definitions.specs.Octets.{unpacked}
use Rattle.definitions.specs.Calls.{small_of, secret_x, secret_y}
use Rattle.definitions.proofs.Parameters.{secret_length_halves}
use Rattle.definitions.proofs.Packing.{length-unpacked}
use Rattle.ring.specs.Work.{written}
use Rattle.ring.proofs.Work.{length-written, get_or-written, get_or-written-before}
use Rattle.secrets.specs.Secrets.{half, Unpacked}

module _ (p : Parameters) (secret : List ℕ) (exact : length secret ≡ secret_length p) where
  pub half-second : half p (small_length p) secret ≡ drop (small_length p) secret
  half-second = take_all (small_length p) (drop (small_length p) secret) (simp length-drop (omega (arith, exact, secret_length_halves p)))

  pub first-room : 0 + small_length p ≤ length secret
  first-room = omega (arith, exact, secret_length_halves p)

  pub second-room : small_length p + small_length p ≤ length secret
  second-room = omega (arith, exact, secret_length_halves p)

  pub unpacked_halves : (work mid : List ℕ) {new : List ℕ} → length work ≡ work_length p
      → mid ≡ written 0 (unpacked (small_bits p.l) p.n (half p 0 secret)) work
      → new ≡ written p.n (unpacked (small_bits p.l) p.n (half p (small_length p) secret)) mid
      → Unpacked p secret new
  unfolding secret_x secret_y small_of work_length
  unpacked_halves work mid room e f =
      let b : ℕ = small_bits p.l in
      let xs : List ℕ = unpacked b p.n (half p 0 secret) in
      let ys : List ℕ = unpacked b p.n (half p (small_length p) secret) in
      let x-length : length xs ≡ p.n = length-unpacked b p.n (half p 0 secret) in
      let y-length : length ys ≡ p.n = length-unpacked b p.n (half p (small_length p) secret) in
      let as_long : length mid ≡ length work = ap length e ∙ length-written 0 xs work (omega (arith, room)) in
      record {
        x = λ k l.
            ap (λ (w : List ℕ). get_or w (0 + k) 0) f
            ∙ get_or-written-before p.n ys mid (omega (arith, room)) (omega arith)
            ∙ ap (λ (w : List ℕ). get_or w (0 + k) 0) e
            ∙ get_or-written 0 xs work zero-le (omega arith);
        y = λ k l.
            ap (λ (w : List ℕ). get_or w (p.n + k) 0) f
            ∙ get_or-written p.n ys mid (omega (arith, room)) (omega arith)
            ∙ ap (λ (s : List ℕ). get_or (unpacked b p.n s) k 0) half-second;
      }
