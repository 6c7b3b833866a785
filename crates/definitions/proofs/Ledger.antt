-- Why demand 3 holds of every list of calls: each accepted call adds one ciphertext and its entry, of which Kept holds, and a refused call adds neither.
-- Assumes nothing.
use Prim.Native.Nat.{ℕ, ◌<◌}
use mathlib.Core.Path.{◌≡◌, refl}
use mathlib.Core.List.{List, [], ◌∷◌, ◌++◌}
use native.Mathlib.Omega.{arith}
use native.Mathlib.Decide.{dec_lt}
use lib.ListN.{length, get_or, length-append, get_or-append}
use lib.Seq.{get_or_at}
use Rattle.definitions.specs.Refusals.{Answer, untouched, refused, accepted, output}
use Rattle.definitions.specs.Parameters.{Parameters}
use Rattle.definitions.specs.Calls.{Encrypted, encrypt_answer}
use Rattle.definitions.specs.Ledger.{given, other, Call, encrypt, addition, Given, operand_of, ciphertext_answer, call_answer, given_after, given_by, nothing, event_of, events, Entry, no_entry, entry_after, ledger_from, ledger, FromList, FromListUnder, LegalCall, Legal}
use Rattle.definitions.specs.Demand3.{AcceptedSet, LedgerHolds}
use Rattle.definitions.proofs.Parameters.{accepted-set}
use Rattle.definitions.proofs.Calls.{encrypt-told, add-told}
use Rattle.definitions.proofs.Kept.{Kept, kept-holds, kept-encrypted, kept-added}

-- the state and the ledger, place by place
record AllKept (p : Parameters) (public : List ℕ) (state : Given) (entries : List Entry) : Type 0 where
  same_length : length state ≡ length entries
  kept : (i : ℕ) → i < length state → Kept p public (get_or state i []) (get_or entries i no_entry)

-- what an accepted encryption gave
ciphertext_of : (a : Answer Encrypted) (c : List ℕ) → ciphertext_answer a ≡ accepted c → (e : Encrypted) × (a ≡ accepted e) × (e.ciphertext ≡ c)
unfolding ciphertext_answer
ciphertext_of (untouched k) c e = let z : ◌≡◌ {A = ℕ} 0 1 = cc in absurd (omega arith)
ciphertext_of (refused k) c e = let z : ◌≡◌ {A = ℕ} 0 1 = cc in absurd (omega arith)
ciphertext_of (accepted a) c e = (a, refl, cc)

module _ (p : Parameters) (set : AcceptedSet p) (public : List ℕ) where
  all_kept_append : (state : Given) (entries : List Entry) (c : List ℕ) (entry : Entry)
      → AllKept p public state entries → Kept p public c entry → AllKept p public (state ++ (c ∷ [])) (entries ++ (entry ∷ []))
  all_kept_append state entries c entry h last =
      record {
        same_length = rw (length-append state (c ∷ []), length-append entries (entry ∷ []), h.same_length);
        kept = λ i l.
            elim (dec_lt i (length state)) [
              | yes s ↦ rw (get_or-append state (c ∷ []) [] i s, get_or-append entries (entry ∷ []) no_entry i (omega (arith, h.same_length))) (h.kept i s)
              | no s ↦ let end : length state ≡ i = omega (arith, length-append state (c ∷ [])) in
                  rw (get_or_at state c [] [] i end, get_or_at entries entry [] no_entry i (omega (arith, h.same_length))) last
            ];
      }

  module _ (state : Given) (entries : List Entry) (h : AllKept p public state entries) where
    all_kept_accepted : (call : Call) (c : List ℕ) → call_answer p state call ≡ accepted c → FromListUnder public state call
        → AllKept p public (state ++ (c ∷ [])) (entry_after p entries (event_of call))
    unfolding call_answer operand_of FromListUnder FromList entry_after event_of
    all_kept_accepted (encrypt key message random ciphertext_len work_len) c e legal =
        let (encrypted, told, same) = ciphertext_of (encrypt_answer p key message random ciphertext_len work_len) c e in
        all_kept_append state entries c _ h
        (rw (same, legal) at (kept-encrypted p (accepted-set p set) key message random encrypted (encrypt-told p key message random ciphertext_len work_len encrypted told)))
    all_kept_accepted (addition (given i) (given j) sum_len) c e legal =
        all_kept_append state entries c _ h
        (kept-added p (accepted-set p set) public (get_or state i []) (get_or state j []) c _ _ (add-told p _ _ sum_len c e) (h.kept i legal.0) (h.kept j legal.1))
    all_kept_accepted (addition (given i) (other b) sum_len) c e legal = absurd legal.1
    all_kept_accepted (addition (other b) d sum_len) c e legal = absurd legal.0

    all_kept_call : (call : Call) (answered : Answer (List ℕ)) → call_answer p state call ≡ answered → LegalCall public state call answered
        → AllKept p public (output (λ c. state ++ (c ∷ [])) answered state) (entry_after p entries (output (λ c. event_of call) answered nothing))
    unfolding LegalCall entry_after
    all_kept_call call (untouched k) e legal = h
    all_kept_call call (refused k) e legal = h
    all_kept_call call (accepted c) e legal = all_kept_accepted call c e legal

  all_kept_calls : (calls : List Call) (state : Given) (entries : List Entry) → AllKept p public state entries → Legal p public state calls
      → AllKept p public (given_by p state calls) (ledger_from p entries (events p state calls))
  unfolding given_by given_after ledger_from events Legal
  all_kept_calls [] state entries h legal = h
  all_kept_calls (call ∷ calls) state entries h legal =
      all_kept_calls calls _ _ (all_kept_call state entries h call (call_answer p state call) refl legal.0) legal.1

pub ledger-holds : LedgerHolds
unfolding ledger
ledger-holds p set public calls legal =
    let none : AllKept p public [] [] = record { same_length = refl; kept = λ i l. absurd (omega arith) } in
    let h = all_kept_calls p set public calls [] [] none legal in
    (h.same_length, λ i l. kept-holds p public _ _ (h.kept i l))
