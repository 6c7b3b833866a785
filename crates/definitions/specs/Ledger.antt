-- 01, "The book of sums": the list of calls, what it gives, and the ledger that is kept of it.
--
-- 01's book is the ledger here, and its forms are ciphertexts.
--
--   Operand          what an addition was lent: a ciphertext that the list gave, by its place, or any other octets
--   Call             an encryption or an addition, with what it was lent: the key octets and its buffers' lengths with it
--   Given            the ciphertexts given so far, oldest first: the state of the list
--   call_answer       the answer of a call, by the refusal table
--   given_after       the state after a call;  given_by: after a list of calls
--   Event            what the ledger is told of a call: nothing, a message, or which two ciphertexts were added
--   events           of a list of calls, in order
--   Entry            a count s, and a whole number for each place (01: a power of t)
--   ledger           the entries of a list of events, oldest first
--   Legal            each accepted encryption was lent the list's key, each accepted addition two ciphertexts of the list; a refused call may
--                    have been lent anything; the set is one for the whole list. The list starts with nothing given: the state [] (Demand3.antt)
-- Assumes nothing.
use Rattle.std.specs.Prelude.{ℕ, ◌+◌, ◌<◌, ◌≡◌, List, [], ◌∷◌, ◌++◌, length, get_or}
use Rattle.definitions.specs.Refusals.{Answer, untouched, refused, accepted, output}
use Rattle.definitions.specs.Parameters.{Parameters}
use Rattle.definitions.specs.Ring.{Element, add}
use Rattle.definitions.specs.Calls.{Encrypted, small_of, encrypt_answer, add_answer}

pub data Operand : Type 0 where
  given : ℕ → Operand
  other : List ℕ → Operand

pub data Call : Type 0 where
  encrypt : (key message random : List ℕ) (ciphertext_len work_len : ℕ) → Call
  addition : (a b : Operand) (sum_len : ℕ) → Call

abbrev pub Given : Type 0
Given = List (List ℕ)

unfoldable pub operand_of : Given → Operand → List ℕ
operand_of state (given i) = get_or state i []
operand_of state (other octets) = octets

-- the ciphertext that a call gives, or its refusal
unfoldable pub ciphertext_answer : Answer Encrypted → Answer (List ℕ)
ciphertext_answer (untouched k) = untouched k
ciphertext_answer (refused k) = refused k
ciphertext_answer (accepted e) = accepted e.ciphertext

unfoldable pub call_answer : Parameters → Given → Call → Answer (List ℕ)
call_answer p state (encrypt key message random ciphertext_len work_len) =
    ciphertext_answer (encrypt_answer p key message random ciphertext_len work_len)
call_answer p state (addition a b sum_len) = add_answer p (operand_of state a) (operand_of state b) sum_len

unfoldable pub given_after : Parameters → Given → Call → Given
given_after p state call = output (λ c. state ++ (c ∷ [])) (call_answer p state call) state

unfoldable pub given_by : Parameters → Given → List Call → Given
given_by p state [] = state
given_by p state (call ∷ calls) = given_by p (given_after p state call) calls

pub data Event : Type 0 where
  nothing : Event
  encrypted : List ℕ → Event
  added : ℕ → ℕ → Event

-- what the ledger is told of a call that is accepted; an addition of other octets is in no legal list
unfoldable pub event_of : Call → Event
event_of (encrypt key message random ciphertext_len work_len) = encrypted message
event_of (addition (given i) (given j) sum_len) = added i j
event_of (addition (given i) (other b) sum_len) = nothing
event_of (addition (other a) b sum_len) = nothing

unfoldable pub events : Parameters → Given → List Call → List Event
events p state [] = []
events p state (call ∷ calls) =
    output (λ c. event_of call) (call_answer p state call) nothing ∷ events p (given_after p state call) calls

pub record Entry : Type 0 where
  pub count : ℕ
  pub places : Element

abbrev pub no_entry : Entry
no_entry = record { count = 0; places = λ k. 0 }

abbrev pub entry_sum : Entry → Entry → Entry
entry_sum a b = record { count = a.count + b.count; places = add a.places b.places }

unfoldable pub entry_after : Parameters → List Entry → Event → List Entry
entry_after p entries nothing = entries
entry_after p entries (encrypted message) = entries ++ (record { count = 1; places = small_of p message } ∷ [])
entry_after p entries (added i j) = entries ++ (entry_sum (get_or entries i no_entry) (get_or entries j no_entry) ∷ [])

unfoldable pub ledger_from : Parameters → List Entry → List Event → List Entry
ledger_from p entries [] = entries
ledger_from p entries (event ∷ later) = ledger_from p (entry_after p entries event) later

unfoldable pub ledger : Parameters → List Event → List Entry
ledger p list = ledger_from p [] list

-- an operand is a ciphertext that the list gave
unfoldable pub FromList : Given → Operand → Type 0
FromList state (given i) = i < length state
FromList state (other octets) = ⊥

-- what is asked of a call that is accepted: an encryption is under the list's key, an addition of ciphertexts that the list gave
unfoldable pub FromListUnder : List ℕ → Given → Call → Type 0
FromListUnder public state (encrypt key message random ciphertext_len work_len) = key ≡ public
FromListUnder public state (addition a b sum_len) = FromList state a × FromList state b

unfoldable pub LegalCall : List ℕ → Given → Call → Answer (List ℕ) → Type 0
LegalCall public state call (untouched k) = Unit {0}
LegalCall public state call (refused k) = Unit {0}
LegalCall public state call (accepted c) = FromListUnder public state call

unfoldable pub Legal : Parameters → List ℕ → Given → List Call → Type 0
Legal p public state [] = Unit {0}
Legal p public state (call ∷ calls) =
    LegalCall public state call (call_answer p state call) × Legal p public (given_after p state call) calls
