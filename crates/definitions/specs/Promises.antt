-- What each call promises, as one equation over its arguments as a contract sees them: what the caller has at exit, the number, every output,
-- the work words and, where a request asks for it, what stays, is what 01 and 02 define from what was lent at entry.
--
--   Read             octets or words lent to be read;  given, kept: what they hold at entry, and at exit
--   Borrowed         what is lent to be written, at entry and at exit;  Buffer: octets or words;  Cell: a number behind a pointer
--   before, after    what a buffer or a cell holds at entry, and at exit
--   Bounds, Measures the set's bound and headroom; its lengths
--   Makes            key generation (01: key making);  TellsZero: the zero test;  Encrypts: encryption (sealing);  Adds: addition;
--                    Decrypts: decryption (opening)
--   MultipliesAndAdds a × b + c over words (02, Q-8)
--   Decodes, Encodes so many ring elements from octets, and to octets;  Unpacks, Packs: so many packed small elements
-- The number that the call answers comes last.
-- Assumes nothing.
use Rattle.std.specs.Prelude.{ℕ, ◌≡◌, List}
use Rattle.std.specs.Borrow.{Bor, MutBor}
use denote.Triple.Both.{Both}
use Rattle.definitions.specs.Parameters.{Parameters, LimitsExit, limits_exit, LengthsExit, lengths_exit}
use Rattle.definitions.specs.Calls.{KeygenExit, keygen_exit, IsZeroExit, is_zero_exit, EncryptExit, encrypt_exit, AddExit, add_exit, DecryptExit, decrypt_exit}
use Rattle.definitions.specs.MultiplyAdd.{MultiplyAddExit, multiply_add_exit}
use Rattle.definitions.specs.Conversions.{ConversionExit, from_octets_exit, to_octets_exit, packed_from_exit, packed_to_exit}

abbrev pub Read : Type 0
Read = Both (Bor (List ℕ)) (Bor (List ℕ))

abbrev pub Borrowed : Type 0 → Type 0
Borrowed A = Both (MutBor A) (MutBor A)

abbrev pub Buffer : Type 0
Buffer = Borrowed (List ℕ)

abbrev pub Cell : Type 0
Cell = Borrowed ℕ

abbrev pub given : Read → List ℕ
given x = x.entry.now

abbrev pub kept : Read → List ℕ
kept x = x.exit.now

abbrev pub before : {A : Type 0} → Borrowed A → A
before x = x.entry.now

abbrev pub after : {A : Type 0} → Borrowed A → A
after x = x.exit.now

abbrev pub Bounds : Parameters → Cell → Cell → ℕ → Type 0
Bounds p bound headroom r =
    ◌≡◌ {A = LimitsExit}
    (record { refusal = r; limits = record { bound = after bound; headroom = after headroom } })
    (limits_exit p (record { bound = before bound; headroom = before headroom }))

abbrev pub Measures : Parameters → Cell → Cell → Cell → Cell → Cell → ℕ → Type 0
Measures p secret public message ciphertext work r =
    ◌≡◌ {A = LengthsExit}
    (record {
      refusal = r;
      lengths = record { secret = after secret; public = after public; message = after message; ciphertext = after ciphertext; work = after work };
    })
    (lengths_exit p
    (record { secret = before secret; public = before public; message = before message; ciphertext = before ciphertext; work = before work }))

abbrev pub Makes : Parameters → Read → Buffer → Buffer → Buffer → Cell → Cell → Cell → ℕ → Type 0
Makes p random secret public work used dropped_groups dropped_elements r =
    ◌≡◌ {A = KeygenExit}
    (record {
      refusal = r;
      secret = after secret;
      public = after public;
      used = after used;
      dropped_groups = after dropped_groups;
      dropped_elements = after dropped_elements;
      work = after work;
    })
    (keygen_exit p (given random) (before secret) (before public) (before used) (before dropped_groups) (before dropped_elements) (before work))

abbrev pub TellsZero : Parameters → Read → Read → Buffer → Cell → ℕ → Type 0
TellsZero p secret public work zero r =
    ◌≡◌ {A = IsZeroExit}
    (record { refusal = r; zero = after zero; work = after work })
    (is_zero_exit p (given secret) (given public) (before zero) (before work))

abbrev pub Encrypts : Parameters → Read → Read → Read → Buffer → Buffer → Cell → Cell → ℕ → Type 0
Encrypts p public message random ciphertext work used dropped_groups r =
    ◌≡◌ {A = EncryptExit}
    (record { refusal = r; ciphertext = after ciphertext; used = after used; dropped_groups = after dropped_groups; work = after work })
    (encrypt_exit p (given public) (given message) (given random) (before ciphertext) (before used) (before dropped_groups) (before work))

abbrev pub Adds : Parameters → Read → Read → Buffer → ℕ → Type 0
Adds p a b sum r = ◌≡◌ {A = AddExit} (record { refusal = r; sum = after sum }) (add_exit p (given a) (given b) (before sum))

abbrev pub Decrypts : Parameters → Read → Read → Buffer → Buffer → ℕ → Type 0
Decrypts p secret ciphertext message work r =
    ◌≡◌ {A = DecryptExit}
    (record { refusal = r; message = after message; work = after work })
    (decrypt_exit p (given secret) (given ciphertext) (before message) (before work))

abbrev pub MultipliesAndAdds : Parameters → Read → Read → Buffer → ℕ → Type 0
MultipliesAndAdds p a b c r =
    ◌≡◌ {A = MultiplyAddExit}
    (record { refusal = r; a = kept a; b = kept b; c = after c })
    (multiply_add_exit p (given a) (given b) (before c))

-- a conversion by what it leaves: from the buffer given to the one lent for its output
abbrev pub Converts : (Parameters → ℕ → List ℕ → List ℕ → ConversionExit) → Parameters → ℕ → Read → Buffer → ℕ → Type 0
Converts exit p elements source out r = record { refusal = r; converted = after out } ≡ exit p elements (given source) (before out)

abbrev pub Decodes : Parameters → ℕ → Read → Buffer → ℕ → Type 0
Decodes = Converts from_octets_exit

abbrev pub Encodes : Parameters → ℕ → Read → Buffer → ℕ → Type 0
Encodes = Converts to_octets_exit

abbrev pub Unpacks : Parameters → ℕ → Read → Buffer → ℕ → Type 0
Unpacks = Converts packed_from_exit

abbrev pub Packs : Parameters → ℕ → Read → Buffer → ℕ → Type 0
Packs = Converts packed_to_exit
