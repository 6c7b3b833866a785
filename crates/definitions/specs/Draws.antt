-- 01, "Draws from lent random octets", with 02, Q-1 and Q-3: what is drawn, how many octets that takes, and how many groups and elements are
-- dropped.
--
--   grouped          each complete group of so many octets, read by a rule
--   Drawn            the values kept, the groups taken (dropped ones with them, also those of a draw left unfinished), how many of these were
--                    dropped, and whether they were enough;  keep, discard: one group more in front, that is kept or dropped
--   draws            so many draws from candidates of any type, here groups read as numbers or as elements: one that does not pass a test is
--                    dropped and the next is taken; where the candidates end first they were not enough
--   group_number      a group as a number, reduced modulo 2 to the bit length of q
--   draws_below       so many draws below q, from groups of qlen octets
--   draw_below        a single one;  octets_used: the octets that draws below q used
--   small_drawn       a small element of drawn octets; their unused top bits are ignored
--   secret_draws      so many draws of an element of a secret, from groups of ⌈n × b / 8⌉ octets: one that has not degree n - 1 is dropped whole;
--                    elements_used: the octets that they used
--   noise_drawn       a noise element, from the front of octets: none is dropped (02, Q-3 speaks of u_x and u_y; case 3 has noise with a zero top)
-- Assumes nothing.
use Rattle.std.specs.Prelude.{ℕ, zero, suc, ◌*◌, ◌/◌, ◌%◌, ◌^◌, Bool, true, false, cond, List, [], ◌∷◌, ltb, length, take, drop}
use Rattle.definitions.specs.Sequences.{tabulate}
use Rattle.definitions.specs.Parameters.{Parameters, small_bits, small_length, bit_length, qlen}
use Rattle.definitions.specs.Ring.{element_of, full_degree}
use Rattle.definitions.specs.Octets.{number_of, unpacked}

unfoldable pub grouped : {A : Type 0} → ℕ → (List ℕ → A) → List ℕ → List A
grouped len read octets = tabulate (length octets / len) (λ i. read (take len (drop (i * len) octets)))

pub record Drawn (A : Type 0) : Type 0 where
  pub values : List A
  pub groups : ℕ
  pub dropped : ℕ
  pub enough : Bool

abbrev pub keep : {A : Type 0} → A → Drawn A → Drawn A
keep x rest = record { values = x ∷ rest.values; groups = suc rest.groups; dropped = rest.dropped; enough = rest.enough }

abbrev pub discard : {A : Type 0} → Drawn A → Drawn A
discard rest = record { values = rest.values; groups = suc rest.groups; dropped = suc rest.dropped; enough = rest.enough }

unfoldable pub draws : {A : Type 0} → (A → Bool) → ℕ → List A → Drawn A
draws passes zero candidates = record { values = []; groups = 0; dropped = 0; enough = true }
draws passes (suc count) [] = record { values = []; groups = 0; dropped = 0; enough = false }
draws passes (suc count) (x ∷ later) = cond (passes x) (keep x (draws passes count later)) (discard (draws passes (suc count) later))

abbrev pub group_number : ℕ → List ℕ → ℕ
group_number q group = number_of group % 2 ^ bit_length q

unfoldable pub draws_below : ℕ → ℕ → List ℕ → Drawn ℕ
draws_below q count random = draws (λ x. ltb x q) count (grouped (qlen q) (group_number q) random)

abbrev pub draw_below : ℕ → List ℕ → Drawn ℕ
draw_below q random = draws_below q 1 random

abbrev pub octets_used : ℕ → Drawn ℕ → ℕ
octets_used q drawn = qlen q * drawn.groups

unfoldable pub small_drawn : Parameters → List ℕ → List ℕ
small_drawn p octets = unpacked (small_bits p.l) p.n octets

unfoldable pub secret_draws : Parameters → ℕ → List ℕ → Drawn (List ℕ)
secret_draws p count random = draws (λ u. full_degree p.n (element_of u)) count (grouped (small_length p) (small_drawn p) random)

abbrev pub elements_used : Parameters → Drawn (List ℕ) → ℕ
elements_used p drawn = small_length p * drawn.groups

unfoldable pub noise_drawn : Parameters → List ℕ → List ℕ
noise_drawn p random = small_drawn p (take (small_length p) random)
