-- A group of coefficients by lanes: lane k has every fourth coefficient from coefficient k on, so 4 × b bits for each.
--
--   lane_from         the number of every fourth coefficient from a place on, so many of them
--   lanes_in          the four lanes of the coefficients, so many rows of four
--   lane_number       the number of the four lanes of a group, where the lanes of the groups stand behind each other
--   group_number      the number of a group of coefficients
-- Assumes nothing.
use Rattle.std.specs.Prelude.{ℕ, ◌+◌, ◌*◌, ◌^◌, List, [], ◌∷◌, get_or, take, drop}
use Rattle.definitions.specs.Sequences.{sum}
use Rattle.packing.specs.Fields.{value_in}

unfoldable pub lane_from : ℕ → ℕ → ℕ → List ℕ → ℕ
lane_from b rows from words = sum rows (λ j. get_or words (from + j * 4) 0 * 2 ^ (j * 4 * b))

unfoldable pub lanes_in : ℕ → ℕ → List ℕ → List ℕ
lanes_in b rows words = lane_from b rows 0 words ∷ lane_from b rows 1 words ∷ lane_from b rows 2 words ∷ lane_from b rows 3 words ∷ []

unfoldable pub lane_number : ℕ → List ℕ → ℕ → ℕ
lane_number b lanes g = value_in b (take 4 (drop (g * 4) lanes))

unfoldable pub group_number : ℕ → ℕ → List ℕ → ℕ → ℕ
group_number b size words g = value_in b (take size (drop (g * size) words))
