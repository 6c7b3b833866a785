-- Why an element's octets hold its coefficients: those from a place on are counted from there.
--
--   decoded-drop     the coefficients from an element on;  decoded_element: and of its octets alone
-- Assumes nothing.
use Prim.Native.Nat.{ℕ, ◌+◌, ◌*◌, ◌≤◌}
use native.Mathlib.Nat.{le_of_eq}
use native.Mathlib.Omega.{arith}
use mathlib.Core.Path.{◌≡◌, sym, ◌∙◌, ap}
use mathlib.Core.List.{List}
use lib.ListN.{length, take, drop, length-drop, take-append-drop}
use lib.Seq.{drop-drop, length-take-le}
use Rattle.definitions.specs.Sequences.{tabulate}
use Rattle.definitions.specs.Octets.{number_of, coefficient_at, decoded}
use Rattle.definitions.specs.Calls.{polynomial_in}
use Rattle.definitions.proofs.Sums.{tabulate_cong}
use Rattle.definitions.proofs.Octets.{decoded-append}

pub decoded-drop : (qlen n element : ℕ) (octets : List ℕ) → decoded qlen n (drop (element * n * qlen) octets) ≡ tabulate n (polynomial_in n qlen octets element)
unfolding decoded coefficient_at
decoded-drop qlen n element octets =
    tabulate_cong n (λ k l.
    let here : element * n * qlen + k * qlen ≡ (element * n + k) * qlen = omega arith in
    ap (λ (s : List ℕ). number_of (take qlen s)) (drop-drop (k * qlen) (element * n * qlen) octets ∙ ap (λ (j : ℕ). drop j octets) here))

pub decoded_element : (qlen n element : ℕ) (octets : List ℕ) → element * n * qlen + n * qlen ≤ length octets
    → decoded qlen n (take (n * qlen) (drop (element * n * qlen) octets)) ≡ tabulate n (polynomial_in n qlen octets element)
decoded_element qlen n element octets room =
    let from : List ℕ = drop (element * n * qlen) octets in
    let whole : length (take (n * qlen) from) ≡ n * qlen = length-take-le (n * qlen) from (omega (arith, length-drop (element * n * qlen) octets)) in
    sym (decoded-append qlen n (take (n * qlen) from) (drop (n * qlen) from) (le_of_eq (sym whole)))
    ∙ ap (decoded qlen n) (take-append-drop (n * qlen) from)
    ∙ decoded-drop qlen n element octets
