-- A turn adds one coefficient to each of the four sums, and 32 bits hold all of them together.
-- Assumes nothing.
use Rattle.std.proofs.Common.{ℕ, ◌+◌, ◌*◌, ◌%◌, ◌^◌, ◌<◌, ◌≡◌, length, get_or, refl, arith}
use Rattle.definitions.specs.Sequences.{sum}
use Rattle.packing.specs.Lanes.{lane_from, lanes_in}
use Rattle.packing.proofs.Lanes.{lane_step, lane_fits, lanes_stored}
use Rattle.packing.proofs.collect.Goals as goal
use Rattle.packing.proofs.collect.Goals.{In-loop-j}

-- a sum with the coefficient of this row
turn : (c : In-loop-j) (from row : ℕ) {x : ℕ} → row < length c.args.words.now → row ≡ from + c.loop-j.j * 4
    → x ≡ lane_from c.args.b c.loop-j.j from c.args.words.now
    → x + get_or c.args.words.now row 0 * 2 ^ (c.loop-j.j * 4 * c.args.b) % 4294967296 ≡ lane_from c.args.b (c.loop-j.j + 1) from c.args.words.now
turn c from row = lane_step c.args.words.now from c.args.b c.args.rows c.loop-j.j c.requires.5 c.requires.2 c.loop-j-test.true

fits : (c : In-loop-j) (i : ℕ) → get_or (lanes_in c.args.b (c.loop-j.j + 1) c.args.words.now) i 0 < 4294967296
fits c = lane_fits c.args.words.now c.args.b (c.loop-j.j + 1) c.args.rows c.requires.5 (omega arith) c.requires.2 c.requires.3

pub loop-j-init : goal.loop-j-init
unfolding lane_from sum
loop-j-init c = (refl, refl, refl, refl)

pub loop-j-preserved : goal.loop-j-preserved
loop-j-preserved c =
    let i = (goal.at.loop-j-preserved c).In-loop-j in
    let row = i.loop-j.j * 4 in (
      turn i 0 row (omega arith) (omega arith) i.loop-j.invariant.0,
      turn i 1 (row + 1) (omega arith) (omega arith) i.loop-j.invariant.1,
      turn i 2 (row + 2) (omega arith) (omega arith) i.loop-j.invariant.2,
      turn i 3 (row + 3) (omega arith) (omega arith) i.loop-j.invariant.3,
    )

pub returns : goal.returns
returns c =
    let end : c.args.rows ≡ c.loop-j.j = omega arith in
    let l = c.loop-j.invariant in
    rw end (lanes_stored c.args.lanes.now _ _ c.args.words.now c.requires.4 l.0 l.1 l.2 l.3)

pub overflow_add-first : goal.overflow_add-first
unfolding lanes_in
overflow_add-first c =
    let i = (goal.at.overflow_add-first c).In-loop-j in
    record { fits = rw (turn i 0 (i.loop-j.j * 4) (omega arith) (omega arith) i.loop-j.invariant.0) (fits i 0) }

pub overflow_add-second-in-loop-j : goal.overflow_add-second-in-loop-j
unfolding lanes_in
overflow_add-second-in-loop-j c =
    let i = (goal.at.overflow_add-second-in-loop-j c).In-loop-j in
    record { fits = rw (turn i 1 (i.loop-j.j * 4 + 1) (omega arith) (omega arith) i.loop-j.invariant.1) (fits i 1) }

pub overflow_add-third-in-loop-j : goal.overflow_add-third-in-loop-j
unfolding lanes_in
overflow_add-third-in-loop-j c =
    let i = (goal.at.overflow_add-third-in-loop-j c).In-loop-j in
    record { fits = rw (turn i 2 (i.loop-j.j * 4 + 2) (omega arith) (omega arith) i.loop-j.invariant.2) (fits i 2) }

pub overflow_add-fourth-in-loop-j : goal.overflow_add-fourth-in-loop-j
unfolding lanes_in
overflow_add-fourth-in-loop-j c =
    let i = (goal.at.overflow_add-fourth-in-loop-j c).In-loop-j in
    record { fits = rw (turn i 3 (i.loop-j.j * 4 + 3) (omega arith) (omega arith) i.loop-j.invariant.3) (fits i 3) }
