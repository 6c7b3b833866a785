-- Each turn stores the octets of its words behind those of the words before.
-- Assumes nothing.
use Rattle.std.proofs.Common.{◌≡◌, ℕ, List, ◌+◌, ◌*◌, ◌≤◌, length, sym, ◌∙◌, le_of_eq, le_refl, arith}
use native.Mathlib.Nat.{zero-mul}
use Rattle.definitions.specs.Sequences.{joined}
use Rattle.definitions.specs.Octets.{encoded}
use Rattle.definitions.proofs.Octets.{place_end, wide_room}
use Rattle.encoding.proofs.Laws.{encode_wide, encode_eight}
use Rattle.encoding.proofs.encode_by.Goals as goal

pub loop-j-init : goal.loop-j-init
unfolding encoded joined
loop-j-init g c = rw (zero-mul g.row.QLEN)

-- eight octets have room
room : (qlen m : ℕ) (words octets : List ℕ) → m + 8 ≤ length words → 1 ≤ qlen → length octets ≡ length words * qlen → m * qlen + 8 ≤ length octets
room qlen m words octets more pos sized = wide_room m qlen 8 more pos (le_of_eq (sym sized))

pub store_eight-requires : goal.store_eight-requires
store_eight-requires g c =
    room g.row.QLEN (2 * c.loop-j.j) c.args.words.now c.loop-j.octets (omega arith) c.requires.0 (c.loop-j.auto.octets ∙ c.requires.2)

pub loop-j-preserved : goal.loop-j-preserved
loop-j-preserved g c =
    let len = g.row.QLEN in
    let m = 2 * c.loop-j.j in
    let words = c.args.words.now in
    let l = c.loop-j in
    let space = room len m words l.octets (omega arith) c.requires.0 (l.auto.octets ∙ c.requires.2) in
    let next : 2 * (l.j + 1) ≡ m + 2 = omega arith in
    rw next (encode_eight m len words l.octets (omega arith) c.requires.1 space c.pair.ensures c.store_eight.ensures l.invariant)

pub loop-m-preserved : goal.loop-m-preserved
loop-m-preserved g c =
    let l = c.loop-m in
    let kept = l.auto.octets ∙ c.loop-j.auto.octets ∙ c.requires.2 in
    let room : l.m * g.row.QLEN + g.row.QLEN ≤ length l.octets = place_end l.m g.row.QLEN c.loop-m-test.true (le_of_eq (sym kept)) in
    encode_wide l.m g.row.QLEN g.row.QLEN c.args.words.now l.octets c.loop-m-test.true (le_refl g.row.QLEN) room c.store.ensures l.invariant
