-- A space or the end closes the field, an octet that is no digit or takes the number past the largest spoils it, and any other goes on.
-- Assumes nothing.
use Rattle.std.proofs.Common.{◌≡◌, length, arith}
use borrow.Author.Tests.{le-leb, lt-leb}
use Rattle.roomsheet_parse.proofs.Parts.{up_to-drop_end, up_to-drop_hit, up_to-drop_miss}
use Rattle.roomsheet_parse.proofs.Numbers.{reading_start, reading_end, reading_stop, reading_next}
use Rattle.roomsheet_parse.proofs.read_digits.Goals as goal

pub loop-i-init : goal.loop-i-init
loop-i-init c = reading_start _ _ c.requires

pub returns-then-c-eq-SPACE : goal.returns-then-c-eq-SPACE
returns-then-c-eq-SPACE c =
    reading_end _ _ _ _ c.loop-i.invariant (up_to-drop_hit 32 _ _ c.loop-i-test.true c.if-c-eq-SPACE.true)

pub returns-then-c-lt-ZERO : goal.returns-then-c-lt-ZERO
returns-then-c-lt-ZERO c =
    reading_stop _ _ _ _ c.loop-i.invariant _ _ (up_to-drop_miss 32 _ _ c.loop-i-test.true c.if-c-eq-SPACE.false)
    (rw (lt-leb _ _ c.if-c-lt-ZERO.true))

pub returns-then-c-gt-NINE : goal.returns-then-c-gt-NINE
returns-then-c-gt-NINE c =
    reading_stop _ _ _ _ c.loop-i.invariant _ _ (up_to-drop_miss 32 _ _ c.loop-i-test.true c.if-c-eq-SPACE.false)
    (rw (le-leb _ _ c.if-c-lt-ZERO.false, lt-leb _ _ c.if-c-gt-NINE.true))

pub returns-then-value-gt-NUMBER_MOST : goal.returns-then-value-gt-NUMBER_MOST
returns-then-value-gt-NUMBER_MOST c =
    reading_stop _ _ _ _ c.loop-i.invariant _ _ (up_to-drop_miss 32 _ _ c.loop-i-test.true c.if-c-eq-SPACE.false)
    (rw (le-leb _ _ c.if-c-lt-ZERO.false, le-leb _ _ c.if-c-gt-NINE.false, lt-leb _ _ c.if-value-gt-NUMBER_MOST.true))

pub loop-i-preserved : goal.loop-i-preserved
loop-i-preserved c =
    reading_next _ _ _ _ c.loop-i.invariant _ (up_to-drop_miss 32 _ _ c.loop-i-test.true c.if-c-eq-SPACE.false) c.loop-i-test.true
    (rw (le-leb _ _ c.if-c-lt-ZERO.false, le-leb _ _ c.if-c-gt-NINE.false)) c.if-value-gt-NUMBER_MOST.false

pub returns : goal.returns
returns c =
    let end : c.loop-i.i ≡ length c.args.line.now = omega (arith, c.loop-i.invariant.within) in
    rw end at (reading_end _ _ _ _ c.loop-i.invariant (up_to-drop_end 32 c.args.line.now c.loop-i.i (omega (arith, end))))
