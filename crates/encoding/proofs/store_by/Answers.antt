-- `encoding::store_by` is right because the first octets of a number as std writes it are put into the octets' place.
-- Assumes nothing.
use Rattle.std.proofs.Common.{take, ap, ◌∙◌}
use Rattle.encoding.proofs.Laws.{octets_of-std, octets_of-take, stored_part}
use Rattle.encoding.proofs.store_by.Goals as goal

pub returns : goal.returns
returns g c =
    let a = c.args in
    stored_part a.at g.row.LEN a.x a.octets.now
    (c.copy_from_slice.ensures.after ∙ ap (take g.row.LEN) (c.to_le_bytes.ensures ∙ octets_of-std 4 a.x) ∙ octets_of-take g.row.LEN 4 a.x c.requires.0)
