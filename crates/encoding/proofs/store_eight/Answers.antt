-- `encoding::store_eight` is right because the octets of a number as std writes it are put into the octets' place.
-- Assumes nothing.
use Rattle.std.proofs.Common.{◌∙◌}
use Rattle.encoding.proofs.Laws.{octets_of-std, stored_part}
use Rattle.encoding.proofs.store_eight.Goals as goal

pub returns : goal.returns
returns c =
    let a = c.args in
    stored_part a.at 8 a.x a.octets.now (c.copy_from_slice.ensures.after ∙ c.to_le_bytes.ensures ∙ octets_of-std 8 a.x)
