-- `keygen_exact` is right because what it refuses leaves the outputs as they were, and all is drawn where it writes them.
-- Assumes nothing.
use Rattle.std.proofs.Common.{ℕ, List, ◌≡◌, ◌+◌, ◌*◌, true, length, ap, ◌∙◌}
use lib.ListN.{replicate}
use Rattle.definitions.specs.Parameters.{Parameters, small_length, secret_length, public_length, work_length}
use Rattle.definitions.specs.Calls.{keys_exact}
use Rattle.definitions.proofs.Calls.{keys_exact-told}
use Rattle.key_generation.proofs.Returns.{keygen-refused, keygen-written}
use Rattle.key_generation.proofs.keygen_exact.Goals as goal

exact : (p : Parameters) (secret public work : List ℕ) → keys_exact p (length secret) (length public) (length work) ≡ true
    → (length secret ≡ small_length p + small_length p) × (length public ≡ public_length p) × (length work ≡ 8 * p.n)
unfolding secret_length work_length
exact p secret public work e = keys_exact-told p e

pub draw_keys-requires : goal.draw_keys-requires
draw_keys-requires c = (exact _ _ _ _ c.requires).2

pub returns-in-Err : goal.returns-in-Err
returns-in-Err c =
    rw c.cleared.ensures.0
    (keygen-refused _ _ _ _ _ _ _ _ c.args.p.accepted c.requires c.in-Err.ensures.drawn
    (c.cleared.ensures.1 ∙ ap (λ (m : ℕ). replicate m 0) c.draw_keys.auto.work))

pub write_secret-requires : goal.write_secret-requires
write_secret-requires c = (
  c.in-Ok.ensures.ready,
  (exact _ _ _ _ c.requires).0,
)

pub write_public-requires : goal.write_public-requires
write_public-requires c = (
  c.in-Ok.ensures.ready,
  (exact _ _ _ _ c.requires).1,
)

pub returns : goal.returns
returns c =
    rw c.cleared-2.ensures.0
    (keygen-written _ _ _ _ _ _ _ _ c.args.p.accepted c.requires _ c.in-Ok.ensures.drawn c.write_secret.ensures c.write_public.ensures
    (c.cleared-2.ensures.1 ∙ ap (λ (m : ℕ). replicate m 0) (c.write_public.auto.work ∙ c.draw_keys.auto.work)))
