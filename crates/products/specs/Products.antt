-- What a product in R_q asks of the work words and leaves in them.
--
--   ProductFits      the three elements of a × b + c stand in the words, a and c below q and b below its bound
--   with_product      the words with a × b + c where c stood
--   MultipliedInPlace what 02, Q-8 asks of the three: the words of c hold a × b + c in R_q, and those of a and of b what they held
-- Assumes nothing.
use Rattle.std.specs.Prelude.{ℕ, ◌+◌, ◌≤◌, ◌<◌, ◌≡◌, List, length}
use Rattle.definitions.specs.Ring.{InRing, multiply_add}
use Rattle.ring.specs.Work.{part, product_added}
use Rattle.products.specs.declared.Product.{Product}
use Rattle.reduction.specs.declared.Modulus.{Modulus}

pub record ProductFits (p : Product) (modulus : Modulus) (work : List ℕ) : Type 0 where
  pub first : p.a + p.n ≤ length work
  pub second : p.b + p.n ≤ length work
  pub third : p.c + p.n ≤ length work
  pub top_least : 0 < p.top
  pub top_most : p.top ≤ modulus.q
  pub first_ring : InRing modulus.q p.n (part work p.a)
  pub second_ring : InRing p.top p.n (part work p.b)
  pub third_ring : InRing modulus.q p.n (part work p.c)

abbrev pub with_product : Product → ℕ → List ℕ → List ℕ
with_product p q work = product_added p.n q p.a p.b p.c work

pub record MultipliedInPlace (q n a b c : ℕ) (old new : List ℕ) : Type 0 where
  pub holds : (k : ℕ) → k < n → part new c k ≡ multiply_add q n (part old a) (part old b) (part old c) k
  pub first-stays : (k : ℕ) → k < n → part new a k ≡ part old a k
  pub second-stays : (k : ℕ) → k < n → part new b k ≡ part old b k
