-- `encode_element` encodes the words of part 7 over the octets of the m-th element.
-- Assumes nothing.
use Rattle.std.proofs.Common.{ℕ, ◌+◌, ◌*◌, ◌≤◌, sym, ◌∙◌, ap, length, arith}
use native.Mathlib.Nat.{mul-le-mul}
use Rattle.definitions.specs.Octets.{encoded}
use Rattle.definitions.proofs.Parameters.{accepted-set, modulus_positive, modulus_word, qlen-least, qlen-most}
use Rattle.definitions.proofs.Filling.{length_borrowed}
use Rattle.parameters.specs.Answers.{set_from}
use Rattle.mask_products.specs.Products.{sum_in}
use Rattle.mask_products.proofs.Sums.{work_words}
use Rattle.ciphertext_elements.proofs.Ciphertext.{ciphertext-room, borrowed_element, element_written}
use Rattle.ciphertext_elements.proofs.Elements.{count_most}
use Rattle.ciphertext_elements.proofs.encode_element.Goals as goal
use Rattle.ciphertext_elements.proofs.encode_element.Goals.{After-octets_of_coefficient-width}

-- the element's octets lie inside the ciphertext
inside : (c : After-octets_of_coefficient-width) →
    c.args.m * c.args.p.set.n * c.octets_of_coefficient-width.result + c.args.p.set.n * c.octets_of_coefficient-width.result ≤ length c.args.ciphertext.now
inside c = ciphertext-room (set_from c.args.p) c.args.ciphertext.now c.requires.element.0 c.octets_of_coefficient-width.ensures c.requires.element.1

pub overflow_mul-from : goal.overflow_mul-from
overflow_mul-from c =
    let set = accepted-set (set_from c.args.p) c.args.p.accepted in
    let few : c.args.m ≤ 15 = omega (arith, count_most _ set, c.requires.element.0) in
    record { fits = omega (arith, mul-le-mul few set.ring_most) }

pub overflow_mul-from-2 : goal.overflow_mul-from-2
overflow_mul-from-2 c = record { fits = omega (arith, inside (goal.at.overflow_mul-from-2 c).After-octets_of_coefficient-width) }

pub overflow_mul-end : goal.overflow_mul-end
overflow_mul-end c = record { fits = omega (arith, inside (goal.at.overflow_mul-end c).After-octets_of_coefficient-width) }

pub overflow_add-end : goal.overflow_add-end
overflow_add-end c = record { fits = omega (arith, inside (goal.at.overflow_add-end c).After-octets_of_coefficient-width) }

pub slice_bounds-encode-end : goal.slice_bounds-encode-end
slice_bounds-encode-end c = omega (arith, work_words (set_from c.args.p) c.args.work.now c.requires.work_exact)

pub slice_bounds-encode-end-2 : goal.slice_bounds-encode-end-2
slice_bounds-encode-end-2 c = omega (arith, inside (goal.at.slice_bounds-encode-end-2 c).After-octets_of_coefficient-width)

pub returns : goal.returns
returns c =
    let p = set_from c.args.p in
    let n = c.args.p.set.n in
    element_written n c.args.m (sum_in p c.args.work.now) c.args.ciphertext.now c.octets_of_coefficient-width.ensures
    (c.encode.ensures
    ∙ ap (encoded c.octets_of_coefficient-width.result)
    (borrowed_element (7 * n) n c.args.work.now (omega (arith, work_words p c.args.work.now c.requires.work_exact))))

pub encode-requires : goal.encode-requires
encode-requires c =
    let known = (goal.at.encode-requires c).After-octets_of_coefficient-width in
    let p = set_from c.args.p in
    let set = accepted-set p c.args.p.accepted in
    let n = c.args.p.set.n in
    let width = c.octets_of_coefficient-width.result in (
      omega (arith, c.octets_of_coefficient-width.ensures, qlen-least _ (modulus_positive _ set) (modulus_word _ set)),
      omega (arith, c.octets_of_coefficient-width.ensures, qlen-most c.args.p.set.q),
      length_borrowed (c.args.m * n * width) (n * width) c.args.ciphertext.now (inside known)
          ∙ ap (λ (x : ℕ). x * width) (sym (length_borrowed (7 * n) n c.args.work.now (omega (arith, work_words p c.args.work.now c.requires.work_exact)))),
    )
