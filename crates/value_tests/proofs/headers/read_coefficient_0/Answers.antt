-- The header is a coded frame's: the bit that was read is the first of its bytes.
use Rattle.std.proofs.Common.{get_or, ap, sym, ◌∙◌}
use Rattle.dst_spec.specs.Bits.{bits, number_from}
use Rattle.dst_spec.proofs.Meaning.{first_number}
use Rattle.value_tests.proofs.headers.read_coefficient_0.Goals as goal

pub read_header-requires-clause-coded : goal.read_header-requires-clause-coded
read_header-requires-clause-coded c =
    let r = c.new-reader.result in
    let a = c.in-Some-eq1 in
    ap (λ x. get_or (bits x) 0 0) a.ensures.bytes ∙ sym (first_number (bits r.bytes))
    ∙ ap (λ i. number_from (bits r.bytes) i 1) (sym c.new-reader.ensures.place) ∙ sym a.ensures.number ∙ a.field-0-test
