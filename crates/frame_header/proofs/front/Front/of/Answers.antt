-- Four ones are the first bit and both segmentations; the maps and half bits behind them have room in 60 bits.
use Rattle.std.proofs.Common.{◌≡◌, ◌++◌, [], ◌∷◌, map, refl, ap, ap₂, ◌∙◌, arith}
use Rattle.dst_spec.specs.Bits.{low_bits}
use Rattle.dst_spec.specs.Header.{bit_of}
use Rattle.dst_spec.proofs.Numbers.{length-low_bits}
use Rattle.frame_header.specs.Written.{both_maps_spelling, front_spelling}
use Rattle.frame_header.proofs.front.Front.of.Goals as goal

pub put_maps-requires-clause-room : goal.put_maps-requires-clause-room
put_maps-requires-clause-room c = omega (arith, length-low_bits 4 15)

pub put_half_bits-requires-clause-room : goal.put_half_bits-requires-clause-room
put_half_bits-requires-clause-room c = omega (arith, length-low_bits 4 15, c.put_maps.ensures.short)

four_ones : low_bits 4 15 ≡ 1 ∷ 1 ∷ 1 ∷ 1 ∷ []
unfolding low_bits
four_ones = refl

pub returns : goal.returns
returns c =
    let m = c.params.inside in
    let maps : c.put_maps.new.self ≡ (1 ∷ 1 ∷ 1 ∷ 1 ∷ []) ++ both_maps_spelling m.filter_map m.prob_map =
    c.put_maps.ensures.bits ∙ ap (λ xs. xs ++ both_maps_spelling c.elements.result.now c.elements-2.result.now) four_ones
    ∙ ap₂ (λ a b. (1 ∷ 1 ∷ 1 ∷ 1 ∷ []) ++ both_maps_spelling a b) c.elements.ensures.elements c.elements-2.ensures.elements in
    record {
      bits = c.put_half_bits.ensures ∙ ap₂ (λ xs half_prob. xs ++ map bit_of half_prob) maps c.as_slice.ensures.value
          ∙ ap front_spelling c.params.view_is;
    }
