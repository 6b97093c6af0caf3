-- Equal maps are spelled once behind a bit 1, others one after the other behind a bit 0.
use Rattle.std.proofs.Common.{◌≡◌, true, false, cond, ◌++◌, ◌∷◌, [], List, ℕ, append_assoc, ap, sym, ◌∙◌}
use Rattle.dst_spec.specs.Bits.{low_bits}
use Rattle.dst_spec.specs.Spell.{map_spelling, same_numbers}
use Rattle.frame_header.specs.Written.{both_maps_spelling}
use Rattle.frame_header.proofs.front.Front.put_maps.Goals as goal

spelled_once : (old mid next a b : List ℕ) → same_numbers a b ≡ true → mid ≡ old ++ low_bits 1 1 → next ≡ mid ++ map_spelling a →
    next ≡ old ++ both_maps_spelling a b
unfolding low_bits
spelled_once old mid next a b same first put =
    put ∙ ap (λ xs. xs ++ map_spelling a) first ∙ append_assoc old (1 ∷ []) (map_spelling a)
    ∙ ap (λ x. old ++ cond x (1 ∷ map_spelling a) (0 ∷ map_spelling a ++ map_spelling b)) (sym same)

spelled_twice : (old mid half_prob next a b : List ℕ) → same_numbers a b ≡ false → mid ≡ old ++ low_bits 1 0 → half_prob ≡ mid ++ map_spelling a →
    next ≡ half_prob ++ map_spelling b → next ≡ old ++ both_maps_spelling a b
unfolding low_bits
spelled_twice old mid half_prob next a b differ first put second =
    second
    ∙ ap (λ xs. xs ++ map_spelling b) (put ∙ ap (λ xs. xs ++ map_spelling a) first ∙ append_assoc old (0 ∷ []) (map_spelling a))
    ∙ append_assoc old (0 ∷ map_spelling a) (map_spelling b)
    ∙ ap (λ x. old ++ cond x (1 ∷ map_spelling a) (0 ∷ map_spelling a ++ map_spelling b)) (sym differ)

pub returns-then-are_equal-clause-bits : goal.returns-then-are_equal-clause-bits
returns-then-are_equal-clause-bits c =
    spelled_once c.args.self.now c.put.new.self c.put_map.new.self c.args.filter_map.now c.args.prob_map.now (sym c.are_equal.ensures
    ∙ c.if-are_equal.true) c.put.ensures.bits c.put_map.ensures.bits

pub returns-else-are_equal-clause-bits : goal.returns-else-are_equal-clause-bits
returns-else-are_equal-clause-bits c =
    spelled_twice c.args.self.now c.put-else-are_equal.new.self c.put_map-else-are_equal.new.self c.put_map-else-are_equal-2.new.self c.args.filter_map.now
    c.args.prob_map.now
    (sym c.are_equal.ensures ∙ c.if-are_equal.false) c.put-else-are_equal.ensures.bits c.put_map-else-are_equal.ensures.bits
    c.put_map-else-are_equal-2.ensures.bits
