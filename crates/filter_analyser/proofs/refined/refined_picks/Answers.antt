-- Filters for each channel are refined from the last one of all channels together, over the same sound.
use Rattle.std.proofs.Common.{◌≡◌, ℕ, List, ℤ, [], ◌∷◌, map, ap, sym, ◌∙◌}
use Rattle.dst_spec.specs.Sample.{Shape}
use Rattle.level_spec.specs.Refining.{refined_from}
use Rattle.level_spec.specs.Picks.{channels_of, refined_together, refined_alone}
use Rattle.filter_analyser.proofs.refined.refined_picks.Goals as goal

-- what is refined from the last filter of all channels together
alone-is : (f : Shape) (sound heard : List ℕ) (last : List ℤ) (filters : List (List ℤ)) → heard ≡ sound → last ≡ (refined_together f sound).last →
    filters ≡ map (λ c. (refined_from f sound (c ∷ []) 6 last).best) (channels_of f) → filters ≡ map (refined_alone f heard) (channels_of f)
unfolding refined_alone
alone-is f sound heard last filters h e is =
    is ∙ ap (λ l. map (λ c. (refined_from f sound (c ∷ []) 6 l).best) (channels_of f)) e ∙ ap (λ s. map (refined_alone f s) (channels_of f)) (sym h)

pub own_picks-own-requires-clause-own : goal.own_picks-own-requires-clause-own
own_picks-own-requires-clause-own c =
    let heard = c.shared_picks-shared.ensures.sound ∙ c.refine_each-each.ensures.sound ∙ c.refine_together-together.ensures.sound ∙ c.requires.begun in
    alone-is c.args.channels c.args.sound.now c.shared_picks-shared.new.predictions.sound c.refine_together-together.result.last c.as_slice.result.now heard
    c.refine_together-together.ensures.last (c.as_slice.ensures.value ∙ c.refine_each-each.ensures.filters)

pub joint_picks-own_with_one_table-requires-clause-own : goal.joint_picks-own_with_one_table-requires-clause-own
joint_picks-own_with_one_table-requires-clause-own c =
    let heard = c.own_picks-own.ensures.sound ∙ c.shared_picks-shared.ensures.sound ∙ c.refine_each-each.ensures.sound
    ∙ c.refine_together-together.ensures.sound ∙ c.requires.begun in
    alone-is c.args.channels c.args.sound.now c.own_picks-own.new.predictions.sound c.refine_together-together.result.last c.as_slice-2.result.now heard
    c.refine_together-together.ensures.last (c.as_slice-2.ensures.value ∙ c.refine_each-each.ensures.filters)
