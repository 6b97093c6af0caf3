-- Level 2 has eight picks, so that there is room for three more, which are those of level 3.
use Rattle.std.proofs.Common.{◌≡◌, ℕ, List, [], ◌∷◌, ◌++◌, length, refl, ap, ◌∙◌, arith}
use Rattle.dst_spec.specs.Sample.{Shape}
use Rattle.level_spec.specs.Picks.{refined_shared, refined_own, refined_own_with_one_table, level_picks}
use Rattle.filter_analyser.proofs.picker.pick_refined.Goals as goal

-- level 2 has eight
eight : (sound : List ℕ) (f : Shape) → length (level_picks 2 sound f) ≡ 8
unfolding level_picks
eight sound f = refl

pub push-requires : goal.push-requires
push-requires c =
    let long = ap length c.pick_all.ensures.found ∙ eight c.args.sound.now c.args.channels in
    omega arith

pub push-requires-2 : goal.push-requires-2
push-requires-2 c =
    let long = ap length c.pick_all.ensures.found ∙ eight c.args.sound.now c.args.channels in
    omega arith

pub push-requires-3 : goal.push-requires-3
push-requires-3 c =
    let long = ap length c.pick_all.ensures.found ∙ eight c.args.sound.now c.args.channels in
    omega arith

-- three more at the end of those of level 2
more : (sound : List ℕ) (f : Shape) →
    ((level_picks 2 sound f ++ refined_shared f sound ∷ []) ++ refined_own f sound ∷ []) ++ refined_own_with_one_table f sound ∷ [] ≡ level_picks 3 sound f
unfolding level_picks
more sound f = refl

pub returns-clause-found : goal.returns-clause-found
returns-clause-found c =
    let f = c.args.channels in
    let sound = c.args.sound.now in
    c.push-3.ensures.items
    ∙ ap (λ xs. xs ++ c.refined_picks-refined.result.own_with_one_table ∷ []) (c.push-2.ensures.items
    ∙ ap (λ xs. xs ++ c.refined_picks-refined.result.own ∷ []) (c.push.ensures.items
    ∙ ap (λ xs. xs ++ c.refined_picks-refined.result.shared ∷ []) c.pick_all.ensures.found))
    ∙ ap (λ x. ((level_picks 2 sound f ++ x ∷ []) ++ c.refined_picks-refined.result.own ∷ []) ++ c.refined_picks-refined.result.own_with_one_table ∷ [])
    c.refined_picks-refined.ensures.shared
    ∙ ap (λ x. ((level_picks 2 sound f ++ refined_shared f sound ∷ []) ++ x ∷ []) ++ c.refined_picks-refined.result.own_with_one_table ∷ [])
    c.refined_picks-refined.ensures.own
    ∙ ap (λ x. ((level_picks 2 sound f ++ refined_shared f sound ∷ []) ++ refined_own f sound ∷ []) ++ x ∷ []) c.refined_picks-refined.ensures.one
    ∙ more sound f
