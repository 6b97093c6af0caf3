-- All that levels pick from: for each order the filters of the channels one by one, and one for all.
use Rattle.std.proofs.Common.{◌≡◌, ℕ, zero, suc, ◌<◌, ◌≤◌, ℤ, List, [], ◌∷◌, ◌++◌, map, get_or, take, refl, ap, sym, ◌∙◌, arith}
use Rattle.level_spec.specs.Correlation.{correlations}
use Rattle.level_spec.specs.Recursion.{solution}
use Rattle.level_spec.specs.Picks.{channels_of, per_channel, shared, orders, level_picks}
use Rattle.filter_refiner.proofs.Numbers.{zeros-at}
use Rattle.filter_analyser.specs.Run.{padded}
use Rattle.filter_analyser.proofs.picker.pick_all.Goals as goal

-- what a list of one for each order has at a place
order-at : (H : ℕ → List ℤ) (p : ℕ) → p < 4 → get_or (map H orders) p [] ≡ H (get_or orders p 0)
order-at H zero h = refl
order-at H (suc zero) h = refl
order-at H (suc (suc zero)) h = refl
order-at H (suc (suc (suc zero))) h = refl
order-at H (suc (suc (suc (suc p)))) h = absurd (omega arith)

pub solve_channels-requires-clause-zeros : goal.solve_channels-requires-clause-zeros
solve_channels-requires-clause-zeros c = λ k. zeros-at 129 k

pub per_channel-requires-clause-solved : goal.per_channel-requires-clause-solved
per_channel-requires-clause-solved c = λ ch h.
    let f = c.args.channels in
    let sound = c.args.sound.now in
    let own = c.loop-own.own in
    let H : ℕ → List ℤ = λ order. padded (solution (correlations f sound (ch ∷ [])) order) in
    let same : sound ≡ c.loop-own.predictions.sound = sym (c.loop-own.invariant.sound ∙ c.requires.begun) in
    let six : f.channels ≤ 6 = c.solve_channels.ensures.shape.most in
    c.of_order-each.ensures ch (omega arith)
    ∙ ap (λ t. get_or t own []) (c.solve_channels.ensures.solved ch h)
    ∙ order-at H own (omega arith)
    ∙ ap (λ s. padded (solution (correlations f s (ch ∷ [])) (get_or orders own 0))) same

pub shared-requires-clause-solved : goal.shared-requires-clause-solved
shared-requires-clause-solved c =
    let f = c.args.channels in
    let place = c.loop-place.place in
    let H : ℕ → List ℤ = λ order. padded (solution c.solve_channels.new.joint order) in
    let same = sym (c.loop-place.invariant.sound ∙ c.requires.begun) in
    ap (λ t. get_or t place []) c.solve_all-together.ensures
    ∙ order-at H place (omega arith)
    ∙ ap (λ l. padded (solution l (get_or orders place 0))) c.solve_channels.ensures.joint
    ∙ ap (λ s. padded (solution (correlations f s (channels_of f)) (get_or orders place 0))) same

pub returns-clause-found : goal.returns-clause-found
unfolding level_picks
returns-clause-found c =
    let all : c.loop-place.place ≡ 4 = omega arith in
    c.loop-place.invariant.found
    ∙ ap (λ n. map (per_channel c.args.channels c.args.sound.now) orders ++ map (shared c.args.channels c.args.sound.now) (take n orders)) all
