-- The filter of all channels together: refined from the one fitted to the rows.
use Rattle.std.proofs.Common.{◌≡◌, ◌-◌, ◌^◌, ◌≤◌, ℕ, ℤ, List, length, pos, nat_abs, get_or, replicate, ap, sym, ◌∙◌, subst, arith}
use Rattle.std.specs.List.{range_with_len}
use Rattle.dst_spec.proofs.Lists.{all_append}
use Rattle.dst_spec.specs.Sample.{Shape}
use Rattle.level_spec.specs.Correlation.{correlations}
use Rattle.level_spec.specs.Recursion.{State}
use Rattle.level_spec.specs.Rows.{rows, row_after, row_solution}
use Rattle.level_spec.specs.Fitting.{fitted}
use Rattle.level_spec.specs.Refining.{refined_from, first_filter}
use Rattle.level_spec.specs.Picks.{channels_of, refined_together}
use Rattle.level_spec.specs.Laws.{AreCorrelations}
use Rattle.level_spec.proofs.RowSteps.{IsRow-after}
use Rattle.filter_refiner.proofs.Numbers.{zeros-at, each-most}
use Rattle.filter_analyser.proofs.Picking.{zeros-small}
use Rattle.filter_analyser.proofs.refined.refine_together.Goals as goal

pub solve_channels-requires-clause-zeros : goal.solve_channels-requires-clause-zeros
solve_channels-requires-clause-zeros c = λ k. zeros-at 129 k

small : (lags : List ℤ) (k : ℕ) → AreCorrelations lags → nat_abs (get_or (row_solution lags 128) k (pos 0)) ≤ 2 ^ 32
unfolding row_solution
small lags k h =
    let P : ℤ → Type 0 = λ a. nat_abs a ≤ 2 ^ 32 in
    let values = (row_after lags 128).values in
    each-most (row_solution lags 128) (2 ^ 32) k
    (all_append P values (replicate (128 - length values) (pos 0)) (IsRow-after lags 128 h.least).values (zeros-small (128 - length values) (2 ^ 32)))

pub fit-first-requires : goal.fit-first-requires
fit-first-requires c = λ j.
    let few = small c.solve_channels.new.joint j c.solve_channels.ensures.lawful in
    let is : nat_abs (get_or c.keep_rows-rows.result.1 j (pos 0)) ≤ 2 ^ 32 =
    subst (λ x. nat_abs (get_or x j (pos 0)) ≤ 2 ^ 32) (sym c.keep_rows-rows.ensures.solution) few in
    omega arith

pub refine-requires-clause-rows : goal.refine-requires-clause-rows
refine-requires-clause-rows c =
    let f = c.args.channels in
    c.keep_rows-rows.ensures.rows ∙ ap (λ l. rows l 128) c.solve_channels.ensures.joint
    ∙ ap (λ s. rows (correlations f s (channels_of f)) 128) (sym c.requires.begun)
    ∙ ap (λ n. rows (correlations f c.args.predictions.now.sound (range_with_len 0 n)) 128) (sym c.count.ensures.count)

-- the first filter
first : (f : Shape) (sound : List ℕ) (lags values filter : List ℤ) (states : List State) → lags ≡ correlations f sound (channels_of f) →
    states ≡ rows lags 128 →
    values ≡ row_solution lags 128 → filter ≡ fitted states values → filter ≡ first_filter f sound (channels_of f)
unfolding first_filter
first f sound lags values filter states a b v e = e ∙ ap (λ k. fitted k values) b ∙ ap (fitted (rows lags 128)) v
    ∙ ap (λ l. fitted (rows l 128) (row_solution l 128)) a

-- what is refined from it
together : (c : goal.After-refine) → refined_from c.args.channels c.args.predictions.now.sound (range_with_len 0 c.count.result) 10 c.fit-first.result
    ≡ refined_together c.args.channels c.args.sound.now
unfolding refined_together
together c =
    let f = c.args.channels in
    let filter = first f c.args.sound.now c.solve_channels.new.joint c.keep_rows-rows.result.1 c.fit-first.result c.keep_rows-rows.result.0
    c.solve_channels.ensures.joint c.keep_rows-rows.ensures.rows c.keep_rows-rows.ensures.solution c.fit-first.ensures in
    ap (λ s. refined_from f s (range_with_len 0 c.count.result) 10 c.fit-first.result) c.requires.begun
    ∙ ap (λ k. refined_from f c.args.sound.now (range_with_len 0 k) 10 c.fit-first.result) c.count.ensures.count
    ∙ ap (refined_from f c.args.sound.now (channels_of f) 10) filter

pub returns-clause-best : goal.returns-clause-best
returns-clause-best c =
    c.refine.ensures.best ∙ ap (λ r. r.best) (together c)

pub returns-clause-last : goal.returns-clause-last
returns-clause-last c =
    c.refine.ensures.last ∙ ap (λ r. r.last) (together c)
