-- The filter that a step moves one to, or none where refining ends.
use Rattle.std.proofs.Common.{◌≡◌, ℕ, ℤ, List, length, Option, Some, None, take, refl, ap, sym, ◌∙◌}
use Rattle.std.specs.List.{range_with_len}
use Rattle.level_spec.specs.Fitting.{fitted}
use Rattle.level_spec.specs.Solving.{solved}
use Rattle.level_spec.specs.Refining.{gradient, weight, next_filter, target}
use Rattle.level_spec.specs.Counts.{total, wrong, place, is_wrong}
use Rattle.filter_analyser.proofs.Shares.{first-held}
use Rattle.filter_analyser.proofs.Stepped.{agreement-is, power-is, moved-is, moved-none, next-solved, target-cut}
use Rattle.filter_analyser.proofs.refining.next_filter.Goals as goal
use Rattle.filter_analyser.proofs.refining.next_filter.Goals.{After-solve}

pub returns-then-agree_little-clause-none : goal.returns-then-agree_little-clause-none
returns-then-agree_little-clause-none c =
    let f = c.args.channels in
    let sound = c.args.predictions.now.sound in
    let members = range_with_len c.args.members.first c.args.members.count in
    let coefs = c.args.filter.now in
    let sums = c.sums_of-sums.result in
    let G : ℕ → ℤ = gradient f sound (λ c t. weight (total f sound members coefs) (wrong f sound members coefs) (place f sound c coefs t)
    (is_wrong f sound c coefs t)) (length coefs) members in
    sym (moved-is f sound members coefs c.args.r0 sums.agreement sums.power c.args.rows.now G c.requires.r0 c.requires.rows
    (c.sums_of-sums.ensures.agreement ∙ agreement-is f sound members coefs c.args.counts.now c.requires.counts)
    (c.sums_of-sums.ensures.power ∙ power-is f sound members coefs c.args.counts.now c.requires.counts) (λ j h. refl))
    ∙ moved-none c.args.r0 c.args.rows.now sums.agreement sums.power G coefs (sym c.agree_little.ensures ∙ c.if-agree_little.true)

pub pulls-requires-clause-r0 : goal.pulls-requires-clause-r0
pulls-requires-clause-r0 c =
    let members = c.args.members in
    (first-held c.args.channels c.args.predictions.now.sound members.first members.count c.args.r0 c.requires.shape c.requires.some
    c.requires.within c.requires.r0).1

-- the next filter, by what solving answers
next-is : (c : After-solve) (answer : Option (List ℤ)) → solved c.args.rows.now c.pulls.result ≡ answer →
    next_filter c.args.channels c.args.predictions.now.sound (range_with_len c.args.members.first c.args.members.count) c.args.filter.now
    ≡ (elim answer as (λ _. Option (List ℤ)) [ None ↦ None | Some d ↦ Some (fitted c.args.rows.now (target c.args.filter.now d)) ])
next-is c answer solution =
    let f = c.args.channels in
    let sound = c.args.predictions.now.sound in
    let held = first-held f sound c.args.members.first c.args.members.count c.args.r0 c.requires.shape c.requires.some c.requires.within c.requires.r0 in
    next-solved f sound (range_with_len c.args.members.first c.args.members.count) c.args.filter.now c.args.counts.now c.weights_of.result _ _ _
    c.args.rows.now c.gradient_of-gradient.result c.pulls.result answer c.requires.counts (held.0 ∙ c.requires.r0) c.requires.rows
    c.sums_of-sums.ensures.agreement c.sums_of-sums.ensures.power c.weights_of.ensures.right c.weights_of.ensures.wrong
    c.gradient_of-gradient.ensures.gradient (sym c.agree_little.ensures ∙ c.if-agree_little.false) c.pulls.ensures.pulls solution

pub returns-in-None-clause-none : goal.returns-in-None-clause-none
returns-in-None-clause-none c =
    next-is c.before None c.in-None.ensures.none

pub returns-in-Some-clause-some : goal.returns-in-Some-clause-some
returns-in-Some-clause-some c =
    let rows = c.args.rows.now in
    let moves = c.in-Some.moves in
    next-is c.before.before.before.before.before (Some (take (length rows) moves)) c.in-Some.ensures.some
    ∙ ap (λ t. Some (fitted rows t)) (target-cut c.args.filter.now moves (length rows) c.in-Some.ensures.rest ∙ sym c.target.ensures.target)
    ∙ ap Some (sym c.fit.ensures)
