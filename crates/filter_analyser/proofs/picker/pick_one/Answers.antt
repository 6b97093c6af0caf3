-- One channel more is solved with order 32, and the one pick is made of all of them.
use Rattle.std.proofs.Common.{◌≡◌, ◌<◌, ◌≤◌, ◌≢◌, ℤ, List, [], ◌∷◌, ◌++◌, length, get_or, set, get_or-set_other, get_or-set_same, length-set, inl}
use Rattle.std.proofs.Common.{inr, ap, sym, ◌∙◌, subst, arith}
use Rattle.std.proofs.lemmas.Bool.{cases_lt}
use Rattle.level_spec.specs.Correlation.{correlations}
use Rattle.level_spec.specs.Recursion.{solution}
use Rattle.level_spec.specs.Picks.{per_channel, level_picks}
use Rattle.filter_analyser.specs.Run.{padded}
use Rattle.filter_analyser.proofs.picker.pick_one.Goals as goal

pub loop-c-preserved : goal.loop-c-preserved
loop-c-preserved c =
    let f = c.args.channels in
    let sound = c.args.sound.now in
    let n = c.loop-c.c in
    let few : n < 6 = let six : f.channels ≤ 6 = c.count-c-end.ensures.shape.most in omega (arith, c.count-c-end.ensures.count) in
    let inside : n < length c.loop-c.solved = omega (arith, c.loop-c.invariant.0) in
    let H : List ℤ → List ℤ = λ lags. padded (solution lags 32) in (
      omega (arith, length-set {A = List ℤ}, c.loop-c.invariant.0),
      λ k h. elim (cases_lt k n) [
        | inl earlier ↦ let ne : k ≢ n = omega arith in rw get_or-set_other (c.loop-c.invariant.1 k earlier)
        | inr here ↦
            let e : k ≡ n = omega arith in
            let stored : get_or (set c.loop-c.solved n c.solve_short.result) n [] ≡ H (correlations f sound (n ∷ [])) =
            rw get_or-set_same c.solve_short.ensures in
            subst (λ q. get_or (set c.loop-c.solved n c.solve_short.result) q [] ≡ H (correlations f sound (q ∷ []))) (sym e) stored
      ],
    )

pub returns-clause-found : goal.returns-clause-found
unfolding level_picks
returns-clause-found c =
    let is : c.per_channel.result ≡ per_channel c.args.channels c.args.sound.now 32 = c.per_channel.ensures.params
    ∙ ap (λ s. per_channel c.args.channels s 32) c.requires.begun in
    c.push.ensures.items ∙ ap (λ xs. xs ++ c.per_channel.result ∷ []) c.requires.empty ∙ ap (λ p. p ∷ []) is
