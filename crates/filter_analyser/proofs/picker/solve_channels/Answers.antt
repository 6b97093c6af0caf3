-- The correlations of the channels, one by one and joined.
use Rattle.std.proofs.Common.{◌≡◌, ◌+◌, ◌<◌, ◌≤◌, ◌≢◌, ℤ, pos, ◌+ℤ◌, List, [], ◌∷◌, length, map, get_or, set, get_or-set_other, get_or-set_same}
use Rattle.std.proofs.Common.{length-set, inl, inr, ap, sym, ◌∙◌, subst, arith}
use Rattle.std.proofs.lemmas.Bool.{cases_lt}
use Rattle.std.proofs.lemmas.List.{get_or_past}
use Rattle.std.proofs.lemmas.List.FromFn.{length-range_with_len, fill_by_all}
use Rattle.std.proofs.lemmas.Nat.{mul-le}
use Rattle.std.specs.List.{range_with_len}
use Rattle.dst_spec.specs.Sample.{samples}
use Rattle.level_spec.specs.Correlation.{joint_correlation, correlations}
use Rattle.level_spec.specs.Recursion.{solution}
use Rattle.level_spec.specs.Picks.{channels_of, orders}
use Rattle.level_spec.specs.Laws.{AreCorrelations}
use Rattle.level_spec.proofs.Sizes.{are_correlations, joint-most, joint-push, lag-is, shape_most}
use Rattle.filter_analyser.specs.Run.{padded}
use Rattle.filter_analyser.proofs.Shares.{lags-most}
use Rattle.filter_analyser.proofs.picker.solve_channels.Goals as goal

pub loop-c-init : goal.loop-c-init
unfolding joint_correlation
loop-c-init c = record {
  long = c.told-solved;
  solved = λ k h. absurd (omega arith);
  whole = c.told-joint;
  joint = λ k h. c.requires.zeros k;
}

pub solve_all-requires : goal.solve_all-requires
solve_all-requires c =
    subst AreCorrelations (sym c.correlate.ensures) (are_correlations c.args.channels c.args.sound.now (c.loop-c.c ∷ []) c.count-c-end.ensures.shape
    (omega arith) (omega arith))

pub add_lags-requires-clause-joint : goal.add_lags-requires-clause-joint
add_lags-requires-clause-joint c = λ k. elim (cases_lt k 129) [
  | inl h ↦
      let f = c.args.channels in
      let n = c.loop-c.c in
      let is = c.loop-c.invariant.joint k h in
      let most = joint-most f c.args.sound.now (range_with_len 0 n) k in
      let long = length-range_with_len 0 n in
      let few : n ≤ 6 = let six : f.channels ≤ 6 = c.count-c-end.ensures.shape.most in omega (arith, c.count-c-end.ensures.count) in
      let product = mul-le (length (range_with_len 0 n)) (samples f) 6 150528 (omega arith) (shape_most f c.count-c-end.ensures.shape) in
      rw is (omega (arith, most, product))
  | inr h ↦
      let past : get_or c.loop-c.joint k (pos 0) ≡ pos 0 = get_or_past c.loop-c.joint k (pos 0) (omega (arith, c.loop-c.invariant.whole)) in
      rw past (omega arith)
]

pub add_lags-requires-clause-lags : goal.add_lags-requires-clause-lags
add_lags-requires-clause-lags c = λ k.
    let corr : AreCorrelations c.correlate.new.lags = subst AreCorrelations (sym c.correlate.ensures)
    (are_correlations c.args.channels c.args.sound.now (c.loop-c.c ∷ []) c.count-c-end.ensures.shape (omega arith) (omega arith)) in
    let small = lags-most c.correlate.new.lags k corr in
    omega arith

pub loop-c-preserved : goal.loop-c-preserved
loop-c-preserved c =
    let f = c.args.channels in
    let sound = c.args.sound.now in
    let n = c.loop-c.c in
    let z : 0 + n ≡ n = omega arith in
    let few : n < 6 = let six : f.channels ≤ 6 = c.count-c-end.ensures.shape.most in omega (arith, c.count-c-end.ensures.count) in
    let inside : n < length c.loop-c.solved = omega (arith, c.loop-c.invariant.long) in
    let H : List ℤ → List (List ℤ) = λ lags. map (λ order. padded (solution lags order)) orders in
    record {
      long = omega (arith, length-set {A = List (List ℤ)}, c.loop-c.invariant.long);
      solved = λ k h. elim (cases_lt k n) [
        | inl earlier ↦ let ne : k ≢ n = omega arith in rw get_or-set_other (c.loop-c.invariant.solved k earlier)
        | inr here ↦
            let e : k ≡ n = omega arith in
            let stored : get_or (set c.loop-c.solved n c.solve_all.result) n [] ≡ H (correlations f sound (n ∷ [])) =
            rw get_or-set_same (c.solve_all.ensures ∙ ap H c.correlate.ensures) in
            subst (λ q. get_or (set c.loop-c.solved n c.solve_all.result) q [] ≡ H (correlations f sound (q ∷ []))) (sym e) stored
      ];
      whole = c.add_lags.ensures.long;
      joint = λ k h.
          c.add_lags.ensures.sum k h
          ∙ ap (λ x. x +ℤ get_or c.correlate.new.lags k (pos 0)) (c.loop-c.invariant.joint k h)
          ∙ ap (λ x. joint_correlation f sound (range_with_len 0 n) k +ℤ x) (ap (λ l. get_or l k (pos 0)) c.correlate.ensures ∙ lag-is f sound (n ∷ []) k h)
          ∙ sym (joint-push f sound 0 n k ∙ ap (λ m. joint_correlation f sound (range_with_len 0 n) k +ℤ joint_correlation f sound (m ∷ []) k) z);
    }

pub returns-clause-joint : goal.returns-clause-joint
returns-clause-joint c =
    let joint = joint_correlation c.args.channels c.args.sound.now in
    let all : c.loop-c.c ≡ c.args.channels.channels = omega (arith, c.count-c-end.ensures.count) in
    fill_by_all (joint (channels_of c.args.channels)) c.loop-c.joint 129 (pos 0) c.loop-c.invariant.whole
    (λ k h. c.loop-c.invariant.joint k h ∙ ap (λ n. joint (range_with_len 0 n) k) all)

pub returns-clause-lawful : goal.returns-clause-lawful
returns-clause-lawful c =
    let f = c.args.channels in
    let shape = c.count-c-end.ensures.shape in
    let long = length-range_with_len 0 f.channels in
    let least = shape.least in
    let most = shape.most in
    subst AreCorrelations (sym (returns-clause-joint c)) (are_correlations f c.args.sound.now (channels_of f) shape (omega arith) (omega arith))
