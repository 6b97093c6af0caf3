-- The codes of the row, behind the first ones, are those of the filter over the channel, 150,528 at most.
use Rattle.std.proofs.Common.{◌≡◌, ℕ, ◌+◌, ◌-◌, ◌≤◌, ◌==◌, List, length, get_or, take, drop, length-take, inl, inr, subst, ap, sym, ◌∙◌, arith}
use Rattle.std.proofs.lemmas.Bool.{cases_lt}
use Rattle.std.proofs.lemmas.List.{take_rest, get_or_past}
use Rattle.std.proofs.lemmas.List.Sums.{count_by-le-length}
use Rattle.level_spec.proofs.Sizes.{shape_most}
use Rattle.std.specs.List.{count_by}
use Rattle.dst_spec.specs.Sample.{Shape, samples}
use Rattle.frame_predictions.specs.Codes.{codes}
use Rattle.frame_predictions.specs.Predicting.{Predicted, nothing}
use Rattle.filter_analyser.proofs.Counting.{count_by-codes}
use Rattle.filter_analyser.proofs.picks.count_row.Goals as goal

pub returns-clause-counts : goal.returns-clause-counts
returns-clause-counts c = λ q h.
    let f = c.args.predictions.now.channels in
    let sound = c.args.predictions.now.sound in
    let ch = c.args.channel in
    let coefs = c.args.filter.now in
    let row = c.codes-codes.result.now in
    let L = length c.coefs.result.now in
    let long : L ≡ length coefs = ap length c.coefs.ensures.coefs in
    let of : Shape → List ℕ → Predicted → List ℕ = λ f sound p. codes f sound p.channel p.filter in
    let is : row ≡ codes f sound ch coefs =
    c.codes-codes.ensures.codes ∙ ap (λ f. of f c.row-row.new.self.sound (get_or c.row-row.new.self.rows c.row-row.result nothing)) c.row-row.ensures.channels
    ∙ ap (λ s. of f s (get_or c.row-row.new.self.rows c.row-row.result nothing)) c.row-row.ensures.sound ∙ ap (of f sound) (c.row-row.ensures.is nothing) in
    let rest : take (length row - L) (drop L row) ≡ drop (length coefs) (codes f sound ch coefs) = take_rest row L ∙ ap (drop L) is
    ∙ ap (λ n. drop n (codes f sound ch coefs)) long in
    c.count_codes.ensures.counts q h
    ∙ ap (λ n. get_or c.args.counts.now q 0 + n) (ap (count_by (λ code. code == q)) rest ∙ count_by-codes f sound ch coefs (length coefs) q)

pub returns-clause-most : goal.returns-clause-most
returns-clause-most c = λ q. elim (cases_lt q 128) [
  | inl h ↦
      let row = c.codes-codes.result.now in
      let L = length c.coefs.result.now in
      let some = c.count_codes.ensures.counts q h in
      let many = count_by-le-length (λ code. code == q) (take (length row - L) (drop L row)) in
      let front = length-take (length row - L) (drop L row) in
      let long : length row ≡ samples c.row-row.new.self.channels = c.codes-codes.ensures.long in
      let most : samples c.row-row.new.self.channels ≤ 150528 =
      subst (λ f. samples f ≤ 150528) (sym c.row-row.ensures.channels) (shape_most c.args.predictions.now.channels c.requires.shape) in
      omega arith
  | inr h ↦
      let past : get_or c.count_codes.new.counts q 0 ≡ 0 = get_or_past c.count_codes.new.counts q 0 (omega (arith, c.count_codes.ensures.long)) in
      omega arith
]
