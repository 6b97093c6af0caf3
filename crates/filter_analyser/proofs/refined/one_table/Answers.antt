-- The counts of one channel more, by its own filter, are added, and the table is that of all.
use Rattle.std.proofs.Common.{◌≡◌, ℕ, ◌+◌, ◌-◌, ◌<◌, ◌==◌, List, ℤ, length, refl, ap, sym, ◌∙◌, arith}
use Rattle.std.specs.List.{count_by, range_with_len}
use Rattle.dst_spec.specs.Sample.{Shape, samples}
use Rattle.dst_spec.proofs.Lists.{get_or-zeros}
use Rattle.level_spec.specs.Picks.{refined_alone, sum_of}
use Rattle.frame_predictions.specs.Codes.{code_at}
use Rattle.filter_analyser.proofs.Joining.{codes_of, codes_of-is, sum_of-push, one_table-is, each-long, each-at}
use Rattle.filter_analyser.proofs.refined.one_table.Goals as goal

pub loop-c-init : goal.loop-c-init
unfolding sum_of
loop-c-init c = record {
  long = refl;
  counts = λ q h. get_or-zeros 128 q;
  most = λ q. omega (arith, get_or-zeros 128 q);
  sound = refl;
  channels = c.requires.channels;
}

pub bounds-own-c : goal.bounds-own-c
bounds-own-c c =
    let long = each-long c.args.channels c.args.predictions.now.sound c.args.own.now c.requires.own in
    omega (arith, c.count-c-end.ensures.count)

pub loop-c-preserved : goal.loop-c-preserved
loop-c-preserved c =
    let f = c.args.channels in
    let sound = c.args.predictions.now.sound in
    let n = c.loop-c.c in
    let inside : n < f.channels = omega (arith, c.count-c-end.ensures.count) in
    let z : 0 + n ≡ n = omega arith in
    let F = refined_alone f sound in
    let of = codes_of f sound F in
    record {
      long = c.count_row.ensures.long;
      counts = λ q h.
          let in_row : Shape → List ℕ → List ℤ → ℕ =
          λ g s coefs. count_by (λ t. code_at g s n coefs t == q) (range_with_len (length coefs) (samples g - length coefs)) in
          let filter : List ℤ = c.index-own-c.result in
          c.count_row.ensures.counts q h
          ∙ ap (λ k. k + in_row c.loop-c.predictions.channels c.loop-c.predictions.sound filter) (c.loop-c.invariant.counts q h)
          ∙ ap (λ g. sum_of of (range_with_len 0 n) q + in_row g c.loop-c.predictions.sound filter) c.loop-c.invariant.channels
          ∙ ap (λ s. sum_of of (range_with_len 0 n) q + in_row f s filter) c.loop-c.invariant.sound
          ∙ ap (λ coefs. sum_of of (range_with_len 0 n) q + in_row f sound coefs)
          (c.index-own-c.is ∙ each-at f sound c.args.own.now n filter c.requires.own inside)
          ∙ ap (λ k. sum_of of (range_with_len 0 n) q + k) (sym (codes_of-is f sound F n q))
          ∙ sym (sum_of-push of 0 n q ∙ ap (λ c. sum_of of (range_with_len 0 n) q + of c q) z);
      most = λ q. omega (arith, c.count_row.ensures.most q, c.loop-c.invariant.most q);
      sound = c.count_row.ensures.sound ∙ c.loop-c.invariant.sound;
      channels = c.count_row.ensures.channels ∙ c.loop-c.invariant.channels;
    }

pub returns-clause-table : goal.returns-clause-table
returns-clause-table c =
    let f = c.args.channels in
    let sound = c.args.predictions.now.sound in
    let F = refined_alone f sound in
    let all : c.loop-c.c ≡ f.channels = omega (arith, c.count-c-end.ensures.count) in
    c.short_table.ensures ∙ one_table-is f sound F c.loop-c.counts (λ q h. c.loop-c.invariant.counts q h
    ∙ ap (λ n. sum_of (codes_of f sound F) (range_with_len 0 n) q) all)
