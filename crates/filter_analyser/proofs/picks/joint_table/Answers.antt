-- The counts of one channel more are added to those before, and six channels stay below 2 ^ 23.
use Rattle.std.proofs.Common.{◌≡◌, ℕ, ◌+◌, ◌-◌, ◌≤◌, ◌==◌, List, length, refl, ap, sym, ◌∙◌, arith}
use Rattle.std.specs.List.{count_by, range_with_len}
use Rattle.dst_spec.specs.Sample.{Shape, samples}
use Rattle.dst_spec.proofs.Lists.{get_or-zeros}
use Rattle.level_spec.specs.Counts.{count_from}
use Rattle.level_spec.specs.Picks.{channels_of}
use Rattle.frame_predictions.specs.Codes.{code_at}
use Rattle.filter_analyser.proofs.Counting.{count_from-push, counted-is}
use Rattle.filter_analyser.proofs.picks.joint_table.Goals as goal

pub loop-c-init : goal.loop-c-init
unfolding count_from
loop-c-init c = record {
  long = refl;
  counts = λ q h. get_or-zeros 128 q;
  most = λ q. omega (arith, get_or-zeros 128 q);
  sound = refl;
  channels = c.requires.channels;
}

pub loop-c-preserved : goal.loop-c-preserved
loop-c-preserved c =
    let f = c.args.channels in
    let sound = c.args.predictions.now.sound in
    let coefs = c.args.filter.now in
    let n = c.loop-c.c in
    let L = length coefs in
    let z : 0 + n ≡ n = omega arith in
    record {
      long = c.count_row.ensures.long;
      counts = λ q h.
          let test = λ (c t : ℕ). code_at f sound c coefs t == q in
          let of : Shape → List ℕ → ℕ = λ g s. count_by (λ t. code_at g s n coefs t == q) (range_with_len L (samples g - L)) in
          c.count_row.ensures.counts q h
          ∙ ap (λ k. k + of c.loop-c.predictions.channels c.loop-c.predictions.sound) (c.loop-c.invariant.counts q h)
          ∙ ap (λ g. count_from L f test (range_with_len 0 n) + of g c.loop-c.predictions.sound) c.loop-c.invariant.channels
          ∙ ap (λ s. count_from L f test (range_with_len 0 n) + of f s) c.loop-c.invariant.sound
          ∙ sym (count_from-push L f test 0 n ∙ ap (λ c. count_from L f test (range_with_len 0 n) + count_by (test c) (range_with_len L (samples f - L))) z);
      most = λ q. omega (arith, c.count_row.ensures.most q, c.loop-c.invariant.most q);
      sound = c.count_row.ensures.sound ∙ c.loop-c.invariant.sound;
      channels = c.count_row.ensures.channels ∙ c.loop-c.invariant.channels;
    }

pub table_from-requires : goal.table_from-requires
table_from-requires c = λ q.
    let few : c.args.channels.channels ≤ 6 = c.count-count.ensures.shape.most in
    omega (arith, c.loop-c.invariant.most q, c.count-count.ensures.count)

pub returns-clause-table : goal.returns-clause-table
returns-clause-table c =
    let f = c.args.channels in
    let sound = c.args.predictions.now.sound in
    let coefs = c.args.filter.now in
    let all : c.loop-c.c ≡ f.channels = omega (arith, c.count-count.ensures.count) in
    c.table_from.ensures
    ∙ counted-is f sound (channels_of f) coefs c.loop-c.counts (λ q h.
    c.loop-c.invariant.counts q h ∙ ap (λ n. count_from (length coefs) f (λ c t. code_at f sound c coefs t == q) (range_with_len 0 n)) all)
