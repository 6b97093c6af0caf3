-- The counts of one channel more are added to those before, at most 150,528 to each.
use Rattle.std.proofs.Common.{ℕ, ◌+◌, ◌-◌, ◌==◌, List, length, refl, ap, sym, ◌∙◌, arith}
use Rattle.std.specs.List.{count_by, range_with_len}
use Rattle.dst_spec.specs.Sample.{Shape, samples}
use Rattle.dst_spec.proofs.Lists.{get_or-zeros}
use Rattle.level_spec.specs.Counts.{count_from}
use Rattle.frame_predictions.specs.Codes.{code_at}
use Rattle.filter_analyser.proofs.Counting.{count_from-push}
use Rattle.filter_analyser.proofs.refining.count_members.Goals as goal

pub loop-c-init : goal.loop-c-init
unfolding count_from
loop-c-init c = record {
  long = refl;
  counts = λ q h. get_or-zeros 128 q;
  most = λ q. omega (arith, get_or-zeros 128 q);
  sound = refl;
  channels = c.requires.channels;
}

pub loop-c-preserved : goal.loop-c-preserved
loop-c-preserved c =
    let f = c.args.channels in
    let sound = c.args.predictions.now.sound in
    let coefs = c.args.filter.now in
    let a = c.args.members.first in
    let n = c.loop-c.c in
    let L = length coefs in
    record {
      long = c.count_row.ensures.long;
      counts = λ q h.
          let test = λ (c t : ℕ). code_at f sound c coefs t == q in
          let of : Shape → List ℕ → ℕ = λ g s. count_by (λ t. code_at g s (a + n) coefs t == q) (range_with_len L (samples g - L)) in
          c.count_row.ensures.counts q h
          ∙ ap (λ k. k + of c.loop-c.predictions.channels c.loop-c.predictions.sound) (c.loop-c.invariant.counts q h)
          ∙ ap (λ g. count_from L f test (range_with_len a n) + of g c.loop-c.predictions.sound) c.loop-c.invariant.channels
          ∙ ap (λ s. count_from L f test (range_with_len a n) + of f s) c.loop-c.invariant.sound
          ∙ sym (count_from-push L f test a n);
      most = λ q. omega (arith, c.count_row.ensures.most q, c.loop-c.invariant.most q);
      sound = c.count_row.ensures.sound ∙ c.loop-c.invariant.sound;
      channels = c.count_row.ensures.channels ∙ c.loop-c.invariant.channels;
    }
