-- One channel more has its row and steps, and the rows of those before stay, so they still are right.
use Rattle.std.proofs.Common.{◌≢◌, ℕ, ◌<◌, length, get_or, set, refl, ap, sym, subst, ◌∙◌, arith}
use Rattle.std.proofs.Common.{below_more, get_or-set_same, get_or-set_other, length-set}
use Rattle.frame_store.specs.declared.coded.ChannelSteps.{ChannelSteps}
use Rattle.frame_store.specs.Coded.{IsCoded}
use Rattle.frame_store.proofs.Runs.{coded-stay, stay-both, stay-same}
use Rattle.frame_store.proofs.coded.code_channels.Goals as goal

pub loop-c-init : goal.loop-c-init
loop-c-init c = record {
  six = c.told-coded;
  sound = refl;
  channels = refl;
  few = omega arith;
  stay = stay-same c.args.predictions.now.rows;
  coded = record { each = λ k other lt. absurd (omega arith) };
}

pub loop-c-preserved : goal.loop-c-preserved
loop-c-preserved c =
    let v = c.loop-c.invariant in
    let place = c.loop-c.c in
    let P = c.args.params.now in
    let old = c.loop-c.coded in
    let x = c.code_channel.result in
    let rows = c.code_channel.new.predictions.rows in
    let e = c.code_channel.ensures in
    let R : ℕ → Type 0 = λ k. (other : ChannelSteps) → IsCoded P rows k (get_or (set old place x) k other) in
    let few = v.few in
    let fewer = e.few in
    let six = v.six in
    let inside : place < length old =
    omega (arith, v.six, c.loop-c-test.true, c.count-channels.ensures.count, ap (λ f. f.channels) c.channels.ensures, c.requires.shape.most) in
    let below : (k : ℕ) → k < place → R k = λ k lt other.
    let ne : k ≢ place = omega arith in
    subst (IsCoded P rows k) (sym (get_or-set_other old place k x other ne))
    (coded-stay P c.loop-c.predictions.rows rows k (get_or old k other) e.stay (v.coded.each k other lt)) in
    let here : R place = λ other. subst (IsCoded P rows place) (sym (get_or-set_same old place x other inside)) e.coded in
    record {
      six = length-set old place x ∙ v.six;
      sound = e.sound ∙ v.sound;
      channels = e.channels ∙ v.channels;
      few = omega arith;
      stay = stay-both c.args.predictions.now.rows c.loop-c.predictions.rows rows v.stay e.stay;
      coded = record { each = λ k other lt. below_more R place below here k lt other };
    }
