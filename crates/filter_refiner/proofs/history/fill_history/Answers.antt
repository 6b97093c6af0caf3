-- A byte of the channel goes 16 places further behind, so that those before the frame stay.
use Rattle.std.proofs.Common.{◌≡◌, ◌≢◌, ◌+◌, ◌*◌, ◌<◌, ℕ, length, get_or, set, inl, inr}
use Rattle.std.proofs.Common.{length-set, get_or-set_other, get_or-set_same, refl, ap, sym, ◌∙◌, subst, arith}
use Rattle.std.proofs.lemmas.Bool.{cases_lt}
use Rattle.std.proofs.lemmas.List.{get_or-replicate, length-replicate}
use Rattle.filter_refiner.proofs.history.fill_history.Goals as goal

pub loop-place-init : goal.loop-place-init
loop-place-init c = record {
  long = ap length c.requires.begun ∙ length-replicate {A = ℕ} 18832 170;
  before = λ i h. ap (λ xs. get_or xs i 0) c.requires.begun ∙ get_or-replicate {A = ℕ} 18832 i 170 0 (omega arith);
  each = λ i h. absurd (omega arith);
}

pub loop-place-preserved : goal.loop-place-preserved
loop-place-preserved c =
    let p = c.loop-place.place in
    let inside : p + 16 < length c.loop-place.bytes = omega (arith, c.loop-place.invariant.long, c.multiple-octets.ensures.most) in
    record {
      long = omega (arith, length-set {A = ℕ}, c.loop-place.invariant.long);
      before = λ i h. let ne : i ≢ p + 16 = omega arith in rw get_or-set_other (c.loop-place.invariant.before i h);
      each = λ i h. elim (cases_lt i p) [
        | inl less ↦ let ne : i + 16 ≢ p + 16 = omega arith in rw get_or-set_other (c.loop-place.invariant.each i less)
        | inr more ↦
            let e : i ≡ p = omega arith in
            subst (λ q. get_or (set c.loop-place.bytes (p + 16) (get_or c.args.sound.now (p * c.count-count.result + c.args.channel) 0)) (q + 16) 0
            ≡ get_or c.args.sound.now (q * c.count-count.result + c.args.channel) 0) (sym e) (rw get_or-set_same refl)
      ];
    }

pub returns-clause-history : goal.returns-clause-history
returns-clause-history c = record {
  before = c.loop-place.invariant.before;
  each = λ i h. c.loop-place.invariant.each i (omega (arith, c.multiple-octets.ensures.multiple))
      ∙ ap (λ n. get_or c.args.sound.now (i * n + c.args.channel) 0) c.count-count.ensures.count;
}
