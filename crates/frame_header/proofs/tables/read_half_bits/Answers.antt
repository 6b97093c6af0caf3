-- Each half bit that is read leaves one fewer to come, and one that is cut short is the fault of them all.
use Rattle.std.proofs.Common.{◌≡◌, ◌<◌, ◌+◌, ◌==◌, [], ◌∷◌, ◌++◌, ℕ, zero, suc, length, map, refl, ap, sym, subst, ◌∙◌, arith}
use Rattle.std.proofs.lemmas.List.{map-append}
use Rattle.dst_spec.specs.Header.{bit_of}
use Rattle.dst_spec.specs.Fields.{number}
use Rattle.dst_spec.specs.Offends.{times}
use Rattle.frame_header.proofs.Stepping.{handed_on}
use Rattle.frame_header.proofs.Coming.{TimesToCome, times_start, times_more, times_fail, times_end}
use Rattle.frame_header.proofs.tables.read_half_bits.Goals as goal
use Rattle.bit_io.specs.Reading.{IsAtFault}

pub loop-channel-init : goal.loop-channel-init
loop-channel-init c =
    let old = c.args.reader.now in
    record {
      bytes = refl;
      long = ap length c.new-half_prob.ensures;
      coming = subst (λ half_prob. TimesToCome (number 1) c.args.channels old 0 (map bit_of half_prob) old) (sym c.new-half_prob.ensures)
          (times_start (number 1) c.args.channels old);
    }

pub returns-in_err-bit-clause-fault : goal.returns-in_err-bit-clause-fault
returns-in_err-bit-clause-fault c =
    let l = c.loop-channel in
    let fault = c.in_err-bit.field-0.0 in
    let old = c.args.reader.now in
    handed_on c.from_residual.result fault (IsAtFault (times c.args.channels (number 1)) old) c.from_residual.ensures.1
    (times_fail (number 1) c.args.channels old l.reader l.channel
    (map bit_of l.half_prob.items) fault l.invariant.coming c.loop-channel-test.true c.in_err-bit.ensures.fault)

bit_again : (v : ℕ) → v < 2 → bit_of (v == 1) ≡ v
bit_again zero h = refl
bit_again (suc zero) h = refl
bit_again (suc (suc v)) h = absurd (omega arith)

pub loop-channel-preserved : goal.loop-channel-preserved
loop-channel-preserved c =
    let l = c.loop-channel in
    let old = c.args.reader.now in
    let next = c.read_number.new.reader in
    let v = c.in_ok-bit.bit in
    let p = c.push in
    let numbers : map bit_of p.new.self.items ≡ map bit_of l.half_prob.items ++ v ∷ [] =
    ap (map bit_of) p.ensures.items ∙ map-append bit_of l.half_prob.items ((v == 1) ∷ [])
    ∙ ap (λ b. map bit_of l.half_prob.items ++ b ∷ []) (bit_again v c.in_ok-bit.ensures.fits) in
    record {
      bytes = c.in_ok-bit.ensures.bytes ∙ l.invariant.bytes;
      long = p.ensures.len ∙ ap (λ n. n + 1) l.invariant.long;
      coming = subst (λ xs. TimesToCome (number 1) c.args.channels old (l.channel + 1) xs next) (sym numbers)
          (times_more (number 1) c.args.channels old l.reader next l.channel (map bit_of l.half_prob.items) v l.invariant.coming c.in_ok-bit.ensures.read);
    }

pub returns-clause-read : goal.returns-clause-read
returns-clause-read c =
    let l = c.loop-channel in
    times_end (number 1) c.args.channels c.args.reader.now l.reader l.channel
    (map bit_of l.half_prob.items) l.invariant.coming l.auto.channel-end c.loop-channel-test.false
