-- Each number that is read leaves one fewer to come, and one that fails is the fault of them all.
use Rattle.std.proofs.Common.{◌≡◌, ◌+◌, ◌∷◌, [], ◌++◌, length, max, refl, ap, sym, subst, ◌∙◌, arith}
use Rattle.frame_header.specs.Steps.{element_fields}
use Rattle.frame_header.proofs.Stepping.{handed_on}
use Rattle.frame_header.proofs.Coming.{NumbersToCome, numbers_start, numbers_more, numbers_fail, numbers_end}
use Rattle.frame_header.proofs.maps.read_numbers.Goals as goal
use Rattle.bit_io.specs.Reading.{IsAtFault}

pub loop-channel-init : goal.loop-channel-init
loop-channel-init c =
    let old = c.args.reader.now in
    let items : c.push.new.self.items ≡ 0 ∷ [] = c.push.ensures.items ∙ ap (λ xs. xs ++ 0 ∷ []) c.new-elements.ensures in
    record {
      bytes = refl;
      long = ap length items;
      coming = subst (λ xs. NumbersToCome c.args.channels old 1 1 xs old) (sym items) (numbers_start c.args.channels old);
    }

pub returns-in_err-element-clause-fault : goal.returns-in_err-element-clause-fault
returns-in_err-element-clause-fault c =
    let l = c.loop-channel in
    let fault = c.in_err-element.field-0.0 in
    let old = c.args.reader.now in
    handed_on c.from_residual.result fault (IsAtFault (element_fields c.args.channels) old) c.from_residual.ensures.1
    (numbers_fail c.args.channels old l.reader l.channel l.count l.elements.items fault l.invariant.coming c.loop-channel-test.true
    c.in_err-element.ensures.fault)

pub loop-channel-preserved : goal.loop-channel-preserved
loop-channel-preserved c =
    let l = c.loop-channel in
    let old = c.args.reader.now in
    let next = c.read_map_number.new.reader in
    let e = c.in_ok-element.element in
    let p = c.push-in-loop-channel in
    let coming = numbers_more c.args.channels old l.reader next l.channel l.count l.elements.items e l.invariant.coming c.in_ok-element.ensures.read in
    let count : c.max-count.result ≡ max l.count (e + 1) = grind (arith, c.max-count.ensures) in
    record {
      bytes = c.in_ok-element.ensures.bytes ∙ l.invariant.bytes;
      long = p.ensures.len ∙ ap (λ n. n + 1) l.invariant.long;
      coming = subst (λ n. NumbersToCome c.args.channels old (l.channel + 1) n p.new.self.items next) (sym count)
          (subst (λ xs. NumbersToCome c.args.channels old (l.channel + 1) (max l.count (e + 1)) xs next) (sym p.ensures.items) coming);
    }

pub returns-clause-read : goal.returns-clause-read
returns-clause-read c =
    let l = c.loop-channel in
    numbers_end c.args.channels c.args.reader.now l.reader l.channel l.count l.elements.items l.invariant.coming
    (l.auto.channel-end c.requires.least) c.loop-channel-test.false
