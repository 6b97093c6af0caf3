-- The counts of each code are those of the channels so far.
use Rattle.std.proofs.Common.{◌≡◌, ℕ, Bool, ◌+◌, ◌-◌, ◌*◌, ◌<◌, ◌≤◌, ◌==◌, length, get_or, take, drop, inl, inr, length-take, length-drop, refl, ap, sym}
use Rattle.std.proofs.Common.{◌∙◌, subst, arith}
use Rattle.std.proofs.lemmas.Bool.{cases_lt}
use Rattle.std.proofs.lemmas.List.{take_rest, take_all, get_or_past}
use Rattle.std.specs.List.{count_by, range_with_len}
use Rattle.dst_spec.specs.Sample.{samples}
use Rattle.dst_spec.proofs.Lists.{get_or-zeros}
use Rattle.level_spec.specs.Counts.{count_from}
use Rattle.frame_predictions.specs.Codes.{code_at, codes}
use Rattle.frame_predictions.proofs.Elements.{codes-length}
use Rattle.filter_analyser.proofs.Counting.{count_from-next, count_from-most, count_by-codes, codes-small}
use Rattle.filter_analyser.proofs.counts.count_channels.Goals as goal

pub loop-member-init : goal.loop-member-init
unfolding count_from
loop-member-init c = (refl, λ q h. get_or-zeros 128 q, c.requires.row)

pub count_codes-requires : goal.count_codes-requires
count_codes-requires c =
    let f = c.args.channels in
    let sound = c.args.sound.now in
    let coefs = c.args.known.now in
    let first = c.args.first in
    let ch = get_or c.args.members.now c.loop-member.member-index 0 in
    let before = take c.loop-member.member-index c.args.members.now in
    let T = samples f in
    let short : T ≤ 150528 = omega (arith, c.requires.row, c.requires.short) in
    let part = take_rest c.write_codes.new.codes first ∙ ap (drop first) c.write_codes.ensures in
    let many : length (drop first (codes f sound ch coefs)) ≡ T - first = length-drop first (codes f sound ch coefs)
    ∙ ap (λ n. n - first) (codes-length f sound ch coefs) in
    record {
      small = subst (λ xs. (k d : ℕ) → k < length xs → get_or xs k d < 128) (sym part)
          (λ k d h. codes-small f sound ch coefs first k d (omega arith));
      room = λ q h.
          let counts = c.loop-member.invariant.1 q h in
          let most = count_from-most first f (λ c t. code_at f sound c coefs t == q) before in
          let few : length before ≤ 6 = omega (arith, length-take c.loop-member.member-index c.args.members.now, c.requires.few) in
          let row = ap length part ∙ many in
          let product : length before * T ≤ 6 * 150528 = Rattle.std.proofs.lemmas.Nat.mul-le (length before) T 6 150528 few short in
          omega (arith, row);
    }

pub loop-member-preserved : goal.loop-member-preserved
loop-member-preserved c =
    let f = c.args.channels in
    let first = c.args.first in
    let test : ℕ → ℕ → ℕ → Bool = λ q channel t. code_at f c.args.sound.now channel c.args.known.now t == q in
    let ch = get_or c.args.members.now c.loop-member.member-index 0 in (
      c.count_codes.ensures.long,
      λ q h.
          c.count_codes.ensures.counts q h
          ∙ ap (λ n. get_or c.loop-member.counts q 0 + n)
          (ap (count_by (λ code. code == q)) (take_rest c.write_codes.new.codes first ∙ ap (drop first) c.write_codes.ensures)
          ∙ count_by-codes f c.args.sound.now ch c.args.known.now first q)
          ∙ ap (λ n. n + count_by (test q ch) (range_with_len first (samples f - first))) (c.loop-member.invariant.1 q h)
          ∙ sym (count_from-next first f (test q) c.args.members.now c.loop-member.member-index c.loop-member-test.true),
      ap length c.write_codes.ensures ∙ codes-length f c.args.sound.now ch c.args.known.now,
    )

pub returns : goal.returns
returns c =
    let f = c.args.channels in
    let first = c.args.first in
    let members = c.args.members.now in
    let T = samples f in
    let short : T ≤ 150528 = omega (arith, c.requires.row, c.requires.short) in
    let all : take c.loop-member.member-index members ≡ members = take_all c.loop-member.member-index members (omega arith) in
    let counts : (q : ℕ) → q < 128 → get_or c.loop-member.counts q 0 ≡ count_from first f
    (λ c' t. code_at f c.args.sound.now c' c.args.known.now t == q) members =
    λ q h. c.loop-member.invariant.1 q h ∙ ap (count_from first f (λ c' t. code_at f c.args.sound.now c' c.args.known.now t == q)) all in
    let product : length members * T ≤ 6 * 150528 = Rattle.std.proofs.lemmas.Nat.mul-le (length members) T 6 150528 c.requires.few short in
    record {
      long = c.loop-member.invariant.0;
      counts = counts;
      most = λ q. elim (cases_lt q 128) [
        | inl h ↦ omega (arith, counts q h, count_from-most first f (λ c' t. code_at f c.args.sound.now c' c.args.known.now t == q) members)
        | inr h ↦ let past : get_or c.loop-member.counts q 0 ≡ 0 =
            get_or_past c.loop-member.counts q 0 (omega (arith, c.loop-member.invariant.0)) in omega arith
      ];
    }
