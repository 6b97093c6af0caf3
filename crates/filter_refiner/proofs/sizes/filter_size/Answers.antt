-- The spelled bits and those of the first samples, then place by place what the symbols come to.
use Rattle.std.proofs.Common.{◌≡◌, ◌+◌, ◌*◌, ◌≤◌, pos, length, map, get_or, ap, ◌∙◌, arith}
use Rattle.std.proofs.lemmas.Nat.{mul-le}
use Rattle.dst_spec.specs.Table.{filter_kind, prob_kind}
use Rattle.level_spec.specs.Size.{spelled_bits, place_bits, sum_below, size}
use Rattle.filter_refiner.proofs.Entries.{entries-within, below-next}
use Rattle.filter_refiner.proofs.sizes.filter_size.Goals as goal

pub loop-place-init : goal.loop-place-init
unfolding sum_below
loop-place-init c =
    let long : length c.coefs.result.now ≡ length c.args.filter.now = ap length c.coefs.ensures.coefs in
    let few : length c.args.filter.now ≤ 128 = c.coefs.ensures.table.most in
    let product = mul-le c.args.channels (length c.coefs.result.now) 6 128 c.requires.channels (omega arith) in
    record {
      bits = ap (λ n. 4096 * (c.best_spelling.result.1 + c.best_spelling-2.result.1 + c.args.channels * n)) long ∙ omega arith;
      most = omega arith;
    }

pub place_size-bits-requires-clause-some : goal.place_size-bits-requires-clause-some
place_size-bits-requires-clause-some c = (entries-within c.args.table.now c.entries.result.now c.entries.ensures.entries c.entries.ensures.table).0

pub place_size-bits-requires-clause-entries : goal.place_size-bits-requires-clause-entries
place_size-bits-requires-clause-entries c = (entries-within c.args.table.now c.entries.result.now c.entries.ensures.entries c.entries.ensures.table).1

pub loop-place-preserved : goal.loop-place-preserved
loop-place-preserved c =
    let counts = c.args.counts.now in
    let F = place_bits (λ p. get_or counts p 0 + get_or counts (p + 64) 0) (λ p. get_or counts (p + 64) 0) in
    let p = c.loop-place.place in
    let here : c.place_size-bits.result ≡ F c.args.table.now p = c.place_size-bits.ensures.bits ∙ ap (λ t. F t p) c.entries.ensures.entries in
    let next = below-next (F c.args.table.now) p in
    record {
      bits = omega (arith, c.loop-place.invariant.bits);
      most = omega (arith, c.loop-place.invariant.most, c.place_size-bits.ensures.most);
    }

pub returns : goal.returns
unfolding size
returns c =
    let counts = c.args.counts.now in
    let F = place_bits (λ p. get_or counts p 0 + get_or counts (p + 64) 0) (λ p. get_or counts (p + 64) 0) c.args.table.now in
    let all : c.loop-place.place ≡ 64 = omega arith in
    let first : c.best_spelling.result.1 ≡ spelled_bits filter_kind c.args.filter.now = c.best_spelling.ensures.length in
    let second : c.best_spelling-2.result.1 ≡ spelled_bits prob_kind (map pos c.args.table.now) = c.best_spelling-2.ensures.length in
    c.loop-place.invariant.bits
    ∙ ap (λ n. 4096 * (c.best_spelling.result.1 + c.best_spelling-2.result.1 + c.args.channels * length c.args.filter.now) + sum_below F n) all
    ∙ ap (λ a. 4096 * (a + c.best_spelling-2.result.1 + c.args.channels * length c.args.filter.now) + sum_below F 64) first
    ∙ ap (λ b. 4096 * (spelled_bits filter_kind c.args.filter.now + b + c.args.channels * length c.args.filter.now) + sum_below F 64) second
