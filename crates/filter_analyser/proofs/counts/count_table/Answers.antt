-- The front of the array holds a channel's codes at the rate, and has at least as many as the filter is long.
use Rattle.std.proofs.Common.{◌≡◌, ℕ, ◌*◌, ◌≤◌, ◌==◌, List, ℤ, length, take, replicate, length-take, ap, sym, ◌∙◌, subst, arith}
use Rattle.std.proofs.lemmas.List.{length-replicate}
use Rattle.level_spec.specs.Counts.{count_from}
use Rattle.frame_predictions.specs.Codes.{code_at}
use Rattle.filter_analyser.proofs.Counting.{counted-is}
use Rattle.filter_analyser.proofs.counts.count_table.Goals as goal

-- as many bytes of the array as the rate has samples
front : (m : ℕ) → m ≤ 4 → length {A = ℕ} (take (37632 * m) (replicate 150528 0)) ≡ 37632 * m
front m h = omega (arith, length-take {A = ℕ} (37632 * m) (replicate 150528 0), length-replicate {A = ℕ} 150528 0)

pub slice_bounds-row-end : goal.slice_bounds-row-end
slice_bounds-row-end c = sym (front c.multiple.result c.multiple.ensures.most)

pub count_channels-counts-requires-clause-row : goal.count_channels-counts-requires-clause-row
count_channels-counts-requires-clause-row c = front c.multiple.result c.multiple.ensures.most
    ∙ (let rate : c.args.channels.octets ≡ 4704 * c.multiple.result = c.multiple.ensures.multiple in omega arith)

pub count_channels-counts-requires-clause-short : goal.count_channels-counts-requires-clause-short
count_channels-counts-requires-clause-short c =
    let e = front c.multiple.result c.multiple.ensures.most in
    let P : ℕ → Type 0 = λ n. n ≤ 150528 in
    let most : 37632 * c.multiple.result ≤ 150528 = let m = c.multiple.ensures.most in omega arith in
    subst P (sym e) most

pub count_channels-counts-requires-clause-first : goal.count_channels-counts-requires-clause-first
count_channels-counts-requires-clause-first c =
    let e = front c.multiple.result c.multiple.ensures.most in
    let P : ℕ → Type 0 = λ n. length c.coefs.result.now ≤ n in
    let least : length c.coefs.result.now ≤ 37632 * c.multiple.result =
    let m = c.multiple.ensures.least in
    let few : length c.args.filter.now ≤ 128 = c.coefs.ensures.table.most in
    let same : length c.coefs.result.now ≡ length c.args.filter.now = ap length c.coefs.ensures.coefs in
    omega arith in
    subst P (sym e) least

pub returns : goal.returns
returns c =
    let f = c.args.channels in
    let sound = c.args.sound.now in
    let coefs = c.args.filter.now in
    let members = c.args.members.now in
    let built : c.build.new.self ≡ coefs = c.build.ensures in
    c.table_from.ensures ∙ counted-is f sound members coefs c.count_channels-counts.result (λ q h.
    c.count_channels-counts.ensures.counts q h
    ∙ ap (λ (s : List ℤ). count_from (length c.coefs.result.now) f (λ c t. code_at f sound c s t == q) members) built
    ∙ ap (λ (s : List ℤ). count_from (length s) f (λ c t. code_at f sound c coefs t == q) members) c.coefs.ensures.coefs)
