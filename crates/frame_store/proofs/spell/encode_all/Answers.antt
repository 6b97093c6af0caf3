-- A symbol that doesn't fit makes the whole too long, as the symbols behind it take no doublings back.
use Rattle.std.proofs.Common.{◌≡◌, suc, ◌+◌, ◌<◌, false, ◌∷◌, ◌++◌, [], map, take, drop, get_or, ap, ap₂, sym, subst, ◌∙◌, arith}
use Rattle.dst_spec.specs.Interval.{interval}
use Rattle.frame_store.specs.Pairs.{pair_of}
use Rattle.frame_store.proofs.Codes.{map-around, too_long}
use Rattle.frame_store.proofs.spell.encode_all.Goals as goal

pub returns-then-not-encode-clause-long : goal.returns-then-not-encode-clause-long
returns-then-not-encode-clause-long c = λ refused.
    too_long c.args.encoder.now.room c.args.encoder.now.reached [] (map pair_of c.args.symbols.now) false c.args.reserved c.requires
    (λ h. let t = c.if-not-encode.ensures.fits.1 h in absurd cc)

pub returns-then-not-encode-2-clause-long : goal.returns-then-not-encode-2-clause-long
returns-then-not-encode-2-clause-long c = λ refused.
    let i = c.loop-byte.byte-index in
    let xs = c.args.symbols.now in
    let e = c.symbol_in.result in
    let p = c.prob_of.result in
    let room = c.loop-byte.invariant.room in
    let pair : (e, p) ≡ pair_of (get_or xs i 0) = ap₂ (λ x y. (x, y)) c.symbol_in.ensures c.prob_of.ensures in
    let all = ap (λ q. (false, c.args.reserved) ∷ map pair_of (take i xs) ++ q ∷ map pair_of (drop (suc i) xs)) pair
    ∙ ap (λ ys. (false, c.args.reserved) ∷ ys) (sym (map-around pair_of xs i c.loop-byte-test.true)) in
    subst (λ pairs. c.args.encoder.now.room < 13 + (interval pairs).doublings) all
    (too_long c.args.encoder.now.room c.loop-byte.encoder.reached ((false, c.args.reserved) ∷ map pair_of (take i xs)) (map pair_of (drop (suc i) xs))
    e p c.loop-byte.invariant.stands
    (λ h. let t = c.if-not-encode-2.ensures.fits.1 (omega (arith, h)) in absurd cc))
