-- All waves are still and the generator is seeded with the number, as at the beginning.
use Rattle.std.proofs.Common.{◌≡◌, ◌*◌, ◌≤◌, ℕ, List, [], ◌∷◌, take, replicate, ap, ap₂, sym, ◌∙◌, arith}
use Rattle.rand_pcg.specs.Lcg.{Lcg}
use Rattle.dst_spec.specs.Sample.{Shape}
use Rattle.dsdiff_spec.specs.Made.{Wave, seeded}
use Rattle.sound_maker.specs.Making.{moment}
use Rattle.sound_maker.proofs.Making.{still, take-alike, maker_at_the_beginning}
use Rattle.sound_maker.proofs.maker.SoundMaker.new.Goals as goal

pub returns : goal.returns
returns c =
    let f : Shape = c.args.channels in
    let n = c.count.result in
    let few : n ≤ 6 = omega (arith, c.count.ensures.count, c.count.ensures.shape.most) in
    let shape : record { channels = n; octets = 4704 * c.multiple.result } ≡ f =
    ap₂ (λ (a b : ℕ). record { channels = a; octets = b }) c.count.ensures.count (sym c.multiple.ensures.multiple) in
    let waves : take n (c.still.result ∷ c.still.result ∷ c.still.result ∷ c.still.result ∷ c.still.result ∷ c.still.result ∷ []) ≡ replicate f.channels still =
    ap (λ (w : Wave). take n (w ∷ w ∷ w ∷ w ∷ w ∷ w ∷ [])) c.still.ensures ∙ take-alike still n 6 few ∙ ap (λ k. replicate k still) c.count.ensures.count in
    let generator : c.seed_from_u64.result ≡ seeded c.args.start = c.seed_from_u64.ensures ∙ ap seeded c.from.ensures in
    ap₂ (λ (s : Shape) (ws : List Wave). record { shape = s; moment = moment 0 ws c.seed_from_u64.result }) shape waves
    ∙ ap (λ (g : Lcg). record { shape = f; moment = moment 0 (replicate f.channels still) g }) generator
    ∙ maker_at_the_beginning c.args.start f
