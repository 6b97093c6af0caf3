-- The front that is written is that of the front, and the work that begins is of its form.
use Rattle.std.proofs.Common.{◌≡◌, ℕ, ◌*◌, ◌≤◌, List, [], length, ap, ap₂, sym, subst, ◌∙◌, arith}
use Rattle.std.proofs.Math.Nat.{mul-le-mul}
use Rattle.dst_spec.specs.Sample.{Shape, sound_bytes}
use Rattle.dsdiff_spec.specs.Streams.{Front, shape_in}
use Rattle.dsdiff_chunks.specs.Lawful.{IsPropBody}
use Rattle.dst_commands.proofs.Writing.{adds_same, stops_same}
use Rattle.dst_pipes.specs.Fronts.{front_with, front_bytes}
use Rattle.dst_pipes.proofs.Stepping.{lawful_front, few_frames, lawful_shape}
use Rattle.dst_pipes.proofs.steps.begin.Goals as goal

-- the front that is written is that of the front
front_is : {channels : Shape} {frames bytes : ℕ} (front : Front) (version prop : List ℕ) → version ≡ front.version → prop ≡ front.prop →
    channels ≡ shape_in front.prop → frames ≡ front.frames → bytes ≡ sound_bytes channels →
    front_with version prop (frames * bytes) ≡ front_bytes front
front_is {channels} {frames} {bytes} front version prop a b c d e =
    ap₂ (λ v p. front_with v p (frames * bytes)) a b ∙ ap (front_with front.version front.prop) (ap₂ (λ n m. n * m) d (e ∙ ap sound_bytes c))

pub unreachable-requires : goal.unreachable-requires
unreachable-requires g c =
    let t = c.requires.properties in
    c.in_default.ensures.none (lawful_shape t.0 _ _ _ _ t.1)

pub write_front-requires-clause-version : goal.write_front-requires-clause-version
write_front-requires-clause-version g c =
    let t = c.requires.properties in
    let same = c.version.ensures t.1.taken t.0 [] t.1.stands in
    subst (λ v. length v ≡ 4) (sym same) (lawful_front t.0 _ _ _ _ t.1).version

pub write_front-requires-clause-prop : goal.write_front-requires-clause-prop
write_front-requires-clause-prop g c =
    let t = c.requires.properties in
    let lawful = lawful_front t.0 _ _ _ _ t.1 in
    subst IsPropBody (sym (c.prop.ensures t.1.taken t.0 [] t.1.stands)) (record { most = lawful.most; rules = lawful.rules })

pub write_front-requires-clause-most : goal.write_front-requires-clause-most
write_front-requires-clause-most g c =
    let few : c.from.result ≤ 1000000 = omega (arith, few_frames _ _ _ _ _ c.requires.properties.1, c.from.ensures) in
    let short : c.sound_bytes.result ≤ 112896 = omega (arith, c.sound_bytes.ensures.most) in
    let all = mul-le-mul few short in
    omega (arith, all)

pub returns-in-Ok-write_front-clause-fewer : goal.returns-in-Ok-write_front-clause-fewer
returns-in-Ok-write_front-clause-fewer g c =
    omega (arith, few_frames _ _ _ _ _ c.requires.properties.1, c.in-Ok.ensures.frame_count)

pub returns-in-Ok-write_front-clause-begun : goal.returns-in-Ok-write_front-clause-begun
returns-in-Ok-write_front-clause-begun g c front told =
    let shape = c.in-Some.ensures.value ∙ told.shape in
    let same_front = front_is front _ _ (c.version.ensures told.taken front [] told.stands) (c.prop.ensures told.taken front [] told.stands) shape
    (c.from.ensures ∙ told.frame_count) c.sound_bytes.ensures.bytes in (
      record {
        channels = c.in-Ok.ensures.channels ∙ shape;
        scratch = c.in-Ok.ensures.scratch ∙ shape;
        sound = c.in-Ok.ensures.sound ∙ ap sound_bytes shape;
        frame_count = c.in-Ok.ensures.frame_count ∙ told.frame_count;
        decoded = c.in-Ok.ensures.decoded;
      },
      adds_same _ _ _ _ _ _ same_front c.in-Ok-write_front.ensures.written,
    )

pub returns-in-Err-write_front-clause-begun : goal.returns-in-Err-write_front-clause-begun
returns-in-Err-write_front-clause-begun g c front told =
    let shape = c.in-Some.ensures.value ∙ told.shape in
    let same_front = front_is front _ _ (c.version.ensures told.taken front [] told.stands) (c.prop.ensures told.taken front [] told.stands) shape
    (c.from.ensures ∙ told.frame_count) c.sound_bytes.ensures.bytes in
    stops_same (Unit {0}) _ _ _ _ _ same_front c.in-Err-write_front.ensures.written
