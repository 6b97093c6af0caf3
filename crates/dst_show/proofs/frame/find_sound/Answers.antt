-- The sound that is read is that of the outcome, or there is none for the reason that reading gives.
use Rattle.std.proofs.Common.{◌∙◌, ap, arith}
use Rattle.std.proofs.lemmas.Result.{IfOk-weaker, IfErr-weaker}
use Rattle.dsdiff_spec.specs.Form.{sound_bytes_of}
use Rattle.dst_show.proofs.FrameSounds.{found_at_most, sound_is_written, finds_no_sound}
use Rattle.dst_show.proofs.frame.find_sound.Goals as goal

pub returns-clause-accepted : goal.returns-clause-accepted
returns-clause-accepted g c = IfOk-weaker c.read_sound.result _ _ (λ s known. c.in-Ok.ensures.accepted) c.read_sound.ensures.sound

pub returns-clause-sound : goal.returns-clause-sound
returns-clause-sound g c =
    IfOk-weaker c.read_sound.result _ _ (λ s known file told.
    sound_is_written file c.in-Ok.found c.args.frame c.args.by_index s.items (c.in-Ok.ensures.accepted file told) (c.in-Ok.ensures.found file told)
    (known file (c.in-Ok.ensures.bytes ∙ told))) c.read_sound.ensures.sound

pub returns-clause-no_sound : goal.returns-clause-no_sound
returns-clause-no_sound g c =
    IfErr-weaker c.read_sound.result _ _ (λ fault known.
    finds_no_sound c.in-Ok.found c.args.frame c.args.by_index fault _ _ _ _ _ c.in-Ok.ensures.bytes c.open_frame.ensures.later
    c.in-Ok.ensures.accepted c.in-Ok.ensures.found known) c.read_sound.ensures.no_sound

pub returns-clause-given : goal.returns-clause-given
returns-clause-given g c by file told =
    let same = ap sound_bytes_of (c.in-Ok.ensures.found file told).form_is in
    omega (arith, c.read_sound.ensures.given, c.in-Ok.ensures.given by, c.in-Ok.found.inside.short, same)

-- ---- where it isn't opened

pub returns-in-Err-clause-bytes : goal.returns-in-Err-clause-bytes
returns-in-Err-clause-bytes g c = c.open_frame.ensures.bytes

pub returns-in-Err-clause-later : goal.returns-in-Err-clause-later
returns-in-Err-clause-later g c = c.open_frame.ensures.later

pub returns-in-Err-clause-no_sound : goal.returns-in-Err-clause-no_sound
returns-in-Err-clause-no_sound g c = c.in-Err.ensures.stops

pub returns-in-Err-clause-given : goal.returns-in-Err-clause-given
returns-in-Err-clause-given g c by file told = omega (arith, c.open_frame.ensures.given by)

pub returns-in-Err-clause-given_any : goal.returns-in-Err-clause-given_any
returns-in-Err-clause-given_any g c by = omega (arith, c.open_frame.ensures.given by)

pub returns-in-Err-clause-given_walk : goal.returns-in-Err-clause-given_walk
returns-in-Err-clause-given_walk g c = omega (arith, c.open_frame.ensures.given_walk)

-- ---- where memory is refused

pub returns-in-Err-new-clause-bytes : goal.returns-in-Err-new-clause-bytes
returns-in-Err-new-clause-bytes g c = c.open_frame.ensures.bytes

pub returns-in-Err-new-clause-later : goal.returns-in-Err-new-clause-later
returns-in-Err-new-clause-later g c = c.open_frame.ensures.later

pub returns-in-Err-new-clause-no_sound : goal.returns-in-Err-new-clause-no_sound
returns-in-Err-new-clause-no_sound g c = tt {0}

pub returns-in-Err-new-clause-given : goal.returns-in-Err-new-clause-given
returns-in-Err-new-clause-given g c by file told = omega (arith, c.open_frame.ensures.given by)

pub returns-in-Err-new-clause-given_any : goal.returns-in-Err-new-clause-given_any
returns-in-Err-new-clause-given_any g c by = omega (arith, c.open_frame.ensures.given by)

pub returns-in-Err-new-clause-given_walk : goal.returns-in-Err-new-clause-given_walk
returns-in-Err-new-clause-given_walk g c = omega (arith, c.open_frame.ensures.given_walk)

-- ---- where it is read

pub returns-clause-bytes : goal.returns-clause-bytes
returns-clause-bytes g c = c.read_sound.ensures.bytes ∙ c.open_frame.ensures.bytes

pub returns-clause-later : goal.returns-clause-later
returns-clause-later g c = omega (arith, c.read_sound.ensures.later, c.open_frame.ensures.later)

pub returns-clause-given_any : goal.returns-clause-given_any
returns-clause-given_any g c by =
    let most = found_at_most c.in-Ok.found in
    omega (arith, c.read_sound.ensures.given, c.open_frame.ensures.given by, most)

pub returns-clause-given_walk : goal.returns-clause-given_walk
returns-clause-given_walk g c =
    let most = found_at_most c.in-Ok.found in
    omega (arith, c.read_sound.ensures.given, c.open_frame.ensures.given_walk, most)
