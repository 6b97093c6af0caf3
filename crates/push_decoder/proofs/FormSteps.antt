-- A form at the place of a chunk: what stops it there, and the rules on the chunk's head.
use Rattle.std.proofs.Common.{◌≡◌, ℕ, zero, suc, ◌+◌, ◌-◌, ◌<◌, ◌≤◌, List, length, Bool, true, false, Option, Some, None, refl, sym, ap, ◌∙◌, arith, inl, inr}
use Rattle.std.specs.Prelude.{if◌then◌else◌, nat_lt, option_map, min}
use Rattle.std.proofs.lemmas.Bool.{lt-ltb, cases_order}
use Rattle.dsdiff_spec.specs.Bytes.{◌is◌}
use Rattle.dsdiff_spec.specs.Faults.{◌otherwise◌}
use Rattle.dsdiff_spec.specs.Chunks.{Head, head_at, body_place, body_end, next_place, body_of}
use Rattle.dsdiff_spec.specs.Streams.{Stream, Came, nothing_but, stopped, missing, chunk_head_fault, in_form, up_to}
use Rattle.dsdiff_spec.specs.Streams.{later_head_fault, prop_head_fault, plain_head_fault, sound_head_fault, version_head_fault}
use Rattle.dsdiff_spec.specs.Streams.{unless, ending_at_head, came_with, in_sound, in_form_chunk, whole_end, version_body_fault, prop_body_fault}
use Rattle.dsdiff_spec.specs.Rules.{local_fault}
use Rattle.dsdiff_spec.specs.declared.faults.FileFault.{FileFault}
use Rattle.dsdiff_spec.specs.declared.faults.FileFault.TheVariants.{Overrun, TooManyChunks}
use Rattle.dsdiff_spec.proofs.ManyOfStreams.{within, by_ids, unruled}
use Rattle.dsdiff_spec.proofs.StreamSteps.{head_passes, reaches, falls_short, head_is_whole, form_ends, form_has_no_more, form_ends_at_head}
use Rattle.dsdiff_spec.proofs.StreamSteps.{form_has_sound, form_has_chunk}

pub missing_at : (w : List ℕ) (end most : ℕ) (came : Came) (place : ℕ) (fault : FileFault) → end ≤ place → fault ≡ missing came →
    in_form w end most came place ≡ nothing_but (stopped fault)
missing_at w end most came place fault le e = form_ends w end most came place le ∙ ap (λ f. nothing_but (stopped f)) (sym e)

pub too_many_at : (w : List ℕ) (end chunks : ℕ) (came : Came) (place : ℕ) → place < end → chunks ≡ 1024 →
    in_form w end (1024 - chunks) came place ≡ nothing_but (stopped TooManyChunks)
too_many_at w end chunks came place lt e =
    let none : 1024 - chunks ≡ zero = omega (arith, e) in
    ap (λ n. in_form w end n came place) none ∙ form_has_no_more w end came place lt

pub overruns_at : (w : List ℕ) (end chunks : ℕ) (came : Came) (place : ℕ) → place < end → end < place + 12 → chunks < 1024 →
    in_form w end (1024 - chunks) came place ≡ nothing_but (stopped (Overrun place))
overruns_at w end chunks came place lt short few =
    let more : 1024 - chunks ≡ suc (1023 - chunks) = omega (arith, few) in
    ap (λ n. in_form w end n came place) more
    ∙ form_ends_at_head w end (1023 - chunks) came place (stopped (Overrun place)) lt
    (head_passes w end place (chunk_head_fault end came (head_at w place)) short)

-- ---- rules on a chunk's head, by its id
opened : (prop : Option (List ℕ)) (h : Head) →
    later_head_fault prop h
    ≡ by_ids (h.id is "PROP") (h.id is "DSD ") (h.id is "DST ") (prop_head_fault prop h) (plain_head_fault prop) (sound_head_fault prop h)
unfolding by_ids
opened prop h = refl

pub rules_of_prop : (prop : Option (List ℕ)) (h : Head) → (h.id is "PROP") ≡ true → later_head_fault prop h ≡ prop_head_fault prop h
unfolding by_ids
rules_of_prop prop h p = opened prop h ∙ ap
    (λ a. by_ids a (h.id is "DSD ") (h.id is "DST ") (prop_head_fault prop h) (plain_head_fault prop) (sound_head_fault prop h)) p

pub rules_of_plain : (prop : Option (List ℕ)) (h : Head) → (h.id is "PROP") ≡ false → (h.id is "DSD ") ≡ true →
    later_head_fault prop h ≡ plain_head_fault prop
unfolding by_ids
rules_of_plain prop h p q =
    opened prop h
    ∙ ap (λ a. by_ids a (h.id is "DSD ") (h.id is "DST ") (prop_head_fault prop h) (plain_head_fault prop) (sound_head_fault prop h)) p
    ∙ ap (λ b. by_ids false b (h.id is "DST ") (prop_head_fault prop h) (plain_head_fault prop) (sound_head_fault prop h)) q

pub rules_of_sound : (prop : Option (List ℕ)) (h : Head) → (h.id is "PROP") ≡ false → (h.id is "DSD ") ≡ false → (h.id is "DST ") ≡ true →
    later_head_fault prop h ≡ sound_head_fault prop h
unfolding by_ids
rules_of_sound prop h p q r =
    opened prop h
    ∙ ap (λ a. by_ids a (h.id is "DSD ") (h.id is "DST ") (prop_head_fault prop h) (plain_head_fault prop) (sound_head_fault prop h)) p
    ∙ ap (λ b. by_ids false b (h.id is "DST ") (prop_head_fault prop h) (plain_head_fault prop) (sound_head_fault prop h)) q
    ∙ ap (λ c. by_ids false false c (prop_head_fault prop h) (plain_head_fault prop) (sound_head_fault prop h)) r

pub passes : (fault : FileFault) (end place : ℕ) (later : Option FileFault) → end < place →
    ((if nat_lt end place then Some fault else None) otherwise later) ≡ Some fault
passes fault end place later lt = ap {A = Bool} (λ b. (if b then Some fault else None) otherwise later) (lt-ltb end place lt)

pub later_rules : (end : ℕ) (version : List ℕ) (came : Came) (h : Head) → came.version ≡ Some version → body_end h ≤ end →
    chunk_head_fault end came h ≡ later_head_fault came.prop h
later_rules end version came h e le =
    within (Overrun h.place) end (body_end h) _ le
    ∙ ap {A = Option (List ℕ)} (λ v. elim v [ None ↦ version_head_fault h | Some w ↦ later_head_fault came.prop h ]) e

-- ---- behind a chunk's head
head_asked : (w : List ℕ) (end place : ℕ) (came : Came) (h : Head) (fault : Option FileFault) → head_at w place ≡ h → place + 12 ≤ end → place + 12 ≤ length w →
    chunk_head_fault end came h ≡ fault → ending_at_head w end place (chunk_head_fault end came (head_at w place)) ≡ option_map stopped fault
head_asked w end place came h fault e le there is_fault =
    head_is_whole w end place (chunk_head_fault end came (head_at w place)) le there
    ∙ ap (option_map stopped) (ap (chunk_head_fault end came) e ∙ is_fault)

pub refused_at : (w : List ℕ) (end chunks place : ℕ) (came : Came) (h : Head) (fault : FileFault) → chunks < 1024 → head_at w place ≡ h →
    place + 12 ≤ end → place + 12 ≤ length w → chunk_head_fault end came h ≡ Some fault →
    in_form w end (1024 - chunks) came place ≡ nothing_but (stopped fault)
refused_at w end chunks place came h fault few e le there is_fault =
    let more : 1024 - chunks ≡ suc (1023 - chunks) = omega (arith, few) in
    ap (λ n. in_form w end n came place) more
    ∙ form_ends_at_head w end (1023 - chunks) came place (stopped fault) (omega (arith, le))
    (head_asked w end place came h (Some fault) e le there is_fault)

pub sound_is_at : (w : List ℕ) (end chunks place : ℕ) (came : Came) (h : Head) → chunks < 1024 → head_at w place ≡ h →
    place + 12 ≤ end → place + 12 ≤ length w → chunk_head_fault end came h ≡ None → (h.id is "DST ") ≡ true →
    in_form w end (1024 - chunks) came place ≡ in_sound w came h
sound_is_at w end chunks place came h few e le there no_fault d =
    let more : 1024 - chunks ≡ suc (1023 - chunks) = omega (arith, few) in
    ap (λ n. in_form w end n came place) more
    ∙ form_has_sound w end (1023 - chunks) came place (omega (arith, le)) (head_asked w end place came h None e le there no_fault)
    (ap (λ i. i.id is "DST ") e ∙ d)
    ∙ ap (in_sound w came) e

pub chunk_is_at : (w : List ℕ) (end chunks place : ℕ) (came : Came) (h : Head) → chunks < 1024 → head_at w place ≡ h →
    place + 12 ≤ end → place + 12 ≤ length w → chunk_head_fault end came h ≡ None → (h.id is "DST ") ≡ false →
    in_form w end (1024 - chunks) came place
    ≡ in_form_chunk w end came h (in_form w end (1023 - chunks) (came_with w came h) (next_place h))
chunk_is_at w end chunks place came h few e le there no_fault d =
    let more : 1024 - chunks ≡ suc (1023 - chunks) = omega (arith, few) in
    ap (λ n. in_form w end n came place) more
    ∙ form_has_chunk w end (1023 - chunks) came place (omega (arith, le)) (head_asked w end place came h None e le there no_fault)
    (ap (λ i. i.id is "DST ") e ∙ d)
    ∙ ap (λ i. in_form_chunk w end came i (in_form w end (1023 - chunks) (came_with w came i) (next_place i))) e

-- ---- behind its body: the place behind the chunk is the same place, or both lie at the end of the form
pub next_is : (w : List ℕ) (end most place : ℕ) (came : Came) → in_form w end most came place ≡ in_form w end most came (min place end)
next_is w end most place came = elim (cases_order place end) [
  | inl same ↦ (let e : place ≡ min place end = omega (arith, same) in ap (in_form w end most came) e)
  | inr (inl lt) ↦ (let e : place ≡ min place end = omega (arith, lt) in ap (in_form w end most came) e)
  | inr (inr lt) ↦ (
      let e : end ≤ min place end = omega (arith, lt) in
      form_ends w end most came place (omega (arith, lt)) ∙ sym (form_ends w end most came (min place end) e)
      )
]

-- what is asked of a chunk that is passed over: its end alone
pub past : (w : List ℕ) (c body end : ℕ) (later : Stream) → body ≤ end → up_to w c body (up_to w c end later) ≡ up_to w c end later
past w c body end later le = elim (cases_order (length w) body) [
  | inl same ↦ reaches w c body _ (omega (arith, same))
  | inr (inl lt) ↦ falls_short w c body _ lt ∙ sym (falls_short w c end later (omega (arith, lt, le)))
  | inr (inr lt) ↦ reaches w c body _ (omega (arith, lt))
]

abbrev pub later_came : List ℕ → Option (List ℕ) → Came
later_came version prop = record { version = Some version; prop = prop }

prop_is_same : (b : Bool) → b ≡ false → (version body : List ℕ) (prop : Option (List ℕ)) →
    later_came version (if b then Some body else prop) ≡ later_came version prop
prop_is_same b e version body prop = ap {A = Bool} (λ c. later_came version (if c then Some body else prop)) e

pub chunk_passes : (w : List ℕ) (end most : ℕ) (version : List ℕ) (prop : Option (List ℕ)) (h : Head) → (h.id is "PROP") ≡ false →
    body_end h ≤ end →
    in_form_chunk w end (record { version = Some version; prop = prop }) h
    (in_form w end most (came_with w (record { version = Some version; prop = prop }) h) (next_place h))
    ≡ up_to w h.place (whole_end end h) (in_form w end most (record { version = Some version; prop = prop }) (whole_end end h))
chunk_passes w end most version prop h p le =
    ap (up_to w h.place (body_end h)) (unruled (h.id is "PROP") p _ _)
    ∙ past w h.place (body_end h) (whole_end end h) _ (omega (arith, le))
    ∙ ap (λ came. up_to w h.place (whole_end end h) (in_form w end most came (next_place h))) (prop_is_same (h.id is "PROP") p version _ prop)
    ∙ ap (up_to w h.place (whole_end end h)) (next_is w end most (next_place h) (record { version = Some version; prop = prop }))

-- the body of `PROP` is whole
pub prop_is_refused : (w : List ℕ) (end : ℕ) (came : Came) (version : List ℕ) (h : Head) (fault : FileFault) (later : Stream) → came.version ≡ Some version →
    (h.id is "PROP") ≡ true → body_end h ≤ length w → local_fault (body_place h) (body_of w h) ≡ Some fault →
    in_form_chunk w end came h later ≡ nothing_but (stopped fault)
prop_is_refused w end came version h fault later v p there is_fault =
    reaches w h.place (body_end h) _ there
    ∙ ap {A = Option (List ℕ)} (λ o. unless (elim o [ None ↦ version_body_fault w h | Some x ↦ prop_body_fault w h ])
    (up_to w h.place (whole_end end h) later)) v
    ∙ ap {A = Bool} (λ b. unless (if b then local_fault (body_place h) (body_of w h) else None) (up_to w h.place (whole_end end h) later)) p
    ∙ ap (λ f. unless f (up_to w h.place (whole_end end h) later)) is_fault

pub prop_is_taken : (w : List ℕ) (end most : ℕ) (version : List ℕ) (prop : Option (List ℕ)) (h : Head) (body : List ℕ) →
    (h.id is "PROP") ≡ true → body_end h ≤ length w → body_of w h ≡ body → local_fault (body_place h) body ≡ None →
    in_form_chunk w end (record { version = Some version; prop = prop }) h
    (in_form w end most (came_with w (record { version = Some version; prop = prop }) h) (next_place h))
    ≡ up_to w h.place (whole_end end h) (in_form w end most (record { version = Some version; prop = Some body }) (whole_end end h))
prop_is_taken w end most version prop h body p there is_body no_fault =
    let came : Came = record { version = Some version; prop = prop } in
    let taken : Came = record { version = Some version; prop = Some body } in
    let later = up_to w h.place (whole_end end h) (in_form w end most (came_with w came h) (next_place h)) in
    reaches w h.place (body_end h) _ there
    ∙ ap {A = Bool} (λ b. unless (if b then local_fault (body_place h) (body_of w h) else None) later) p
    ∙ ap (λ f. unless f later) (ap (local_fault (body_place h)) is_body ∙ no_fault)
    ∙ ap {A = Bool} (λ b. up_to w h.place (whole_end end h)
    (in_form w end most (record { version = Some version; prop = if b then Some (body_of w h) else prop }) (next_place h))) p
    ∙ ap (λ x. up_to w h.place (whole_end end h) (in_form w end most (record { version = Some version; prop = Some x }) (next_place h))) is_body
    ∙ ap (up_to w h.place (whole_end end h)) (next_is w end most (next_place h) taken)
