-- The chunks on one side of the sound, copied one by one, take no more bytes than stand there.
use Rattle.std.proofs.Common.{◌≡◌, ℕ, ◌+◌, ◌-◌, ◌<◌, ◌≤◌, Bool, true, false, if◌then◌else◌, List, [], ◌∷◌, length, drop, filter, map, get_or}
use Rattle.std.proofs.Common.{refl, ap, ◌∙◌, arith}
use Rattle.std.specs.Prelude.{◌&&◌, nat_lt, sum_by}
use Rattle.std.proofs.lemmas.List.Sums.{sum_by-cons, sum_by-drop_more}
use Rattle.std.proofs.lemmas.List.{length-map, get_or-map}
use Rattle.std.proofs.lemmas.Bool.{le-ltb}
use Rattle.dsdiff_spec.specs.Chunks.{Head, next_place}
use Rattle.dsdiff_spec.specs.Form.{Form}
use Rattle.dsdiff_chunks.specs.Lawful.{TileTo, IsLawful}
use Rattle.dsdiff_chunks.proofs.LawfulForms.{sound_inside}
use Rattle.dsdiff_chunks.specs.Opening.{is_sound}
use Rattle.dsdiff_chunks.specs.Seen.{head_seen}
use Rattle.dsdiff_chunks.specs.declared.lists.ChunkHead.{ChunkHead}
use Rattle.dst_commands.specs.declared.chunks.Side.{Side}
use Rattle.dst_commands.specs.declared.chunks.Side.TheVariants.{Before, Behind}
use Rattle.dst_commands.specs.Passing.{goes, whole_end, bytes_on}

-- what is taken of a chunk at most
abbrev pub taken_of : Side → Form → Head → ℕ
taken_of side form h = if goes side form h then whole_end form h - h.place else 0

abbrev pub taken : Side → Form → List Head → ℕ
taken side form hs = sum_by (taken_of side form) hs

if_most : (b : Bool) (n : ℕ) → (if b then n else 0) ≤ n
if_most true n = omega arith
if_most false n = omega arith

if_none : (a b : Bool) (n : ℕ) → a ≡ false → (if (a && b) then n else 0) ≡ 0
if_none false b n e = refl
if_none true b n e = absurd cc

none_before : (form : Form) (h : Head) → form.sound.place ≤ h.place → taken_of Before form h ≡ 0
none_before form h le = if_none (nat_lt h.place form.sound.place) _ (whole_end form h - h.place) (le-ltb h.place form.sound.place le)

none_behind : (form : Form) (h : Head) → h.place ≤ form.sound.place → taken_of Behind form h ≡ 0
none_behind form h le = if_none (nat_lt form.sound.place h.place) _ (whole_end form h - h.place) (le-ltb form.sound.place h.place le)

-- ---- chunks from the sound on, and in front of it
all_behind : (form : Form) (place : ℕ) (hs : List Head) → TileTo form.end place hs → form.sound.place ≤ place → taken Before form hs ≡ 0
all_behind form place [] t le = refl
all_behind form place (h ∷ hs) t le =
    let later = all_behind form (next_place h) hs t.2 (omega (arith, t.0, le)) in
    omega (arith, sum_by-cons (taken_of Before form) h hs, later, none_before form h (omega (arith, t.0, le)))

in_all : (form : Form) (place : ℕ) (hs : List Head) → TileTo form.end place hs → taken Behind form hs ≤ form.end - place
in_all form place [] t = omega arith
in_all form place (h ∷ hs) t =
    let later = in_all form (next_place h) hs t.2 in
    let own = if_most (goes Behind form h) (whole_end form h - h.place) in
    omega (arith, sum_by-cons (taken_of Behind form) h hs, later, t.0, t.1, own)

record AreApart (form : Form) (place : ℕ) (hs : List Head) : Type 0 where
  pub order : place ≤ form.sound.place
  pub front : taken Before form hs ≤ form.sound.place - place
  pub behind : taken Behind form hs ≤ form.end - next_place form.sound

apart : (p : Head → Bool) (form : Form) (place : ℕ) (hs : List Head) → TileTo form.end place hs → filter p hs ≡ form.sound ∷ [] → AreApart form place hs
apart p form place [] t only = absurd cc
apart p form place (h ∷ hs) t only = at (p h) refl (λ q. apart p form (next_place h) hs t.2 q)
  where
    front : taken Before form (h ∷ hs) ≡ taken_of Before form h + taken Before form hs
    front = sum_by-cons (taken_of Before form) h hs

    behind : taken Behind form (h ∷ hs) ≡ taken_of Behind form h + taken Behind form hs
    behind = sum_by-cons (taken_of Behind form) h hs

    at : (b : Bool) → p h ≡ b → (filter p hs ≡ form.sound ∷ [] → AreApart form (next_place h) hs) → AreApart form place (h ∷ hs)
    at true q rest =
        let both : h ∷ filter p hs ≡ form.sound ∷ [] = rw q at only in
        let same : h ≡ form.sound = cc in
        let here : h.place ≡ form.sound.place = ap (λ (h : Head). h.place) same in
        let next : next_place h ≡ next_place form.sound = ap next_place same in
        record {
          order = omega (arith, t.0, here);
          front = omega (arith, front, none_before form h (omega (arith, here)), all_behind form (next_place h) hs t.2 (omega (arith, here)));
          behind = omega (arith, behind, none_behind form h (omega (arith, here)), in_all form (next_place h) hs t.2, next);
        }
    at false q rest =
        let later : AreApart form (next_place h) hs = rest (rw q at only) in
        record {
          order = omega (arith, t.0, later.order);
          front = omega (arith, front, t.0, later.order, later.front, if_most (goes Before form h) (whole_end form h - h.place));
          behind = omega (arith, behind, later.behind, later.order, none_behind form h (omega (arith, later.order)));
        }

pub taken_on_side : (side : Side) (form : Form) → IsLawful form → taken side form form.chunks ≤ bytes_on side form
taken_on_side Before form lawful = (apart is_sound form 16 form.chunks lawful.chunks lawful.sound).front
taken_on_side Behind form lawful = (apart is_sound form 16 form.chunks lawful.chunks lawful.sound).behind

-- ---- the next chunk
pub one_more_taken : (side : Side) (form : Form) (xs : List ChunkHead) (j : ℕ) (d : ChunkHead) → form.chunks ≡ map head_seen xs → j < length xs →
    taken side form (drop j form.chunks) ≡ taken_of side form (head_seen (get_or xs j d)) + taken side form (drop (j + 1) form.chunks)
one_more_taken side form xs j d is l =
    let long : length form.chunks ≡ length xs = ap length is ∙ length-map xs head_seen in
    let here : get_or form.chunks j (head_seen d) ≡ head_seen (get_or xs j d) = ap (λ hs. get_or hs j (head_seen d)) is
    ∙ get_or-map head_seen xs j d (head_seen d) l in
    sum_by-drop_more (taken_of side form) form.chunks j (head_seen d) (omega (arith, long, l))
    ∙ ap (λ h. taken_of side form h + taken side form (drop (j + 1) form.chunks)) here

pub taken_if : (side : Side) (form : Form) (h : Head) → goes side form h ≡ true → taken_of side form h ≡ whole_end form h - h.place
taken_if side form h is = ap (λ b. if b then whole_end form h - h.place else 0) is

-- a chunk that goes is taken whole
pub one_gone_taken : (side : Side) (form : Form) (xs : List ChunkHead) (j : ℕ) (d : ChunkHead) → form.chunks ≡ map head_seen xs → j < length xs →
    goes side form (head_seen (get_or xs j d)) ≡ true → taken side form (drop j form.chunks)
    ≡ whole_end form (head_seen (get_or xs j d)) - (head_seen (get_or xs j d)).place + taken side form (drop (j + 1) form.chunks)
one_gone_taken side form xs j d is l is_gone =
    one_more_taken side form xs j d is l ∙ ap (λ n. n + taken side form (drop (j + 1) form.chunks)) (taken_if side form (head_seen (get_or xs j d)) is_gone)

-- both sides of the sound and the sound are no more than the form
pub parts_of_form : (form : Form) → IsLawful form → bytes_on Before form + form.sound.size + bytes_on Behind form ≤ form.end
parts_of_form form lawful = omega (arith, sound_inside form lawful)
