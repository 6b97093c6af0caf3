-- Frames that are cut out: where they lie in the file, and how much sound stands before them.
use Rattle.std.proofs.Common.{◌≡◌, ℕ, zero, suc, ◌+◌, ◌-◌, ◌^◌, ◌<◌, ◌≤◌, Bool, true, false, if◌then◌else◌, List, length, take, drop}
use Rattle.std.proofs.Common.{get_or, refl, ap, ◌∙◌, arith, length-drop}
use Rattle.std.proofs.lemmas.Bool.{eqb-false}
use Rattle.std.proofs.lemmas.List.{length-map, length-take, get_or-map, get_or-take, get_or-drop}
use Rattle.dsdiff_spec.specs.Bytes.{between}
use Rattle.dsdiff_spec.specs.Chunks.{body_end}
use Rattle.dsdiff_spec.specs.Form.{Form}
use Rattle.dsdiff_spec.specs.Walk.{Entry, entry}
use Rattle.dsdiff_chunks.specs.Lawful.{IsLawful}
use Rattle.dsdiff_chunks.proofs.LawfulForms.{sound_inside}
use Rattle.frame_index.specs.Fitting.{IsIndexOf}
use Rattle.dsdiff_chunks.specs.Forms.{coded_seen}
use Rattle.dst_cut.specs.declared.cut_form.CutForm.{CutForm}
use Rattle.dst_cut.specs.CutLayout.{begins, ends, count, is_last, moved, entries_left}

-- ---- later entries stand further behind
rises : (form : Form) (es : List Entry) → IsIndexOf form es → (d i j : ℕ) → j ≡ i + d → j < length es → (entry es i).offset ≤ (entry es j).offset
rises form es h zero i j e l =
    let same : i ≡ j = omega (arith, e) in
    let at = ap (λ k. (entry es k).offset) same in
    omega (arith, at)
rises form es h (suc d) i j e l =
    let k = i + d in
    let next : j ≡ k + 1 = omega (arith, e) in
    let within : k + 1 < length es = omega (arith, next, l) in
    let before : k < length es = omega (arith, within) in
    let at = ap (λ k. (entry es k).offset) next in
    omega (arith, at, h.order k within, rises form es h d i k refl before)

-- ---- the bytes that are cut out lie in the form, and each frame in them
pub record AreCutOut (form : Form) (es : List Entry) (first last : ℕ) : Type 0 where
  pub long : last < length es
  pub some : 30 ≤ (entry es first).offset
  pub order : begins es first ≤ ends es form last
  pub inside : ends es form last ≤ form.end
  pub short : ends es form last - begins es first ≤ form.sound.size
  pub most : form.end ≤ 2 ^ 50 + 12
  pub from : (k : ℕ) → first ≤ k → k < length es → (entry es first).offset ≤ (entry es k).offset
  pub to : (k : ℕ) → k < length es → (entry es k).offset ≤ form.end

pub are_cut_out : (form : Form) (es : List Entry) (first last : ℕ) → IsLawful form → IsIndexOf form es → first ≤ last → last < form.frames →
    AreCutOut form es first last
are_cut_out form es first last lawful h order there =
    let l : last < length es = omega (arith, there, h.count) in
    let f : first < length es = omega (arith, l, order) in
    let sound = sound_inside form lawful in
    let here = h.inside first f in
    let stops = go l f sound (is_last form last) refl in
    record {
      long = l;
      some = omega (arith, here.behind);
      order = stops.0;
      inside = omega (arith, stops.1, sound);
      short = omega (arith, stops.1, here.behind);
      most = lawful.end;
      from = λ k le within. rises form es h (k - first) first k (omega (arith, le)) within;
      to = λ k within. omega (arith, (h.inside k within).before, sound);
    }
  where
    go : last < length es → first < length es → body_end form.sound ≤ form.end → (b : Bool) → is_last form last ≡ b →
        (begins es first ≤ (if b then body_end form.sound else begins es (last + 1)))
        × ((if b then body_end form.sound else begins es (last + 1)) ≤ body_end form.sound)
    go l f sound true e = (omega (arith, (h.inside first f).before), omega arith)
    go l f sound false e =
        let not_last = eqb-false form.frames (last + 1) e in
        let next : last + 1 < length es = omega (arith, l, h.count, not_last) in (
          omega (arith, rises form es h (last + 1 - first) first (last + 1) (omega (arith, order)) next),
          omega (arith, (h.inside (last + 1) next).before),
        )

-- the same of a form of which frames are cut out
pub cut_out : (cut : CutForm) → AreCutOut (coded_seen cut.form) cut.index cut.first cut.last
cut_out cut = are_cut_out (coded_seen cut.form) cut.index cut.first cut.last cut.form.lawful cut.fits cut.order cut.there

-- ---- the entries of the frames that are cut out
pub length-left : (form : Form) (es : List Entry) (first last place : ℕ) → first ≤ last → last < length es →
    length (entries_left es first last place) ≡ count first last
length-left form es first last place order l =
    length-map (take (count first last) (drop first es)) (moved (begins es first) place)
    ∙ omega (arith, length-take (count first last) (drop first es), length-drop first es, order, l)

abbrev pub none : Entry
none = record { offset = 0; size = 0 }

pub nth_left : (es : List Entry) (first last place k : ℕ) → first ≤ last → last < length es → k < count first last →
    get_or (entries_left es first last place) k none ≡ moved (begins es first) place (entry es (first + k))
nth_left es first last place k order l within =
    let some = take (count first last) (drop first es) in
    let long : k < length some = omega (arith, length-take (count first last) (drop first es), length-drop first es, order, l, within) in
    get_or-map (moved (begins es first) place) some k none none long
    ∙ ap (moved (begins es first) place) (get_or-take (count first last) (drop first es) k none within ∙ get_or-drop first es k none)

-- ---- bytes between two places
pub length-between : (file : List ℕ) (from to : ℕ) → from ≤ to → to ≤ length file → length (between file from to) ≡ to - from
length-between file from to order fits = omega (arith, length-take (to - from) (drop from file), length-drop from file, order, fits)
