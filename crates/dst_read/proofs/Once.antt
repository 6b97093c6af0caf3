-- Stored frames that are read in order, each once: the next one, and all of them beside the size of the sound.
use Rattle.std.proofs.Common.{◌≡◌, ℕ, suc, ◌+◌, ◌*◌, ◌-◌, ◌<◌, ◌≤◌, List, [], ◌∷◌, length, drop, ap, subst, arith}
use Rattle.std.proofs.lemmas.List.Sums.{sum_by-cons, sum_by-drop_more}
use Rattle.dst_spec.specs.Sample.{IsShape, sound_bytes}
use Rattle.dsdiff_spec.specs.Chunks.{body_place, body_end}
use Rattle.dsdiff_spec.specs.Form.{Form}
use Rattle.dsdiff_spec.specs.Walk.{Entry, entry}
use Rattle.dsdiff_spec.proofs.CodedFiles.{longest_sound_of_frame}
use Rattle.dsdiff_chunks.specs.Forms.{coded_seen}
use Rattle.dst_commands.specs.declared.opened.WalkedForm.{WalkedForm}
use Rattle.frame_index.specs.Fitting.{IsIndexOf}
use Rattle.dst_read.specs.Feeding.{bytes_of_entries}

abbrev none : Entry
none = record { offset = 0; size = 0 }

-- ---- the next one
pub next_left : (es : List Entry) (k : ℕ) → k < length es → bytes_of_entries (drop k es) ≡ (entry es k).size + bytes_of_entries (drop (k + 1) es)
next_left es k l = sum_by-drop_more (λ (e : Entry). e.size) es k none l

-- ---- all of them: entries that stand apart between two places
apart : (place end : ℕ) (es : List Entry) → (0 < length es → place ≤ (entry es 0).offset) →
    ((k : ℕ) → k < length es → (entry es k).offset + (entry es k).size ≤ end) →
    ((k : ℕ) → suc k < length es → (entry es k).offset + (entry es k).size ≤ (entry es (suc k)).offset) →
    bytes_of_entries es ≤ end - place
apart place end [] first before order = omega arith
apart place end (e ∷ es) first before order =
    let later = apart (e.offset + e.size) end es (λ l. order 0 (omega (arith, l))) (λ k l. before (suc k) (omega (arith, l)))
    (λ k l. order (suc k) (omega (arith, l))) in
    omega (arith, sum_by-cons (λ (e : Entry). e.size) e es, later, first (omega arith), before 0 (omega arith))

each_most : (es : List Entry) → ((k : ℕ) → k < length es → (entry es k).size ≤ 225794) → bytes_of_entries es ≤ 225794 * length es
each_most [] each = omega arith
each_most (e ∷ es) each =
    let later = each_most es (λ k l. each (suc k) (omega (arith, l))) in
    omega (arith, sum_by-cons (λ (e : Entry). e.size) e es, later, each 0 (omega arith))

in_order : (es : List Entry) (k n : ℕ) → n ≡ suc k → (entry es k).offset + (entry es k).size + 12 ≤ (entry es n).offset →
    (entry es k).offset + (entry es k).size ≤ (entry es (suc k)).offset
in_order es k n is le =
    let there : (entry es n).offset ≡ (entry es (suc k)).offset = ap (λ n. (entry es n).offset) is in
    omega (arith, le, there)

pub in_the_sound : (form : Form) (es : List Entry) → IsIndexOf form es → bytes_of_entries es ≤ form.sound.size - 18
in_the_sound form es fits =
    let all = apart (body_place form.sound + 18) (body_end form.sound) es (λ l. omega (arith, (fits.inside 0 l).behind)) (λ k l. (fits.inside k l).before)
    (λ k l. in_order es k (k + 1) (omega arith) (fits.order k (omega (arith, l)))) in
    omega (arith, all)

pub stored_in_sound : (w : WalkedForm) → bytes_of_entries w.index ≤ w.form.sound.size
stored_in_sound w = omega (arith, in_the_sound (coded_seen w.form) w.index w.fits)

pub stored_at_most : (w : WalkedForm) → IsShape w.form.channels → bytes_of_entries w.index ≤ 225794000000
stored_at_most w lawful =
    let f = w.form.channels in
    let most = longest_sound_of_frame f lawful in
    let short : (k : ℕ) → k < length w.index → (entry w.index k).size ≤ 2 * (sound_bytes f + 1) =
    λ k l. subst (λ f. (entry w.index k).size ≤ 2 * (sound_bytes f + 1)) w.form.shape (w.fits.inside k l).short in
    let all = each_most w.index (λ k l. omega (arith, short k l, most)) in
    omega (arith, all, w.fits.count, w.form.lawful.frames)
