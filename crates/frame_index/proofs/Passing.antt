-- A walk from chunk to chunk.
use Rattle.std.proofs.Common.{◌≡◌, ℕ, suc, ◌+◌, ◌-◌, ◌<◌, ◌≤◌, true, false, List, [], length, take, Option, Some, None, Result, Err, Ok, refl, sym}
use Rattle.std.proofs.Common.{ap, ◌∙◌, subst, arith, length-take}
use Rattle.std.proofs.Math.Seq.{take-nil}
use Rattle.std.proofs.lemmas.List.{take_all}
use Rattle.dsdiff_spec.specs.Bytes.{◌is◌}
use Rattle.dsdiff_spec.specs.Chunks.{Head, chunks_from, head_at, body_place, body_end, next_place, fits}
use Rattle.dsdiff_spec.specs.Form.{Form}
use Rattle.dsdiff_spec.specs.Walk.{Entry, entry_of, frame_fault, walk}
use Rattle.dsdiff_spec.specs.declared.faults.FileFault.{FileFault}
use Rattle.dsdiff_spec.specs.declared.faults.FileFault.TheVariants.{CountDiffers, Overrun, TooManyChunks}
use Rattle.dsdiff_spec.proofs.Steps.{nothing, with_head, fits_without_pad, found_at_end, found_at_limit, found_at_misfit, found_at_chunk}
use Rattle.dsdiff_chunks.specs.declared.open.OpenFault.{OpenFault}
use Rattle.dsdiff_chunks.specs.declared.open.OpenFault.TheVariants.{File}
use Rattle.frame_index.specs.Fitting.{IsInside, IsIndexOf}
use Rattle.frame_index.specs.Finding.{found_with}
use Rattle.frame_index.proofs.Faults.{short_frame}
use Rattle.frame_index.proofs.InOrder.{AreInOrder, none_in_order, found_in_order, index_of}
use Rattle.frame_index.proofs.Walking.{IsLeft, chunks_behind, all_left, chunk_passed, stops_at_chunk, stops_at_frame, stops_at_count, walk_ends}

-- ---- the frames that are found up to a place, of which no more are listed than the frame count
pub record HasWalked (form : Form) (bytes : Option (List ℕ)) (passed place frames : ℕ) (listed : List Entry) : Type 0 where
  pub found : List Entry
  pub count : length found ≡ frames
  pub keeps : listed ≡ take form.frames found
  pub fit : AreInOrder form place found
  pub told : (xs : List ℕ) → bytes ≡ Some xs → IsLeft xs form found (chunks_behind xs form passed place)

pub listed_are_few : {form : Form} {bytes : Option (List ℕ)} {passed place frames : ℕ} {listed : List Entry} → HasWalked form bytes passed place frames listed →
    length listed ≤ frames
listed_are_few {form = form} w = omega (arith, ap length w.keeps, length-take form.frames w.found, w.count)

pub walk_begins : (form : Form) (bytes : Option (List ℕ)) (listed : List Entry) → listed ≡ [] →
    HasWalked form bytes 0 (body_place form.sound + 18) 0 listed
walk_begins form bytes listed none = record {
  found = [];
  count = refl;
  keeps = none ∙ sym (take-nil form.frames);
  fit = none_in_order form (body_place form.sound + 18);
  told = λ xs told. all_left xs form;
}

-- the chunk at the place, and what is behind it
found_here : (file : List ℕ) (form : Form) (passed place next : ℕ) (h : Head) → passed < 4000000 → place < body_end form.sound →
    head_at file place ≡ h → body_end h ≤ body_end form.sound → next_place h ≡ next →
    chunks_behind file form passed place ≡ with_head h (chunks_behind file form (passed + 1) next)
found_here file form passed place next h few before reads within on =
    let end = body_end form.sound in
    let left : 4000000 - passed ≡ suc (4000000 - (passed + 1)) = omega (arith, few) in
    let fitting = fits_without_pad (λ id. true) end (head_at file place) refl (subst (λ i. body_end i ≤ end) (sym reads) within) in
    ap (λ most. chunks_from (λ id. true) file end most place) left
    ∙ found_at_chunk (λ id. true) file end (4000000 - (passed + 1)) place before fitting
    ∙ ap (λ i. with_head i (chunks_from (λ id. true) file end (4000000 - (passed + 1)) (next_place i))) reads
    ∙ ap (λ i. with_head h (chunks_from (λ id. true) file end (4000000 - (passed + 1)) i)) on

pub walk_goes_on : (form : Form) (bytes : Option (List ℕ)) (passed place next frames n : ℕ) (listed new : List Entry) (h : Head) →
    HasWalked form bytes passed place frames listed → passed < 4000000 → place < body_end form.sound → body_place form.sound + 18 ≤ place →
    h.place ≡ place → body_end h ≤ body_end form.sound → next_place h ≡ next →
    ((xs : List ℕ) → bytes ≡ Some xs → head_at xs place ≡ h) →
    ((found : List Entry) → length found ≡ frames → length (found_with h found) ≡ n) →
    ((found : List Entry) → length found ≡ frames → listed ≡ take form.frames found → new ≡ take form.frames (found_with h found)) →
    ((h.id is "DSTF") ≡ true → frame_fault form (frames, h) ≡ None) →
    HasWalked form bytes (passed + 1) next n new
walk_goes_on form bytes passed place next frames n listed new h w few before behind at within on reads counts keeps none =
    let no_fault : (h.id is "DSTF") ≡ true → frame_fault form (length w.found, h) ≡ None =
    λ e. subst (λ k. frame_fault form (k, h) ≡ None) (sym w.count) (none e) in
    let inside : (h.id is "DSTF") ≡ true → IsInside form (entry_of h) =
    λ e. record { behind = omega (arith, at, behind); before = within; short = short_frame form h frames (none e) } in
    record {
      found = found_with h w.found;
      count = counts w.found w.count;
      keeps = keeps w.found w.count w.keeps;
      fit = found_in_order form place next w.found h w.fit inside at (omega (arith, on));
      told = λ xs told.
          chunk_passed xs form w.found h (chunks_behind xs form (passed + 1) next)
          (subst (IsLeft xs form w.found) (found_here xs form passed place next h few before (reads xs told) within on) (w.told xs told))
          no_fault;
    }

-- ---- a walk that stops at a place
pub same_error : {X : Type 0} (a b : OpenFault) → ◌≡◌ {A = Result X OpenFault} (Err a) (Err b) → a ≡ b
same_error a b e = cc

pub same_fault : {X : Type 0} (a b : FileFault) → ◌≡◌ {A = Result X OpenFault} (Err (File a)) (Err (File b)) → a ≡ b
same_fault a b e = cc

pub stops_at_limit : (form : Form) (bytes : Option (List ℕ)) (passed place frames : ℕ) (listed : List Entry) (xs : List ℕ) →
    HasWalked form bytes passed place frames listed → bytes ≡ Some xs → passed ≡ 4000000 → place < body_end form.sound →
    walk xs form ≡ Err TooManyChunks
stops_at_limit form bytes passed place frames listed xs w told all before =
    let end = body_end form.sound in
    let none : 4000000 - passed ≡ 0 = omega (arith, all) in
    stops_at_chunk xs form w.found TooManyChunks
    (subst (IsLeft xs form w.found)
    (ap (λ most. chunks_from (λ id. true) xs end most place) none ∙ found_at_limit (λ id. true) xs end place before)
    (w.told xs told))

pub stops_at_misfit : (form : Form) (bytes : Option (List ℕ)) (passed place frames : ℕ) (listed : List Entry) (xs : List ℕ) →
    HasWalked form bytes passed place frames listed → bytes ≡ Some xs → passed < 4000000 → place < body_end form.sound →
    fits (λ id. true) (body_end form.sound) (head_at xs place) ≡ false → walk xs form ≡ Err (Overrun place)
stops_at_misfit form bytes passed place frames listed xs w told few before misfit =
    let end = body_end form.sound in
    let left : 4000000 - passed ≡ suc (4000000 - (passed + 1)) = omega (arith, few) in
    stops_at_chunk xs form w.found (Overrun place)
    (subst (IsLeft xs form w.found)
    (ap (λ most. chunks_from (λ id. true) xs end most place) left
    ∙ found_at_misfit (λ id. true) xs end (4000000 - (passed + 1)) place before misfit)
    (w.told xs told))

pub stops_at_bad_frame : (form : Form) (bytes : Option (List ℕ)) (passed place frames : ℕ) (listed : List Entry) (xs : List ℕ) (h : Head) (fault : FileFault) →
    HasWalked form bytes passed place frames listed → bytes ≡ Some xs → passed < 4000000 → place < body_end form.sound →
    head_at xs place ≡ h → body_end h ≤ body_end form.sound → (h.id is "DSTF") ≡ true → frame_fault form (frames, h) ≡ Some fault →
    walk xs form ≡ Err fault
stops_at_bad_frame form bytes passed place frames listed xs h fault w told few before reads within name some =
    let later = chunks_behind xs form (passed + 1) (next_place h) in
    stops_at_frame xs form w.found h later fault
    (subst (IsLeft xs form w.found) (found_here xs form passed place (next_place h) h few before reads within refl) (w.told xs told))
    name
    (subst (λ k. frame_fault form (k, h) ≡ Some fault) (sym w.count) some)

nothing_here : (form : Form) (bytes : Option (List ℕ)) (passed place frames : ℕ) (listed : List Entry) (xs : List ℕ) →
    (w : HasWalked form bytes passed place frames listed) → bytes ≡ Some xs → body_end form.sound ≤ place → IsLeft xs form w.found (nothing None)
nothing_here form bytes passed place frames listed xs w told past =
    subst (IsLeft xs form w.found) (found_at_end (λ id. true) xs (body_end form.sound) (4000000 - passed) place past) (w.told xs told)

pub stops_at_other_count : (form : Form) (bytes : Option (List ℕ)) (passed place frames : ℕ) (listed : List Entry) (xs : List ℕ) →
    HasWalked form bytes passed place frames listed → bytes ≡ Some xs → body_end form.sound ≤ place → (frames ≡ form.frames → ⊥) →
    walk xs form ≡ Err (CountDiffers form.frames frames)
stops_at_other_count form bytes passed place frames listed xs w told past differs =
    stops_at_count xs form w.found frames (nothing_here form bytes passed place frames listed xs w told past) w.count differs

-- ---- a walk that ends
all_listed : (form : Form) (bytes : Option (List ℕ)) (passed place frames : ℕ) (listed : List Entry) →
    (w : HasWalked form bytes passed place frames listed) → frames ≡ form.frames → listed ≡ w.found
all_listed form bytes passed place frames listed w same = w.keeps ∙ take_all form.frames w.found (omega (arith, w.count, same))

pub walk_is : (form : Form) (bytes : Option (List ℕ)) (passed place frames : ℕ) (listed : List Entry) (xs : List ℕ) →
    HasWalked form bytes passed place frames listed → bytes ≡ Some xs → body_end form.sound ≤ place → frames ≡ form.frames →
    walk xs form ≡ Ok listed
walk_is form bytes passed place frames listed xs w told past same =
    walk_ends xs form w.found (nothing_here form bytes passed place frames listed xs w told past) (w.count ∙ same)
    ∙ ap Ok (sym (all_listed form bytes passed place frames listed w same))

pub walk_fits : (form : Form) (bytes : Option (List ℕ)) (passed place frames : ℕ) (listed : List Entry) →
    HasWalked form bytes passed place frames listed → frames ≡ form.frames → IsIndexOf form listed
walk_fits form bytes passed place frames listed w same =
    subst (IsIndexOf form) (sym (all_listed form bytes passed place frames listed w same))
    (index_of form place w.found (w.count ∙ same) w.fit)
