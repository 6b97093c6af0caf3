-- The stretches before a place are compared and moved.
use Rattle.std.proofs.Common.{◌≡◌, ℕ, ◌+◌, ◌-◌, ◌*◌, ◌/◌, ◌%◌, ◌^◌, ◌<◌, ◌≤◌, ◌≢◌, List, length, get_or, set, get_or-set_other, get_or-set_same, inl}
use Rattle.std.proofs.Common.{inr, refl, ap, sym, ◌∙◌, arith}
use Rattle.std.proofs.lemmas.Bool.{cases_lt}
use Rattle.filter_analyser.specs.Stretches.{bit_of, late, passed, tally}
use Rattle.filter_analyser.proofs.Tallies.{tally-append, tally-most}
use Rattle.filter_analyser.proofs.Differing.{IsBefore, passed-late, tally-stretch}

pub record Compared (stretches others : List ℕ) (place before : ℕ) (counts behind : List ℕ) : Type 0 where
  pub stands : IsBefore others place before
  pub counted : (j : ℕ) → j < 8 → get_or counts j 0 ≡ tally (λ t. (bit_of stretches t + late others (j + 1) t) % 2) 0 (64 * place)
  pub moved : (t : ℕ) → t < 64 * place → bit_of behind t ≡ late others 8 t
  pub rest : (w : ℕ) → place ≤ w → get_or behind w 0 ≡ get_or others w 0

pub compared-none : (stretches others counts : List ℕ) → ((j : ℕ) → j < 8 → get_or counts j 0 ≡ 0) → Compared stretches others 0 0 counts others
unfolding tally
compared-none stretches others counts h = record {
  stands = record { none = λ _. refl; some = λ k. absurd (omega arith) };
  counted = h;
  moved = λ t k. absurd (omega arith);
  rest = λ w k. refl;
}

pub compared-few : (stretches others counts behind : List ℕ) (place before j : ℕ) → Compared stretches others place before counts behind → j < 8 →
    get_or counts j 0 ≤ 64 * place
compared-few stretches others counts behind place before j h k =
    let most = tally-most (λ t. (bit_of stretches t + late others (j + 1) t) % 2) 0 (64 * place) (λ t. omega arith) in
    omega (arith, most, h.counted j k)

moved-bit : (stretches others behind : List ℕ) (place before moved t : ℕ) → place < length behind → IsBefore others place before
    → ((t : ℕ) → t < 64 * place → bit_of behind t ≡ late others 8 t)
    → ((i : ℕ) → i < 64 → moved / 2 ^ (63 - i) % 2 ≡ passed (get_or others place 0) before 8 i)
    → t < 64 * (place + 1) → bit_of (set behind place moved) t ≡ late others 8 t
moved-bit stretches others behind place before moved t inside stands done bits h =
    let k = 63 - t % 64 in
    elim (cases_lt (t / 64) place) [
      | inl earlier ↦
          let ne : t / 64 ≢ place = omega arith in
          ap (λ w. w / 2 ^ k % 2) (rw get_or-set_other refl) ∙ done t (omega arith)
      | inr here ↦
          let row : t / 64 ≡ place = omega arith in
          let e : 64 * place + t % 64 ≡ t = omega arith in
          ap (λ q. get_or (set behind place moved) q 0 / 2 ^ k % 2) row
          ∙ ap (λ w. w / 2 ^ k % 2) (rw get_or-set_same refl)
          ∙ bits (t % 64) (omega arith)
          ∙ passed-late others place before 8 (t % 64) stands (omega arith) (omega arith)
          ∙ ap (late others 8) e
    ]

pub compared-more : (stretches others counts behind next : List ℕ) (place before moved : ℕ) → Compared stretches others place before counts behind
    → place < length behind
    → ((j : ℕ) → j < 8 → get_or next j 0 ≡ get_or counts j 0 + tally
    (λ i. (get_or stretches place 0 / 2 ^ (63 - i) % 2 + passed (get_or behind place 0) before (j + 1) i) % 2) 0 64)
    → ((i : ℕ) → i < 64 → moved / 2 ^ (63 - i) % 2 ≡ passed (get_or behind place 0) before 8 i)
    → Compared stretches others (place + 1) (get_or behind place 0) next (set behind place moved)
compared-more stretches others counts behind next place before moved h inside counted bits =
    let here : get_or behind place 0 ≡ get_or others place 0 = h.rest place (omega arith) in
    record {
      stands = record {
        none = λ e. absurd (omega arith);
        some = λ _. let e : place + 1 - 1 ≡ place = omega arith in here
            ∙ sym (ap (λ w. get_or others w 0) e);
      };
      counted = λ j k.
          let G : ℕ → ℕ = λ t. (bit_of stretches t + late others (j + 1) t) % 2 in
          let e : 64 * place + 64 ≡ 64 * (place + 1) = omega arith in
          let z : 0 + 64 * place ≡ 64 * place = omega arith in
          counted j k
          ∙ ap (λ x. get_or counts j 0 + tally (λ i. (get_or stretches place 0 / 2 ^ (63 - i) % 2 + passed x before (j + 1) i) % 2) 0 64) here
          ∙ ap (λ m. m + tally (λ i. (get_or stretches place 0 / 2 ^ (63 - i) % 2 + passed (get_or others place 0) before (j + 1) i) % 2) 0 64) (h.counted j k)
          ∙ ap (λ m. tally G 0 (64 * place) + m) (tally-stretch stretches others place before (j + 1) h.stands (omega arith))
          ∙ sym (tally-append G 0 (64 * place) 64 ∙ ap (λ a. tally G 0 (64 * place) + tally G a 64) z)
          ∙ ap (tally G 0) e;
      moved = λ t k. moved-bit stretches others behind place before moved t inside h.stands h.moved (λ i l. bits i l ∙ ap (λ x. passed x before 8 i) here) k;
      rest = λ w k. let ne : w ≢ place = omega arith in rw get_or-set_other (h.rest w (omega arith));
    }
