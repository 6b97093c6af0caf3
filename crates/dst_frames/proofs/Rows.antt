-- The samples of one place in time, channel after channel.
use Rattle.std.proofs.Common.{◌≡◌, ◌≢◌, ℕ, ◌+◌, ◌<◌, ◌≤◌, ◌&&◌, nat_lt, pos, Bool, false, List, [], ◌∷◌, ◌++◌, length, get_or, set, drop, refl, ap}
use Rattle.std.proofs.Common.{sym, subst, ◌∙◌, arith, below_more, length-append, append_assoc, get_or-set_same, get_or-set_other}
use Rattle.std.proofs.lemmas.List.{append-nil, get_or_append_left}
use Rattle.std.proofs.Math.Seq.{get_or-append_seam}
use Rattle.dst_spec.specs.Sample.{Shape, sample}
use Rattle.dst_spec.specs.Header.{Params, bit_of}
use Rattle.dst_spec.specs.Guess.{filter_of, probs_of, probability, as_guessed}
use Rattle.dst_spec.specs.Symbols.{symbols_at, symbols_before}
use Rattle.dst_spec.proofs.SymbolsBefore.{symbols_at-more, symbols_before-more}
use Rattle.arith_decoder.specs.Decoding.{Decoding, StandsFor}
use Rattle.dst_frames.specs.Tables.{symbol_after}
use Rattle.dst_frames.specs.Ready.{IsReady}
use Rattle.dst_frames.specs.declared.state.ChannelState.{ChannelState}
use Rattle.dst_frames.specs.Underway.{earlier, IsUnderway}
use Rattle.dst_frames.proofs.History.{Predicts, earlier-suc, pair_is}

-- the next samples of the first channels are taken, those of the others not
pub record IsRow (f : Shape) (P : Params) (reserved : Bool) (t place : ℕ) (samples : ℕ → List ℕ)
    (done : ℕ) (decoder : Decoding) (states : List ChannelState) : Type 0 where
  pub taken : List Bool
  pub count : length taken ≡ done
  pub behind : (c : ℕ) (other : ChannelState) → c < done →
      IsReady (filter_of P c) (probs_of P c) (place + 1) (bit_of (get_or taken c false) ∷ samples c) (get_or states c other)
  pub before : (c : ℕ) (other : ChannelState) → done ≤ c → c < f.channels → IsReady (filter_of P c) (probs_of P c) place (samples c) (get_or states c other)
  pub code : (sound : List ℕ) → ((c : ℕ) → c < f.channels → earlier f sound c t ≡ samples c) →
      ((c : ℕ) → c < done → sample f sound c (pos t) ≡ bit_of (get_or taken c false)) →
      StandsFor decoder (symbols_before f P sound reserved t ++ symbols_at f P sound t done)

pub row_begins : (f : Shape) (P : Params) (reserved : Bool) (t place : ℕ) (samples : ℕ → List ℕ) (decoder : Decoding) (states : List ChannelState) →
    IsUnderway f P reserved t place samples decoder states → IsRow f P reserved t place samples 0 decoder states
row_begins f P reserved t place samples decoder states u = record {
  taken = [];
  count = refl;
  behind = λ c other lt. absurd (omega arith);
  before = λ c other le lt. u.ready c other lt;
  code = λ sound same none. subst (StandsFor decoder) (sym (append-nil (symbols_before f P sound reserved t))) (u.code sound same);
}

-- one channel more
pub row_goes_on : Predicts → (f : Shape) (P : Params) (reserved : Bool) (t place : ℕ) (samples : ℕ → List ℕ)
    (done : ℕ) (decoder new : Decoding) (states : List ChannelState) (state : ChannelState) (early s : Bool) →
    IsRow f P reserved t place samples done decoder states → done < f.channels → done < length states →
    early ≡ (get_or P.half_prob done false && nat_lt t (length (filter_of P done))) → length (filter_of P done) ≤ 128 →
    IsReady (filter_of P done) (probs_of P done) (place + 1) (bit_of s ∷ samples done) state →
    ((pairs : List (Bool × ℕ)) → StandsFor decoder pairs → StandsFor new
    (pairs ++ symbol_after (filter_of P done) (probs_of P done) early (samples done) s ∷ [])) →
    IsRow f P reserved t place samples (done + 1) new (set states done state)
row_goes_on law f P reserved t place samples done decoder new states state early s row lt inside given short goes stands =
    let front : (c : ℕ) → c < done → get_or (row.taken ++ s ∷ []) c false ≡ get_or row.taken c false =
    λ c h. get_or_append_left row.taken (s ∷ []) false c (omega (arith, row.count)) in
    let last : get_or (row.taken ++ s ∷ []) done false ≡ s = ap (λ n. get_or (row.taken ++ s ∷ []) n false) (sym row.count)
    ∙ get_or-append_seam row.taken s [] false in
    let Q : ℕ → Type 0 = λ c. (other : ChannelState) → IsReady (filter_of P c) (probs_of P c) (place + 1)
    (bit_of (get_or (row.taken ++ s ∷ []) c false) ∷ samples c) (get_or (set states done state) c other) in
    let below : (c : ℕ) → c < done → Q c = λ c h other.
    let ne : c ≢ done = omega arith in
    subst (λ b. IsReady (filter_of P c) (probs_of P c) (place + 1) (bit_of b ∷ samples c) (get_or (set states done state) c other)) (sym (front c h))
    (subst (IsReady (filter_of P c) (probs_of P c) (place + 1) (bit_of (get_or row.taken c false) ∷ samples c))
    (sym (get_or-set_other states done c state other ne)) (row.behind c other h)) in
    let here : Q done = λ other.
    subst (λ b. IsReady (filter_of P done) (probs_of P done) (place + 1) (bit_of b ∷ samples done) (get_or (set states done state) done other)) (sym last)
    (subst (IsReady (filter_of P done) (probs_of P done) (place + 1) (bit_of s ∷ samples done)) (sym (get_or-set_same states done state other inside)) goes) in
    record {
      taken = row.taken ++ s ∷ [];
      count = omega (arith, length-append row.taken (s ∷ []), row.count);
      behind = λ c other h. below_more Q done below here c h other;
      before = λ c other le h.
          let ne : c ≢ done = omega arith in
          subst (IsReady (filter_of P c) (probs_of P c) place (samples c)) (sym (get_or-set_other states done c state other ne))
          (row.before c other (omega arith) h);
      code = λ sound same bits.
          let old = row.code sound same (λ c h. bits c (omega arith) ∙ ap bit_of (front c h)) in
          let bit : sample f sound done (pos t) ≡ bit_of s = bits done (omega arith) ∙ ap bit_of last in
          let pair = pair_is law f P sound done t early s (samples done) (same done lt) bit given short in
          let whole : (symbols_before f P sound reserved t ++ symbols_at f P sound t done) ++ symbol_after (filter_of P done) (probs_of P done) early
          (samples done) s ∷ [] ≡ symbols_before f P sound reserved t ++ symbols_at f P sound t (done + 1) =
          ap (λ q. (symbols_before f P sound reserved t ++ symbols_at f P sound t done) ++ q ∷ []) pair
          ∙ append_assoc (symbols_before f P sound reserved t) (symbols_at f P sound t done) ((as_guessed f P sound done t, probability f P sound done t) ∷ [])
          ∙ ap (λ xs. symbols_before f P sound reserved t ++ xs) (sym (symbols_at-more f P sound t done)) in
          subst (StandsFor new) whole (stands (symbols_before f P sound reserved t ++ symbols_at f P sound t done) old);
    }

-- all channels
pub row_ends : (f : Shape) (P : Params) (reserved : Bool) (t place : ℕ) (samples : ℕ → List ℕ)
    (done : ℕ) (decoder : Decoding) (states : List ChannelState) → done ≡ f.channels →
    IsRow f P reserved t place samples done decoder states →
    (later : ℕ → List ℕ) × ((c : ℕ) → c < f.channels → drop 1 (later c) ≡ samples c) × IsUnderway f P reserved (t + 1) (place + 1) later decoder states
row_ends f P reserved t place samples done decoder states all row =
    let later : ℕ → List ℕ = λ c. bit_of (get_or row.taken c false) ∷ samples c in (
      later,
      λ c h. refl,
      record {
        ready = λ c other h. row.behind c other (omega arith);
        code = λ sound same.
            let parts : (c : ℕ) → c < f.channels → sample f sound c (pos t) ∷ earlier f sound c t ≡ later c = λ c h. sym (earlier-suc f sound c t) ∙ same c h in
            let old = row.code sound (λ c h. ap (drop 1) (parts c h)) (λ c h. ap (λ xs. get_or xs 0 0) (parts c (omega arith))) in
            subst (StandsFor decoder) (ap (λ n. symbols_before f P sound reserved t ++ symbols_at f P sound t n) all
            ∙ sym (symbols_before-more f P sound reserved t)) old;
      },
    )
