-- A frame before its first sample and behind its last one.
use Rattle.std.proofs.Common.{◌≡◌, ℕ, ◌*◌, ◌<◌, Bool, List, [], ◌∷◌, get_or, replicate, refl, ap, sym, subst, ◌∙◌}
use Rattle.dst_spec.specs.Sample.{Shape}
use Rattle.dst_spec.specs.Header.{Params}
use Rattle.dst_spec.specs.Guess.{filter_of, probs_of}
use Rattle.dst_spec.specs.Symbols.{reserved_probability, symbols_before, symbols}
use Rattle.dst_spec.proofs.SymbolsBefore.{no_symbols, all_symbols}
use Rattle.byte_predictor.specs.Samples.{samples_of}
use Rattle.arith_decoder.specs.Decoding.{Decoding, StandsFor}
use Rattle.dst_frames.specs.Ready.{IsReady}
use Rattle.dst_frames.specs.declared.state.ChannelState.{ChannelState}
use Rattle.dst_frames.specs.Underway.{earlier, IsDecodedTo}

no_samples : (f : Shape) (sound : List ℕ) (c : ℕ) → earlier f sound c 0 ≡ samples_of (replicate 16 170)
unfolding earlier
no_samples f sound c = refl

pub frame_begins : (f : Shape) (P : Params) (reserved : Bool) (p : ℕ) (out : List ℕ) (decoder : Decoding) (states : List ChannelState) →
    p ≡ reserved_probability P → StandsFor decoder ((reserved, p) ∷ []) →
    ((c : ℕ) (other : ChannelState) → c < f.channels → IsReady (filter_of P c) (probs_of P c) 0 (samples_of (replicate 16 170)) (get_or states c other)) →
    IsDecodedTo f P reserved 0 out decoder states
frame_begins f P reserved p out decoder states prob stands fresh = record {
  ready = λ c other h. subst (λ xs. IsReady (filter_of P c) (probs_of P c) 0 xs (get_or states c other)) (sym (no_samples f out c)) (fresh c other h);
  code = λ sound same. subst (StandsFor decoder) (ap (λ q. (reserved, q) ∷ []) prob ∙ sym (no_symbols f P sound reserved)) stands;
}

pub frame_ends : (f : Shape) (P : Params) (reserved : Bool) (octets : ℕ) (out : List ℕ) (decoder : Decoding) (states : List ChannelState) →
    f.octets ≡ octets → IsDecodedTo f P reserved octets out decoder states →
    StandsFor decoder (symbols f P out reserved)
frame_ends f P reserved octets out decoder states all u =
    subst (StandsFor decoder) (ap (λ n. symbols_before f P out reserved (8 * n)) (sym all) ∙ all_symbols f P out reserved) (u.code out (λ c h. refl))
